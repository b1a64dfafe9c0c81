-- 01's worked entries on both sides: delta and gravity at HH_MAX 16,384. Assumes nothing.
use mathlib.Core.Path.{◌≡◌, refl}
use lib.IntN.{pos, negsuc}
use Rattle.score.specs.Wrap.{wrap16}
use Rattle.history.specs.Gravity.{curve, held, delta_of, new_of, gravity_of}

-- "Delta, HH_MAX 16,384: depth 1: 0; 2: 64; 3: 272; 12: 3,584; 13: 4,096; -16: 1,792."
pub record Deltas : Type 0 where
  pub at1 : delta_of 16384 (pos 1) ≡ 0
  pub at2 : delta_of 16384 (pos 2) ≡ 64
  pub at3 : delta_of 16384 (pos 3) ≡ 272
  pub at12 : delta_of 16384 (pos 12) ≡ 3584
  pub at13 : delta_of 16384 (pos 13) ≡ 4096
  pub below : delta_of 16384 (negsuc 15) ≡ 1792

pub deltas : Deltas
unfolding delta_of held curve
deltas = record { at1 = refl; at2 = refl; at3 = refl; at12 = refl; at13 = refl; below = refl }

-- "Old -1, v 4,096: 4,095. Old 8,000: 10,096. Old 16,384: 16,384."
pub record Gravities : Type 0 where
  pub below : gravity_of 16384 (negsuc 0) (pos 4096) ≡ pos 4095
  pub inside : gravity_of 16384 (pos 8000) (pos 4096) ≡ pos 10096
  pub edge : gravity_of 16384 (pos 16384) (pos 4096) ≡ pos 16384

pub gravities : Gravities
unfolding gravity_of new_of wrap16
gravities = record { below = refl; inside = refl; edge = refl }
