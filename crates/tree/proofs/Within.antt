-- Evaluations: the width at which INF - MAX_PLY and its negation fit, the test turned round, and what the test says of images (`off`). Assumes nothing.
use Rattle.std.proofs.Common.{◌≡◌, ℕ, zero, suc, ◌+◌, ◌-◌, ◌<◌, ◌≤◌, Bool, true, false, not, ltb, leb, ℤ, pos, negsuc, ◌-ℤ◌, neg_ℤ, nat_abs, sym, refl, ap, ◌∙◌, arith, w16, w32, SFits, to_z, ltb-false, ltb-true, le-ltb, lt-ltb, leb-false, leb-true}
use lib.Signed.{mag, lt_z, le_z, nat_abs-le}
use mir.Facts.{to_z_pos}
use Rattle.score.proofs.Cases.{sub-ind}
use Rattle.score.proofs.Bits.{to_z_big}
use Rattle.score.proofs.Diff.{abs_add, abs_neg, fits_abs}
use Rattle.score.proofs.Order.{off, off_lt}
use Rattle.tree.specs.Fields.{eval_right}
use Rattle.tree.proofs.Every.{two}

-- at 32 bits

module _ (inf : ℤ) (n : ℕ) (hi : mag inf < 32768) (hn : n < 65536) where
  most-abs : nat_abs (inf -ℤ pos n) ≤ 98304
  most-abs = omega (arith, abs_add inf (neg_ℤ (pos n)), abs_neg (pos n), nat_abs-le inf hi)

  pub most_fits : SFits w32 (inf -ℤ pos n)
  most_fits = fits_abs w32 (inf -ℤ pos n) (omega (arith, most-abs))

  pub least_fits : SFits w32 (neg_ℤ (inf -ℤ pos n))
  least_fits = fits_abs w32 (neg_ℤ (inf -ℤ pos n)) (omega (arith, most-abs, abs_neg (inf -ℤ pos n)))

-- the test turned round

leb_turned : (a b : ℕ) → ltb b a ≡ not (leb a b)
leb_turned a b = go (leb a b) refl
  where
    go : (t : Bool) → leb a b ≡ t → ltb b a ≡ not (leb a b)
    go true e = rw e (le-ltb b a (leb-true a b e))
    go false e = rw e (lt-ltb b a (leb-false a b e))

pub le_turned : (a b : ℤ) → lt_z b a ≡ not (le_z a b)
le_turned (pos a) (pos b) = leb_turned a b
le_turned (pos a) (negsuc b) = refl
le_turned (negsuc a) (pos b) = refl
le_turned (negsuc a) (negsuc b) = leb_turned b a

-- 16 bits hold a number of 16 bits
pub read_mag : (n : ℕ) → mag (to_z w16 n) < 32768
read_mag n = go (ltb n 32768) refl
  where
    go : (b : Bool) → ltb n 32768 ≡ b → mag (to_z w16 n) < 32768
    go true e = let l = ltb-true n 32768 e in rw (to_z_pos w16 l) l
    go false e = let l = ltb-false n 32768 e in rw (to_z_big w16 n l) (let z : 65536 - suc n < 32768 = omega arith in z)

-- what the test says of images
neg_off : (m : ℕ) → m < 32768 → off (neg_ℤ (pos m)) + m ≡ 32768
unfolding off
neg_off zero h = omega arith
neg_off (suc m) h = omega arith

neg_mag : (m : ℕ) → m < 32768 → mag (neg_ℤ (pos m)) < 32768
neg_mag zero h = omega arith
neg_mag (suc m) h = omega arith

pos_off : (m : ℕ) → off (pos m) ≡ 32768 + m
unfolding off
pos_off m = refl

module _ (v n : ℕ) (e : ℤ) (hn : n < v) (hv : v ≤ 30000) (he : mag e < 32768) (ok : eval_right (pos v) n e ≡ true) where
  most-is : pos v -ℤ pos n ≡ pos (v - n)
  most-is = go n hn
    where
      go : (n : ℕ) → n < v → pos v -ℤ pos n ≡ pos (v - n)
      go zero h = ap pos (omega arith)
      go (suc m) h = sub-ind v (suc m) (λ z. z ≡ pos (v - suc m)) (λ l. absurd (omega arith)) (λ l. refl)

  tests : (lt_z (neg_ℤ (pos (v - n))) e ≡ true) × (lt_z e (pos (v - n)) ≡ true)
  unfolding eval_right
  tests = rw most-is at (two (lt_z (neg_ℤ (pos v -ℤ pos n)) e) (lt_z e (pos v -ℤ pos n)) ok)

  pub eval_low : 32768 + n < off e + v
  eval_low =
      let m : v - n < 32768 = omega arith in
      let l : off (neg_ℤ (pos (v - n))) < off e = ltb-true _ _ (sym (off_lt (neg_ℤ (pos (v - n))) e (neg_mag (v - n) m) he) ∙ tests.0) in
      omega (arith, neg_off (v - n) m)

  pub eval_high : off e + n < 32768 + v
  eval_high =
      let l : off e < off (pos (v - n)) = ltb-true _ _ (sym (off_lt e (pos (v - n)) he (omega arith)) ∙ tests.1) in
      omega (arith, pos_off (v - n))
