-- Delta: each number on the way to it fits 32 bits, what it is held to, and that it is at most a quarter of HH_MAX. Assumes nothing.
use mathlib.Core.Path.{◌≡◌, refl}
use Prim.Native.Nat.{ℕ, ◌/◌, ◌<◌, ◌≤◌}
use native.Mathlib.Nat.{mul-le-mul}
use native.Mathlib.Omega.{arith}
use lib.IntN.{ℤ, pos, negsuc, neg_ℤ, nat_abs, ◌+ℤ◌, ◌-ℤ◌, ◌*ℤ◌}
use lib.Signed.{nat_abs-le}
use mir.Syntax.{w8, w16, w32}
use mir.Val.{SFits}
use Rattle.std.specs.Int.{int_max, int_min}
use Rattle.std.proofs.lemmas.Int.{ints, clamps}
use Rattle.score.proofs.Diff.{abs_neg, abs_mul, abs_add, fits_abs}
use Rattle.history.specs.Gravity.{curve, held, delta_of}

-- the curve, at a depth of 8 bits
module _ (d : ℤ) (f : SFits w8 d) where
  small : nat_abs d ≤ 128
  small = nat_abs-le d f.sfits

  pub by16 : SFits w32 (pos 16 *ℤ d)
  by16 = fits_abs w32 (pos 16 *ℤ d) (omega (arith, small, abs_mul (pos 16) d))

  square : nat_abs (pos 16 *ℤ d *ℤ d) ≤ 262144
  square =
      let by : nat_abs (pos 16 *ℤ d) ≤ 2048 = omega (arith, small, abs_mul (pos 16) d) in
      omega (arith, abs_mul (pos 16 *ℤ d) d, mul-le-mul {n₁ = nat_abs (pos 16 *ℤ d)} {m₁ = nat_abs d} {n₂ = 2048} {m₂ = 128} by small)

  pub squared : SFits w32 (pos 16 *ℤ d *ℤ d)
  squared = fits_abs w32 (pos 16 *ℤ d *ℤ d) (omega (arith, square))

  pub by128 : SFits w32 (pos 128 *ℤ d)
  by128 = fits_abs w32 (pos 128 *ℤ d) (omega (arith, small, abs_mul (pos 128) d))

  sum : nat_abs (pos 16 *ℤ d *ℤ d +ℤ pos 128 *ℤ d) ≤ 278528
  sum = omega (arith, square, small, abs_mul (pos 128) d, abs_add (pos 16 *ℤ d *ℤ d) (pos 128 *ℤ d))

  pub summed : SFits w32 (pos 16 *ℤ d *ℤ d +ℤ pos 128 *ℤ d)
  summed = fits_abs w32 (pos 16 *ℤ d *ℤ d +ℤ pos 128 *ℤ d) (omega (arith, sum))

  pub curved : SFits w32 (pos 16 *ℤ d *ℤ d +ℤ pos 128 *ℤ d -ℤ pos 256)
  curved =
      fits_abs w32 (pos 16 *ℤ d *ℤ d +ℤ pos 128 *ℤ d -ℤ pos 256)
      (omega (arith, sum, abs_add (pos 16 *ℤ d *ℤ d +ℤ pos 128 *ℤ d) (negsuc 255)))

-- the library's clamp is what holds it to a range
pub clamped : (z : ℤ) (most : ℕ) → int_max (pos 0) (int_min z (pos most)) ≡ pos (held z most)
unfolding held
clamped (pos n) most = omega (arith, ints, clamps)
clamped (negsuc n) most = refl

held_le : (z : ℤ) (most : ℕ) → held z most ≤ most
unfolding held
held_le (pos n) most = omega arith
held_le (negsuc n) most = omega arith

-- 01: "held to 0..HH_MAX/4"
pub delta_le : (hh : ℕ) (d : ℤ) → delta_of hh d ≤ hh / 4
unfolding delta_of
delta_le hh d = held_le (curve d) (hh / 4)

-- so both it and its negation fit a score, and are as small as gravity wants its v
pub delta16 : (hh : ℕ) (d : ℤ) → hh < 65536 → SFits w16 (pos (delta_of hh d))
delta16 hh d u = record { sfits = omega (arith, delta_le hh d) }

pub minus_le : (hh : ℕ) (d : ℤ) → nat_abs (neg_ℤ (pos (delta_of hh d))) ≤ hh / 4
minus_le hh d = rw abs_neg (delta_le hh d)

pub minus16 : (hh : ℕ) (d : ℤ) → hh < 65536 → SFits w16 (neg_ℤ (pos (delta_of hh d)))
minus16 hh d u = fits_abs w16 (neg_ℤ (pos (delta_of hh d))) (omega (arith, minus_le hh d))
