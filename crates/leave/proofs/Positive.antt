-- HH_MAX as the history takes it: the bits of a positive number are the number. Assumes nothing.
use mathlib.Core.Path.{◌≡◌}
use mathlib.Core.Bool.{true}
use Prim.Native.Nat.{◌<◌}
use native.Mathlib.Omega.{arith}
use borrow.Author.Tests.{ltb-true}
use lib.IntN.{ℤ, pos, negsuc, nat_abs}
use lib.Signed.{lt_z}

pub positive_abs : (z : ℤ) → lt_z (pos 0) z ≡ true → 0 < nat_abs z
positive_abs (pos n) e = ltb-true 0 n e
positive_abs (negsuc n) e = omega arith
