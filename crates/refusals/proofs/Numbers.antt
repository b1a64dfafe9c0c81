-- The number that a row casts: HH_MAX as the history takes it. Assumes nothing.
use mathlib.Core.Path.{◌≡◌, refl}
use mathlib.Core.Bool.{true, false≢true}
use lib.IntN.{ℤ, pos, negsuc, nat_abs}
use lib.Signed.{le_z}
use mir.Syntax.{w16}
use Rattle.score.specs.Bits.{bits_of}

-- the bits of a number from 0 on are the number
pub natural_bits : (z : ℤ) → le_z (pos 0) z ≡ true → bits_of w16 z ≡ nat_abs z
natural_bits (pos n) e = refl
natural_bits (negsuc n) e = absurd (false≢true e)
