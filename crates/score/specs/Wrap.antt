-- Scores: integers of 16 bits, whose sums, differences and negations wrap. Assumes nothing.
use Rattle.std.specs.Prelude.{ℕ, ◌-◌, ◌%◌, ℤ, pos, negsuc, neg_ℤ, ◌+ℤ◌, ◌-ℤ◌, Bool, false, cond, eqb}
use Rattle.std.specs.Int.Signed.{lt_z}
use Rattle.std.specs.Int.{w16}
use Rattle.std.proofs.Common.{to_z}

-- the remainder of z by 2^16, 0 to 65535
abbrev pub low16 : ℤ → ℕ
low16 (pos n) = n % 65536
low16 (negsuc n) = 65535 - n % 65536

-- 01, Refusal numbers: "Counts are 64-bit and scores 16-bit; sums, differences and negations of both wrap as the release build does."
unfoldable pub wrap16 : ℤ → ℤ
wrap16 z = to_z w16 (low16 z)

unfoldable pub neg16 : ℤ → ℤ
neg16 a = wrap16 (neg_ℤ a)

unfoldable pub add16 : ℤ → ℤ → ℤ
add16 a b = wrap16 (a +ℤ b)

unfoldable pub sub16 : ℤ → ℤ → ℤ
sub16 a b = wrap16 (a -ℤ b)

-- whether two integers are the same
unfoldable pub eq_z : ℤ → ℤ → Bool
eq_z (pos a) (pos b) = eqb a b
eq_z (pos a) (negsuc b) = false
eq_z (negsuc a) (pos b) = false
eq_z (negsuc a) (negsuc b) = eqb a b

-- the greater of two integers
abbrev pub max_z : ℤ → ℤ → ℤ
max_z a b = cond (lt_z a b) b a
