-- Laws of numbers that wrap at 16 bits: inside the range wrapping changes nothing, one sum outside of it 2^16 is taken off or added; and what
-- the library's operations leave is what wraps. Assumes nothing.
use mathlib.Core.Path.{◌≡◌, refl, ap, ◌∙◌}
use Prim.Native.Nat.{ℕ, suc, ◌-◌, ◌%◌, ◌^◌, ◌<◌, ◌≤◌}
use native.Mathlib.Omega.{arith}
use lib.Dec.{T, ltb→lt}
use lib.IntN.{ℤ, pos, negsuc, neg_ℤ, ◌+ℤ◌, ◌-ℤ◌}
use lib.Signed.{mag, lt_z}
use mir.Syntax.{w16, w32}
use mir.Val.{SFits, to_z, of_z}
use mir.Facts.{to_z_pos, to_z-neg}
use Rattle.std.specs.Int.{int_wrap, int_wrapping_add, int_wrapping_sub, int_wrapping_neg}
use Rattle.std.proofs.lemmas.Int.{wrapping_add_is, wrapping_sub_is, wrapping_neg_is}
use Rattle.score.specs.Wrap.{wrap16, add16, sub16, neg16}
use Rattle.score.proofs.Cases.{sub-ind}

-- what 16 bits hold, read as signed
pub to_z_hi : (n : ℕ) → 32768 ≤ n → n < 65536 → to_z w16 n ≡ negsuc (65535 - n)
to_z_hi n h k = ap (to_z w16) e ∙ to_z-neg w16 (65535 - n) (omega arith)
  where
    e : n ≡ 2 ^ 16 - suc (65535 - n)
    e = omega arith

-- in range
pub wrap_mid : (z : ℤ) → mag z < 32768 → wrap16 z ≡ z
unfolding wrap16
wrap_mid (pos n) h = ap (to_z w16) e ∙ to_z_pos w16 h
  where
    e : n % 65536 ≡ n
    e = omega arith
wrap_mid (negsuc n) h = ap (to_z w16) e ∙ to_z-neg w16 n h
  where
    e : 65535 - n % 65536 ≡ 2 ^ 16 - suc n
    e = omega arith

-- above
pub wrap_hi : (z : ℤ) → T (lt_z (pos 32767) z) → mag z < 65536 → (wrap16 z ≡ z -ℤ pos 65536) × (mag (z -ℤ pos 65536) < 32768)
unfolding wrap16
wrap_hi (pos n) t h =
    sub-ind n 65536 (λ z. (wrap16 (pos n) ≡ z) × (mag z < 32768))
    (λ l. (ap (to_z w16) e ∙ to_z_hi n g h ∙ ap negsuc d, omega (arith, g)))
    (λ l. absurd (omega (arith, g)))
  where
    g : 32768 ≤ n
    g = ltb→lt 32767 n t

    e : n % 65536 ≡ n
    e = omega arith

    d : 65535 - n ≡ 65536 - suc n
    d = omega (arith, g)
wrap_hi (negsuc n) t h = absurd t

-- below
pub wrap_lo : (z : ℤ) → T (lt_z z (negsuc 32767)) → mag z < 65536 → (wrap16 z ≡ z +ℤ pos 65536) × (mag (z +ℤ pos 65536) < 32768)
unfolding wrap16
wrap_lo (pos n) t h = absurd t
wrap_lo (negsuc n) t h =
    sub-ind 65536 (suc n) (λ z. (wrap16 (negsuc n) ≡ z) × (mag z < 32768))
    (λ l. absurd (omega (arith, g)))
    (λ l. (ap (to_z w16) e ∙ to_z_pos w16 d, omega (arith, g)))
  where
    g : 32767 < n
    g = ltb→lt 32767 n t

    e : 65535 - n % 65536 ≡ 65536 - suc n
    e = omega arith

    d : 65536 - suc n < 2 ^ 15
    d = omega (arith, g)

-- what the library's operations leave
wrap_is : (z : ℤ) → int_wrap w16 z ≡ wrap16 z
unfolding int_wrap wrap16
wrap_is (pos n) = refl
wrap_is (negsuc n) = refl

pub sum_is : (a b : ℤ) → SFits w16 a → SFits w16 b → int_wrapping_add w16 a b ≡ add16 a b
unfolding add16
sum_is a b f g = wrapping_add_is w16 a b f g ∙ wrap_is (a +ℤ b)

pub difference_is : (a b : ℤ) → SFits w16 a → SFits w16 b → int_wrapping_sub w16 a b ≡ sub16 a b
unfolding sub16
difference_is a b f g = wrapping_sub_is w16 a b f g ∙ wrap_is (a -ℤ b)

pub negation_is : (a : ℤ) → SFits w16 a → int_wrapping_neg w16 a ≡ neg16 a
unfolding neg16
negation_is a f = wrapping_neg_is w16 a f ∙ wrap_is (neg_ℤ a)

-- and of 32 bits the low 16
pub low_is : (z : ℤ) → SFits w32 z → to_z w16 (of_z w32 z % 65536) ≡ wrap16 z
unfolding wrap16
low_is (pos n) f = refl
low_is (negsuc n) f = ap (to_z w16) e
  where
    e : (2 ^ 32 - suc n) % 65536 ≡ 65535 - n % 65536
    e = let h = f.sfits in omega arith
