-- A quotient of two whole numbers that f64 holds is rounded once; and over a power of two it is exact. Assumes nothing.
use mathlib.Core.Path.{◌≡◌, refl, sym, ap, ◌∙◌, subst}
use mathlib.Core.Bool.{true, false, true≢false}
use Prim.Native.Nat.{ℕ, zero, suc, ◌+◌, ◌-◌, ◌*◌, ◌^◌, ◌≤◌, ◌<◌}
use native.Mathlib.Nat.{mul-one, zero-mul, mul_assoc, mul_comm, mul-pos, lt_irrefl, lt_of_lt_of_le}
use native.Mathlib.Omega.{arith}
use lib.Pow.{pow-add, pow_pos, pow_mono, shl_lt}
use lib.IntN.{pos}
use borrow.Author.Tests.{ne_eqb}
use lib.Ieee.{Float, nan, inf, fin, Format, binary64, up, down, round, div, of_int}
use lib.Ieee.Fits.{up_pos, down_pos}
use lib.Ieee.Exact.{HasValue, round_exact}
use lib.Ieee.Scale.{round_same}
use lib.Ieee.Back.{round_whole}
use Rattle.table.proofs.Size.{TwoPower}

-- two fractions over 1 and the fraction of them, multiplied out
cross : (x y a b u v : ℕ) → x * 1 ≡ a * u → y * 1 ≡ b * v → x * v * b ≡ a * (y * u)
cross x y a b u v p q =
    ap (λ (z : ℕ). z * v * b) (sym (mul-one x) ∙ p)
    ∙ ap (λ (z : ℕ). z * b) (mul_assoc a u v) ∙ mul_assoc a (u * v) b
    ∙ ap (λ (z : ℕ). a * z) (mul_comm (u * v) b ∙ ap (λ (z : ℕ). b * z) (mul_comm u v) ∙ sym (mul_assoc b v u)) ∙ ap (λ (z : ℕ). a * (z * u)) (sym (sym (mul-one y) ∙ q))

-- floats that are whole numbers a and b, divided, are a / b rounded once
div_at : (f : Format) (x y : Float) (a b : ℕ) → 0 < b → HasValue x false a 1 → HasValue y false b 1 → div f x y ≡ round f false a b
unfolding div
div_at f nan y a b B h k = absurd h
div_at f (inf s) y a b B h k = absurd h
div_at f (fin s m e) nan a b B h k = absurd k
div_at f (fin s m e) (inf t) a b B h k = absurd k
div_at f (fin true m e) (fin t n d) a b B h k = absurd (true≢false h.0)
div_at f (fin false m e) (fin true n d) a b B h k = absurd (true≢false k.0)
div_at f (fin false m e) (fin false n d) a b B h k =
    simp (ne_eqb n 0 not-zero)
    (round_same f false (m * up e * down d) (n * up d * down e) a b (mul-pos (mul-pos (above n not-zero) (up_pos d)) (down_pos e)) B (cross (m * up e) (n * up d) a b (down e) (down d) h.1 k.1))
  where
    none : n ≡ 0 → b * down d ≡ 0
    none z = sym k.1 ∙ mul-one (n * up d) ∙ ap (λ (x : ℕ). x * up d) z ∙ zero-mul (up d)

    not-zero : n ≡ 0 → ⊥
    not-zero z = lt_irrefl 0 (subst (λ (x : ℕ). 0 < x) (none z) (mul-pos B (down_pos d)))

    above : (x : ℕ) → (x ≡ 0 → ⊥) → 0 < x
    above zero g = absurd (g refl)
    above (suc x) g = omega arith

-- a whole number up to 2^53 is a float, so casting rounds nothing and the division is the one rounding
pub quotient_is : (a b : ℕ) → a ≤ 2 ^ 53 → 0 < b → b ≤ 2 ^ 53 → div binary64 (of_int binary64 (pos a)) (of_int binary64 (pos b)) ≡ round binary64 false a b
unfolding of_int
quotient_is a b ha B hb = div_at binary64 (round binary64 false a 1) (round binary64 false b 1) a b B (round_whole binary64 false a ha) (round_whole binary64 false b hb)

-- over a power of two, a whole number below 2^53 loses nothing
pub exact : (n a : ℕ) → TwoPower n → a < 2 ^ 53 → HasValue (round binary64 false a n) false a n
exact n a p h =
    subst (λ (x : ℕ). HasValue (round binary64 false a x) false a x) (sym p.is)
    (round_exact binary64 false a (2 ^ p.k) a (1074 - p.k) (pow_pos p.k) h room same)
  where
    room : a * 2 ^ (1074 - p.k) < 2 ^ (1074 + 1024)
    room = lt_of_lt_of_le (shl_lt 53 (1074 - p.k) h) (pow_mono {i = 53 + (1074 - p.k)} {j = 2098} (omega (arith, p.small)))

    whole : 1074 - p.k + p.k ≡ 1074
    whole = omega (arith, p.small)

    same : a * 2 ^ 1074 ≡ a * 2 ^ (1074 - p.k) * 2 ^ p.k
    same =
        sym
        (mul_assoc a (2 ^ (1074 - p.k)) (2 ^ p.k)
        ∙ ap (λ (x : ℕ). a * x) (sym (pow-add 2 (1074 - p.k) p.k) ∙ ap (λ (x : ℕ). 2 ^ x) whole))
