-- ℤ by differences of naturals, so that `omega` does the arithmetic: every integer is `sub_ℕ a b`, sums and negations of differences are differences,
-- and equality, order and size of differences are facts of ℕ. Assumes nothing.
use mathlib.Core.Path.{◌≡◌, refl, ap, ◌∙◌}
use Prim.Native.Nat.{ℕ, zero, suc, ◌+◌, ◌-◌, ◌*◌, ◌/◌, ◌^◌, ◌<◌, ◌≤◌}
use native.Mathlib.Nat.{div-le_self}
use native.Mathlib.Omega.{arith}
use lib.IntN.{ℤ, pos, negsuc, neg_ℤ, nat_abs, sub_ℕ, ◌+ℤ◌, ◌*ℤ◌}
use lib.Signed.{mag, quot_z}
use mir.Syntax.{Width}
use mir.Val.{SFits, hbits}
use Rattle.score.proofs.Cases.{sub-ind}

-- equal differences
pub diff_eq : (a b c d : ℕ) → a + d ≡ c + b → sub_ℕ a b ≡ sub_ℕ c d
diff_eq a b c d e =
    sub-ind a b (λ z. z ≡ sub_ℕ c d)
    (λ l. sub-ind c d (λ z. negsuc (b - suc a) ≡ z) (λ m. ap negsuc (omega arith)) (λ m. absurd (omega arith)))
    (λ l. sub-ind c d (λ z. pos (a - b) ≡ z) (λ m. absurd (omega arith)) (λ m. ap pos (omega arith)))

pub pos_diff : (n : ℕ) → pos n ≡ sub_ℕ n 0
pos_diff n = sub-ind n 0 (λ z. pos n ≡ z) (λ l. absurd (omega arith)) (λ l. ap pos (omega arith))

pub negsuc_diff : (n : ℕ) → negsuc n ≡ sub_ℕ 0 (suc n)
negsuc_diff n = sub-ind 0 (suc n) (λ z. negsuc n ≡ z) (λ l. ap negsuc (omega arith)) (λ l. absurd (omega arith))

pub diff_neg : (a b : ℕ) → neg_ℤ (sub_ℕ a b) ≡ sub_ℕ b a
diff_neg a b = sub-ind a b (λ z. neg_ℤ z ≡ sub_ℕ b a) below (λ l. neg-pos (a - b) ∙ diff_eq 0 (a - b) b a (omega arith))
  where
    neg-pos : (n : ℕ) → neg_ℤ (pos n) ≡ sub_ℕ 0 n
    neg-pos zero = pos_diff 0
    neg-pos (suc n) = negsuc_diff n

    below : a < b → pos (suc (b - suc a)) ≡ sub_ℕ b a
    below l = pos_diff (suc (b - suc a)) ∙ diff_eq (suc (b - suc a)) 0 b a (omega arith)

pub diff_add : (a b c d : ℕ) → sub_ℕ a b +ℤ sub_ℕ c d ≡ sub_ℕ (a + c) (b + d)
diff_add a b c d =
    sub-ind a b (λ z. z +ℤ sub_ℕ c d ≡ sub_ℕ (a + c) (b + d))
    (λ l. sub-ind c d (λ z. negsuc (b - suc a) +ℤ z ≡ sub_ℕ (a + c) (b + d))
    (λ m. negsuc_diff (suc (b - suc a + (d - suc c))) ∙ diff_eq 0 (suc (suc (b - suc a + (d - suc c)))) (a + c) (b + d) (omega arith))
    (λ m. diff_eq (c - d) (suc (b - suc a)) (a + c) (b + d) (omega arith)))
    (λ l. sub-ind c d (λ z. pos (a - b) +ℤ z ≡ sub_ℕ (a + c) (b + d))
    (λ m. diff_eq (a - b) (suc (d - suc c)) (a + c) (b + d) (omega arith))
    (λ m. pos_diff (a - b + (c - d)) ∙ diff_eq (a - b + (c - d)) 0 (a + c) (b + d) (omega arith)))

-- an integer's own difference
abbrev pub up : ℤ → ℕ
up (pos n) = n
up (negsuc n) = 0

abbrev pub dn : ℤ → ℕ
dn (pos n) = 0
dn (negsuc n) = suc n

pub as_diff : (z : ℤ) → z ≡ sub_ℕ (up z) (dn z)
as_diff (pos n) = pos_diff n
as_diff (negsuc n) = negsuc_diff n

-- size
pub diff_abs : (a b H : ℕ) → a ≤ b + H → b ≤ a + H → nat_abs (sub_ℕ a b) ≤ H
diff_abs a b H h k = sub-ind a b (λ z. nat_abs z ≤ H) (λ l. omega arith) (λ l. omega arith)

pub abs_neg : (z : ℤ) → nat_abs (neg_ℤ z) ≡ nat_abs z
abs_neg (pos zero) = refl
abs_neg (pos (suc n)) = refl
abs_neg (negsuc n) = refl

pub abs_mul : (x y : ℤ) → nat_abs (x *ℤ y) ≡ nat_abs x * nat_abs y
abs_mul (pos a) (pos b) = refl
abs_mul (pos a) (negsuc b) = abs_neg (pos (a * suc b))
abs_mul (negsuc a) (pos b) = abs_neg (pos (suc a * b))
abs_mul (negsuc a) (negsuc b) = refl

pub abs_add : (x y : ℤ) → nat_abs (x +ℤ y) ≤ nat_abs x + nat_abs y
abs_add (pos a) (pos b) = omega arith
abs_add (pos a) (negsuc b) = diff_abs a (suc b) (a + suc b) (omega arith) (omega arith)
abs_add (negsuc a) (pos b) = diff_abs b (suc a) (suc a + b) (omega arith) (omega arith)
abs_add (negsuc a) (negsuc b) = omega arith

mag_abs : (z : ℤ) → mag z ≤ nat_abs z
mag_abs (pos n) = omega arith
mag_abs (negsuc n) = omega arith

pub fits_abs : (w : Width) (z : ℤ) → nat_abs z < 2 ^ hbits w → SFits w z
fits_abs w z h = record { sfits = omega (arith, mag_abs z) }

-- a quotient by a number above zero
pub quot_neg : (n H : ℕ) → quot_z (neg_ℤ (pos n)) (pos H) ≡ neg_ℤ (pos (n / H))
quot_neg zero H = go (0 / H) (zero-quot H)
  where
    zero-quot : (H : ℕ) → 0 / H ≡ 0
    zero-quot H = omega (arith, div-le_self 0 H)

    go : (q : ℕ) → q ≡ 0 → pos q ≡ neg_ℤ (pos q)
    go zero e = refl
    go (suc q) e = absurd (omega arith)
quot_neg (suc n) H = refl
