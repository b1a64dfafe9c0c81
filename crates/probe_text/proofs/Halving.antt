-- A number without its low zeros. Assumes nothing.
use Rattle.std.proofs.Common.{◌≡◌, ℕ, zero, suc, ◌*◌, ◌/◌, ◌%◌, ◌^◌, ◌<◌, ◌≤◌, min, ltb, Bool, true, false, refl, subst, sym, ap, ◌∙◌, mul_assoc, arith, w64, ltb-true, ltb-false}
use native.Mathlib.Nat.{pow-suc, pow-succ', pow-le-pow_right, div-div-eq-div-mul, div-eq_of_lt}
use Rattle.std.specs.Int.{bit_at, trailing_zeros}
use Rattle.std.proofs.lemmas.Nat.Bits.{bit_at-trailing_zeros}
use Rattle.probe_text.specs.Float.{Halves}

-- a half, times one power more
twice : (left times : ℕ) → left % 2 ≡ 0 → left / 2 * 2 ^ suc times ≡ left * 2 ^ times
twice left times h =
    let e : left / 2 * 2 ≡ left = omega arith in
    ap (λ (y : ℕ). left / 2 * y) (pow-succ' 2 times) ∙ sym (mul_assoc (left / 2) 2 (2 ^ times)) ∙ ap (λ (y : ℕ). y * 2 ^ times) e

-- with k low zeros, a number is a multiple of 2 to the k
multiple : (k x : ℕ) → ((i : ℕ) → i < k → bit_at x i ≡ 0) → x / 2 ^ k * 2 ^ k ≡ x
multiple zero x h = omega arith
multiple (suc k) x h =
    let half : x / 2 ^ suc k ≡ x / 2 ^ k / 2 = ap (λ (y : ℕ). x / y) (pow-suc 2 k) ∙ sym (div-div-eq-div-mul x (2 ^ k) 2) in
    ap (λ (y : ℕ). y * 2 ^ suc k) half ∙ twice (x / 2 ^ k) k (h k (omega arith)) ∙ multiple k x (λ i l. h i (omega arith))

-- the place of a 1 in a number of 53 bits
place : (x t : ℕ) → x < 2 ^ 53 → bit_at x t ≡ 1 → t < 53
place x t h b = by-test (ltb t 53) refl
  where
    by-test : (c : Bool) → ltb t 53 ≡ c → t < 53
    by-test true e = ltb-true t 53 e
    by-test false e =
        let more : 2 ^ 53 ≤ 2 ^ t = pow-le-pow_right {n = 2} (omega arith) {i = 53} {j = t} (ltb-false t 53 e) in
        let none : x / 2 ^ t ≡ 0 = div-eq_of_lt (omega arith) in
        let one : 0 % 2 ≡ 1 = subst (λ (y : ℕ). y % 2 ≡ 1) none b in
        absurd (omega arith)

pub halves : (x t : ℕ) → x < 2 ^ 53 → t ≡ min (trailing_zeros w64 x) 53 → Halves x (x / 2 ^ t) t
halves zero t h e = record { few = omega arith; whole = omega arith; odd = λ p. absurd (omega arith) }
halves (suc n) t h e =
    let b = bit_at-trailing_zeros w64 (suc n) (omega arith) (omega arith) in
    let l = place (suc n) (trailing_zeros w64 (suc n)) h b.1 in
    let s : t ≡ trailing_zeros w64 (suc n) = omega (arith, l, e) in
    record {
      few = omega arith;
      whole = rw s (multiple (trailing_zeros w64 (suc n)) (suc n) b.2);
      odd = λ _. rw s b.1;
    }
