-- What the library writes of a number is its digits, the fewest that hold it. Assumes nothing.
use Rattle.std.proofs.Common.{◌≡◌, ℕ, zero, suc, ◌+◌, ◌-◌, ◌/◌, ◌%◌, ◌^◌, ◌<◌, ◌≤◌, List, [], ◌∷◌, ◌++◌, length, ℤ, pos, negsuc, unsigned_abs, sym, ap, ◌∙◌, arith, length-append, lt-ltb}
use native.Mathlib.Nat.{pow-suc}
use lib.Signed.{mag}
use Rattle.std.specs.Fmt.{decimal, signed_decimal}
use Rattle.std.proofs.lemmas.Fmt.{decimal_by_steps}
use Rattle.io.specs.Digits.{hex_digit_ascii, last_digits, IsDigitCount}
use Rattle.probe_text.specs.declared.text.Line.{Line}
use Rattle.probe_text.specs.Line.{puts, Spelled, sign_of}

-- bytes that are a number's digits, and no more than it needs
record Digits (n : ℕ) (ds : List ℕ) : Type 0 where
  fewest : IsDigitCount 10 1 n (length ds)
  same : ds ≡ last_digits 10 (length ds) n

-- a digit's byte
digit : (d : ℕ) → d < 10 → hex_digit_ascii d ≡ 48 + d
digit d h = rw (lt-ltb d 10 h)

one : (n : ℕ) → n < 10 → Digits n ((48 + n) ∷ [])
one n h =
    let low : n % 10 ≡ n = omega arith in
    record { fewest = (omega arith, omega arith, λ p. absurd (omega arith)); same = ap (λ b. b ∷ []) (sym (ap hex_digit_ascii low ∙ digit n h)) }

-- one digit more
count : (k n : ℕ) → 10 ≤ n → IsDigitCount 10 1 (n / 10) k → IsDigitCount 10 1 n (suc k)
count zero n h c = absurd (omega (arith, c.0))
count (suc zero) n h c = (omega arith, omega (arith, c.1), λ p. omega arith)
count (suc (suc j)) n h c =
    let less : suc (suc j) - 1 ≡ suc j = omega arith in
    let less' : suc (suc (suc j)) - 1 ≡ suc (suc j) = omega arith in
    let low = rw less at c.2 (omega arith) in
    (omega arith, omega (arith, c.1, pow-suc 10 (suc (suc j))), λ p. rw less' (omega (arith, low, pow-suc 10 (suc j))))

more : (n : ℕ) (ds : List ℕ) → 10 ≤ n → Digits (n / 10) ds → Digits n (ds ++ ((48 + n % 10) ∷ []))
more n ds h d =
    let b = 48 + n % 10 in
    let long : length (ds ++ (b ∷ [])) ≡ suc (length ds) = omega (arith, length-append ds (b ∷ [])) in
    let last = ap (λ c. last_digits 10 (length ds) (n / 10) ++ (c ∷ [])) (sym (digit (n % 10) (omega arith))) in
    record { fewest = rw long (count (length ds) n h d.fewest); same = rw long (ap (λ s. s ++ (b ∷ [])) d.same ∙ last) }

pub spelled_decimal : (n : ℕ) (l : Line) → n < 2 ^ 64 → Spelled 10 1 n l (puts (decimal n) l)
spelled_decimal n l h =
    let d = decimal_by_steps Digits one more n h in
    record { count = length (decimal n); fewest = d.fewest; whole = ap (λ s. puts s l) d.same }

-- the sign first, and then the number's size
pub spelled_signed : (z : ℤ) (l : Line) → mag z < 2 ^ 15 → Spelled 10 1 (unsigned_abs z) (puts (sign_of z) l) (puts (signed_decimal z) l)
unfolding puts
spelled_signed (pos n) l h = spelled_decimal n l (omega arith)
spelled_signed (negsuc n) l h = spelled_decimal (suc n) (puts (45 ∷ []) l) (omega arith)
