-- Numbers as text: what the library prints of a number of 64 bits is its decimal text. Assumes nothing.
use Rattle.std.proofs.Common.{◌≡◌, ℕ, suc, ◌^◌, ◌<◌, ◌∷◌, ℤ, pos, negsuc, ap, sym, arith, lt-ltb, le-ltb}
use Rattle.std.specs.Fmt.{decimal as printed, signed_decimal as printed_signed}
use Rattle.std.proofs.lemmas.Fmt.{decimal_from_appends, AppendsLastDigit, length-decimal-le}
use lib.Signed.{mag}
use Rattle.text.specs.Text.{ascii, decimal_to, decimal, signed}

appends : AppendsLastDigit decimal_to
unfolding decimal_to
appends = record { one = λ k n h. rw (lt-ltb n 10 h); more = λ k n h. rw (le-ltb n 10 h) }

pub same_decimal : (n : ℕ) → n < 2 ^ 64 → printed n ≡ decimal n
same_decimal n h = sym (decimal_from_appends decimal_to appends 20 n h (length-decimal-le 20 n (omega arith) (omega arith) h))

pub same_signed : (z : ℤ) → mag z < 2 ^ 15 → printed_signed z ≡ signed z
unfolding signed ascii
same_signed (pos n) h = same_decimal n (omega arith)
same_signed (negsuc n) h = ap (λ s. 45 ∷ s) (same_decimal (suc n) (omega arith))
