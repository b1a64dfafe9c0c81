-- A line of an answer: its 512 bytes, where the next one goes, and what is put into it. Assumes nothing.
use Rattle.std.specs.Prelude.{◌≡◌, ℕ, ◌+◌, cond, List, [], ◌∷◌, ℤ, pos, negsuc, nat_lt, slice_set}
use Rattle.io.specs.Digits.{last_digits, IsDigitCount}
use Rattle.probe_text.specs.declared.text.Line.{Line}

abbrev pub line_at : List ℕ → ℕ → Line
line_at bytes next = record { bytes = bytes; next = next }

-- one byte more; what a full line has no room for is left out
unfoldable pub put : ℕ → Line → Line
put b l = cond (nat_lt l.next 512) (line_at (slice_set l.bytes l.next b) (l.next + 1)) l

unfoldable pub puts : List ℕ → Line → Line
puts [] l = l
puts (b ∷ s) l = puts s (put b l)

-- a number is put: its digits in a base, the fewest that hold it and no fewer than `least`
pub record Spelled (base least x : ℕ) (before after : Line) : Type 0 where
  pub count : ℕ
  pub fewest : IsDigitCount base least x count
  pub whole : after ≡ puts (last_digits base count x) before

-- the sign before a number's size
abbrev pub sign_of : ℤ → List ℕ
sign_of (pos n) = []
sign_of (negsuc n) = 45 ∷ []
