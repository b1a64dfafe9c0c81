-- The bytes of the line that a root search's result is printed as. Assumes nothing.
use Rattle.std.specs.Prelude.{◌≡◌, Bool, true, false, cond, List, [], ◌∷◌, ◌++◌, ℕ, zero, suc, ◌+◌, ◌/◌, ◌%◌, ltb, ℤ, pos, negsuc, length, take}
use Rattle.results.specs.Told.{RootResult}
use Prim.Native.Char.{code}
use Prim.Native.String.{String, [] as none, ◌∷◌ as ◌then◌}

-- the bytes of a text in ASCII
unfoldable pub ascii : String → List ℕ
ascii none = []
ascii (c then s) = code c ∷ ascii s

-- the last k digits of n, and no zero in front of another digit
unfoldable pub decimal_to : ℕ → ℕ → List ℕ
decimal_to zero n = []
decimal_to (suc k) n = cond (ltb n 10) ((48 + n) ∷ []) (decimal_to k (n / 10) ++ ((48 + n % 10) ∷ []))

-- a number of 64 bits has at most 20 digits
abbrev pub decimal : ℕ → List ℕ
decimal n = decimal_to 20 n

-- a minus sign before a number below 0
unfoldable pub signed : ℤ → List ℕ
signed (pos n) = decimal n
signed (negsuc n) = ascii "-" ++ decimal (suc n)

abbrev pub mark_of : Bool → ℕ
mark_of true = 1
mark_of false = 0

-- what was found
unfoldable pub found_text : RootResult → List ℕ
found_text r = (ascii "score " ++ signed r.score) ++ (ascii " move " ++ decimal r.mv)

-- how it was searched
unfoldable pub spent_text : RootResult → List ℕ
spent_text r = ((ascii " depth " ++ decimal r.depth) ++ (ascii " nodes " ++ decimal r.nodes)) ++ (ascii " stopped " ++ decimal (mark_of r.stopped))

-- 01, Entries on both sides: "it prints the one line `score 0 move 32 depth 30 nodes 60 stopped 0`"
unfoldable pub answer_line : RootResult → List ℕ
answer_line r = (found_text r ++ spent_text r) ++ ascii "\n"

-- 01, Entries on both sides: "A refusal prints `refused` and the number."
unfoldable pub refused_line : ℕ → List ℕ
refused_line refusal = (ascii "refused " ++ decimal refusal) ++ ascii "\n"

unfoldable pub line_by : ℕ → RootResult → List ℕ
line_by zero r = answer_line r
line_by (suc k) r = refused_line (suc k)

abbrev pub line_of : RootResult → List ℕ
line_of r = line_by r.refusal r

-- `text` stands in `after` behind the first `at` bytes of `before`; `end` is the place behind it
pub record Put (before : List ℕ) (at : ℕ) (text after : List ℕ) (end : ℕ) : Type 0 where
  pub place : end ≡ at + length text
  pub bytes : take end after ≡ take at before ++ text
