-- 01's lines, computed from the definition. Assumes nothing.
use mathlib.Core.Path.{◌≡◌, refl}
use mathlib.Core.Bool.{Bool, false, true}
use Prim.Native.Nat.{ℕ}
use lib.IntN.{ℤ, pos, negsuc}
use Rattle.table.specs.Stats.{zeroed}
use Rattle.text.specs.Text.{ascii, decimal_to, signed, found_text, spent_text, answer_line, refused_line, line_by, line_of}
use Rattle.results.specs.Told.{RootResult}

abbrev result : ℕ → ℤ → ℕ → ℕ → ℕ → Bool → RootResult
result refusal score mv depth nodes stopped = record { refusal = refusal; score = score; mv = mv; depth = depth; nodes = nodes; stopped = stopped; stats = zeroed 0 }

-- 01, Entries on both sides: "For the last tree it prints the one line `score 0 move 32 depth 30 nodes 60 stopped 0`."
pub worked : line_of (result 0 (pos 0) 32 30 60 false) ≡ ascii "score 0 move 32 depth 30 nodes 60 stopped 0\n"
unfolding ascii decimal_to signed found_text spent_text answer_line line_by
worked = refl

-- a score below 0, a stop
pub below_zero : line_of (result 0 (negsuc 29899) 1 4 1000003 true) ≡ ascii "score -29900 move 1 depth 4 nodes 1000003 stopped 1\n"
unfolding ascii decimal_to signed found_text spent_text answer_line line_by
below_zero = refl

-- 01, Entries on both sides: "A refusal prints `refused` and the number."
pub refused : line_of (result 4 (pos 0) 0 0 0 false) ≡ ascii "refused 4\n"
unfolding ascii decimal_to refused_line line_by
refused = refl
