-- The table's public entries: which refusal each gets, and what it answers and leaves. Assumes nothing.
use Rattle.std.specs.Prelude.{◌≡◌, false, List, ℕ, zero, suc, Float, ℤ, pos, Ok, Err}
use Rattle.std.specs.Float.{fin}
use Rattle.std.specs.declared.result.Result.{Result}
use Rattle.refusal.specs.declared.Refusal.{Refusal}
use Rattle.refusal.specs.Number.{number_of, number_told}
use Rattle.transposition.specs.declared.Bound.{Bound}
use Rattle.table.specs.declared.Found.{Found}
use Rattle.table.specs.declared.Found.TheVariants.{Miss}
use Rattle.table.specs.declared.Looked.{Looked}
use Rattle.table.specs.declared.Stats.{Stats}
use Rattle.percentages.specs.declared.occupancy.Occupancy.{Occupancy}
use Rattle.table.specs.Stats.{reset_of}
use Rattle.table.specs.Table.{Table, lookup_of, store_of, clear_of}
use Rattle.percentages.specs.Occupancy.{occupancy_of, Exactly}
use Rattle.state.specs.State.{Over, over}
use Rattle.refusals.specs.Rows.{table_right}
use Rattle.refusals.specs.First.{unless}

-- 01, row 8: "table isn't 2n words, n a power of two, 1 to 65,536"; "an entry tests only what it takes", here the table
unfoldable pub table_rows : List ℕ → ℕ
table_rows words = unless (table_right words) 8 0

-- what is told of a call: the refusal's number, 0 for none; what was found, the age and counters after it, the three percentages
pub record LookupAnswer : Type 0 where
  pub refusal : ℕ
  pub found : Found
  pub stats : Stats

pub record StatsAnswer : Type 0 where
  pub refusal : ℕ
  pub stats : Stats

pub record OccupancyAnswer : Type 0 where
  pub refusal : ℕ
  pub occupancy : Occupancy

-- 01, Refusal numbers: "A refusal returns its number with every result number 0, and lent memory is unchanged; clock, age and counters come back
-- from a refused call as they went in." In each answer below the first clause is a call that is not refused, the second one that is.

abbrev pub lookup_given : Looked → LookupAnswer
lookup_given l = record { refusal = 0; found = l.found; stats = l.stats }

abbrev pub lookup_refused : ℕ → Stats → LookupAnswer
lookup_refused r stats = record { refusal = r; found = Miss; stats = stats }

-- 01, Entry and table: "Lookup: move 0 is a miss even where the hash fits; else a wrong XOR is a collision; else a hit."
unfoldable pub lookup_answer : ℕ → List ℕ → Stats → ℕ → LookupAnswer
lookup_answer zero words stats hash = lookup_given (lookup_of words stats hash)
lookup_answer (suc r) words stats hash = lookup_refused (suc r) stats

abbrev pub lookup_entry : List ℕ → Stats → ℕ → LookupAnswer
lookup_entry words stats hash = lookup_answer (table_rows words) words stats hash

abbrev pub stats_given : Stats → StatsAnswer
stats_given stats = record { refusal = 0; stats = stats }

abbrev pub stats_refused : ℕ → Stats → StatsAnswer
stats_refused r stats = record { refusal = r; stats = stats }

-- a table made of the words, age and counters that went in
unfoldable pub table_answer : ℕ → List ℕ → Stats → Table → Over StatsAnswer
table_answer zero words stats made = over (stats_given made.stats) made.words
table_answer (suc r) words stats made = over (stats_refused (suc r) stats) words

-- 01, Entry and table: "A store replaces when ages differ or new depth >= stored depth; an insert is counted only then."
abbrev pub store_entry : List ℕ → Stats → ℕ → ℤ → ℤ → ℕ → Bound → Over StatsAnswer
store_entry words stats hash depth score mv bound = table_answer (table_rows words) words stats (store_of words stats hash depth score mv bound)

-- 01, Entry and table: "Clear zeroes words, age, counters."
abbrev pub clear_entry : List ℕ → Stats → Over StatsAnswer
clear_entry words stats = table_answer (table_rows words) words stats (clear_of words)

-- 01, Entry and table: "Reset: age 254 or 255 becomes 0, else one more; counters zeroed."
unfoldable pub reset_answer : ℕ → Stats → StatsAnswer
reset_answer zero stats = stats_given (reset_of stats)
reset_answer (suc r) stats = stats_refused (suc r) stats

abbrev pub reset_entry : List ℕ → Stats → StatsAnswer
reset_entry words stats = reset_answer (table_rows words) stats

abbrev pub zero_float : Float
zero_float = fin false 0 (pos 0)

abbrev pub occupancy_given : Occupancy → OccupancyAnswer
occupancy_given o = record { refusal = 0; occupancy = o }

abbrev pub occupancy_refused : ℕ → OccupancyAnswer
occupancy_refused r = record { refusal = r; occupancy = record { exact = zero_float; lower = zero_float; upper = zero_float } }

-- 01, Entry and table: "Occupancy is a record of three percentages, the entries of each bound whose move isn't 0, times 100 over n."
unfoldable pub occupancy_answer : ℕ → List ℕ → OccupancyAnswer
occupancy_answer zero words = occupancy_given (occupancy_of words)
occupancy_answer (suc r) words = occupancy_refused (suc r)

abbrev pub occupancy_entry : List ℕ → OccupancyAnswer
occupancy_entry words = occupancy_answer (table_rows words) words

-- 01, Entry and table: "They are exact in f64, since n is a power of two."
abbrev pub OccupancyExact : List ℕ → OccupancyAnswer → Type 0
OccupancyExact words r = r.refusal ≡ 0 → Exactly words r.occupancy

-- 01, Some places and their forms: "When an answer is an enum, a definition specifies this paper's number and values for each of its cases." The
-- age and counters are those that the call leaves.

abbrev pub told_lookup : Result Found Refusal → Stats → LookupAnswer
told_lookup (Ok found) stats = record { refusal = 0; found = found; stats = stats }
told_lookup (Err r) stats = record { refusal = number_of r; found = Miss; stats = stats }

abbrev pub told_stats : Result Unit Refusal → Stats → StatsAnswer
told_stats r stats = record { refusal = number_told r; stats = stats }

abbrev pub told_occupancy : Result Occupancy Refusal → OccupancyAnswer
told_occupancy (Ok o) = occupancy_given o
told_occupancy (Err r) = occupancy_refused (number_of r)
