-- The state of a search: what a poll, a count, a lookup and a store make of it. Assumes nothing.
use Rattle.std.specs.Prelude.{ℕ, ◌+◌, ◌%◌, ◌^◌, Bool, true, false, ◌||◌, List, ℤ, nat_le}
use Rattle.transposition.specs.declared.Bound.{Bound}
use Rattle.table.specs.declared.Stats.{Stats}
use Rattle.table.specs.declared.Looked.{Looked}
use Rattle.table.specs.declared.Found.TheVariants.{Miss}
use Rattle.table.specs.Table.{Table, lookup_of, store_of}
use Rattle.state.specs.declared.State.{State}
use Rattle.state.specs.declared.Out.{Out}
use Rattle.state.specs.declared.Seen.{Seen}

-- a value, and the table's words after it
pub record Over (A : Type 0) : Type 0 where
  pub it : A
  pub words : List ℕ

abbrev pub over : {A : Type 0} → A → List ℕ → Over A
over x words = record { it = x; words = words }

-- 01, History and clock: "The search uses only a limit poll: it stops when nodes >= limit"; "A stop stays"
unfoldable pub poll_of : ℕ → State → State
poll_of limit s = record { nodes = s.nodes; stop = nat_le limit s.nodes || s.stop; stats = s.stats }

-- 01, Refusal numbers: "Counts are 64-bit .. sums .. wrap"
unfoldable pub count_node : State → State
count_node s = record { nodes = (s.nodes + 1) % 2 ^ 64; stop = s.stop; stats = s.stats }

abbrev pub answer_of : ℤ → State → Out
answer_of x s = record { score = x; state = s }

abbrev pub with_stats : State → Stats → State
with_stats s c = record { nodes = s.nodes; stop = s.stop; stats = c }

abbrev pub seen_by : State → Looked → Seen
seen_by s l = record { found = l.found; state = with_stats s l.stats }

-- 01, Visits: "With the table switch off, table, age and counters are untouched."
unfoldable pub seen_of : Bool → List ℕ → State → ℕ → Seen
seen_of false words s hash = record { found = Miss; state = s }
seen_of true words s hash = seen_by s (lookup_of words s.stats hash)

abbrev pub kept_in : State → Table → Over State
kept_in s t = over (with_stats s t.stats) t.words

unfoldable pub keep_of : Bool → List ℕ → State → ℕ → ℤ → ℤ → ℕ → Bound → Over State
keep_of false words s hash depth score mv bound = over s words
keep_of true words s hash depth score mv bound = kept_in s (store_of words s.stats hash depth score mv bound)
