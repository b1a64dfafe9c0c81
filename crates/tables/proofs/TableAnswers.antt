-- What a table that row 8 does not refuse has; what the entries answer where it refuses, and a reset where it does not. Assumes nothing.
use Rattle.std.proofs.Common.{◌≡◌, ◌∙◌, ap, true, false, ℕ, List, ◌≤◌, length, arith}
use Rattle.table.specs.declared.Stats.{Stats}
use Rattle.table.specs.Stats.{reset_of}
use Rattle.table.specs.Table.{Table}
use Rattle.table.proofs.Size.{well_sized_lem}
use Rattle.state.specs.State.{over}
use Rattle.refusals.specs.Rows.{table_right}
use Rattle.refusals.proofs.Given.{unless_fails, unless_holds}
use Rattle.tables.specs.Tables.{StatsAnswer, table_rows, lookup_refused, lookup_answer, lookup_entry}
use Rattle.tables.specs.Tables.{stats_given, stats_refused, table_answer, reset_answer, reset_entry}

pub table_held : (words : List ℕ) → 0 ≡ table_rows words → table_right words ≡ true
unfolding table_rows
table_held = grind arith

pub table_words : (words : List ℕ) → 0 ≡ table_rows words → 2 ≤ length words
table_words words none = (well_sized_lem (length words) (table_held words none)).long

-- a table of a wrong length
module _ (words : List ℕ) (wrong : table_right words ≡ false) where
  rows-eight : 8 ≡ table_rows words
  unfolding table_rows
  rows-eight = unless_fails (table_right words) 8 0 wrong

  pub lookup_eight : (stats : Stats) (hash : ℕ) → lookup_refused 8 stats ≡ lookup_entry words stats hash
  unfolding lookup_answer
  lookup_eight stats hash = ap (λ (r : ℕ). lookup_answer r words stats hash) rows-eight

  pub table_eight
      : (stats : Stats) (made : Table) (x : StatsAnswer) → x ≡ stats_refused 8 stats
      → over x words ≡ table_answer (table_rows words) words stats made
  unfolding table_answer
  table_eight stats made x is =
      ap (λ (y : StatsAnswer). over y words) is ∙ ap (λ (r : ℕ). table_answer r words stats made) rows-eight

  pub reset_eight : (stats : Stats) → stats_refused 8 stats ≡ reset_entry words stats
  unfolding reset_answer
  reset_eight stats = ap (λ (r : ℕ). reset_answer r stats) rows-eight

-- a table of a right one
pub reset_made : (words : List ℕ) → table_right words ≡ true → (stats s : Stats) → s ≡ reset_of stats → stats_given s ≡ reset_entry words stats
unfolding table_rows reset_answer
reset_made words right stats s e = ap stats_given e ∙ ap (λ (r : ℕ). reset_answer r stats) (unless_holds (table_right words) 8 0 right)
