-- The contracts of the table's entries allow one result each, statement first. Assumes nothing.
use Rattle.std.proofs.Common.{◌≡◌, ℕ, List, ℤ, arith}
use Rattle.std.specs.declared.result.Result.{Result}
use Rattle.refusal.specs.declared.Refusal.{Refusal}
use Rattle.refusal.proofs.Number.{number_tells}
use Rattle.transposition.specs.declared.Bound.{Bound}
use Rattle.table.specs.declared.Found.{Found}
use Rattle.table.specs.declared.Stats.{Stats}
use Rattle.percentages.specs.declared.occupancy.Occupancy.{Occupancy}
use Rattle.state.specs.State.{Over, over}
use Rattle.tables.specs.Tables.{LookupAnswer, StatsAnswer, OccupancyAnswer, told_lookup, told_stats, told_occupancy, lookup_entry, store_entry, reset_entry, clear_entry, occupancy_entry}

-- two results, with the age and counters after each, and the words
abbrev pub OneLookup : LookupAnswer → Type 0
OneLookup given =
    (r s : Result Found Refusal) (stats stats' : Stats) → told_lookup r stats ≡ given → told_lookup s stats' ≡ given
    → (r ≡ s) × (stats ≡ stats')

abbrev pub OneStats : StatsAnswer → Type 0
OneStats given =
    (r s : Result Unit Refusal) (stats stats' : Stats) → told_stats r stats ≡ given → told_stats s stats' ≡ given
    → (r ≡ s) × (stats ≡ stats')

abbrev pub OneTable : Over StatsAnswer → Type 0
OneTable given =
    (r s : Result Unit Refusal) (stats stats' : Stats) (words words' : List ℕ)
    → over (told_stats r stats) words ≡ given → over (told_stats s stats') words' ≡ given
    → (r ≡ s) × (stats ≡ stats') × (words ≡ words')

abbrev pub OneOccupancy : OccupancyAnswer → Type 0
OneOccupancy given = (r s : Result Occupancy Refusal) → told_occupancy r ≡ given → told_occupancy s ≡ given → r ≡ s

-- 01, What a result must tie down: "show that any two results allowed are equal"
pub record OneResult : Type 0 where
  pub lookup : (words : List ℕ) (stats : Stats) (hash : ℕ) → OneLookup (lookup_entry words stats hash)
  pub store
      : (words : List ℕ) (stats : Stats) (hash : ℕ) (depth score : ℤ) (mv : ℕ) (bound : Bound)
      → OneTable (store_entry words stats hash depth score mv bound)
  pub reset : (words : List ℕ) (stats : Stats) → OneStats (reset_entry words stats)
  pub clear : (words : List ℕ) (stats : Stats) → OneTable (clear_entry words stats)
  pub occupancy : (words : List ℕ) → OneOccupancy (occupancy_entry words)

pub one_result : OneResult
one_result = grind (arith, number_tells)
