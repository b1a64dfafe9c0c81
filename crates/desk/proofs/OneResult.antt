-- The contracts of the searches allow one result each, statement first. Assumes nothing.
use Rattle.std.proofs.Common.{◌≡◌, ℕ, List, ℤ, arith}
use Rattle.std.specs.declared.result.Result.{Result}
use Rattle.refusal.specs.declared.Refusal.{Refusal}
use Rattle.refusal.proofs.Number.{number_tells}
use Rattle.table.specs.declared.Stats.{Stats}
use Rattle.state.specs.declared.Settings.{Settings}
use Rattle.carry.specs.Carry.{With, with}
use Rattle.desk.specs.declared.node_search.Start.{Start}
use Rattle.desk.specs.NodeEntry.{node_entry}
use Rattle.desk.specs.RootEntry.{root_entry}
use Rattle.results.specs.Told.{told_node, told_root}

-- two results of a search, with the age and counters, the words and the entries after each, that are told as the entry gives are one
abbrev pub OneSearch : {A B : Type 0} → (Result A Refusal → Stats → B) → With B → Type 0
OneSearch {A} told given =
    (r s : Result A Refusal) (c c' : Stats) (words words' : List ℕ) (history history' : List ℤ)
    → with (told r c) words history ≡ given → with (told s c') words' history' ≡ given
    → (r ≡ s) × (c ≡ c') × (words ≡ words') × (history ≡ history')

-- 01, What a result must tie down: "show that any two results allowed are equal"
pub record OneResult : Type 0 where
  pub node
      : (t : List ℕ) (set : Settings) (c : Stats) (at : Start) (words : List ℕ) (history : List ℤ)
      → OneSearch told_node (node_entry t set c at words history)
  pub root
      : (t : List ℕ) (set : Settings) (c : Stats) (start end : ℤ) (words : List ℕ) (history : List ℤ)
      → OneSearch told_root (root_entry t set c start end words history)

pub one_result : OneResult
one_result = grind (arith, number_tells)
