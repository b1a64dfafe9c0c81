-- The contracts of the history's entries allow one result each, statement first. Assumes nothing.
use Rattle.std.proofs.Common.{◌≡◌, ℕ, List, ℤ, arith}
use Rattle.std.specs.declared.result.Result.{Result}
use Rattle.refusal.specs.declared.Refusal.{Refusal}
use Rattle.refusal.proofs.Number.{number_tells}
use Rattle.histories.specs.Histories.{DeltaAnswer, OverHistory, told_delta, told_entry, over_history, delta_entry, bonus_entry, malus_entry}

abbrev pub OneDelta : DeltaAnswer → Type 0
OneDelta given = (r s : Result ℤ Refusal) → told_delta r ≡ given → told_delta s ≡ given → r ≡ s

-- two results with the entries after each
abbrev pub OneHistory : OverHistory → Type 0
OneHistory given =
    (r s : Result ℤ Refusal) (history history' : List ℤ)
    → over_history (told_entry r) history ≡ given → over_history (told_entry s) history' ≡ given
    → (r ≡ s) × (history ≡ history')

-- 01, What a result must tie down: "show that any two results allowed are equal"
pub record OneResult : Type 0 where
  pub delta : (hh depth : ℤ) → OneDelta (delta_entry hh depth)
  pub bonus : (history : List ℤ) (hh : ℤ) (side mv : ℕ) (depth : ℤ) → OneHistory (bonus_entry history hh side mv depth)
  pub malus : (history : List ℤ) (hh : ℤ) (side mv : ℕ) (depth : ℤ) → OneHistory (malus_entry history hh side mv depth)

pub one_result : OneResult
one_result = grind (arith, number_tells)
