-- The contracts of the tree's entries allow one result each, statement first. Assumes nothing.
use Rattle.std.proofs.Common.{◌≡◌, ℕ, List, ℤ, arith}
use Rattle.std.specs.declared.result.Result.{Result}
use Rattle.refusal.specs.declared.Refusal.{Refusal}
use Rattle.refusal.specs.Number.{number_told}
use Rattle.refusal.proofs.Number.{number_tells}
use Rattle.tree.specs.Refusal.{handed_part}
use Rattle.refusals.specs.First.{tree_rows}
use Rattle.refusals.proofs.One.{One}
use Rattle.trees.specs.Records.{record_rows}

-- two results that tell one number are one
abbrev pub OneTold : ℕ → Type 0
OneTold n = (r s : Result Unit Refusal) → number_told r ≡ n → number_told s ≡ n → r ≡ s

-- 01, What a result must tie down: "show that any two results allowed are equal"
pub record OneResult : Type 0 where
  pub check : (inf : ℤ) (maxPly : ℕ) (t : List ℕ) → OneTold (tree_rows inf maxPly t)
  pub refusal : (inf : ℤ) (maxPly : ℕ) (t : List ℕ) (node : ℕ) → OneTold (record_rows inf maxPly t node)
  pub part : (inf : ℤ) (maxPly : ℕ) (t : List ℕ) (node : ℕ) → One (handed_part (record_rows inf maxPly t node) t node)

pub one_result : OneResult
one_result = grind (arith, number_tells)
