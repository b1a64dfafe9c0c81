-- What the rows of a record give: the tree's refusal where there is one, and what holds where none is given. Assumes nothing.
use mathlib.Core.Path.{◌≡◌, refl, ap, ◌∙◌}
use mathlib.Core.Bool.{Bool, true, false}
use mathlib.Core.List.{List}
use Prim.Native.Nat.{ℕ, zero, suc, ◌<◌}
use native.Mathlib.Omega.{arith}
use lib.IntN.{ℤ}
use Rattle.tree.specs.Blocks.{nodes_of}
use Rattle.refusals.specs.Rows.{node_right}
use Rattle.refusals.specs.First.{first, unless, tree_rows}
use Rattle.refusals.proofs.Given.{first_some}
use Rattle.refusals.proofs.Meaning.{node_in}
use Rattle.trees.specs.Records.{record_rows}

-- the tree's refusal is the record's
pub rows_tree
    : (inf : ℤ) (maxPly : ℕ) (t : List ℕ) (node r : ℕ) → r ≡ tree_rows inf maxPly t → (r ≡ 0 → ⊥) → r ≡ record_rows inf maxPly t node
unfolding record_rows
rows_tree inf maxPly t node r er n =
    let rest = unless (node_right t node) 7 0 in
    first_some r rest n ∙ ap (λ (x : ℕ). first x rest) er

both : (n : ℕ) (b : Bool) → first n (unless b 7 0) ≡ 0 → (n ≡ 0) × (b ≡ true)
both zero true e = (refl, refl)
both zero false e = absurd (omega arith)
both (suc n) b e = absurd (omega arith)

-- where no refusal is given the tree's rows hold, and the node is there
pub rows_right : (inf : ℤ) (maxPly : ℕ) (t : List ℕ) (node : ℕ) → record_rows inf maxPly t node ≡ 0 → (tree_rows inf maxPly t ≡ 0) × (node < nodes_of t)
unfolding record_rows
rows_right inf maxPly t node e =
    let p = both (tree_rows inf maxPly t) (node_right t node) e in
    (p.0, node_in t node p.1)
