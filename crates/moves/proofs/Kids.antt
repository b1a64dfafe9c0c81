-- The children of a node of an accepted tree, in the order in which they are tried. Assumes nothing.
use mathlib.Core.Path.{◌≡◌, refl}
use mathlib.Core.Bool.{Bool, true, false}
use mathlib.Core.List.{List}
use Prim.Native.Nat.{ℕ, ◌+◌, ◌≤◌, ◌<◌}
use native.Mathlib.Omega.{arith}
use lib.Dec.{eqb}
use borrow.Author.Tests.{eqb-true, eqb-false}
use Rattle.tree.specs.Blocks.{Blocked, nodes_of}
use Rattle.tree.specs.Layout.{Laid}
use Rattle.tree.specs.Level.{level_of}
use Rattle.record.specs.Node.{first_of, count_of}
use Rattle.tree.proofs.Laid.{children_right_lem, first_none, first_start, kids_in}
use Rattle.tree.proofs.Accepted.{is_blocked, is_laid, child_above, child_in, level_kid, level_most}
use Rattle.state.specs.Accepted.{AcceptedBy}
use Rattle.moves.specs.Kid.{Kid}
use Rattle.moves.specs.Order.{order_at, child_of}
use Rattle.state.specs.declared.Settings.{Settings}
use Rattle.std.specs.declared.option.Option.{Option}
use Rattle.moves.proofs.Ordered.{Among, order_among}

-- the children that a node's first child and count name lie in the tree
pub kids_within : (t : List ℕ) → Laid t → (k : ℕ) → k < nodes_of t → first_of t k + count_of t k ≤ nodes_of t
kids_within t l k h = go (eqb (count_of t k) 0) refl
  where
    go : (b : Bool) → eqb (count_of t k) 0 ≡ b → first_of t k + count_of t k ≤ nodes_of t
    go true e = let z = eqb-true (count_of t k) 0 e in omega (arith, first_none t k (children_right_lem t l k h) z)
    go false e = omega (arith, first_start t k (children_right_lem t l k h) (eqb-false (count_of t k) 0 e), kids_in t l k h)

module _ (set : Settings) (t : List ℕ) (ok : AcceptedBy set t) where
  pub blocked : Blocked t
  blocked = is_blocked set.inf set.max_ply t ok

  pub laid : Laid t
  laid = is_laid set.inf set.max_ply t ok

  pub level_low : (k : ℕ) → level_of t k ≤ 100
  level_low k = level_most set.inf set.max_ply t ok k

  pub kid : (k i : ℕ) (p : Option ℕ) → k < nodes_of t → Among (count_of t k) p → i < count_of t k → Kid t k (child_of t k p i)
  unfolding child_of
  kid k i p h a l =
      let o = order_among (count_of t k) i p a l in
      record {
        above = child_above set.inf set.max_ply t ok k (order_at p i) h o;
        in_tree = child_in set.inf set.max_ply t ok k (order_at p i) h o;
        level = level_kid set.inf set.max_ply t ok k (order_at p i) h o;
        shallow = level_most set.inf set.max_ply t ok (first_of t k + order_at p i);
      }
