-- What a visit asks holds of the root's moves, in an accepted tree. Assumes nothing.
use mathlib.Core.Path.{◌≡◌, sym, subst}
use mathlib.Core.List.{List}
use Prim.Native.Nat.{ℕ, ◌≤◌, ◌<◌}
use native.Mathlib.Omega.{arith}
use Rattle.tree.specs.Blocks.{nodes_of}
use Rattle.record.specs.Node.{first_of, count_of}
use Rattle.tree.proofs.Accepted.{nodes_least}
use Rattle.state.specs.declared.Settings.{Settings}
use Rattle.std.specs.declared.option.Option.{Option}
use Rattle.state.specs.Accepted.{AcceptedBy}
use Rattle.moves.specs.Kid.{Kid}
use Rattle.moves.specs.Order.{child_of}
use Rattle.moves.proofs.Kids.{kid}
use Rattle.moves.proofs.Ordered.{Among, place_among}
use Rattle.visits.specs.Reach.{Reach}
use Rattle.root_steps.specs.declared.Best.{Best}
use Rattle.root_steps.specs.declared.Walked.{Walked}
use Rattle.root_steps.specs.Step.{place_root, down_of}

-- a root move's visit
pub to_move : (set : Settings) (t : List ℕ) (depth : ℕ) (w : Walked) (c : ℕ) → depth ≤ 31 → Kid t 0 c → Reach t (down_of set depth w c)
to_move set t depth w c most k =
    record { in_tree = k.in_tree; side_most = omega arith; depth_most = omega arith; ply_most = omega arith }

root_among : (t : List ℕ) (best : Best) → Among (count_of t 0) (place_root t best)
unfolding place_root
root_among t best = place_among t (first_of t 0) (count_of t 0) best.mv

module _ (set : Settings) (t : List ℕ) (ok : AcceptedBy set t) where
  pub root_in : 0 < nodes_of t
  root_in = omega (arith, nodes_least set.inf set.max_ply t ok)

  -- the i-th of the root's n moves leads to a child
  pub root_kid : (best : Best) (p : Option ℕ) (n i : ℕ) → p ≡ place_root t best → n ≡ count_of t 0 → i < n → Kid t 0 (child_of t 0 p i)
  root_kid best p n i ep en lt = kid set t ok 0 i p root_in (subst (Among (count_of t 0)) (sym ep) (root_among t best)) (omega (arith, en))
