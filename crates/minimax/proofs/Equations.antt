-- 01's sentences as equations of the capture value and the extended minimax of an accepted tree, where no fuel is seen. Assumes nothing.
use mathlib.Core.Path.{◌≡◌, refl, ◌∙◌}
use mathlib.Core.Bool.{true, false}
use mathlib.Core.List.{List}
use Prim.Native.Nat.{ℕ, zero, suc, ◌+◌, ◌-◌, ◌≤◌, ◌<◌}
use native.Mathlib.Omega.{arith}
use borrow.Author.Tests.{le-leb, lt-leb, ne_eqb}
use lib.Dec.{leb, eqb}
use lib.IntN.{ℤ, pos, neg_ℤ, ◌+ℤ◌}
use Rattle.record.specs.Node.{count_of, eval_of, in_check, is_draw}
use Rattle.tree.specs.Blocks.{nodes_of}
use Rattle.state.specs.declared.Settings.{Settings}
use Rattle.state.specs.Accepted.{AcceptedBy}
use Rattle.minimax.specs.Minimax.{child_at, greatest, none, quiet_at, capture_if, capture_v, capture_value, end_of, of_children, of_draw, of_depth, minimax_v, minimax_at, minimax}
use Rattle.minimax.proofs.Fuel.{kid_less, kid_in, capture_if_lem, capture_value_lem, of-depth, minimax_is}

module _ (set : Settings) (t : List ℕ) (ok : AcceptedBy set t) (node : ℕ) (h : node < nodes_of t) (ply : ℕ) where
  -- the children's values
  abbrev pub captures : ℕ → ℤ
  captures i = capture_value set t (child_at t node i) (ply + 1)

  abbrev pub moves : ℕ → ℕ → ℤ
  moves depth i = minimax set t (child_at t node i) depth (ply + 1)

  capture-step : (k : ℕ) → nodes_of t ≡ k → capture_v k set t node ply ≡ capture_if (leb set.max_ply ply) t node captures
  unfolding capture_v
  capture-step zero e = absurd (omega arith)
  capture-step (suc k) e =
      capture_if_lem set t ok (leb set.max_ply ply) node _ _
      (λ i l. capture_value_lem set t ok k (child_at t node i) (ply + 1) (kid_in set t ok node i h l) (kid_less set t ok node i k h l (omega arith)))

  capture-eq : capture_value set t node ply ≡ capture_if (leb set.max_ply ply) t node captures
  capture-eq = capture-step (nodes_of t) refl

  -- "the evaluation when ply >= MAX_PLY"
  pub capture_last : set.max_ply ≤ ply → capture_value set t node ply ≡ eval_of t node
  unfolding capture_if
  capture_last l = capture-eq ∙ rw (le-leb set.max_ply ply l)

  -- "else the greatest of evaluation and negated noisy children's capture values, ply + 1"
  pub capture_greatest : ply < set.max_ply → capture_value set t node ply ≡ greatest (quiet_at t node) captures (eval_of t node) (count_of t node) 0
  unfolding capture_if
  capture_greatest l = capture-eq ∙ rw (lt-leb set.max_ply ply l)

  minimax-step : (k depth : ℕ) → nodes_of t ≡ k → minimax_v k set t node depth ply ≡ of_depth (eqb depth 0) k set t node ply (moves (depth - 1))
  unfolding minimax_v
  minimax-step zero depth e = absurd (omega arith)
  minimax-step (suc k) depth e =
      of-depth set t ok (eqb depth 0) (suc k) (suc k) node ply _ _ refl
      (λ i l. minimax_is set t ok k (child_at t node i) (depth - 1) (ply + 1) (kid_in set t ok node i h l) (kid_less set t ok node i k h l (omega arith)))

  minimax-eq : (depth : ℕ) → minimax_at set t node depth ply ≡ of_depth (eqb depth 0) (nodes_of t) set t node ply (moves (depth - 1))
  minimax-eq depth = minimax-step (nodes_of t) depth refl

  -- "at 0 the capture value with ply + 1", a drawn node's too
  pub at_zero : minimax_at set t node 0 ply ≡ capture_value set t node (ply + 1)
  unfolding of_depth
  at_zero = minimax-eq 0

  module _ (depth : ℕ) (more : 0 < depth) where
    above : minimax_at set t node depth ply ≡ of_draw (is_draw t node) set t node ply (moves (depth - 1))
    unfolding of_depth
    above = minimax-eq depth ∙ rw (ne_eqb depth 0 (λ z. omega arith))

    -- "draw 0"
    pub at_draw : is_draw t node ≡ true → minimax_at set t node depth ply ≡ pos 0
    unfolding of_draw
    at_draw e = above ∙ rw e

    -- "end of game as above": "No children: -INF + ply in check, else 0."

    pub at_mate : is_draw t node ≡ false → count_of t node ≡ 0 → in_check t node ≡ true → minimax_at set t node depth ply ≡ neg_ℤ set.inf +ℤ pos ply
    unfolding of_draw of_children end_of
    at_mate e c k = above ∙ rw (e, c, k)

    pub at_stalemate : is_draw t node ≡ false → count_of t node ≡ 0 → in_check t node ≡ false → minimax_at set t node depth ply ≡ pos 0
    unfolding of_draw of_children end_of
    at_stalemate e c k = above ∙ rw (e, c, k)

    -- "else the greatest negated child at depth - 1, ply + 1"
    pub at-moves
        : (m : ℕ) → is_draw t node ≡ false → count_of t node ≡ suc m
        → minimax_at set t node depth ply ≡ greatest none (moves (depth - 1)) (neg_ℤ (moves (depth - 1) 0)) m 1
    unfolding of_draw of_children
    at-moves m e c = above ∙ rw (e, c)
