-- Which refusal a node search gets, and what is asked of the layers below where it gets none. Assumes nothing.
use mathlib.Core.Path.{◌≡◌, refl, sym, ap, ◌∙◌}
use mathlib.Core.Bool.{true}
use mathlib.Core.List.{List}
use Prim.Native.Nat.{ℕ, zero, suc, ◌≤◌}
use native.Mathlib.Omega.{arith}
use lib.IntN.{ℤ}
use Rattle.table.specs.declared.Stats.{Stats}
use Rattle.state.specs.declared.Settings.{Settings}
use Rattle.state.specs.declared.Out.{Out}
use Rattle.carry.specs.Carry.{With, with}
use Rattle.visits.specs.Search.{node_search}
use Rattle.refusals.specs.Rows.{history_right, node_right, window_right, depth_right, ply_right}
use Rattle.refusals.specs.First.{search_rows}
use Rattle.desk.specs.declared.node_search.Start.{Start}
use Rattle.desk.specs.NodeEntry.{start_right, node_refusal, side_at, fresh, args_of, node_given, node_answer, node_entry}
use Rattle.results.specs.Told.{node_refused}

pub start_tests : (t : List ℕ) (set : Settings) (at : Start) → start_right t set at ≡ true → (node_right t at.node ≡ true) × (window_right set.inf at.alpha at.beta ≡ true) × (depth_right at.depth ≡ true) × (ply_right set.max_ply at.ply ≡ true)
unfolding start_right
start_tests = grind arith

module _ (t words : List ℕ) (history : List ℤ) (set : Settings) (at : Start) where
  pub node_right_lem : node_refusal t words history set at ≡ 0 → (search_rows t words history set ≡ 0) × (history_right set.hh_max history ≡ true) × (start_right t set at ≡ true)
  unfolding node_refusal
  node_right_lem = grind arith

  -- the answer where a refusal is given
  refused : (c : Stats) (n : ℕ) → (n ≡ 0 → ⊥) → with (node_refused n c) words history ≡ node_answer n t set c at words history
  unfolding node_answer
  refused c zero h = absurd (h refl)
  refused c (suc n) h = refl

  pub node_refused_lem
      : (c : Stats) (n : ℕ) → n ≡ node_refusal t words history set at → (n ≡ 0 → ⊥)
      → with (node_refused n c) words history ≡ node_entry t set c at words history
  node_refused_lem c n e h = refused c n h ∙ ap (λ (m : ℕ). node_answer m t set c at words history) e

  -- the answer where none is given
  pub node_given_lem
      : (c : Stats) → node_refusal t words history set at ≡ 0 → (o : With Out) → o ≡ node_search t set (fresh c) words history (args_of t set at)
      → node_given o ≡ node_entry t set c at words history
  unfolding node_answer
  node_given_lem c z o eo = ap node_given eo ∙ sym (ap (λ (m : ℕ). node_answer m t set c at words history) z)

-- the side to move
module _ (t : List ℕ) (set : Settings) (node : ℕ) where
  pub side_most : set.side ≤ 1 → side_at t set node ≤ 1
  unfolding side_at
  side_most = grind arith
