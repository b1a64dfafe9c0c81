-- What holds where a search is not refused: what its layers below ask, and what demand 3 asks. Assumes nothing.
use mathlib.Core.Path.{◌≡◌}
use mathlib.Core.Bool.{true}
use mathlib.Core.List.{List}
use Prim.Native.Nat.{ℕ, ◌≤◌}
use native.Mathlib.Omega.{arith}
use lib.IntN.{ℤ, pos, nat_abs}
use lib.Signed.{le_z}
use Rattle.state.specs.declared.Settings.{Settings}
use Rattle.visits.specs.Reach.{Reach}
use Rattle.truth.specs.Demand3.{InRange, Windowed}
use Rattle.refusals.specs.Rows.{settings_right, node_right, window_right, depth_right, ply_right, range_right}
use Rattle.refusals.specs.First.{search_rows}
use Rattle.refusals.proofs.Meaning as meaning
use Rattle.desk.specs.declared.node_search.Start.{Start}
use Rattle.desk.specs.NodeEntry.{node_refusal, args_of}
use Rattle.desk.specs.RootEntry.{root_refusal}
use Rattle.desk.proofs.Searching.{from_one, from_start, size_least, size_most, root_right}
use Rattle.desk.proofs.Starting.{node_right_lem, start_tests, side_most}

-- a node search
module _ (t words : List ℕ) (history : List ℤ) (set : Settings) (at : Start) (none : node_refusal t words history set at ≡ 0) where
  pub node_rows_hold : search_rows t words history set ≡ 0
  node_rows_hold = (node_right_lem t words history set at none).0

  pub settings_hold : settings_right set ≡ true
  settings_hold = meaning.search_settings_right t words history set node_rows_hold

  tests : (node_right t at.node ≡ true) × (window_right set.inf at.alpha at.beta ≡ true) × (depth_right at.depth ≡ true) ×
      (ply_right set.max_ply at.ply ≡ true)
  tests = start_tests t set at (node_right_lem t words history set at none).2

  pub depth_zero : le_z (pos 0) at.depth ≡ true
  depth_zero = meaning.depth_least at.depth tests.2

  pub start_reach : Reach t (args_of t set at)
  start_reach =
      record {
        in_tree = meaning.node_in t at.node tests.0;
        side_most = side_most t set at.node (meaning.set_side_most set settings_hold);
        depth_most = size_most at.depth 30 depth_zero (meaning.depth_most at.depth tests.2);
        ply_most = omega (arith, meaning.ply_most set.max_ply at.ply tests.3, meaning.set_max_ply_most set settings_hold);
      }

  pub in_range : InRange set
  in_range =
      record {
        inf_least = meaning.set_inf_least set settings_hold;
        inf_most = meaning.set_inf_most set settings_hold;
        ply_least = meaning.set_max_ply_least set settings_hold;
        ply_most = meaning.set_max_ply_most set settings_hold;
      }

  pub windowed : Windowed set.inf at.alpha at.beta
  windowed =
      record {
        alpha_least = meaning.window_low set.inf at.alpha at.beta tests.1;
        order = meaning.window_open set.inf at.alpha at.beta tests.1;
        beta_most = meaning.window_high set.inf at.alpha at.beta tests.1;
      }

-- a root search
module _ (t words : List ℕ) (history : List ℤ) (set : Settings) (start end : ℤ) (none : root_refusal t words history set start end ≡ 0) where
  pub root_rows_hold : search_rows t words history set ≡ 0
  root_rows_hold = (root_right t words history set start end none).0

  range : range_right start end ≡ true
  range = (root_right t words history set start end none).1

  start_from : le_z (pos 1) start ≡ true
  start_from = meaning.start_least start end range

  pub start_zero : le_z (pos 0) start ≡ true
  start_zero = from_one start start_from

  pub end_zero : le_z (pos 0) end ≡ true
  end_zero = from_start start end start_from (meaning.start_end start end range)

  pub side_bound : set.side ≤ 1
  side_bound = meaning.set_side_most set (meaning.search_settings_right t words history set root_rows_hold)

  pub start_bound : 1 ≤ nat_abs start
  start_bound = size_least start start_from

  pub end_bound : nat_abs end ≤ 31
  end_bound = size_most end 31 end_zero (meaning.end_most start end range)
