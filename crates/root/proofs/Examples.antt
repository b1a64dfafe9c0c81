-- 01's worked entries of the root search, computed from its definition: all switches off, no table words, no history entries.
-- Assumes nothing.
use mathlib.Core.Path.{◌≡◌, refl}
use mathlib.Core.Bool.{false}
use mathlib.Core.List.{List, []}
use Prim.Native.Nat.{ℕ}
use lib.IntN.{pos}
use Rattle.score.specs.Wrap.{wrap16, neg16, add16, sub16, eq_z}
use Rattle.table.specs.declared.Stats.{Stats}
use Rattle.table.specs.Stats.{reset_of}
use Rattle.history.specs.Entries.{clear_of}
use Rattle.record.specs.Bytes.{le}
use Rattle.record.specs.Node.{record_at, first_of, count_of, flags_of, eval_of, move_of, hash_of, in_check, is_quiet, is_draw}
use Rattle.tree.specs.Blocks.{nodes_of}
use Rattle.tree.proofs.Examples.{mate, quiet}
use Rattle.state.specs.declared.Settings.{Settings}
use Rattle.state.specs.State.{poll_of, count_node, seen_of, keep_of}
use Rattle.state.specs.Consult.{consult_of}
use Rattle.moves.specs.Order.{scan, place_of, order_at, child_of}
use Rattle.capture_steps.specs.Step as step
use Rattle.captures.specs.Captures as captures
use Rattle.enter.specs.Enter.{hint_place}
use Rattle.enter.specs.Enter as enter
use Rattle.turn.specs.Window.{again_of, inside_of, beta_if, raise_if, judge_of}
use Rattle.turn.specs.Prune.{futile_of, late_of, reduction_if}
use Rattle.leave.specs.Cutoff.{cutoff_of}
use Rattle.leave.specs.Finish.{game_end, stored_of, end_if, finish_if}
use Rattle.visits.specs.Search as search
use Rattle.root_steps.specs.declared.Depths.{Depths}
use Rattle.root_steps.specs.Step as root
use Rattle.root_steps.specs.Step.{fresh_stats, mate_of, mated_of, place_root, score_if, any_if, kept_of, stopped_if, first_if, saved_if}
use Rattle.root.specs.Root as rootF
use Rattle.root.specs.Root.{depth_f, over_if, mate_if, depths_f, root_search}

abbrev plain : Settings
plain =
    record {
      inf = pos 30000;
      max_ply = 128;
      hh_max = pos 16384;
      side = 0;
      limit = 1000000;
      table = false;
      delta = false;
      reverse_futility = false;
      futility = false;
      late_move = false;
      inner_deepening = false;
    }

abbrev none : Stats
none = record { age = 0; lookups = 0; inserts = 0; hits = 0; misses = 0; collisions = 0 }

abbrev pub searched : List ℕ → ℕ → Depths
searched t end = (root_search t plain none 1 end [] []).it

-- "Root whose one child is in check and childless, INF 30,000, depth 1: 29,999."
pub mate_one : (searched mate 2).best.score ≡ pos 29999
unfolding wrap16 neg16 sub16 add16 eq_z quiet le record_at first_of count_of flags_of eval_of move_of hash_of in_check is_quiet is_draw nodes_of poll_of count_node seen_of keep_of consult_of place_of order_at child_of hint_place step.beta_if step.pat_if step.delta_prunes step.delta_if step.ply_if step.cut_if step.patted step.stop_if step.enter_of step.noisy_if step.noisy_at step.noisy_place step.score_if step.raise_if step.judge_of step.bound_if step.store_if step.finish_if captures.turn_if captures.next_if captures.walk_f captures.entered_f captures.captures_f enter.extended enter.extend_of enter.full_window enter.margin_if enter.reverse_futile enter.reverse_if enter.cut_if enter.probe_of enter.draw_if enter.enter_of enter.deepens_of enter.hinted_of again_of inside_of beta_if raise_if judge_of futile_of late_of reduction_if cutoff_of stored_of end_if finish_if search.widen_if search.again_if search.reduced_f search.futile_if search.turn_if search.next_if search.walk_f search.deepen_if search.entered_f search.depth_if search.stop_if search.visit_f fresh_stats mate_of mated_of place_root root.raise_if root.judge_of score_if any_if kept_of stopped_if first_if saved_if rootF.stop_if rootF.walk_f depth_f over_if mate_if depths_f root_search scan game_end reset_of clear_of mate
mate_one = refl

-- "depth 1 gives 40, move 32, 2 nodes"
pub quiet_one : ((searched quiet 2).best ≡ record { score = pos 40; mv = 32; depth = 1 }) × ((searched quiet 2).state.nodes ≡ 2)
unfolding wrap16 neg16 sub16 add16 eq_z quiet le record_at first_of count_of flags_of eval_of move_of hash_of in_check is_quiet is_draw nodes_of poll_of count_node seen_of keep_of consult_of place_of order_at child_of hint_place step.beta_if step.pat_if step.delta_prunes step.delta_if step.ply_if step.cut_if step.patted step.stop_if step.enter_of step.noisy_if step.noisy_at step.noisy_place step.score_if step.raise_if step.judge_of step.bound_if step.store_if step.finish_if captures.turn_if captures.next_if captures.walk_f captures.entered_f captures.captures_f enter.extended enter.extend_of enter.full_window enter.margin_if enter.reverse_futile enter.reverse_if enter.cut_if enter.probe_of enter.draw_if enter.enter_of enter.deepens_of enter.hinted_of again_of inside_of beta_if raise_if judge_of futile_of late_of reduction_if cutoff_of stored_of end_if finish_if search.widen_if search.again_if search.reduced_f search.futile_if search.turn_if search.next_if search.walk_f search.deepen_if search.entered_f search.depth_if search.stop_if search.visit_f fresh_stats mate_of mated_of place_root root.raise_if root.judge_of score_if any_if kept_of stopped_if first_if saved_if rootF.stop_if rootF.walk_f depth_f over_if mate_if depths_f root_search scan game_end reset_of clear_of
quiet_one = (refl, refl)

-- "depths 1 and 2 give 0, move 32, 4 nodes"
pub quiet_two : ((searched quiet 3).best ≡ record { score = pos 0; mv = 32; depth = 2 }) × ((searched quiet 3).state.nodes ≡ 4)
unfolding wrap16 neg16 sub16 add16 eq_z quiet le record_at first_of count_of flags_of eval_of move_of hash_of in_check is_quiet is_draw nodes_of poll_of count_node seen_of keep_of consult_of place_of order_at child_of hint_place step.beta_if step.pat_if step.delta_prunes step.delta_if step.ply_if step.cut_if step.patted step.stop_if step.enter_of step.noisy_if step.noisy_at step.noisy_place step.score_if step.raise_if step.judge_of step.bound_if step.store_if step.finish_if captures.turn_if captures.next_if captures.walk_f captures.entered_f captures.captures_f enter.extended enter.extend_of enter.full_window enter.margin_if enter.reverse_futile enter.reverse_if enter.cut_if enter.probe_of enter.draw_if enter.enter_of enter.deepens_of enter.hinted_of again_of inside_of beta_if raise_if judge_of futile_of late_of reduction_if cutoff_of stored_of end_if finish_if search.widen_if search.again_if search.reduced_f search.futile_if search.turn_if search.next_if search.walk_f search.deepen_if search.entered_f search.depth_if search.stop_if search.visit_f fresh_stats mate_of mated_of place_root root.raise_if root.judge_of score_if any_if kept_of stopped_if first_if saved_if rootF.stop_if rootF.walk_f depth_f over_if mate_if depths_f root_search scan game_end reset_of clear_of
quiet_two = (refl, refl)
