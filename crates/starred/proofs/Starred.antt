-- The starred lines hold, each by the example of its crate or by computation. Assumes nothing.
use mathlib.Core.Path.{◌≡◌, refl, ap, ◌∙◌}
use mathlib.Core.Bool.{true, false}
use Prim.Native.Nat.{ℕ}
use lib.IntN.{ℤ, pos}
use lib.Signed.{le_z}
use Rattle.score.specs.Wrap.{wrap16, neg16, add16, sub16, eq_z}
use Rattle.transposition.specs.Word.{bound_of, data_word, entry_of}
use Rattle.transposition.proofs.Examples.{example_words, example_read}
use Rattle.table.specs.Slot.{slot_of, find_of, replaces, put}
use Rattle.table.specs.Stats.{looked, inserted, zeroed, next_age, reset_of}
use Rattle.table.specs.Table.{table_of, new_entry, lookup_of, store_if, store_of, clear_of, sized_to}
use Rattle.table.specs.declared.Stats.{Stats}
use Rattle.table.proofs.Keep.{store_keeps, store_puts}
use Rattle.table.proofs.Cleared.{after_clear, clear_length}
use Rattle.history.specs.Entries as entries
use Rattle.history.proofs.Examples.{deltas, gravities}
use Rattle.clock.specs.Ticks as ticks
use Rattle.clock.proofs.Examples.{clock_line}
use Rattle.record.specs.Bytes.{le}
use Rattle.record.specs.Node.{record_at, first_of, count_of, flags_of, eval_of, move_of, hash_of, in_check, is_quiet, is_draw}
use Rattle.tree.specs.Blocks.{nodes_of}
use Rattle.tree.proofs.Examples.{mate, mate_accepted, quiet, quiet_accepted}
use Rattle.state.specs.State.{poll_of, count_node, seen_of, keep_of}
use Rattle.state.specs.Consult.{by_bound, use_if, consult_of}
use Rattle.moves.specs.Order.{scan, place_of, order_at, child_of}
use Rattle.capture_steps.specs.Step as step
use Rattle.captures.specs.Captures as captures
use Rattle.enter.specs.Enter.{hint_place}
use Rattle.enter.specs.Enter as enter
use Rattle.leave.specs.Finish.{game_end, end_if, finish_if}
use Rattle.visits.specs.Search as search
use Rattle.root_steps.specs.Step as root
use Rattle.root_steps.specs.Step.{fresh_stats, mate_of, mated_of, place_root, score_if, kept_of, stopped_if, first_if, saved_if}
use Rattle.root.specs.Root as rootF
use Rattle.root.specs.Root.{depth_f, over_if, mate_if, depths_f, root_search}
use Rattle.minimax.proofs.Examples.{mate_one, quiet_one, quiet_two}
use Rattle.refusals.specs.Rows.{range_right}
use Rattle.starred.specs.Searched.{all_on}
use Rattle.starred.specs.Starred.{Leaves, Stores, Starred}
use Rattle.starred.proofs.Switching.{everywhere, is_given}
use Rattle.starred.proofs.Searching.{entered, at_all}

-- a reset looks at the age alone
reset_at : (s : Stats) (age : ℕ) → s.age ≡ age → reset_of s ≡ zeroed (next_age age)
unfolding reset_of
reset_at s age e = ap (λ (a : ℕ). zeroed (next_age a)) e

-- a depth below 0 changes nothing in a cleared table, another is stored
keeps : (depth : ℤ) → le_z (pos 0) depth ≡ false → Leaves depth
keeps depth below words hash mv score bound long =
    store_keeps (clear_of words).words (clear_of words).stats hash depth score mv bound (after_clear words hash depth long ∙ below)

puts : (depth : ℤ) → le_z (pos 0) depth ≡ true → Stores depth
unfolding clear_of
puts depth from words hash mv score bound long =
    store_puts (clear_of words).words (clear_of words).stats hash depth score mv bound (after_clear words hash depth long ∙ from)
    ∙ ap (λ (n : ℕ). table_of (put (clear_of words).words (slot_of n hash) hash (new_entry (zeroed 0) depth score mv bound)) (inserted (zeroed 0))) (clear_length words)

pub starred : Starred
unfolding next_age ticks.new_of ticks.start_of ticks.poll_of poll_of le record_at count_of flags_of eval_of move_of hash_of in_check is_quiet nodes_of wrap16 neg16 sub16 add16 eq_z first_of is_draw count_node seen_of keep_of consult_of place_of order_at child_of hint_place step.pat_if step.delta_prunes step.delta_if step.ply_if step.cut_if step.beta_if step.patted step.stop_if step.enter_of step.bound_if step.store_if step.finish_if captures.walk_f captures.entered_f captures.captures_f enter.extended enter.extend_of enter.full_window enter.reverse_futile enter.reverse_if enter.cut_if enter.probe_of enter.draw_if enter.enter_of enter.deepens_of enter.hinted_of end_if finish_if search.walk_f search.deepen_if search.entered_f search.depth_if search.stop_if search.visit_f fresh_stats mate_of mated_of place_root root.raise_if root.judge_of score_if root.any_if kept_of stopped_if first_if saved_if rootF.stop_if rootF.walk_f depth_f over_if mate_if depths_f root_search scan game_end reset_of entries.clear_of bound_of data_word entry_of slot_of replaces find_of looked inserted lookup_of store_if store_of by_bound use_if sized_to range_right everywhere is_given mate quiet
starred =
    record {
      data_word_lem = example_words.0;
      hash_word_lem = example_words.1;
      read_back = example_read;
      not_stored = keeps _ refl;
      stored = puts _ refl;
      age253 = λ s. reset_at s 253;
      age254 = λ s. reset_at s 254;
      age255 = λ s. reset_at s 255;
      delta1 = deltas.at1;
      delta2 = deltas.at2;
      delta3 = deltas.at3;
      delta12 = deltas.at12;
      delta13 = deltas.at13;
      delta_below = deltas.below;
      old_below = gravities.below;
      old_inside = gravities.inside;
      old_edge = gravities.edge;
      ply1 = clock_line.ply1;
      ply80 = clock_line.ply80;
      ply81 = clock_line.ply81;
      allocated = clock_line.allocated;
      goes_on = clock_line.goes_on;
      stops = clock_line.stops;
      no_look = clock_line.no_look;
      look = clock_line.look;
      no_look_again = refl;
      look_again = refl;
      mate_nodes = refl;
      mate_root = refl;
      mate_child = refl;
      mate_depth1 = at_all mate 1 2 mate_accepted refl refl _ _ _ _ refl;
      mate_value = mate_one;
      quiet_nodes = refl;
      quiet_root = refl;
      quiet_child1 = refl;
      quiet_child2 = refl;
      quiet_depth1 = at_all quiet 1 2 quiet_accepted refl refl _ _ _ _ refl;
      quiet_depth2 = at_all quiet 1 3 quiet_accepted refl refl _ _ _ _ refl;
      quiet_value1 = quiet_one;
      quiet_value2 = quiet_two;
      printed = entered quiet 4096 31 quiet_accepted refl refl all_on;
    }
