-- Demand 3 at work on 01's quiet tree at depth 1, whose minimax is 40: its hypotheses can be met, and each of its three cases occurs. By computation.
-- Assumes nothing.
use mathlib.Core.Path.{◌≡◌, refl, subst}
use mathlib.Core.Bool.{true, false}
use mathlib.Core.List.{[]}
use Prim.Native.Nat.{◌<◌}
use native.Mathlib.Omega.{arith}
use lib.IntN.{ℤ, pos, neg_ℤ}
use lib.Signed.{le_z}
use Rattle.score.specs.Wrap.{wrap16, neg16, add16, sub16, eq_z}
use Rattle.record.specs.Bytes.{le}
use Rattle.record.specs.Node.{record_at, first_of, count_of, flags_of, eval_of, move_of, hash_of, in_check, is_quiet, is_draw}
use Rattle.tree.specs.Blocks.{nodes_of}
use Rattle.tree.proofs.Examples.{quiet, quiet_accepted}
use Rattle.state.specs.declared.State.{State}
use Rattle.state.specs.State.{poll_of, count_node, seen_of, keep_of}
use Rattle.state.specs.Consult.{consult_of}
use Rattle.moves.specs.Order.{place_of, order_at, child_of}
use Rattle.capture_steps.specs.Step as step
use Rattle.captures.specs.Captures as captures
use Rattle.carry.specs.declared.Args.{Args}
use Rattle.enter.specs.Enter.{hint_place}
use Rattle.enter.specs.Enter as enter
use Rattle.turn.specs.Window.{again_of, inside_of, beta_if, raise_if, judge_of}
use Rattle.turn.specs.Prune.{futile_of, late_of, reduction_if}
use Rattle.leave.specs.Cutoff.{cutoff_of}
use Rattle.leave.specs.Finish.{stored_of, end_if, finish_if}
use Rattle.visits.specs.Reach.{Reach, need}
use Rattle.visits.specs.Search as search
use Rattle.visits.specs.Search.{visit_f}
use Rattle.minimax.specs.Minimax.{minimax}
use Rattle.minimax.proofs.Examples.{plain}
use Rattle.truth.specs.Demand3.{Tells3, Plain, InRange, Windowed}
use Rattle.truth.proofs.Demand3.{demand3}

-- a search that begins
abbrev pub start : State
start = record { nodes = 0; stop = false; stats = record { age = 0; lookups = 0; inserts = 0; hits = 0; misses = 0; collisions = 0 } }

-- the root at depth 1
abbrev pub root : ℤ → ℤ → Args
root alpha beta = record { node = 0; side = 0; alpha = alpha; beta = beta; depth = 1; ply = 0 }

-- the hypotheses

plain_plain : Plain plain
plain_plain = record { table = refl; delta = refl; reverse_futility = refl; futility = refl; late_move = refl; inner_deepening = refl }

plain_range : InRange plain
plain_range = record { inf_least = refl; inf_most = refl; ply_least = omega arith; ply_most = omega arith }

quiet_nodes : nodes_of quiet ≡ 3
unfolding nodes_of quiet le
quiet_nodes = refl

root_reach : (alpha beta : ℤ) → Reach quiet (root alpha beta)
root_reach alpha beta =
    record { in_tree = omega (arith, quiet_nodes); side_most = omega arith; depth_most = omega arith; ply_most = omega arith }

fuel : need quiet 0 1 < 1000
fuel = omega (arith, quiet_nodes)

-- what the visit in a window answers, the stop mark unset
pub record Answers (alpha beta score : ℤ) : Type 0 where
  pub score_is : (visit_f 1000 quiet plain start [] [] (root alpha beta)).it.score ≡ score
  pub no_stop : (visit_f 1000 quiet plain start [] [] (root alpha beta)).it.state.stop ≡ false

-- the three cases: in the whole window, in one above the value, and in one below it

abbrev pub Three : Type 0
Three = Answers (neg_ℤ (pos 30000)) (pos 30000) (pos 40) × Answers (pos 50) (pos 100) (pos 50) × Answers (pos 0) (pos 20) (pos 20)

pub three : Three
unfolding wrap16 neg16 sub16 add16 eq_z quiet le record_at first_of count_of flags_of eval_of move_of hash_of in_check is_quiet is_draw nodes_of poll_of count_node seen_of keep_of consult_of place_of order_at child_of hint_place step.beta_if step.pat_if step.delta_prunes step.delta_if step.ply_if step.cut_if step.patted step.stop_if step.enter_of step.noisy_if step.noisy_at step.noisy_place step.score_if step.raise_if step.judge_of step.bound_if step.store_if step.finish_if captures.turn_if captures.next_if captures.walk_f captures.entered_f captures.captures_f enter.extended enter.extend_of enter.full_window enter.margin_if enter.reverse_futile enter.reverse_if enter.cut_if enter.probe_of enter.draw_if enter.enter_of enter.deepens_of enter.hinted_of again_of inside_of beta_if raise_if judge_of futile_of late_of reduction_if cutoff_of stored_of end_if finish_if search.widen_if search.again_if search.reduced_f search.futile_if search.turn_if search.next_if search.walk_f search.deepen_if search.entered_f search.depth_if search.stop_if search.visit_f
three = (record { score_is = refl; no_stop = refl }, record { score_is = refl; no_stop = refl }, record { score_is = refl; no_stop = refl })

-- the theorem, for a score that a window of this tree answers
told : (alpha beta score : ℤ) → Windowed (pos 30000) alpha beta → Answers alpha beta score → Tells3 alpha beta score (minimax plain quiet 0 1 0)
told alpha beta score w a =
    subst (λ (x : ℤ). Tells3 alpha beta x (minimax plain quiet 0 1 0)) a.score_is
    (demand3 plain quiet plain_plain plain_range quiet_accepted (root alpha beta) (root_reach alpha beta) w 1000 start [] [] fuel a.no_stop)

-- strictly inside, the score is the value
pub inside_case : pos 40 ≡ minimax plain quiet 0 1 0
inside_case = (told (neg_ℤ (pos 30000)) (pos 30000) (pos 40) (record { alpha_least = refl; order = refl; beta_most = refl }) three.0).inside refl refl

-- 50, at alpha, is at least the value
pub low_case : le_z (minimax plain quiet 0 1 0) (pos 50) ≡ true
low_case = (told (pos 50) (pos 100) (pos 50) (record { alpha_least = refl; order = refl; beta_most = refl }) three.1).low refl

-- 20, at beta, is at most the value
pub high_case : le_z (pos 20) (minimax plain quiet 0 1 0) ≡ true
high_case = (told (pos 0) (pos 20) (pos 20) (record { alpha_least = refl; order = refl; beta_most = refl }) three.2).high refl
