-- The cycle of the captures search (captures, walk, turn) meets its contracts. The measure of a call is the nodes that remain, then a number for
-- the function. Each answer cites the laws of Walks. Assumes nothing.
use Prim.Native.Nat.{◌-◌, ◌<◌}
use mathlib.Core.Path.{sym, ap, ap₂, subst, ◌∙◌}
use native.Mathlib.Omega.{arith}
use Rattle.state.specs.State.{over}
use Rattle.record.specs.Node.{count_of}
use Rattle.moves.specs.Kid.{Kid}
use Rattle.moves.proofs.Kids.{level_low}
use Rattle.capture_steps.specs.Step.{Turn}
use Rattle.captures.specs.Reach.{Reach}
use Rattle.captures.specs.Captures.{turn_f, walk_f, captures_f}
use Rattle.captures.proofs.Walks.{turn_noisy, walk_next, walk_cut, walk_over, visit_answer, visit_moves}
use Rattle.captures.proofs.Walks.{Stays, enter_stays, walk_reach, kid_at, kid_reach}
use Rattle.captures.proofs.+capture_visit.Goals as goal

pub captures-enter-requires-clause-below_bound : goal.captures-enter-requires-clause-below_bound
captures-enter-requires-clause-below_bound t c =
    omega (arith, c.requires.reach.below_least, level_low c.args.set c.args.tree.now c.requires.accepted_by c.args.a.node)

pub captures-walk-w-requires : goal.captures-walk-w-requires
captures-walk-w-requires t c =
    let e = sym c.in-Continue.is ∙ c.enter.ensures in
    let stays : Stays c.args.a c.in-Continue.here = enter_stays c.args.set c.args.tree.now c.args.words.now c.args.st c.args.a _ _ e in (
      omega (arith, c.decreases, stays.0),
      (
        c.requires.accepted_by,
        (walk_reach c.args.set c.args.tree.now c.args.words.now c.args.st c.args.a _ _ e c.requires.reach, c.requires.in_bounds),
      ),
    )

pub captures-finish-requires-clause-node_bound : goal.captures-finish-requires-clause-node_bound
captures-finish-requires-clause-node_bound t c =
    (walk_reach c.args.set c.args.tree.now c.args.words.now c.args.st c.args.a _ _ (sym c.in-Continue.is ∙ c.enter.ensures) c.requires.reach).in_tree

pub captures-finish-requires-clause-in_bounds : goal.captures-finish-requires-clause-in_bounds
captures-finish-requires-clause-in_bounds t c =
    let r = walk_reach c.args.set c.args.tree.now c.args.words.now c.args.st c.args.a _ _ (sym c.in-Continue.is ∙ c.enter.ensures) c.requires.reach in (
      omega (arith, c.walk-w.auto.words, c.requires.in_bounds),
      omega (arith, r.below_least, level_low c.args.set c.args.tree.now c.requires.accepted_by c.in-Continue.here.node),
    )

pub captures-returns-in-Break : goal.captures-returns-in-Break
captures-returns-in-Break t c = λ k h. visit_answer k _ c.args.set c.args.tree.now c.args.st c.args.words.now c.args.a h _ c.enter.ensures _ c.in-Break.is

pub captures-returns-in-Continue : goal.captures-returns-in-Continue
captures-returns-in-Continue t c =
    let e = sym c.in-Continue.is ∙ c.enter.ensures in
    let stays : Stays c.args.a c.in-Continue.here = enter_stays c.args.set c.args.tree.now c.args.words.now c.args.st c.args.a _ _ e in
    λ k h. c.finish.ensures
    ∙ visit_moves k _ c.args.set c.args.tree.now c.args.st c.args.words.now c.args.a h _ c.enter.ensures _ _ c.in-Continue.is _
    (c.walk-w.ensures (k - 1) (omega (arith, h, stays.0)))

pub turn-down-requires-clause-below_bound : goal.turn-down-requires-clause-below_bound
turn-down-requires-clause-below_bound t c =
    omega (arith, c.requires.reach.below_least, level_low c.args.set c.args.tree.now c.requires.accepted_by c.args.c)

pub turn-down-requires-clause-ply_bound : goal.turn-down-requires-clause-ply_bound
turn-down-requires-clause-ply_bound t c =
    omega (arith, c.requires.reach.ply_least, level_low c.args.set c.args.tree.now c.requires.accepted_by c.args.c)

pub turn-captures-r-requires : goal.turn-captures-r-requires
turn-captures-r-requires t c =
    let reach = subst (λ x. Reach c.args.tree.now x.node x.below x.ply) (sym c.down.ensures) c.requires.reach in (
      omega (arith, c.decreases, c.requires.node_bound, c.requires.node_lt_c, c.requires.reach.in_tree, ap (λ x. x.node) c.down.ensures),
      (c.requires.accepted_by, (reach, c.requires.in_bounds)),
    )

pub turn-judge-requires-clause-in_bounds : goal.turn-judge-requires-clause-in_bounds
turn-judge-requires-clause-in_bounds t c =
    let low = level_low c.args.set c.args.tree.now c.requires.accepted_by c.args.c in
    (omega (arith, c.captures-r.auto.words, c.requires.in_bounds), omega (arith, c.requires.reach.below_least, low))

pub turn-returns : goal.turn-returns
turn-returns t c =
    let set = c.args.set in
    let tree = c.args.tree.now in
    let words = c.args.words.now in
    λ k h. c.judge.ensures
    ∙ turn_noisy (captures_f k set tree) set tree c.args.here c.args.loc c.args.c words (sym c.is_quiet.ensures ∙ c.if-is_quiet.false) _
    (c.captures-r.ensures k (omega (arith, h, c.requires.node_bound, c.requires.node_lt_c, c.requires.reach.in_tree, ap (λ x. x.node) c.down.ensures))
    ∙ ap₂ (λ x y. captures_f k set tree x words y) c.counted-st.ensures c.down.ensures)

pub walk-child-c-requires-clause-i_bound : goal.walk-child-c-requires-clause-i_bound
walk-child-c-requires-clause-i_bound t c =
    (kid_at c.args.set c.args.tree.now c.requires.accepted_by c.args.here c.args.loc _ c.noisy_place-place.ensures c.requires.reach.in_tree c.loop-i.i
    (omega (arith, c.loop-i-test.true, c.child_count-n.ensures))).in_tree

pub walk-turn-requires : goal.walk-turn-requires
walk-turn-requires t c =
    let tree = c.args.tree.now in
    let here = c.args.here in
    let r = c.requires.reach in
    let lt : c.loop-i.i < count_of tree here.node = omega (arith, c.loop-i-test.true, c.child_count-n.ensures) in
    let g = subst (Kid tree here.node) (sym c.child-c.ensures)
    (kid_at c.args.set tree c.requires.accepted_by here c.args.loc _ c.noisy_place-place.ensures r.in_tree c.loop-i.i lt) in
    let reach = kid_reach tree here.node c.child-c.result here.below here.ply g r in
    (omega (arith, c.decreases), (c.requires.accepted_by, (r.in_tree, (g.above, (reach, omega (arith, c.loop-i.invariant.0, c.requires.in_bounds))))))

pub walk-returns-in_err-l : goal.walk-returns-in_err-l
walk-returns-in_err-l t c =
    let set = c.args.set in
    let tree = c.args.tree.now in
    let here = c.args.here in
    let place = c.noisy_place-place.result in
    λ j h. ap (λ (x : Turn). over x c.turn.new.words) c.from_residual.ensures
    ∙ sym (walk_cut (captures_f j set tree) set tree here place c.child_count-n.result c.loop-i.i c.loop-i.l c.loop-i.words _ _ c.loop-i-test.true
    (c.turn.ensures j h ∙ ap (λ x. turn_f (captures_f j set tree) set tree here c.loop-i.l x c.loop-i.words) c.child-c.ensures) c.in_err-l.was)
    ∙ c.loop-i.invariant.1 j h
    ∙ ap₂ (λ x y. walk_f (captures_f j set tree) set tree here x y 0 c.args.loc c.args.words.now) c.noisy_place-place.ensures c.child_count-n.ensures

pub walk-loop-i-preserved : goal.walk-loop-i-preserved
walk-loop-i-preserved t c =
    let set = c.args.set in
    let tree = c.args.tree.now in
    let here = c.args.here in
    let place = c.noisy_place-place.result in (
      c.turn.auto.words ∙ c.loop-i.invariant.0,
      λ j h. sym
          (walk_next (captures_f j set tree) set tree here place c.child_count-n.result c.loop-i.i c.loop-i.l c.loop-i.words _ _ c.loop-i-test.true
          (c.turn.ensures j h ∙ ap (λ x. turn_f (captures_f j set tree) set tree here c.loop-i.l x c.loop-i.words) c.child-c.ensures) c.in_ok-l.was)
          ∙ c.loop-i.invariant.1 j h,
    )

pub walk-returns : goal.walk-returns
walk-returns t c =
    let set = c.args.set in
    let tree = c.args.tree.now in
    let here = c.args.here in
    let place = c.noisy_place-place.result in
    λ j h. sym (walk_over (captures_f j set tree) set tree here place c.child_count-n.result c.loop-i.i c.loop-i.l c.loop-i.words c.loop-i-test.false)
    ∙ c.loop-i.invariant.1 j h
    ∙ ap₂ (λ x y. walk_f (captures_f j set tree) set tree here x y 0 c.args.loc c.args.words.now) c.noisy_place-place.ensures c.child_count-n.ensures
