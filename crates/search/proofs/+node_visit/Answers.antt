-- The cycle of the node search (search_node, deepen, walk, turn, reduced, widened, visit) meets its contracts. The measure of a call is the nodes that
-- remain, then the depth, then a number for the function. Each answer cites the laws of Turns, Visits and Asked. `s` is a function's start, and p, q
-- earlier places. Assumes nothing.
use Prim.Native.Nat.{ℕ, ◌+◌, ◌-◌, ◌<◌, ◌≤◌}
use mathlib.Core.Path.{◌≡◌, sym, ap, ap₂, subst, ◌∙◌}
use native.Mathlib.Omega.{arith}
use Rattle.tree.proofs.Accepted.{count_most}
use Rattle.state.specs.declared.Out.{Out}
use Rattle.state.specs.declared.State.{State}
use Rattle.record.specs.Node.{count_of}
use Rattle.moves.specs.Kid.{Kid}
use Rattle.moves.specs.Order.{child_of}
use Rattle.moves.proofs.Kids.{blocked, level_low}
use Rattle.captures.specs.Reach as captures
use Rattle.captures.specs.Captures.{captures_f}
use Rattle.capture_steps.specs.declared.Capture.{Capture}
use Rattle.carry.specs.declared.Args.{Args}
use Rattle.carry.specs.declared.Loc.{Loc}
use Rattle.carry.specs.Carry.{Turn, with, beside}
use Rattle.leave.specs.Cutoff.{cutoff_of}
use Rattle.turn.specs.Window.{judge_of}
use Rattle.visits.specs.Reach.{Reach, Inside, need}
use Rattle.visits.specs.Search.{visit_f, deepen_f, walk_f, turn_f, cut_of}
use Rattle.visits.proofs.Turns.{widen_yes, reduced_again, reduced_once, turn_first, turn_reduced, walk_next, walk_cut, walk_over}
use Rattle.visits.proofs.Visits.{deepen_yes, deepen_no, visit_stop, visit_captures, visit_answer, visit_moves}
use Rattle.visits.proofs.Asked.{Same, Stays, still_ready, same_after, most_after, enter_stays, inside, to_captures, deep_enough, to_inner, to_full, to_null, kid_at, reduction_most}
use Rattle.search.proofs.+node_visit.Goals as goal
use Rattle.search.proofs.+node_visit.Goals.{search_node-then-deepens, search_node-else-deepens}

pub deepen-inner-requires : goal.deepen-inner-requires
deepen-inner-requires t c =
    let d = deep_enough c.args.set c.args.here c.args.loc c.requires.due in
    omega arith

pub deepen-search_node-r-requires : goal.deepen-search_node-r-requires
deepen-search_node-r-requires t c =
    let set = c.args.set in
    let here = c.args.here in
    let loc = c.args.loc in
    let tree = c.args.tree.now in
    let d = deep_enough set here loc c.requires.due in
    let e = c.inner.ensures in
    let en : c.inner.result.node ≡ here.node = ap (λ (x : Args). x.node) e in
    let ed : c.inner.result.depth ≡ here.depth - 2 = ap (λ (x : Args). x.depth) e in
    (omega (arith, c.decreases), (c.requires.ready, subst (Reach tree) (sym e) (to_inner tree here loc c.requires.inside)))

pub deepen-returns : goal.deepen-returns
deepen-returns t c =
    let set = c.args.set in
    let here = c.args.here in
    let loc = c.args.loc in
    let tree = c.args.tree.now in
    let words = c.args.words.now in
    let history = c.args.history.now in
    let d = deep_enough set here loc c.requires.due in
    let e = c.inner.ensures in
    let en : c.inner.result.node ≡ here.node = ap (λ (x : Args). x.node) e in
    let ed : c.inner.result.depth ≡ here.depth - 2 = ap (λ (x : Args). x.depth) e in
    λ k h. ap (λ (x : Loc). with x c.search_node-r.new.words c.search_node-r.new.history) c.hinted.ensures
    ∙ deepen_yes (visit_f k tree set) tree set here loc words history c.requires.due _
    (c.search_node-r.ensures k (omega (arith, h)) ∙ ap (visit_f k tree set loc.state words history) e)

pub reduced-visit-r-requires : goal.reduced-visit-r-requires
reduced-visit-r-requires t c =
    let child = c.args.c in
    let here = c.args.here in
    let d = c.args.d in
    let tree = c.args.tree.now in
    let loc = c.args.loc in
    let i = c.requires.inside in
    let g = c.requires.kid in
    let e = c.null.ensures in
    let en : c.null.result.node ≡ child = ap (λ (x : Args). x.node) e in
    let ed : c.null.result.depth ≡ here.depth - 1 - d = ap (λ (x : Args). x.depth) e in
    (omega (arith, c.decreases, g.above, g.in_tree, i.depth_most), (c.requires.ready, subst (Reach tree) (sym e) (to_null tree here loc child i g d)))

pub reduced-visit-q-requires : goal.reduced-visit-q-requires
reduced-visit-q-requires t c =
    let child = c.args.c in
    let here = c.args.here in
    let set = c.args.set in
    let tree = c.args.tree.now in
    let kept = c.visit-r.auto in
    let i = c.requires.inside in
    let g = c.requires.kid in
    let e = c.null-then-again.ensures in
    let en : c.null-then-again.result.node ≡ child = ap (λ (x : Args). x.node) e in
    let ed : c.null-then-again.result.depth ≡ here.depth - 1 - 0 = ap (λ (x : Args). x.depth) e in
    let reach = subst (Reach tree) (sym e) (to_null tree here c.args.loc child i g 0) in
    (omega (arith, c.decreases, g.above, g.in_tree, i.depth_most), (still_ready set tree _ _ _ _ c.requires.ready kept.words kept.history, reach))

pub reduced-widened-requires : goal.reduced-widened-requires
reduced-widened-requires t c =
    let first = c.visit-r.auto in
    let again = c.visit-q.auto in
    let words = again.words ∙ first.words in
    let history = again.history ∙ first.history in
    let set = c.args.set in
    let tree = c.args.tree.now in
    (omega (arith, c.decreases), (still_ready set tree _ _ _ _ c.requires.ready words history, (c.requires.inside, c.requires.kid)))

pub reduced-returns-then-again : goal.reduced-returns-then-again
reduced-returns-then-again t c =
    let child = c.args.c in
    let here = c.args.here in
    let d = c.args.d in
    let tree = c.args.tree.now in
    let set = c.args.set in
    let loc = c.args.loc in
    let words = c.args.words.now in
    let history = c.args.history.now in
    let i = c.requires.inside in
    let g = c.requires.kid in
    let e = c.null.ensures in
    let en : c.null.result.node ≡ child = ap (λ (x : Args). x.node) e in
    let ed : c.null.result.depth ≡ here.depth - 1 - d = ap (λ (x : Args). x.depth) e in
    let e2 = c.null-then-again.ensures in
    let en2 : c.null-then-again.result.node ≡ child = ap (λ (x : Args). x.node) e2 in
    let ed2 : c.null-then-again.result.depth ≡ here.depth - 1 - 0 = ap (λ (x : Args). x.depth) e2 in
    λ k h. c.widened.ensures k h
    ∙ reduced_again (visit_f k tree set) here loc child d words history _
    (c.visit-r.ensures k (omega (arith, h, g.above, g.in_tree, i.depth_most))
    ∙ ap₂ (λ x y. visit_f k tree set x words history y) c.rebuilt-st.ensures e)
    (sym c.again.ensures ∙ c.if-again.true) _
    (c.visit-q.ensures k (omega (arith, h, g.above, g.in_tree, i.depth_most))
    ∙ ap (visit_f k tree set c.visit-r.result.state c.visit-r.new.words c.visit-r.new.history) e2)

pub reduced-widened-requires-2 : goal.reduced-widened-requires-2
reduced-widened-requires-2 t c =
    let kept = c.visit-r.auto in
    let set = c.args.set in
    let tree = c.args.tree.now in
    (omega (arith, c.decreases), (still_ready set tree _ _ _ _ c.requires.ready kept.words kept.history, (c.requires.inside, c.requires.kid)))

pub reduced-returns : goal.reduced-returns
reduced-returns t c =
    let child = c.args.c in
    let here = c.args.here in
    let d = c.args.d in
    let tree = c.args.tree.now in
    let set = c.args.set in
    let loc = c.args.loc in
    let words = c.args.words.now in
    let history = c.args.history.now in
    let i = c.requires.inside in
    let g = c.requires.kid in
    let e = c.null.ensures in
    let en : c.null.result.node ≡ child = ap (λ (x : Args). x.node) e in
    let ed : c.null.result.depth ≡ here.depth - 1 - d = ap (λ (x : Args). x.depth) e in
    λ k h. c.widened-2.ensures k h
    ∙ reduced_once (visit_f k tree set) here loc child d words history _
    (c.visit-r.ensures k (omega (arith, h, g.above, g.in_tree, i.depth_most))
    ∙ ap₂ (λ x y. visit_f k tree set x words history y) c.rebuilt-st.ensures e)
    (sym c.again.ensures ∙ c.if-again.false)

pub search_node-returns-then-stop : goal.search_node-returns-then-stop
search_node-returns-then-stop t c =
    let words = c.args.words.now in
    let history = c.args.history.now in
    let tree = c.args.tree.now in
    λ k h. ap (λ (x : Out). with x words history) c.answer.ensures
    ∙ visit_stop k _ tree c.args.set c.args.st c.poll-s.result words history c.args.a h c.poll-s.ensures c.if-stop.true

pub search_node-capture_of-requires : goal.search_node-capture_of-requires
search_node-capture_of-requires t c =
    let r = to_captures c.args.tree.now c.args.a c.extend-x.result c.extend-x.ensures c.requires.reach in
    omega (arith, r.ply_least, level_low c.args.set c.args.tree.now c.requires.ready.accepted c.extend-x.result.node)

pub search_node-captures-q-requires-clause-reach : goal.search_node-captures-q-requires-clause-reach
search_node-captures-q-requires-clause-reach t c =
    let tree = c.args.tree.now in
    let reach = to_captures tree c.args.a c.extend-x.result c.extend-x.ensures c.requires.reach in
    let asked = subst (λ (x : Capture). captures.Reach tree x.node x.below x.ply) (sym c.capture_of.ensures) reach in
    asked

pub search_node-returns-then-depth-eq0 : goal.search_node-returns-then-depth-eq0
search_node-returns-then-depth-eq0 t c =
    let a = c.args.a in
    let tree = c.args.tree.now in
    let set = c.args.set in
    let words = c.args.words.now in
    let history = c.args.history.now in
    let same = same_after tree a c.extend-x.result c.extend-x.ensures in
    let en : c.capture_of.result.node ≡ c.extend-x.result.node = ap (λ (x : Capture). x.node) c.capture_of.ensures in
    λ k h. visit_captures k _ tree set c.args.st c.poll-s.result words history a h c.poll-s.ensures c.if-stop.false
    c.extend-x.result c.extend-x.ensures c.if-depth-eq0.true _
    (c.captures-q.ensures k (omega (arith, h, same.0))
    ∙ ap₂ (λ (x : State) (y : Capture). captures_f k set tree x words y) c.rebuilt.ensures c.capture_of.ensures)

pub search_node-enter-e-requires-clause-node_bound : goal.search_node-enter-e-requires-clause-node_bound
search_node-enter-e-requires-clause-node_bound t c =
    let tree = c.args.tree.now in
    let same = same_after tree c.args.a c.extend-x.result c.extend-x.ensures in
    let r = c.requires.reach in
    omega (arith, r.in_tree, same.0)

pub search_node-enter-e-requires-clause-depth_bound : goal.search_node-enter-e-requires-clause-depth_bound
search_node-enter-e-requires-clause-depth_bound t c =
    let tree = c.args.tree.now in
    let most = most_after tree c.args.a c.extend-x.result c.extend-x.ensures in
    let r = c.requires.reach in
    omega (arith, r.depth_most, most)

pub search_node-deepen-l-requires : goal.search_node-deepen-l-requires
search_node-deepen-l-requires t c =
    let longer : Args = c.extend-x.result in
    let stays : Stays longer c.in-Continue.here = enter_stays c.args.set c.args.tree.now c.args.words.now
    c.poll-s.result longer _ _
    (sym c.in-Continue.is ∙ c.enter-e.ensures) in
    let longer-same : Same longer c.args.a = same_after c.args.tree.now c.args.a longer c.extend-x.ensures in
    let longer-most : longer.depth ≤ c.args.a.depth + 1 = most_after c.args.tree.now c.args.a longer c.extend-x.ensures in
    let here-inside : Inside c.args.tree.now c.in-Continue.here = inside c.args.tree.now c.args.a longer _ c.extend-x.ensures
    c.requires.reach c.if-depth-eq0.false stays in
    let g = stays in
    let same = longer-same in
    (omega (arith, c.decreases, g.0, same.0, g.1.1.0, longer-most), (c.requires.ready, (here-inside, sym c.deepens.ensures ∙ c.if-deepens.true)))

pub search_node-walk-w-requires : goal.search_node-walk-w-requires
search_node-walk-w-requires t c =
    let longer : Args = c.extend-x.result in
    let stays : Stays longer c.in-Continue.here = enter_stays c.args.set c.args.tree.now c.args.words.now
    c.poll-s.result longer _ _
    (sym c.in-Continue.is ∙ c.enter-e.ensures) in
    let longer-same : Same longer c.args.a = same_after c.args.tree.now c.args.a longer c.extend-x.ensures in
    let here-inside : Inside c.args.tree.now c.in-Continue.here = inside c.args.tree.now c.args.a longer _ c.extend-x.ensures
    c.requires.reach c.if-depth-eq0.false stays in
    let kept = c.if-deepens.auto in
    let g = stays in
    let same = longer-same in
    let set = c.args.set in
    let tree = c.args.tree.now in
    (omega (arith, c.decreases, g.0, same.0), (still_ready set tree _ _ _ _ c.requires.ready kept.words kept.history, here-inside))

pub search_node-finish-requires-clause-node_bound : goal.search_node-finish-requires-clause-node_bound
search_node-finish-requires-clause-node_bound t c =
    let longer : Args = c.extend-x.result in
    let stays : Stays longer c.in-Continue.here = enter_stays c.args.set c.args.tree.now c.args.words.now
    c.poll-s.result longer _ _
    (sym c.in-Continue.is ∙ c.enter-e.ensures) in
    let here-inside : Inside c.args.tree.now c.in-Continue.here = inside c.args.tree.now c.args.a longer _ c.extend-x.ensures
    c.requires.reach c.if-depth-eq0.false stays in
    let i = here-inside in
    i.in_tree

pub search_node-finish-requires-clause-in_bounds : goal.search_node-finish-requires-clause-in_bounds
search_node-finish-requires-clause-in_bounds t c =
    let longer : Args = c.extend-x.result in
    let stays : Stays longer c.in-Continue.here = enter_stays c.args.set c.args.tree.now c.args.words.now
    c.poll-s.result longer _ _
    (sym c.in-Continue.is ∙ c.enter-e.ensures) in
    let here-inside : Inside c.args.tree.now c.in-Continue.here = inside c.args.tree.now c.args.a longer _ c.extend-x.ensures
    c.requires.reach c.if-depth-eq0.false stays in
    let set = c.args.set in
    let tree = c.args.tree.now in
    let r = c.requires.ready in
    let i = here-inside in
    let low = level_low set tree r.accepted c.in-Continue.here.node in
    let kept = c.if-deepens.auto in
    let kept2 = c.walk-w.auto in
    (omega (arith, kept.words, kept2.words, r.words_least), (i.depth_most, omega (arith, i.ply_most, low)))

pub search_node-returns-in-Break : goal.search_node-returns-in-Break
search_node-returns-in-Break t c =
    λ k h. visit_answer k _ c.args.tree.now c.args.set c.args.st c.poll-s.result c.args.words.now c.args.history.now c.args.a
    h c.poll-s.ensures c.if-stop.false c.extend-x.result c.extend-x.ensures c.if-depth-eq0.false _
    c.enter-e.ensures _ c.in-Break.is

pub search_node-returns-after-deepens : goal.search_node-returns-after-deepens
search_node-returns-after-deepens t c =
    let longer : Args = c.extend-x.result in
    let set = c.args.set in
    let tree = c.args.tree.now in
    let words = c.args.words.now in
    let history = c.args.history.now in
    let here = c.in-Continue.here in
    let loc = c.in-Continue.loc in
    let stays : Stays longer here = enter_stays set tree words c.poll-s.result longer _ _ (sym c.in-Continue.is ∙ c.enter-e.ensures) in
    let longer-same : Same longer c.args.a = same_after tree c.args.a longer c.extend-x.ensures in
    let longer-most : longer.depth ≤ c.args.a.depth + 1 = most_after tree c.args.a longer c.extend-x.ensures in
    let joined = with c.if-deepens.l c.if-deepens.words c.if-deepens.history in
    let deepened : (k : ℕ) → need tree here.node here.depth ≤ k + 1 → joined ≡ deepen_f (visit_f k tree set) tree set here loc words history
    = λ k h. elim c.if-deepens.branch [
      | search_node-then-deepens w ↦ rw (w.l-is, w.words-is, w.history-is) (w.deepen-l.ensures k h)
      | search_node-else-deepens w ↦
          rw (w.l-is, w.words-is, w.history-is)
          (deepen_no (visit_f k tree set) tree set here loc words history (sym c.deepens.ensures ∙ w.if-deepens.false))
    ] in
    λ k h. ap (λ x. beside x c.walk-w.new.history) c.finish.ensures
    ∙ visit_moves k _ tree set c.args.st c.poll-s.result words history c.args.a
    h c.poll-s.ensures c.if-stop.false longer c.extend-x.ensures
    c.if-depth-eq0.false _ c.enter-e.ensures _ _ c.in-Continue.is
    joined (deepened (k - 1) (omega (arith, h, stays.0, longer-same.0, stays.1.1.0, longer-most)))
    (with c.walk-w.result c.walk-w.new.words c.walk-w.new.history) (c.walk-w.ensures (k - 1) (omega (arith, h, stays.0, longer-same.0)))

pub turn-search_node-r-requires : goal.turn-search_node-r-requires
turn-search_node-r-requires t c =
    let child = c.args.c in
    let here = c.args.here in
    let tree = c.args.tree.now in
    let i = c.requires.inside in
    let g = c.requires.kid in
    let e = c.full.ensures in
    let en : c.full.result.node ≡ child = ap (λ (x : Args). x.node) e in
    let ed : c.full.result.depth ≡ here.depth - 1 = ap (λ (x : Args). x.depth) e in
    (omega (arith, c.decreases, g.above, g.in_tree, i.depth_most), (c.requires.ready, subst (Reach tree) (sym e) (to_full tree here c.counted-l.result child i g)))

pub turn-returns-then-i-eq0 : goal.turn-returns-then-i-eq0
turn-returns-then-i-eq0 t c =
    let child = c.args.c in
    let here = c.args.here in
    let tree = c.args.tree.now in
    let set = c.args.set in
    let nth = c.args.i in
    let loc = c.args.loc in
    let words = c.args.words.now in
    let history = c.args.history.now in
    let i = c.requires.inside in
    let g = c.requires.kid in
    let e = c.full.ensures in
    let en : c.full.result.node ≡ child = ap (λ (x : Args). x.node) e in
    let ed : c.full.result.depth ≡ here.depth - 1 = ap (λ (x : Args). x.depth) e in
    λ k h. ap (λ (x : Turn). with x c.search_node-r.new.words c.search_node-r.new.history)
    (c.judge.ensures ∙ ap₂ (λ (x : Loc) (y : ℕ). judge_of here x y c.search_node-r.result) c.first.ensures c.move_to-mv.ensures)
    ∙ turn_first (visit_f k tree set) tree set here child nth loc c.counted-l.result words history c.counted-l.ensures c.if-i-eq0.true _
    (c.search_node-r.ensures k (omega (arith, h, g.above, g.in_tree, i.depth_most)) ∙ ap (visit_f k tree set c.counted-l.result.state words history) e)

pub turn-reduced-r-requires : goal.turn-reduced-r-requires
turn-reduced-r-requires t c =
    let tree = c.args.tree.now in
    let set = c.args.set in
    let here = c.args.here in
    let child = c.args.c in
    let nth = c.args.i in
    let i = c.requires.inside in
    let most = reduction_most tree set here child nth in
    (omega (arith, c.decreases), (c.requires.ready, (i, (c.requires.kid, omega (arith, c.reduction-d.ensures, most, i.depth_least)))))

pub turn-returns : goal.turn-returns
turn-returns t c =
    let here = c.args.here in
    let tree = c.args.tree.now in
    let set = c.args.set in
    let child = c.args.c in
    let nth = c.args.i in
    let loc = c.args.loc in
    let words = c.args.words.now in
    let history = c.args.history.now in
    λ k h. ap (λ (x : Turn). with x c.reduced-r.new.words c.reduced-r.new.history)
    (c.judge-2.ensures ∙ ap (λ (y : ℕ). judge_of here c.counted-l.result y c.reduced-r.result) c.move_to-mv.ensures)
    ∙ turn_reduced (visit_f k tree set) tree set here child nth loc c.counted-l.result words history
    c.counted-l.ensures c.if-i-eq0.false (sym c.futile.ensures ∙ c.if-futile.false) _ c.reduction-d.ensures _ (c.reduced-r.ensures k h)

pub walk-child-c-requires-clause-i_bound : goal.walk-child-c-requires-clause-i_bound
walk-child-c-requires-clause-i_bound t c =
    (kid_at c.args.set c.args.tree.now c.requires.ready.accepted c.args.here c.args.loc _ c.hint_place-place.ensures c.requires.inside.in_tree c.loop-i.i
    (omega (arith, c.loop-i-test.true, c.child_count-n.ensures))).in_tree

pub walk-turn-requires : goal.walk-turn-requires
walk-turn-requires t c =
    let set = c.args.set in
    let tree = c.args.tree.now in
    let here = c.args.here in
    let ok = c.requires.ready.accepted in
    let inv = c.loop-i.invariant in
    let lt : c.loop-i.i < count_of tree here.node = omega (arith, c.loop-i-test.true, c.child_count-n.ensures) in
    let g = subst (Kid tree here.node) (sym c.child-c.ensures)
    (kid_at set tree ok here c.args.loc _ c.hint_place-place.ensures c.requires.inside.in_tree c.loop-i.i lt) in
    let few : c.loop-i.i < 63 = omega (arith, lt, count_most set.inf set.max_ply tree ok here.node c.requires.inside.in_tree) in
    (omega (arith, c.decreases), (still_ready set tree _ _ _ _ c.requires.ready inv.0 inv.1.0, (c.requires.inside, (g, few))))

pub walk-cutoff-requires : goal.walk-cutoff-requires
walk-cutoff-requires t c =
    let tree = c.args.tree.now in
    let here = c.args.here in
    let kept = c.turn.auto in
    let inv = c.loop-i.invariant in
    let r = c.requires.ready in
    let i = c.requires.inside in
    let nth : (j : ℕ) → j < c.child_count-n.result → Kid tree here.node (child_of tree here.node c.hint_place-place.result j) = λ j lt. kid_at c.args.set tree r.accepted here c.args.loc _
    c.hint_place-place.ensures i.in_tree j (omega (arith, lt, c.child_count-n.ensures)) in
    let taken = c.loop-i-test.true in
    let g = subst (Kid tree here.node) (sym c.child-c.ensures) (nth c.loop-i.i taken) in
    record {
      blocked = blocked c.args.set tree r.accepted;
      node_bound = i.in_tree;
      c_bound = g.in_tree;
      by_index = λ j lt. (nth j (omega (arith, lt, taken))).in_tree;
      in_bounds = (omega (arith, kept.words, inv.0, r.words_least), (kept.history ∙ inv.1.0 ∙ r.history_length, (i.side_most, (i.depth_most, r.hh_above))));
    }

pub walk-returns-in-Break : goal.walk-returns-in-Break
walk-returns-in-Break t c =
    let tree = c.args.tree.now in
    let set = c.args.set in
    let here = c.args.here in
    let place = c.hint_place-place.result in
    let n = c.child_count-n.result in
    let words = c.args.words.now in
    let history = c.args.history.now in
    λ k h. ap cut_of c.cutoff.ensures
    ∙ ap₂ (λ x y. cut_of (cutoff_of tree set here place x c.loop-i.i y c.turn.new.words c.turn.new.history)) c.child-c.ensures c.goes_on-cut.ensures
    ∙ sym (walk_cut (visit_f k tree set) tree set here place n c.loop-i.i c.loop-i.l c.loop-i.words c.loop-i.history
    (with c.turn.result c.turn.new.words c.turn.new.history) c.loop-i-test.true
    (c.turn.ensures k h ∙ ap (λ x. turn_f (visit_f k tree set) tree set here x c.loop-i.i c.loop-i.l c.loop-i.words c.loop-i.history) c.child-c.ensures)
    _ c.in-Break.is)
    ∙ c.loop-i.invariant.1.1 k h
    ∙ ap (λ x. walk_f (visit_f k tree set) tree set here place n 0 x words history) c.goes_on-l.ensures
    ∙ ap₂ (λ x y. walk_f (visit_f k tree set) tree set here x y 0 c.args.loc words history) c.hint_place-place.ensures c.child_count-n.ensures

pub walk-loop-i-preserved : goal.walk-loop-i-preserved
walk-loop-i-preserved t c =
    let tree = c.args.tree.now in
    let set = c.args.set in
    let here = c.args.here in
    let place = c.hint_place-place.result in
    let n = c.child_count-n.result in
    let words = c.turn.new.words in
    let history = c.turn.new.history in (
      c.turn.auto.words ∙ c.loop-i.invariant.0,
      (
        c.turn.auto.history ∙ c.loop-i.invariant.1.0,
        λ k h. ap (λ x. walk_f (visit_f k tree set) tree set here place (n - (c.loop-i.i + 1)) (c.loop-i.i + 1) x words history) c.goes_on-l-in-Continue.ensures
            ∙ sym (walk_next (visit_f k tree set) tree set here place n c.loop-i.i c.loop-i.l c.loop-i.words c.loop-i.history
            (with c.turn.result words history) c.loop-i-test.true
            (c.turn.ensures k h ∙ ap (λ x. turn_f (visit_f k tree set) tree set here x c.loop-i.i c.loop-i.l c.loop-i.words c.loop-i.history) c.child-c.ensures)
            _ c.in-Continue.is)
            ∙ c.loop-i.invariant.1.1 k h,
      ),
    )

pub walk-returns : goal.walk-returns
walk-returns t c =
    let tree = c.args.tree.now in
    let set = c.args.set in
    let here = c.args.here in
    let place = c.hint_place-place.result in
    let n = c.child_count-n.result in
    let words = c.args.words.now in
    let history = c.args.history.now in
    λ k h. sym (walk_over (visit_f k tree set) tree set here place n c.loop-i.i c.loop-i.l c.loop-i.words c.loop-i.history c.loop-i-test.false)
    ∙ c.loop-i.invariant.1.1 k h
    ∙ ap (λ x. walk_f (visit_f k tree set) tree set here place n 0 x words history) c.goes_on-l.ensures
    ∙ ap₂ (λ x y. walk_f (visit_f k tree set) tree set here x y 0 c.args.loc words history) c.hint_place-place.ensures c.child_count-n.ensures

pub widened-visit-requires : goal.widened-visit-requires
widened-visit-requires t c =
    let child = c.args.c in
    let here = c.args.here in
    let tree = c.args.tree.now in
    let loc = c.args.loc in
    let i = c.requires.inside in
    let g = c.requires.kid in
    let e = c.full.ensures in
    let en : c.full.result.node ≡ child = ap (λ (x : Args). x.node) e in
    let ed : c.full.result.depth ≡ here.depth - 1 = ap (λ (x : Args). x.depth) e in
    (omega (arith, c.decreases, g.above, g.in_tree, i.depth_most), (c.requires.ready, subst (Reach tree) (sym e) (to_full tree here loc child i g)))

pub widened-returns-then-inside : goal.widened-returns-then-inside
widened-returns-then-inside t c =
    let child = c.args.c in
    let here = c.args.here in
    let tree = c.args.tree.now in
    let set = c.args.set in
    let loc = c.args.loc in
    let r = c.args.r in
    let words = c.args.words.now in
    let history = c.args.history.now in
    let i = c.requires.inside in
    let g = c.requires.kid in
    let e = c.full.ensures in
    let en : c.full.result.node ≡ child = ap (λ (x : Args). x.node) e in
    let ed : c.full.result.depth ≡ here.depth - 1 = ap (λ (x : Args). x.depth) e in
    λ k h. widen_yes (visit_f k tree set) here loc child (with r words history) (sym c.inside.ensures ∙ c.if-inside.true) _
    (c.visit.ensures k (omega (arith, h, g.above, g.in_tree, i.depth_most)) ∙ ap (visit_f k tree set r.state words history) e)
