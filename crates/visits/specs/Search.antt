-- The node search: a node's visit walks its children, and each child is a visit again. `v` is the visit of a child, or of the node itself at a
-- lower depth, one unit of fuel down; the pair of nodes left and depth is fuel enough. Assumes nothing.
use Rattle.std.specs.Prelude.{Bool, true, false, List, ℕ, zero, suc, ◌+◌, ◌*◌, eqb, ℤ, pos}
use Rattle.std.specs.declared.ops.ControlFlow.TheVariants.{Continue, Break}
use Rattle.tree.specs.Blocks.{nodes_of}
use Rattle.record.specs.Node.{count_of, move_of}
use Rattle.state.specs.declared.Settings.{Settings}
use Rattle.state.specs.declared.State.{State}
use Rattle.state.specs.declared.Out.{Out}
use Rattle.std.specs.declared.option.Option.{Option}
use Rattle.state.specs.State.{poll_of, answer_of}
use Rattle.moves.specs.Order.{child_of}
use Rattle.capture_steps.specs.declared.Capture.{Capture}
use Rattle.captures.specs.Captures.{captures_f}
use Rattle.carry.specs.declared.Args.{Args}
use Rattle.carry.specs.declared.Here.{Here}
use Rattle.carry.specs.declared.Loc.{Loc}
use Rattle.carry.specs.Carry.{Turn, Entered, With, with, beside}
use Rattle.enter.specs.Enter.{hint_place, extend_of, enter_of, deepens_of, inner_of, hinted_of}
use Rattle.turn.specs.Window.{counted_of, full_of, null_of, first_best, again_of, inside_of, judge_of}
use Rattle.turn.specs.Prune.{futile_of, reduction_at}
use Rattle.leave.specs.Cutoff.{cutoff_of}
use Rattle.leave.specs.Finish.{finish_of}

-- 01, Visits: "depth 0: quiescence at depth -1, ply + 1"
abbrev pub capture_of : Args → Capture
capture_of a = record { node = a.node; alpha = a.alpha; beta = a.beta; below = 1; ply = a.ply + 1 }

-- a visit: state, table words, history entries, arguments
abbrev pub Visit : Type 0
Visit = State → List ℕ → List ℤ → Args → With Out

-- 000: "Re-search with the full window"
unfoldable pub widen_if : Bool → Visit → Here → Loc → ℕ → With Out → With Out
widen_if true v h l c r = v r.it.state r.words r.history (full_of h l c)
widen_if false v h l c r = r

abbrev pub widen_f : Visit → Here → Loc → ℕ → With Out → With Out
widen_f v h l c r = widen_if (inside_of h l r.it) v h l c r

-- 000: "LMR re-search", at the whole depth
unfoldable pub again_if : Bool → Visit → Here → Loc → ℕ → With Out → With Out
again_if true v h l c r = widen_f v h l c (v r.it.state r.words r.history (null_of h l c 0))
again_if false v h l c r = widen_f v h l c r

abbrev pub again_f : Visit → Here → Loc → ℕ → ℕ → With Out → With Out
again_f v h l c d r = again_if (again_of l d r.it) v h l c r

-- 000: "Search the other moves with the reduced window"
unfoldable pub reduced_f : Visit → Here → Loc → ℕ → ℕ → List ℕ → List ℤ → With Out
reduced_f v h l c d words hist = again_f v h l c d (v l.state words hist (null_of h l c d))

abbrev pub judged : Here → Loc → ℕ → With Out → With Turn
judged h l m r = with (judge_of h l m r.it) r.words r.history

abbrev pub judged_first : List ℕ → Here → Loc → ℕ → With Out → With Turn
judged_first t h l c r = judged h (first_best t l c r.it) (move_of t c) r

-- 000: a futile move is skipped
unfoldable pub futile_if : Bool → Visit → List ℕ → Settings → Here → Loc → ℕ → ℕ → List ℕ → List ℤ → With Turn
futile_if true v t set h l c i words hist = with (Continue l) words hist
futile_if false v t set h l c i words hist = judged h l (move_of t c) (reduced_f v h l c (reduction_at t set h c i) words hist)

-- 000: "Search the first move with the full window"
unfoldable pub turn_if : Bool → Visit → List ℕ → Settings → Here → Loc → ℕ → ℕ → List ℕ → List ℤ → With Turn
turn_if true v t set h l c i words hist = judged_first t h l c (v l.state words hist (full_of h l c))
turn_if false v t set h l c i words hist = futile_if (futile_of t set h l c) v t set h l c i words hist

-- one move, the i-th, which leads to c: it is counted first
abbrev pub turn_f : Visit → List ℕ → Settings → Here → ℕ → ℕ → Loc → List ℕ → List ℤ → With Turn
turn_f v t set h c i l words hist = turn_if (eqb i 0) v t set h (counted_of l) c i words hist

-- what is left of a walk after a turn: the cutoff's work where it cut
abbrev pub cut_of : With Loc → With Turn
cut_of l = with (Break l.it) l.words l.history

unfoldable pub next_if : Turn → List ℕ → List ℤ → List ℕ → Settings → Here → Option ℕ → ℕ → ℕ → (Loc → List ℕ → List ℤ → With Turn) → With Turn
next_if (Break l) words hist t set h p c i go = cut_of (cutoff_of t set h p c i l words hist)
next_if (Continue l) words hist t set h p c i go = go l words hist

abbrev pub next_f : List ℕ → Settings → Here → Option ℕ → ℕ → ℕ → With Turn → (Loc → List ℕ → List ℤ → With Turn) → With Turn
next_f t set h p c i s go = next_if s.it s.words s.history t set h p c i go

-- the rest of a walk: n moves to go, the next is the i-th
unfoldable pub walk_f : Visit → List ℕ → Settings → Here → Option ℕ → ℕ → ℕ → Loc → List ℕ → List ℤ → With Turn
walk_f v t set h p zero i l words hist = with (Continue l) words hist
walk_f v t set h p (suc n) i l words hist =
    next_f t set h p (child_of t h.node p i) i (turn_f v t set h (child_of t h.node p i) i l words hist) (walk_f v t set h p n (i + 1))

-- the moves of a node, the hint's first
abbrev pub walk_here : Visit → List ℕ → Settings → Here → Loc → List ℕ → List ℤ → With Turn
walk_here v t set h l words hist = walk_f v t set h (hint_place t h l) (count_of t h.node) 0 l words hist

abbrev pub walk_all : Visit → List ℕ → Settings → Here → With Loc → With Turn
walk_all v t set h l = walk_here v t set h l.it l.words l.history

abbrev pub hinted : List ℕ → Settings → Here → Loc → With Out → With Loc
hinted t set h l r = with (hinted_of set t r.words h l r.it) r.words r.history

-- 000: "Internal Iterative Deepening"
unfoldable pub deepen_if : Bool → Visit → List ℕ → Settings → Here → Loc → List ℕ → List ℤ → With Loc
deepen_if true v t set h l words hist = hinted t set h l (v l.state words hist (inner_of h l))
deepen_if false v t set h l words hist = with l words hist

abbrev pub deepen_f : Visit → List ℕ → Settings → Here → Loc → List ℕ → List ℤ → With Loc
deepen_f v t set h l words hist = deepen_if (deepens_of set h l) v t set h l words hist

unfoldable pub entered_f : Entered → Visit → List ℕ → Settings → List ℕ → List ℤ → With Out
entered_f (Break o) v t set words hist = with o words hist
entered_f (Continue (h, l)) v t set words hist = finish_of t set h (walk_all v t set h (deepen_f v t set h l words hist))

-- 01, Visits: "depth 0: quiescence"; `k` is the fuel of captures
unfoldable pub depth_if : Bool → ℕ → Visit → List ℕ → Settings → State → List ℕ → List ℤ → Args → With Out
depth_if true k v t set s words hist a = beside (captures_f k set t s words (capture_of a)) hist
depth_if false k v t set s words hist a = entered_f (enter_of set t words s a) v t set words hist

abbrev pub depth_f : ℕ → Visit → List ℕ → Settings → State → List ℕ → List ℤ → Args → With Out
depth_f k v t set s words hist a = depth_if (eqb a.depth 0) k v t set s words hist a

-- 01, Visits: "poll (stopped: 0)"
unfoldable pub stop_if : Bool → ℕ → Visit → List ℕ → Settings → State → List ℕ → List ℤ → Args → With Out
stop_if true k v t set s words hist a = with (answer_of (pos 0) s) words hist
stop_if false k v t set s words hist a = depth_f k v t set s words hist (extend_of t a)

abbrev pub polled_f : ℕ → Visit → List ℕ → Settings → State → List ℕ → List ℤ → Args → With Out
polled_f k v t set s words hist a = stop_if s.stop k v t set s words hist a

unfoldable pub visit_f : ℕ → List ℕ → Settings → Visit
visit_f zero t set s words hist a = with (answer_of (pos 0) s) words hist
visit_f (suc k) t set s words hist a = polled_f (suc k) (visit_f k t set) t set (poll_of set.limit s) words hist a

-- fuel that is enough for any visit of the tree, so that a reader may forget it
abbrev pub whole : List ℕ → ℕ
whole t = (nodes_of t + 1) * 256

-- the node search: what a visit answers and leaves
abbrev pub node_search : List ℕ → Settings → Visit
node_search t set = visit_f (whole t) t set
