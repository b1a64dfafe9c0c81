-- The root search: depths from start to end - 1, each a walk over the root's moves. Assumes nothing.
use Rattle.std.specs.Prelude.{Bool, true, false, List, ℕ, zero, suc, ◌+◌, ◌-◌, ℤ}
use Rattle.std.specs.declared.ops.ControlFlow.TheVariants.{Continue, Break}
use Rattle.table.specs.declared.Stats.{Stats}
use Rattle.history.specs.Entries.{clear_of}
use Rattle.record.specs.Node.{count_of}
use Rattle.state.specs.declared.Settings.{Settings}
use Rattle.state.specs.declared.State.{State}
use Rattle.state.specs.declared.Out.{Out}
use Rattle.std.specs.declared.option.Option.{Option}
use Rattle.moves.specs.Order.{child_of}
use Rattle.carry.specs.Carry.{With, with, beside}
use Rattle.visits.specs.Search.{Visit, node_search}
use Rattle.root_steps.specs.declared.Best.{Best}
use Rattle.root_steps.specs.declared.Depths.{Depths}
use Rattle.root_steps.specs.declared.Walked.{Walked}
use Rattle.root_steps.specs.Step.{Deepened, fresh_of, mated_of, begin_of, place_root, polled_of, counted_of, down_of, judge_of, saved_of}

abbrev pub judged : List ℕ → Walked → ℕ → With Out → With Walked
judged t w c r = with (judge_of t w c r.it) r.words r.history

-- one root move, which leads to c: it is counted and visited
abbrev pub turn_f : Visit → List ℕ → Settings → ℕ → Walked → ℕ → List ℕ → List ℤ → With Walked
turn_f v t set depth w c words hist = judged t w c (v (counted_of w) words hist (down_of set depth w c))

-- 000: "if self.clock.poll(self.nodes_count) { break; }"
unfoldable pub stop_if : Bool → Visit → List ℕ → Settings → ℕ → Walked → ℕ → List ℕ → List ℤ → (With Walked → With Walked) → With Walked
stop_if true v t set depth w c words hist go = with w words hist
stop_if false v t set depth w c words hist go = go (turn_f v t set depth w c words hist)

abbrev pub polled_f : Visit → List ℕ → Settings → ℕ → Walked → ℕ → List ℕ → List ℤ → (With Walked → With Walked) → With Walked
polled_f v t set depth w c words hist go = stop_if w.state.stop v t set depth w c words hist go

-- the rest of a walk: n moves to go, the next is the i-th
unfoldable pub walk_f : Visit → List ℕ → Settings → ℕ → Option ℕ → ℕ → ℕ → With Walked → With Walked
walk_f v t set depth p zero i w = w
walk_f v t set depth p (suc n) i w =
    polled_f v t set depth (polled_of set w.it) (child_of t 0 p i) w.words w.history (walk_f v t set depth p n (i + 1))

abbrev pub walk_all : Visit → List ℕ → Settings → Best → ℕ → State → List ℕ → List ℤ → With Walked
walk_all v t set b depth s words hist = walk_f v t set depth (place_root t b) (count_of t 0) 0 (with (begin_of set s) words hist)

abbrev pub saved_f : List ℕ → Settings → Depths → ℕ → With Walked → With Deepened
saved_f t set d depth w = beside (saved_of t set d depth w.it w.words) w.history

-- one depth: the walk, then what is saved of it
unfoldable pub depth_f : Visit → List ℕ → Settings → ℕ → With Depths → With Deepened
depth_f v t set depth d = saved_f t set d.it depth (walk_all v t set d.it.best depth d.it.state d.words d.history)

-- what is left of the depths after one: nothing where no move was made
unfoldable pub over_if : Deepened → List ℕ → List ℤ → (With Depths → With Depths) → With Depths
over_if (Break d) words hist go = with d words hist
over_if (Continue d) words hist go = go (with d words hist)

abbrev pub over_f : With Deepened → (With Depths → With Depths) → With Depths
over_f d go = over_if d.it d.words d.history go

-- 000: "if is_mate { break; }"
unfoldable pub mate_if : Bool → Visit → List ℕ → Settings → ℕ → With Depths → (With Depths → With Depths) → With Depths
mate_if true v t set depth d go = d
mate_if false v t set depth d go = over_f (depth_f v t set depth d) go

-- n depths to go
unfoldable pub depths_f : Visit → List ℕ → Settings → ℕ → ℕ → With Depths → With Depths
depths_f v t set zero depth d = d
depths_f v t set (suc n) depth d = mate_if (mated_of set d.it depth) v t set depth d (depths_f v t set n (depth + 1))

-- 01, Visits: "It takes depths from start to end - 1."
unfoldable pub root_search : List ℕ → Settings → Stats → ℕ → ℕ → List ℕ → List ℤ → With Depths
root_search t set c start end words hist = depths_f (node_search t set) t set (end - start) start (with (fresh_of set c) words (clear_of hist))
