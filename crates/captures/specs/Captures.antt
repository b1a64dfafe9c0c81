-- Captures: a capture visit walks its noisy children, and each child is a capture visit again. `v` is the child's visit, one unit of fuel down;
-- the nodes left are fuel enough. Assumes nothing.
use Rattle.std.specs.Prelude.{Bool, true, false, List, ℕ, zero, suc, ◌+◌, pos}
use Rattle.std.specs.declared.ops.ControlFlow.TheVariants.{Continue, Break}
use Rattle.record.specs.Node.{count_of, is_quiet}
use Rattle.state.specs.declared.Settings.{Settings}
use Rattle.state.specs.declared.State.{State}
use Rattle.state.specs.declared.Out.{Out}
use Rattle.std.specs.declared.option.Option.{Option}
use Rattle.moves.specs.Order.{child_of}
use Rattle.state.specs.State.{Over, over, count_node, answer_of}
use Rattle.capture_steps.specs.declared.Capture.{Capture}
use Rattle.capture_steps.specs.declared.Here.{Here}
use Rattle.capture_steps.specs.declared.Loc.{Loc}
use Rattle.capture_steps.specs.Step.{Turn, Entered, enter_of, noisy_place, down_of, judge_of, finish_of}

-- a capture visit: state, table words, arguments
abbrev pub Visit : Type 0
Visit = State → List ℕ → Capture → Over Out

abbrev pub judged : Settings → List ℕ → Here → Loc → ℕ → Over Out → Over Turn
judged set t h l c r = judge_of set t r.words h l c r.it

-- one child: a quiet one is passed over, another is counted and visited
unfoldable pub turn_if : Bool → Visit → Settings → List ℕ → Here → Loc → ℕ → List ℕ → Over Turn
turn_if true v set t h l c words = over (Continue l) words
turn_if false v set t h l c words = judged set t h l c (v (count_node l.state) words (down_of h l c))

abbrev pub turn_f : Visit → Settings → List ℕ → Here → Loc → ℕ → List ℕ → Over Turn
turn_f v set t h l c words = turn_if (is_quiet t c) v set t h l c words

-- what is left of a walk after a turn: nothing where it cut
unfoldable pub next_if : Turn → List ℕ → (Loc → List ℕ → Over Turn) → Over Turn
next_if (Break l) words go = over (Break l) words
next_if (Continue l) words go = go l words

abbrev pub next_f : Over Turn → (Loc → List ℕ → Over Turn) → Over Turn
next_f s go = next_if s.it s.words go

-- the rest of a walk: n moves to go, the next is the i-th
unfoldable pub walk_f : Visit → Settings → List ℕ → Here → Option ℕ → ℕ → ℕ → Loc → List ℕ → Over Turn
walk_f v set t h p zero i l words = over (Continue l) words
walk_f v set t h p (suc n) i l words = next_f (turn_f v set t h l (child_of t h.node p i) words) (walk_f v set t h p n (i + 1))

abbrev pub walk_all : Visit → Settings → List ℕ → Here → Loc → List ℕ → Over Turn
walk_all v set t h l words = walk_f v set t h (noisy_place t h l) (count_of t h.node) 0 l words

unfoldable pub entered_f : Entered → Visit → Settings → List ℕ → List ℕ → Over Out
entered_f (Break o) v set t words = over o words
entered_f (Continue (h, l)) v set t words = finish_of t set h (walk_all v set t h l words)

unfoldable pub captures_f : ℕ → Settings → List ℕ → Visit
captures_f zero set t s words a = over (answer_of (pos 0) s) words
captures_f (suc k) set t s words a = entered_f (enter_of set t words s a) (captures_f k set t) set t words
