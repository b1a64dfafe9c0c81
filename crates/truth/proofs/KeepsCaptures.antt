-- What a capture visit keeps, whatever the switches: every statement of the state that is closed under its steps. One law for each function of its
-- definition, by its clauses. Assumes nothing.
use mathlib.Core.Bool.{Bool, true, false}
use mathlib.Core.List.{List}
use Prim.Native.Nat.{ℕ, zero, suc, ◌+◌}
use lib.IntN.{ℤ}
use Rattle.std.specs.declared.ops.ControlFlow.TheVariants.{Continue, Break}
use Rattle.record.specs.Node.{count_of, is_quiet}
use Rattle.state.specs.declared.Settings.{Settings}
use Rattle.state.specs.declared.State.{State}
use Rattle.state.specs.declared.Out.{Out}
use Rattle.state.specs.declared.Consulted.{Consulted}
use Rattle.std.specs.declared.option.Option.{Option}
use Rattle.std.specs.declared.option.Option.TheVariants.{Some, None}
use Rattle.state.specs.State.{Over}
use Rattle.moves.specs.Order.{child_of}
use Rattle.capture_steps.specs.declared.Capture.{Capture}
use Rattle.capture_steps.specs.declared.Here.{Here}
use Rattle.capture_steps.specs.declared.Loc.{Loc}
use Rattle.capture_steps.specs.Step.{Turn, Entered, Pat, cut_if, patted, stop_if, enter_of, score_if, raise_if, judge_of, store_if, finish_if}
use Rattle.captures.specs.Captures.{Visit, turn_if, next_if, walk_f, entered_f, captures_f}
use Rattle.truth.proofs.Closed.{left, Closed, seen_q, keep_q}

-- the state that the steps before the walk leave
abbrev pub state_of : Entered → State
state_of (Break o) = o.state
state_of (Continue (h, l)) = l.state

module _ (set : Settings) (t : List ℕ) (Q : State → Type 0) (cl : Closed set Q) where
  abbrev pub KeepsV : Visit → Type 0
  KeepsV v = (s : State) (words : List ℕ) (a : Capture) → Q s → Q (v s words a).it.state

  -- a walk's rest keeps it
  abbrev pub KeepsW : (Loc → List ℕ → Over Turn) → Type 0
  KeepsW go = (l : Loc) (words : List ℕ) → Q l.state → Q (left (go l words).it).state

  cut-q : (x : Option ℤ) (w : Consulted) (s : State) (a : Capture) (old : ℤ) → Q s → Q (state_of (cut_if x w s a old))
  unfolding cut_if
  cut-q (Some x) w s a old q = q
  cut-q None w s a old q = q

  patted-q : (p : Pat) (words : List ℕ) (s : State) (a : Capture) → Q s → Q (state_of (patted p set t words s a))
  unfolding patted
  patted-q (Break x) words s a q = q
  patted-q (Continue alpha) words s a q = cut-q _ _ _ a alpha (seen_q set Q cl set.table words s _ q)

  stop-q : (b : Bool) (words : List ℕ) (s : State) (a : Capture) → Q s → Q (state_of (stop_if b set t words s a))
  unfolding stop_if
  stop-q true words s a q = q
  stop-q false words s a q = patted-q _ words s a q

  enter-q : (words : List ℕ) (s : State) (a : Capture) → Q s → Q (state_of (enter_of set t words s a))
  unfolding enter_of
  enter-q words s a q = stop-q _ words _ a (cl.polled s q)

  score-q : (b : Bool) (words : List ℕ) (h : Here) (x : ℤ) (m : ℕ) (s : State) → Q s → Q (left (score_if b set t words h x m s).it).state
  unfolding score_if
  score-q true words h x m s q = q
  score-q false words h x m s q = keep_q set Q cl set.table words s _ _ x m _ q

  raise-q : (b : Bool) (words : List ℕ) (h : Here) (l : Loc) (c : ℕ) (x : ℤ) (s : State) → Q s → Q (left (raise_if b set t words h l c x s).it).state
  unfolding raise_if
  raise-q true words h l c x s q = q
  raise-q false words h l c x s q = score-q _ words h x _ s q

  pub judge_q : (words : List ℕ) (h : Here) (l : Loc) (c : ℕ) (r : Out) → Q r.state → Q (left (judge_of set t words h l c r).it).state
  unfolding judge_of
  judge_q words h l c r q = raise-q _ words h l c _ r.state q

  turn-q : (b : Bool) (v : Visit) (h : Here) (l : Loc) (c : ℕ) (words : List ℕ) → KeepsV v → Q l.state → Q (left (turn_if b v set t h l c words).it).state
  unfolding turn_if
  turn-q true v h l c words kv q = q
  turn-q false v h l c words kv q = judge_q _ h l c _ (kv _ words _ (cl.counted l.state q))

  pub next_q
      : (w : Turn) (words : List ℕ) (go : Loc → List ℕ → Over Turn) → KeepsW go → Q (left w).state → Q (left (next_if w words go).it).state
  unfolding next_if
  next_q (Break l) words go kg q = q
  next_q (Continue l) words go kg q = kg l words q

  pub walk_q : (v : Visit) (h : Here) (p : Option ℕ) (n i : ℕ) → KeepsV v → KeepsW (walk_f v set t h p n i)
  unfolding walk_f
  walk_q v h p zero i kv l words q = q
  walk_q v h p (suc n) i kv l words q =
      next_q _ _ _ (walk_q v h p n (i + 1) kv) (turn-q (is_quiet t (child_of t h.node p i)) v h l (child_of t h.node p i) words kv q)

  store-q : (b : Bool) (h : Here) (l : Loc) (words : List ℕ) → Q l.state → Q (store_if b t set h l words).it.state
  unfolding store_if
  store-q true h l words q = q
  store-q false h l words q = keep_q set Q cl set.table words l.state _ _ _ _ _ q

  pub finish_q : (w : Turn) (h : Here) (words : List ℕ) → Q (left w).state → Q (finish_if w t set h words).it.state
  unfolding finish_if
  finish_q (Break l) h words q = q
  finish_q (Continue l) h words q = store-q _ h l words q

  entered-q : (e : Entered) (v : Visit) (words : List ℕ) → KeepsV v → Q (state_of e) → Q (entered_f e v set t words).it.state
  unfolding entered_f
  entered-q (Break o) v words kv q = q
  entered-q (Continue (h, l)) v words kv q = finish_q _ h _ (walk_q v h _ (count_of t h.node) 0 kv l words q)

  pub captures_q : (k : ℕ) → KeepsV (captures_f k set t)
  unfolding captures_f
  captures_q zero s words a q = q
  captures_q (suc k) s words a q = entered-q (enter_of set t words s a) (captures_f k set t) words (captures_q k) (enter-q words s a q)
