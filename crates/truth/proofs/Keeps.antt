-- What every visit keeps: a statement of the state that a poll, a count and a change of age and counters keep is kept by a whole visit,
-- whatever the switches. One law for each function of the node search's definition, by its clauses. Assumes nothing.
use mathlib.Core.Bool.{Bool, true, false}
use mathlib.Core.List.{List}
use Prim.Native.Nat.{ℕ, zero, suc, ◌+◌}
use lib.Dec.{eqb}
use lib.IntN.{ℤ}
use Rattle.std.specs.declared.ops.ControlFlow.TheVariants.{Continue, Break}
use Rattle.record.specs.Node.{count_of}
use Rattle.state.specs.declared.Settings.{Settings}
use Rattle.state.specs.declared.State.{State}
use Rattle.state.specs.declared.Out.{Out}
use Rattle.state.specs.declared.Consulted.{Consulted}
use Rattle.std.specs.declared.option.Option.{Option}
use Rattle.std.specs.declared.option.Option.TheVariants.{Some, None}
use Rattle.carry.specs.declared.Args.{Args}
use Rattle.carry.specs.declared.Here.{Here}
use Rattle.carry.specs.declared.Loc.{Loc}
use Rattle.carry.specs.Carry.{Turn, Entered, With}
use Rattle.enter.specs.Enter.{extend_of, reverse_if, cut_if, probe_of, draw_if, enter_of, hinted_of}
use Rattle.turn.specs.Window.{counted_of, beta_if, raise_if, judge_of}
use Rattle.leave.specs.Cutoff.{cutoff_of}
use Rattle.leave.specs.Finish.{stored_of, end_if, finish_if}
use Rattle.visits.specs.Search.{Visit, widen_if, again_if, reduced_f, futile_if, turn_if, next_if, walk_f, deepen_if, entered_f, depth_if, stop_if, visit_f}
use Rattle.truth.proofs.Closed.{left, Closed, seen_q, keep_q}
use Rattle.truth.proofs.KeepsCaptures.{captures_q}

-- the state that the steps before the moves leave
abbrev pub state_of : Entered → State
state_of (Break o) = o.state
state_of (Continue (h, l)) = l.state

module _ (t : List ℕ) (set : Settings) (Q : State → Type 0) (cl : Closed set Q) where
  abbrev pub KeepsV : Visit → Type 0
  KeepsV v = (s : State) (words : List ℕ) (hist : List ℤ) (a : Args) → Q s → Q (v s words hist a).it.state

  -- a walk's rest keeps it
  abbrev pub KeepsW : (Loc → List ℕ → List ℤ → With Turn) → Type 0
  KeepsW go = (l : Loc) (words : List ℕ) (hist : List ℤ) → Q l.state → Q (left (go l words hist).it).state

  -- the steps before the moves

  reverse-q : (b : Bool) (h : Here) (l : Loc) → Q l.state → Q (state_of (reverse_if b h l))
  unfolding reverse_if
  reverse-q true h l q = q
  reverse-q false h l q = q

  cut-q : (x : Option ℤ) (a : Args) (full : Bool) (w : Consulted) (s : State) → Q s → Q (state_of (cut_if x set t a full w s))
  unfolding cut_if
  cut-q (Some x) a full w s q = q
  cut-q None a full w s q = reverse-q _ _ _ q

  draw-q : (b : Bool) (words : List ℕ) (s : State) (a : Args) → Q s → Q (state_of (draw_if b set t words s a))
  unfolding draw_if probe_of
  draw-q true words s a q = q
  draw-q false words s a q = cut-q _ a _ _ _ (seen_q set Q cl set.table words s _ q)

  enter-q : (words : List ℕ) (s : State) (a : Args) → Q s → Q (state_of (enter_of set t words s a))
  unfolding enter_of
  enter-q words s a q = draw-q _ words s a q

  -- one move

  widen-q : (b : Bool) (v : Visit) (h : Here) (l : Loc) (c : ℕ) (r : With Out) → KeepsV v → Q r.it.state → Q (widen_if b v h l c r).it.state
  unfolding widen_if
  widen-q true v h l c r kv q = kv _ _ _ _ q
  widen-q false v h l c r kv q = q

  again-q : (b : Bool) (v : Visit) (h : Here) (l : Loc) (c : ℕ) (r : With Out) → KeepsV v → Q r.it.state → Q (again_if b v h l c r).it.state
  unfolding again_if
  again-q true v h l c r kv q = widen-q _ v h l c _ kv (kv _ _ _ _ q)
  again-q false v h l c r kv q = widen-q _ v h l c r kv q

  reduced-q : (v : Visit) (h : Here) (l : Loc) (c d : ℕ) (words : List ℕ) (hist : List ℤ) → KeepsV v → Q l.state → Q (reduced_f v h l c d words hist).it.state
  unfolding reduced_f
  reduced-q v h l c d words hist kv q = again-q _ v h l c _ kv (kv _ _ _ _ q)

  beta-q : (b : Bool) (l : Loc) → Q l.state → Q (left (beta_if b l)).state
  unfolding beta_if
  beta-q true l q = q
  beta-q false l q = q

  raise-q : (b : Bool) (h : Here) (l : Loc) (m : ℕ) (x : ℤ) (s : State) → Q s → Q (left (raise_if b h l m x s)).state
  unfolding raise_if
  raise-q true h l m x s q = beta-q _ _ q
  raise-q false h l m x s q = q

  pub judge_q : (h : Here) (l : Loc) (m : ℕ) (r : Out) → Q r.state → Q (left (judge_of h l m r)).state
  unfolding judge_of
  judge_q h l m r q = raise-q _ h l m _ r.state q

  futile-q : (b : Bool) (v : Visit) (h : Here) (l : Loc) (c i : ℕ) (words : List ℕ) (hist : List ℤ) → KeepsV v → Q l.state → Q (left (futile_if b v t set h l c i words hist).it).state
  unfolding futile_if
  futile-q true v h l c i words hist kv q = q
  futile-q false v h l c i words hist kv q = judge_q h l _ _ (reduced-q v h l c _ words hist kv q)

  turn-q : (b : Bool) (v : Visit) (h : Here) (l : Loc) (c i : ℕ) (words : List ℕ) (hist : List ℤ) → KeepsV v → Q l.state → Q (left (turn_if b v t set h l c i words hist).it).state
  unfolding turn_if
  turn-q true v h l c i words hist kv q = judge_q h _ _ _ (kv _ _ _ _ q)
  turn-q false v h l c i words hist kv q = futile-q _ v h l c i words hist kv q

  cutoff-q : (h : Here) (p : Option ℕ) (c i : ℕ) (l : Loc) (words : List ℕ) (hist : List ℤ) → Q l.state → Q (cutoff_of t set h p c i l words hist).it.state
  unfolding cutoff_of
  cutoff-q h p c i l words hist q = keep_q set Q cl set.table words l.state _ _ _ _ _ q

  pub next_q
      : (w : Turn) (words : List ℕ) (hist : List ℤ) (h : Here) (p : Option ℕ) (c i : ℕ) (go : Loc → List ℕ → List ℤ → With Turn)
      → KeepsW go → Q (left w).state → Q (left (next_if w words hist t set h p c i go).it).state
  unfolding next_if
  next_q (Break l) words hist h p c i go kg q = cutoff-q h p c i l words hist q
  next_q (Continue l) words hist h p c i go kg q = kg l words hist q

  pub walk_q : (v : Visit) (h : Here) (p : Option ℕ) (n i : ℕ) → KeepsV v → KeepsW (walk_f v t set h p n i)
  unfolding walk_f
  walk_q v h p zero i kv l words hist q = q
  walk_q v h p (suc n) i kv l words hist q =
      next_q _ _ _ h p _ i _ (walk_q v h p n (i + 1) kv) (turn-q (eqb i 0) v h (counted_of l) _ i words hist kv (cl.counted l.state q))

  -- the whole visit

  hinted-q : (words : List ℕ) (h : Here) (l : Loc) (r : Out) → Q r.state → Q (hinted_of set t words h l r).state
  unfolding hinted_of
  hinted-q words h l r q = seen_q set Q cl set.table words r.state _ q

  deepen-q : (b : Bool) (v : Visit) (h : Here) (l : Loc) (words : List ℕ) (hist : List ℤ) → KeepsV v → Q l.state → Q (deepen_if b v t set h l words hist).it.state
  unfolding deepen_if
  deepen-q true v h l words hist kv q = hinted-q _ h l _ (kv _ _ _ _ q)
  deepen-q false v h l words hist kv q = q

  end-q : (b : Bool) (h : Here) (l : Loc) (words : List ℕ) → Q l.state → Q (end_if b t set h l words).it.state
  unfolding end_if stored_of
  end-q true h l words q = q
  end-q false h l words q = keep_q set Q cl set.table words l.state _ _ _ _ _ q

  pub finish_q : (w : Turn) (h : Here) (words : List ℕ) → Q (left w).state → Q (finish_if w t set h words).it.state
  unfolding finish_if
  finish_q (Break l) h words q = q
  finish_q (Continue l) h words q = end-q _ h l words q

  entered-q : (e : Entered) (v : Visit) (words : List ℕ) (hist : List ℤ) → KeepsV v → Q (state_of e) → Q (entered_f e v t set words hist).it.state
  unfolding entered_f
  entered-q (Break o) v words hist kv q = q
  entered-q (Continue (h, l)) v words hist kv q =
      finish_q _ h _ (walk_q v h _ (count_of t h.node) 0 kv _ _ _ (deepen-q _ v h l words hist kv q))

  depth-q
      : (b : Bool) (k : ℕ) (v : Visit) (s : State) (words : List ℕ) (hist : List ℤ) (a : Args)
      → KeepsV v → Q s → Q (depth_if b k v t set s words hist a).it.state
  unfolding depth_if
  depth-q true k v s words hist a kv q = captures_q set t Q cl k s words _ q
  depth-q false k v s words hist a kv q = entered-q (enter_of set t words s a) v words hist kv (enter-q words s a q)

  stop-q
      : (b : Bool) (k : ℕ) (v : Visit) (s : State) (words : List ℕ) (hist : List ℤ) (a : Args)
      → KeepsV v → Q s → Q (stop_if b k v t set s words hist a).it.state
  unfolding stop_if
  stop-q true k v s words hist a kv q = q
  stop-q false k v s words hist a kv q = depth-q _ k v s words hist (extend_of t a) kv q

  pub visit_q : (k : ℕ) → KeepsV (visit_f k t set)
  unfolding visit_f
  visit_q zero s words hist a q = q
  visit_q (suc k) s words hist a q = stop-q _ (suc k) (visit_f k t set) _ words hist a (visit_q k) (cl.polled s q)
