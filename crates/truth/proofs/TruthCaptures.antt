-- Demand 3 for captures: with the switches off, what a capture visit answers tells of the capture value, unless it was stopped. One law for each function of
-- its definition, by its clauses; scores go by their images (`off`). Assumes nothing.
use mathlib.Core.Path.{◌≡◌, refl, sym, ◌∙◌}
use mathlib.Core.Bool.{Bool, true, false, true≢false}
use mathlib.Core.List.{List}
use Prim.Native.Nat.{ℕ, zero, suc, ◌+◌, ◌-◌, ◌≤◌, ◌<◌, max}
use native.Mathlib.Omega.{arith}
use lib.Dec.{leb}
use lib.IntN.{ℤ}
use lib.Signed.{lt_z, le_z}
use Rattle.score.specs.Wrap.{neg16}
use Rattle.score.proofs.Order.{off}
use Rattle.score.proofs.Range.{InZ, lt_yes, lt_not, le_yes, le_not}
use Rattle.std.specs.declared.ops.ControlFlow.TheVariants.{Continue, Break}
use Rattle.record.specs.Node.{first_of, count_of, eval_of, is_quiet}
use Rattle.tree.specs.Blocks.{nodes_of}
use Rattle.state.specs.declared.Settings.{Settings}
use Rattle.state.specs.declared.State.{State}
use Rattle.state.specs.declared.Out.{Out}
use Rattle.std.specs.declared.option.Option.TheVariants.{None}
use Rattle.state.specs.State.{Over, poll_of, count_node, seen_of, keep_of}
use Rattle.state.specs.Consult.{consult_of}
use Rattle.moves.specs.Order.{place_of, order_at, child_of}
use Rattle.capture_steps.specs.declared.Capture.{Capture}
use Rattle.capture_steps.specs.declared.Here.{Here}
use Rattle.capture_steps.specs.declared.Loc.{Loc}
use Rattle.capture_steps.specs.Step.{Turn, beta_if, pat_if, delta_prunes, delta_if, ply_if, patted, probe_of, cut_if, stop_if, enter_of, noisy_at, noisy_place, down_of, score_if, raise_if, judge_of, store_if, finish_if}
use Rattle.captures.specs.Captures.{Visit, turn_if, next_if, next_f, walk_f, entered_f, captures_f}
use Rattle.minimax.specs.Minimax.{child_at, quiet_at, capture_if, capture_v}
use Rattle.truth.proofs.Closed.{left, Stopped, stays, back}
use Rattle.truth.proofs.KeepsCaptures as keeps
use Rattle.truth.proofs.Settled.{plain_of, Known, kid_in}
use Rattle.truth.proofs.Ranges.{best_if, best_of, zero_in, greatest-off, eval_in, capture_in}
use Rattle.truth.proofs.Tells.{Tells, Window, same_tells, neg_tells, neg_window, raised_window}

module _ (n : ℕ) (set : Settings) (t : List ℕ) (ok : Known n set.max_ply t) where
  abbrev S : Settings
  S = plain_of n set

  -- an answer that was not stopped tells of the value whose image is v
  abbrev pub Truth : Out → ℤ → ℤ → ℕ → Type 0
  Truth o alpha beta v = o.state.stop ≡ false → Tells n (off alpha) (off beta) (off o.score) v

  -- so does the alpha that a walk leaves
  abbrev Left : Turn → ℤ → ℤ → ℕ → Type 0
  Left w alpha beta v = (left w).state.stop ≡ false → Tells n (off alpha) (off beta) (off (left w).alpha) v

  abbrev KeepsV : Visit → Type 0
  KeepsV v = (s : State) (words : List ℕ) (a : Capture) → Stopped s → Stopped (v s words a).it.state

  abbrev KeepsW : (Loc → List ℕ → Over Turn) → Type 0
  KeepsW go = (l : Loc) (words : List ℕ) → Stopped l.state → Stopped (left (go l words).it).state

  -- what is left of a walk, from any point of it where m is the greatest image so far: u is the greatest of those to come
  abbrev Rest : ℤ → ℤ → ℕ → (Loc → List ℕ → Over Turn) → Type 0
  Rest alpha beta u go =
      (l : Loc) (words : List ℕ) (m v : ℕ) → off l.alpha ≡ max (off alpha) m → off l.alpha < off beta → v ≡ max m u
      → Left (go l words).it alpha beta v

  -- what one child's visit is given: m the greatest image so far, u the greatest of those to come
  record Point (h : Here) (go : Loc → List ℕ → Over Turn) (l : Loc) (alpha : ℤ) (m u : ℕ) : Type 0 where
    rest : Rest alpha h.beta u go
    keeps : KeepsW go
    window : Window n alpha h.beta
    is_max : off l.alpha ≡ max (off alpha) m
    below : off l.alpha < off h.beta

  point-window : (h : Here) (go : Loc → List ℕ → Over Turn) (l : Loc) (alpha : ℤ) (m u : ℕ) → Point h go l alpha m u → Window n l.alpha h.beta
  point-window h go l alpha m u p = raised_window n ok.inf_high alpha h.beta p.window l.alpha m p.is_max p.below

  score-ok
      : (b : Bool) (words : List ℕ) (h : Here) (x : ℤ) (mv : ℕ) (s : State) (go : Loc → List ℕ → Over Turn) (l : Loc) (alpha : ℤ) (m y u v : ℕ)
      → b ≡ lt_z x h.beta → Point h go l alpha m u → off l.alpha < off x → Tells n (off l.alpha) (off h.beta) (off x) y → v ≡ max (max m y) u
      → Left (next_f (score_if b S t words h x mv s) go).it alpha h.beta v
  unfolding score_if next_if keep_of
  score-ok true words h x mv s go l alpha m y u v e p up te ev =
      let k = lt_yes n x h.beta ok.inf_high te.range p.window.beta_in (sym e) in
      let a = p.is_max in
      p.rest _ words (max m y) v (omega arith) (omega arith) ev
  score-ok false words h x mv s go l alpha m y u v e p up te ev = λ _.
      let k = lt_not x h.beta (sym e) in
      let a = p.is_max in
      record { range = te.range; under = omega arith; over = omega arith }

  raise-ok
      : (b : Bool) (words : List ℕ) (h : Here) (l : Loc) (c : ℕ) (x : ℤ) (s : State) (go : Loc → List ℕ → Over Turn) (alpha : ℤ) (m y u v : ℕ)
      → b ≡ le_z x l.alpha → Point h go l alpha m u → Tells n (off l.alpha) (off h.beta) (off x) y → v ≡ max (max m y) u
      → Left (next_f (raise_if b S t words h l c x s) go).it alpha h.beta v
  unfolding raise_if next_if
  raise-ok true words h l c x s go alpha m y u v e p te ev =
      let k = le_yes x l.alpha (sym e) in
      let a = p.is_max in
      let o = p.below in
      p.rest _ words (max m y) v (omega arith) o ev
  raise-ok false words h l c x s go alpha m y u v e p te ev =
      let w = point-window h go l alpha m u p in
      score-ok _ words h x _ s go l alpha m y u v refl p (le_not n x l.alpha ok.inf_high te.range w.alpha_in (sym e)) te ev

  judge-ok
      : (words : List ℕ) (h : Here) (l : Loc) (c : ℕ) (r : Out) (go : Loc → List ℕ → Over Turn) (alpha : ℤ) (m y u v : ℕ)
      → Point h go l alpha m u → Tells n (off l.alpha) (off h.beta) (off (neg16 r.score)) y → v ≡ max (max m y) u
      → Left (next_f (judge_of S t words h l c r) go).it alpha h.beta v
  unfolding judge_of
  judge-ok words h l c r go alpha m y u v p te ev = raise-ok _ words h l c _ r.state go alpha m y u v refl p te ev

  -- if what a turn leads to is not stopped, the child's visit was not
  judged-back
      : (words : List ℕ) (h : Here) (l : Loc) (c : ℕ) (r : Out) (go : Loc → List ℕ → Over Turn) → KeepsW go
      → (left (next_f (judge_of S t words h l c r) go).it).state.stop ≡ false → r.state.stop ≡ false
  judged-back words h l c r go kg e =
      let j = judge_of S t words h l c r in
      back r.state (left (next_f j go).it).state (λ q. keeps.next_q S t Stopped (stays S) j.it j.words go kg (keeps.judge_q S t Stopped (stays S) words h l c r q)) e

  -- a child's visit tells of the child's value y
  record KidOk (v : Visit) (c below ply : ℕ) (y : ℤ) : Type 0 where
    in_range : InZ n y
    tells
        : (alpha beta : ℤ) (s : State) (words : List ℕ) → Window n alpha beta
        → Truth (v s words (record { node = c; alpha = alpha; beta = beta; below = below; ply = ply })).it alpha beta (off y)

  turn-ok
      : (b : Bool) (v : Visit) (h : Here) (l : Loc) (c : ℕ) (words : List ℕ) (go : Loc → List ℕ → Over Turn) (y alpha : ℤ) (m u w : ℕ)
      → KidOk v c (h.below + 1) (h.ply + 1) y → Point h go l alpha m u → w ≡ max m (best_if b (off y) u)
      → Left (next_f (turn_if b v S t h l c words) go).it alpha h.beta w
  unfolding turn_if next_if
  turn-ok true v h l c words go y alpha m u w kid p ew = p.rest l words m w p.is_max p.below ew
  turn-ok false v h l c words go y alpha m u w kid p ew = λ e.
      let win = point-window h go l alpha m u p in
      let r = v (count_node l.state) words (down_of h l c) in
      let before = judged-back r.words h l c r.it go p.keeps e in
      let down = neg_window n ok.inf_high l.alpha h.beta win in
      let told = kid.tells (neg16 h.beta) (neg16 l.alpha) (count_node l.state) words down before in
      let te = neg_tells n ok.inf_high l.alpha h.beta win r.it.score (off y) kid.in_range told in
      judge-ok r.words h l c r.it go alpha m (65536 - off y) u w p te (omega arith) e

  -- a node's children, by their values
  abbrev Kids : Visit → ℕ → ℕ → ℕ → (ℕ → ℤ) → Type 0
  Kids v node below ply f = (i : ℕ) → i < count_of t node → KidOk v (child_at t node i) (below + 1) (ply + 1) (f i)

  walk-ok
      : (v : Visit) (h : Here) (f : ℕ → ℤ) (alpha : ℤ) → Window n alpha h.beta → KeepsV v → Kids v h.node h.below h.ply f
      → (m i : ℕ) → i + m ≤ count_of t h.node → Rest alpha h.beta (best_of (quiet_at t h.node) f m i) (walk_f v S t h None m i)
  unfolding walk_f best_of child_of order_at
  walk-ok v h f alpha win kv kids zero i le l words m w a lt ew = λ _.
      let win2 = raised_window n ok.inf_high alpha h.beta win l.alpha m a lt in
      record { range = win2.alpha_in; under = omega arith; over = omega arith }
  walk-ok v h f alpha win kv kids (suc j) i le l words m w a lt ew =
      turn-ok (is_quiet t (first_of t h.node + i)) v h l (first_of t h.node + i) words (walk_f v S t h None j (i + 1)) (f i) alpha m
      (best_of (quiet_at t h.node) f j (i + 1)) w (kids i (omega arith)) (record {
        rest = walk-ok v h f alpha win kv kids j (i + 1) (omega arith);
        keeps = keeps.walk_q S t Stopped (stays S) v h None j (i + 1) kv;
        window = win;
        is_max = a;
        below = lt;
      }) ew

  store_ok : (b : Bool) (h : Here) (l : Loc) (words : List ℕ) (alpha beta : ℤ) (v : ℕ) → Left (Continue l) alpha beta v → Truth (store_if b t S h l words).it alpha beta v
  unfolding store_if keep_of
  store_ok true h l words alpha beta v e = e
  store_ok false h l words alpha beta v e = e

  finish-ok : (w : Turn) (h : Here) (words : List ℕ) (alpha beta : ℤ) (v : ℕ) → Left w alpha beta v → Truth (finish_if w t S h words).it alpha beta v
  unfolding finish_if
  finish-ok (Break l) h words alpha beta v e = e
  finish-ok (Continue l) h words alpha beta v e = store_ok _ h l words alpha beta v e

  -- a visit of a node's captures
  record CaptureOk (v : Visit) (f : ℕ → ℤ) (a : Capture) : Type 0 where
    in_tree : a.node < nodes_of t
    window : Window n a.alpha a.beta
    keeps : KeepsV v
    kids : Kids v a.node a.below a.ply f

  abbrev greatestOf : (ℕ → ℤ) → Capture → ℕ
  greatestOf f a = max (off (eval_of t a.node)) (best_of (quiet_at t a.node) f (count_of t a.node) 0)

  probe-ok
      : (v : Visit) (f : ℕ → ℤ) (a : Capture) (x : ℤ) (s : State) (words : List ℕ) → CaptureOk v f a
      → off x ≡ max (off a.alpha) (off (eval_of t a.node)) → off x < off a.beta
      → Truth (entered_f (probe_of S t words s a x) v S t words).it a.alpha a.beta (greatestOf f a)
  unfolding seen_of consult_of cut_if entered_f noisy_place noisy_at place_of
  probe-ok v f a x s words c e lt =
      finish-ok _ _ _ a.alpha a.beta (greatestOf f a)
      (walk-ok v _ f a.alpha c.window c.keeps c.kids (count_of t a.node) 0 (omega arith) _ words (off (eval_of t a.node)) (greatestOf f a) e lt refl)

  beat-ok
      : (b : Bool) (v : Visit) (f : ℕ → ℤ) (a : Capture) (s : State) (words : List ℕ) → b ≡ le_z a.beta (eval_of t a.node) → CaptureOk v f a
      → off a.alpha < off (eval_of t a.node)
      → Truth (entered_f (patted (beta_if b (eval_of t a.node)) S t words s a) v S t words).it a.alpha a.beta (greatestOf f a)
  unfolding beta_if patted entered_f
  beat-ok true v f a s words e c lt = λ _.
      let u = le_yes a.beta (eval_of t a.node) (sym e) in
      record { range = eval_in n set t ok a.node c.in_tree; under = omega arith; over = omega arith }
  beat-ok false v f a s words e c lt =
      probe-ok v f a _ s words c (omega arith) (le_not n a.beta (eval_of t a.node) ok.inf_high c.window.beta_in (eval_in n set t ok a.node c.in_tree) (sym e))

  pat-ok
      : (b : Bool) (v : Visit) (f : ℕ → ℤ) (a : Capture) (s : State) (words : List ℕ) → b ≡ lt_z a.alpha (eval_of t a.node) → CaptureOk v f a
      → Truth (entered_f (patted (pat_if b (eval_of t a.node) a) S t words s a) v S t words).it a.alpha a.beta (greatestOf f a)
  unfolding pat_if patted
  pat-ok true v f a s words e c =
      beat-ok _ v f a s words refl c (lt_yes n a.alpha (eval_of t a.node) ok.inf_high c.window.alpha_in (eval_in n set t ok a.node c.in_tree) (sym e))
  pat-ok false v f a s words e c =
      let u = lt_not a.alpha (eval_of t a.node) (sym e) in
      probe-ok v f a a.alpha s words c (omega arith) c.window.order

  ply-ok
      : (b : Bool) (v : Visit) (f : ℕ → ℤ) (a : Capture) (s : State) (words : List ℕ) → CaptureOk v f a
      → Truth (entered_f (patted (ply_if b S (eval_of t a.node) a) S t words s a) v S t words).it a.alpha a.beta (off (capture_if b t a.node f))
  unfolding ply_if delta_prunes delta_if patted entered_f capture_if
  ply-ok true v f a s words c = λ _. same_tells n (off a.alpha) (off a.beta) _ (eval_in n set t ok a.node c.in_tree)
  ply-ok false v f a s words c =
      let e = greatest-off n ok.inf_high (quiet_at t a.node) f (eval_of t a.node) (count_of t a.node) 0 (eval_in n set t ok a.node c.in_tree) (λ j l. (c.kids j (omega arith)).in_range) in
      rw e (pat-ok _ v f a s words refl c)

  stop-ok
      : (b : Bool) (v : Visit) (f : ℕ → ℤ) (a : Capture) (s : State) (words : List ℕ) → b ≡ s.stop → CaptureOk v f a
      → Truth (entered_f (stop_if b S t words s a) v S t words).it a.alpha a.beta (off (capture_if (leb set.max_ply a.ply) t a.node f))
  unfolding stop_if entered_f
  stop-ok true v f a s words e c = λ u. absurd (true≢false (e ∙ u))
  stop-ok false v f a s words e c = ply-ok _ v f a s words c

  pub captures-ok
      : (k : ℕ) (s : State) (words : List ℕ) (a : Capture) → a.node < nodes_of t → Window n a.alpha a.beta
      → Truth (captures_f k S t s words a).it a.alpha a.beta (off (capture_v k S t a.node a.ply))
  unfolding captures_f capture_v enter_of
  captures-ok zero s words a h w = λ _. same_tells n (off a.alpha) (off a.beta) _ (zero_in n ok.inf_high)
  captures-ok (suc k) s words a h w =
      stop-ok _ (captures_f k S t) _ a (poll_of set.limit s) words refl (record {
        in_tree = h;
        window = w;
        keeps = keeps.captures_q S t Stopped (stays S) k;
        kids = λ i l.
            let c = kid_in n set.max_ply t ok a.node i h l in
            record {
              in_range = capture_in n set t ok k (child_at t a.node i) (a.ply + 1) c;
              tells = λ alpha beta s words w. captures-ok k s words (record { node = child_at t a.node i; alpha = alpha; beta = beta; below = a.below + 1; ply = a.ply + 1 }) c w;
            };
      })
