-- Demand 3 for the node search: with the switches off, what a visit answers tells of the extended minimax, unless it was stopped. One law for each function of
-- its definition, by its clauses; scores go by their images (`off`). Assumes nothing.
use mathlib.Core.Path.{◌≡◌, refl, sym, ap, ◌∙◌}
use mathlib.Core.Bool.{Bool, true, false, ◌&&◌, true≢false, false≢true}
use mathlib.Core.List.{List}
use Prim.Native.Nat.{ℕ, zero, suc, ◌+◌, ◌-◌, ◌≤◌, ◌<◌, max}
use native.Mathlib.Nat.{sub-zero}
use native.Mathlib.Omega.{arith}
use borrow.Author.Tests.{eq-eqb, ne_eqb}
use lib.Dec.{eqb}
use lib.IntN.{ℤ, pos, neg_ℤ}
use lib.Signed.{lt_z, le_z}
use Rattle.score.specs.Wrap.{neg16, sub16}
use Rattle.score.proofs.Order.{off}
use Rattle.score.proofs.Range.{InZ, lt_yes, lt_not, le_yes, le_not, neg_off}
use Rattle.std.specs.declared.ops.ControlFlow.TheVariants.{Continue, Break}
use Rattle.record.specs.Node.{first_of, count_of, move_of, in_check, is_draw}
use Rattle.state.specs.declared.Settings.{Settings}
use Rattle.state.specs.declared.State.{State}
use Rattle.state.specs.declared.Out.{Out}
use Rattle.std.specs.declared.option.Option.{Option}
use Rattle.std.specs.declared.option.Option.TheVariants.{None}
use Rattle.state.specs.State.{poll_of, count_node, seen_of, keep_of}
use Rattle.state.specs.Consult.{consult_of}
use Rattle.moves.specs.Order.{place_of, order_at, child_of}
use Rattle.carry.specs.declared.Args.{Args}
use Rattle.carry.specs.declared.Here.{Here}
use Rattle.carry.specs.declared.Loc.{Loc}
use Rattle.carry.specs.Carry.{Turn, With, with}
use Rattle.enter.specs.Enter.{hint_place, with_depth, extended, extend_of, reverse_futile, reverse_if, cut_if, probe_of, draw_if, enter_of, deepens_of}
use Rattle.turn.specs.Window.{counted_of, full_of, first_best, again_of, inside_of, beta_if, raise_if, judge_of}
use Rattle.turn.specs.Prune.{futile_of, late_of, reduction_if}
use Rattle.leave.specs.Cutoff.{cutoff_of}
use Rattle.leave.specs.Finish.{stored_of, end_if, finish_if, finish_of}
use Rattle.visits.specs.Search.{Visit, capture_of, widen_if, again_if, reduced_f, judged, futile_if, turn_if, next_if, next_f, walk_f, deepen_if, entered_f, depth_if, stop_if, visit_f}
use Rattle.minimax.specs.Minimax.{child_at, greatest, none, checked, end_of, of_children, of_draw, of_depth, depth_at, minimax_v}
use Rattle.truth.proofs.Closed.{left, Stopped, stays, back}
use Rattle.truth.proofs.Keeps as keeps
use Rattle.truth.proofs.Settled.{plain_of, Known, At, kid_at}
use Rattle.truth.proofs.Ranges.{best_of, zero_in, neg_z, greatest-off, end_in, end_is, minimax_in}
use Rattle.truth.proofs.Tells.{Tells, Window, same_tells, neg_tells, neg_window, raised_window, null_window, null-tells, outside-tells}
use Rattle.truth.proofs.TruthCaptures.{Truth, captures-ok}

-- the rest of a walk
abbrev Go : Type 0
Go = Loc → List ℕ → List ℤ → With Turn

-- what a walk's last turn answers: the cutoff's score, else alpha
abbrev result_of : Turn → ℤ
result_of (Break l) = l.best
result_of (Continue l) = l.alpha

-- the search's extension is the minimax's

extended_is : (b : Bool) (d : ℕ) → extended b d ≡ checked b d
unfolding extended checked
extended_is true d = refl
extended_is false d = refl

extend_is : (t : List ℕ) (a : Args) → extend_of t a ≡ with_depth a (depth_at t a.node a.depth)
unfolding extend_of
extend_is t a = ap (with_depth a) (extended_is (in_check t a.node) a.depth)

module _ (n : ℕ) (set : Settings) (t : List ℕ) (ok : Known n set.max_ply t) where
  abbrev S : Settings
  S = plain_of n set

  abbrev Told : Out → ℤ → ℤ → ℕ → Type 0
  Told o alpha beta v = Truth n set t ok o alpha beta v

  -- what a walk leaves, if it was not stopped, tells of the value whose image is v
  abbrev Left : Turn → ℤ → ℤ → ℕ → Type 0
  Left w alpha beta v = (left w).state.stop ≡ false → Tells n (off alpha) (off beta) (off (result_of w)) v

  abbrev KeepsV : Visit → Type 0
  KeepsV v = (s : State) (words : List ℕ) (hist : List ℤ) (a : Args) → Stopped s → Stopped (v s words hist a).it.state

  abbrev KeepsW : Go → Type 0
  KeepsW go = (l : Loc) (words : List ℕ) (hist : List ℤ) → Stopped l.state → Stopped (left (go l words hist).it).state

  -- what is left of a walk, from any point of it where m is the greatest image so far: u is the greatest of those to come
  abbrev Rest : ℤ → ℤ → ℕ → Go → Type 0
  Rest alpha beta u go =
      (l : Loc) (words : List ℕ) (hist : List ℤ) (m v : ℕ) → off l.alpha ≡ max (off alpha) m → off l.alpha < off beta → v ≡ max m u
      → Left (go l words hist).it alpha beta v

  -- what one move's search is given: m the greatest image so far, u the greatest of those to come
  record Point (h : Here) (go : Go) (l : Loc) (alpha : ℤ) (m u : ℕ) : Type 0 where
    rest : Rest alpha h.beta u go
    keeps : KeepsW go
    window : Window n alpha h.beta
    is_max : off l.alpha ≡ max (off alpha) m
    below : off l.alpha < off h.beta

  point-window : (h : Here) (go : Go) (l : Loc) (alpha : ℤ) (m u : ℕ) → Point h go l alpha m u → Window n l.alpha h.beta
  point-window h go l alpha m u p = raised_window n ok.inf_high alpha h.beta p.window l.alpha m p.is_max p.below

  -- one move: a child's answer, as the walk takes it

  module _ (h : Here) (pl : Option ℕ) (c i : ℕ) (go : Go) (alpha : ℤ) (m u : ℕ) where
    done_ok
        : (b : Bool) (words : List ℕ) (hist : List ℤ) (l : Loc) (x : ℤ) (mv : ℕ) (s : State) (y v : ℕ)
        → b ≡ le_z h.beta x → Point h go l alpha m u → off l.alpha < off x → Tells n (off l.alpha) (off h.beta) (off x) y → v ≡ max (max m y) u
        → Left (next_f t S h pl c i (with (beta_if b (record { alpha = x; best = x; mv = mv; state = s })) words hist) go).it alpha h.beta v
    unfolding beta_if next_if cutoff_of keep_of
    done_ok true words hist l x mv s y v e p up te ev = λ _.
        let k = le_yes h.beta x (sym e) in
        let a = p.is_max in
        record { range = te.range; under = omega arith; over = omega arith }
    done_ok false words hist l x mv s y v e p up te ev =
        let k = le_not n h.beta x ok.inf_high p.window.beta_in te.range (sym e) in
        let a = p.is_max in
        p.rest _ words hist (max m y) v (omega arith) k ev

    raise-ok
        : (b : Bool) (words : List ℕ) (hist : List ℤ) (l : Loc) (x : ℤ) (mv : ℕ) (s : State) (y v : ℕ)
        → b ≡ lt_z l.alpha x → Point h go l alpha m u → Tells n (off l.alpha) (off h.beta) (off x) y → v ≡ max (max m y) u
        → Left (next_f t S h pl c i (with (raise_if b h l mv x s) words hist) go).it alpha h.beta v
    unfolding raise_if next_if
    raise-ok true words hist l x mv s y v e p te ev =
        let w = point-window h go l alpha m u p in
        done_ok (le_z h.beta x) words hist l x mv s y v refl p (lt_yes n l.alpha x ok.inf_high w.alpha_in te.range (sym e)) te ev
    raise-ok false words hist l x mv s y v e p te ev =
        let k = lt_not l.alpha x (sym e) in
        let a = p.is_max in
        let o = p.below in
        p.rest _ words hist (max m y) v (omega arith) o ev

    judge-ok
        : (l : Loc) (mv : ℕ) (r : With Out) (y v : ℕ) → Point h go l alpha m u
        → Tells n (off l.alpha) (off h.beta) (off (neg16 r.it.score)) y → v ≡ max (max m y) u
        → Left (next_f t S h pl c i (judged h l mv r) go).it alpha h.beta v
    unfolding judge_of
    judge-ok l mv r y v p te ev = raise-ok _ r.words r.history l _ mv r.it.state y v refl p te ev

    -- if what a turn leads to is not stopped, the child's visit was not
    judged-back
        : (l : Loc) (mv : ℕ) (r : With Out) → KeepsW go → (left (next_f t S h pl c i (judged h l mv r) go).it).state.stop ≡ false → r.it.state.stop ≡ false
    judged-back l mv r kg e =
        let j = judged h l mv r in
        back r.it.state (left (next_f t S h pl c i j go).it).state
        (λ q. keeps.next_q t S Stopped (stays S) j.it j.words j.history h pl c i go kg (keeps.judge_q t S Stopped (stays S) h l mv r.it q)) e

  -- a child's visit tells of the child's value y
  record KidOk (v : Visit) (c depth ply : ℕ) (y : ℤ) : Type 0 where
    in_range : InZ n y
    tells
        : (side : ℕ) (alpha beta : ℤ) (s : State) (words : List ℕ) (hist : List ℤ) → Window n alpha beta
        → Told (v s words hist (record { node = c; side = side; alpha = alpha; beta = beta; depth = depth; ply = ply })).it alpha beta (off y)

  module _ (v : Visit) (h : Here) (pl : Option ℕ) (c i : ℕ) (go : Go) (y alpha : ℤ) (m u w : ℕ) (kid : KidOk v c (h.depth - 1) (h.ply + 1) y) (ew : w ≡ max (max m (65536 - off y)) u) where
    -- after a search of the child in the whole window
    full-ok
        : (l l2 : Loc) (mv : ℕ) (s : State) (words : List ℕ) (hist : List ℤ) → l2.alpha ≡ l.alpha → Point h go l2 alpha m u
        → Left (next_f t S h pl c i (judged h l2 mv (v s words hist (full_of h l c))) go).it alpha h.beta w
    full-ok l l2 mv s words hist el p = λ e.
        let eo = ap off el in
        let win = raised_window n ok.inf_high alpha h.beta p.window l.alpha m (sym eo ∙ p.is_max) (omega (arith, p.below)) in
        let r = v s words hist (full_of h l c) in
        let before = judged-back h pl c i go alpha m u l2 mv r p.keeps e in
        let down = neg_window n ok.inf_high l.alpha h.beta win in
        let told = kid.tells (1 - h.side) (neg16 h.beta) (neg16 l.alpha) s words hist down before in
        let te = neg_tells n ok.inf_high l.alpha h.beta win r.it.score (off y) kid.in_range told in
        judge-ok h pl c i go alpha m u l2 mv r (65536 - off y) w p (rw el te) ew e

    -- after a search of the child in the null window, which answered r
    widen_ok
        : (b : Bool) (l : Loc) (mv : ℕ) (r : With Out) → b ≡ lt_z l.alpha (neg16 r.it.score) && lt_z (neg16 r.it.score) h.beta → Point h go l alpha m u
        → (r.it.state.stop ≡ false → Tells n (off l.alpha) (suc (off l.alpha)) (off (neg16 r.it.score)) (65536 - off y))
        → Left (next_f t S h pl c i (judged h l mv (widen_if b v h l c r)) go).it alpha h.beta w
    unfolding widen_if
    widen_ok true l mv r eb p nu = full-ok l l mv r.it.state r.words r.history refl p
    widen_ok false l mv r eb p nu = λ e.
        let told = nu (judged-back h pl c i go alpha m u l mv r p.keeps e) in
        let te = outside-tells n l.alpha h.beta (neg16 r.it.score) (65536 - off y) _ _ refl refl (sym eb) told in
        judge-ok h pl c i go alpha m u l mv r (65536 - off y) w p te ew e

    -- a move that is not the first: the null window, then perhaps the whole one
    other-ok
        : (l : Loc) (words : List ℕ) (hist : List ℤ) → Point h go l alpha m u
        → Left (next_f t S h pl c i (futile_if false v t S h l c i words hist) go).it alpha h.beta w
    unfolding futile_if reduced_f reduction_if late_of again_if again_of inside_of
    other-ok l words hist p =
        let win = point-window h go l alpha m u p in
        let down = null_window n ok.inf_high l.alpha h.beta win in
        rw (sub-zero (h.depth - 1)) (widen_ok _ l (move_of t c) _ refl p (λ e.
        let told = kid.tells (1 - h.side) (sub16 (neg16 l.alpha) (pos 1)) (neg16 l.alpha) l.state words hist down e in
        null-tells n ok.inf_high l.alpha h.beta win _ (off y) kid.in_range told))

    turn-ok
        : (b : Bool) (l : Loc) (words : List ℕ) (hist : List ℤ) → b ≡ false → Point h go l alpha m u
        → Left (next_f t S h pl c i (turn_if b v t S h l c i words hist) go).it alpha h.beta w
    unfolding turn_if futile_of
    turn-ok true l words hist e p = absurd (true≢false e)
    turn-ok false l words hist e p = other-ok l words hist p

  -- the moves

  -- a node's children, by their values
  abbrev Kids : Visit → ℕ → ℕ → ℕ → (ℕ → ℤ) → Type 0
  Kids v node depth ply f = (i : ℕ) → i < count_of t node → KidOk v (child_at t node i) (depth - 1) (ply + 1) (f i)

  walk-ok
      : (v : Visit) (h : Here) (f : ℕ → ℤ) (alpha : ℤ) → Window n alpha h.beta → KeepsV v → Kids v h.node h.depth h.ply f
      → (m i : ℕ) → eqb i 0 ≡ false → i + m ≤ count_of t h.node → Rest alpha h.beta (best_of none f m i) (walk_f v t S h None m i)
  unfolding walk_f best_of child_of order_at
  walk-ok v h f alpha win kv kids zero i ei le l words hist m w a lt ew = λ _.
      let win2 = raised_window n ok.inf_high alpha h.beta win l.alpha m a lt in
      record { range = win2.alpha_in; under = omega arith; over = omega arith }
  walk-ok v h f alpha win kv kids (suc j) i ei le l words hist m w a lt ew =
      turn-ok v h None (first_of t h.node + i) i (walk_f v t S h None j (i + 1)) (f i) alpha m (best_of none f j (i + 1)) w
      (kids i (omega arith)) (omega arith) (eqb i 0) (counted_of l) words hist ei (record {
        rest = walk-ok v h f alpha win kv kids j (i + 1) (ne_eqb (i + 1) 0 (λ z. omega arith)) (omega arith);
        keeps = keeps.walk_q t S Stopped (stays S) v h None j (i + 1) kv;
        window = win;
        is_max = a;
        below = lt;
      })

  -- where there are moves, the answer is what the walk leaves

  end-not : (b : Bool) (h : Here) (l : Loc) (words : List ℕ) (alpha beta : ℤ) (v : ℕ) → b ≡ false → Left (Continue l) alpha beta v → Told (end_if b t S h l words).it alpha beta v
  unfolding end_if stored_of keep_of
  end-not true h l words alpha beta v e k = absurd (true≢false e)
  end-not false h l words alpha beta v e k = k

  finish-ok
      : (w : Turn) (h : Here) (words : List ℕ) (alpha beta : ℤ) (v : ℕ) → eqb (count_of t h.node) 0 ≡ false
      → Left w alpha beta v → Told (finish_if w t S h words).it alpha beta v
  unfolding finish_if
  finish-ok (Break l) h words alpha beta v e k = k
  finish-ok (Continue l) h words alpha beta v e k = end-not _ h l words alpha beta v e k

  -- else the end of the game
  end-ok : (b : Bool) (h : Here) (l : Loc) (words : List ℕ) (alpha beta : ℤ) → b ≡ true → At t h.node h.ply → Told (end_if b t S h l words).it alpha beta (off (end_of (in_check t h.node) (pos n) h.ply))
  unfolding end_if
  end-ok true h l words alpha beta e p =
      rw (end_is n set t ok (in_check t h.node) h.node h.ply p) (λ _. same_tells n (off alpha) (off beta) _ (end_in n set t ok (in_check t h.node) h.node h.ply p))
  end-ok false h l words alpha beta e p = absurd (false≢true e)

  -- a walk from its start: the first move has the whole window
  first-ok
      : (j : ℕ) (v : Visit) (h : Here) (f : ℕ → ℤ) (l : Loc) (words : List ℕ) (hist : List ℤ) (w : ℕ) → suc j ≡ count_of t h.node
      → Window n l.alpha h.beta → KeepsV v → Kids v h.node h.depth h.ply f → w ≡ max (65536 - off (f 0)) (best_of none f j 1)
      → Left (walk_f v t S h None (suc j) 0 l words hist).it l.alpha h.beta w
  unfolding walk_f turn_if child_of order_at
  first-ok j v h f l words hist w em win kv kids ew =
      let c = first_of t h.node + 0 in
      let s = count_node l.state in
      let r = v s words hist (full_of h (counted_of l) c) in
      let o = win.order in
      full-ok v h None c 0 (walk_f v t S h None j (0 + 1)) (f 0) l.alpha 0 (best_of none f j 1) w (kids 0 (omega arith)) (omega arith)
      (counted_of l) (first_best t (counted_of l) c r.it) (move_of t c) s words hist refl (record {
        rest = walk-ok v h f l.alpha win kv kids j 1 refl (omega arith);
        keeps = keeps.walk_q t S Stopped (stays S) v h None j 1 kv;
        window = win;
        is_max = omega arith;
        below = o;
      })

  moves-ok
      : (m : ℕ) (v : Visit) (h : Here) (f : ℕ → ℤ) (l : Loc) (words : List ℕ) (hist : List ℤ) → m ≡ count_of t h.node → At t h.node h.ply
      → Window n l.alpha h.beta → KeepsV v → Kids v h.node h.depth h.ply f
      → Told (finish_of t S h (walk_f v t S h None m 0 l words hist)).it l.alpha h.beta (off (of_children m (end_of (in_check t h.node) (pos n) h.ply) f))
  unfolding walk_f finish_if of_children
  moves-ok zero v h f l words hist em p win kv kids = end-ok _ h l words l.alpha h.beta (eq-eqb (count_of t h.node) 0 (sym em)) p
  moves-ok (suc j) v h f l words hist em p win kv kids =
      let i0 = (kids 0 (omega arith)).in_range in
      let ni = neg_off n (f 0) ok.inf_high i0 in
      let bi = greatest-off n ok.inf_high none f (neg_ℤ (f 0)) j 1 (neg_z n ok.inf_high (f 0) i0) (λ q z. (kids q (omega arith)).in_range) in
      let w = walk_f v t S h None (suc j) 0 l words hist in
      finish-ok w.it h w.words l.alpha h.beta (off (greatest none f (neg_ℤ (f 0)) j 1)) (ne_eqb (count_of t h.node) 0 (λ z. omega arith))
      (first-ok j v h f l words hist (off (greatest none f (neg_ℤ (f 0)) j 1)) em win kv kids (omega arith))

  -- the whole visit, at a depth that has the check's extension

  record NodeOk (v : Visit) (f : ℕ → ℤ) (a : Args) : Type 0 where
    place : At t a.node a.ply
    window : Window n a.alpha a.beta
    keeps : KeepsV v
    kids : Kids v a.node a.depth a.ply f

  draw-ok
      : (b : Bool) (v : Visit) (f : ℕ → ℤ) (a : Args) (s : State) (words : List ℕ) (hist : List ℤ) → NodeOk v f a
      → Told (entered_f (draw_if b S t words s a) v t S words hist).it a.alpha a.beta (off (of_draw b S t a.node a.ply f))
  unfolding draw_if probe_of seen_of consult_of cut_if reverse_if reverse_futile entered_f deepen_if deepens_of hint_place place_of of_draw
  draw-ok true v f a s words hist o = λ _. same_tells n (off a.alpha) (off a.beta) _ (zero_in n ok.inf_high)
  draw-ok false v f a s words hist o = moves-ok (count_of t a.node) v _ f _ words hist refl o.place o.window o.keeps o.kids

  depth-ok
      : (b : Bool) (k : ℕ) (v : Visit) (f : ℕ → ℤ) (a : Args) (s : State) (words : List ℕ) (hist : List ℤ) → NodeOk v f a
      → Told (depth_if b k v t S s words hist a).it a.alpha a.beta (off (of_depth b k S t a.node a.ply f))
  unfolding depth_if of_depth enter_of
  depth-ok true k v f a s words hist o = captures-ok n set t ok k s words (capture_of a) o.place.in_tree o.window
  depth-ok false k v f a s words hist o = draw-ok (is_draw t a.node) v f a s words hist o

  stop-ok
      : (b : Bool) (k : ℕ) (v : Visit) (f : ℕ → ℤ) (a : Args) (s : State) (words : List ℕ) (hist : List ℤ) → b ≡ s.stop
      → NodeOk v f (with_depth a (depth_at t a.node a.depth))
      → Told (stop_if b k v t S s words hist a).it a.alpha a.beta (off (of_depth (eqb (depth_at t a.node a.depth) 0) k S t a.node a.ply f))
  unfolding stop_if
  stop-ok true k v f a s words hist e o = λ u. absurd (true≢false (e ∙ u))
  stop-ok false k v f a s words hist e o = rw (extend_is t a) (depth-ok _ k v f (with_depth a (depth_at t a.node a.depth)) s words hist o)

  pub visit-ok
      : (k : ℕ) (s : State) (words : List ℕ) (hist : List ℤ) (a : Args) → At t a.node a.ply → Window n a.alpha a.beta
      → Told (visit_f k t S s words hist a).it a.alpha a.beta (off (minimax_v k S t a.node (depth_at t a.node a.depth) a.ply))
  unfolding visit_f minimax_v
  visit-ok zero s words hist a p w = λ _. same_tells n (off a.alpha) (off a.beta) _ (zero_in n ok.inf_high)
  visit-ok (suc k) s words hist a p w =
      stop-ok _ (suc k) (visit_f k t S) _ a (poll_of set.limit s) words hist refl (record {
        place = p;
        window = w;
        keeps = keeps.visit_q t S Stopped (stays S) k;
        kids = λ i l.
            let c = child_at t a.node i in
            let q = kid_at n set.max_ply t ok a.node i a.ply p l in
            let d = depth_at t a.node a.depth - 1 in
            record {
              in_range = minimax_in n set t ok k c (depth_at t c d) (a.ply + 1) q;
              tells = λ side alpha beta s words hist w.
                  visit-ok k s words hist (record { node = c; side = side; alpha = alpha; beta = beta; depth = d; ply = a.ply + 1 }) q w;
            };
      })
