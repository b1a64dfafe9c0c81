-- Laws of a move's turn and of the walk, at the values that the code has. Assumes nothing.
use mathlib.Core.Path.{◌≡◌, sym, ap, ◌∙◌}
use mathlib.Core.Bool.{Bool, true, false}
use mathlib.Core.List.{List}
use Prim.Native.Nat.{ℕ, suc, ◌+◌, ◌-◌, ◌≤◌, ◌<◌}
use native.Mathlib.Omega.{arith}
use lib.Dec.{eqb}
use lib.IntN.{ℤ}
use borrow.Author.Tests.{eq-eqb, ne_eqb}
use Rattle.std.specs.declared.ops.ControlFlow.TheVariants.{Continue, Break}
use Rattle.record.specs.Node.{move_of}
use Rattle.state.specs.declared.Settings.{Settings}
use Rattle.state.specs.declared.Out.{Out}
use Rattle.std.specs.declared.option.Option.{Option}
use Rattle.moves.specs.Order.{child_of}
use Rattle.carry.specs.declared.Here.{Here}
use Rattle.carry.specs.declared.Loc.{Loc}
use Rattle.carry.specs.Carry.{Turn, With, with}
use Rattle.turn.specs.Window.{counted_of, full_of, null_of, again_of, inside_of}
use Rattle.turn.specs.Prune.{futile_of, reduction_at}
use Rattle.leave.specs.Cutoff.{cutoff_of}
use Rattle.visits.specs.Search.{Visit, widen_if, widen_f, again_if, again_f, reduced_f, judged, judged_first, futile_if, turn_if, turn_f, cut_of, next_if, next_f, walk_f}

-- the full window again
module _ (v : Visit) (h : Here) (l : Loc) (c : ℕ) (r : With Out) where
  pub widen_yes : inside_of h l r.it ≡ true → (q : With Out) → q ≡ v r.it.state r.words r.history (full_of h l c) → q ≡ widen_f v h l c r
  unfolding widen_if
  widen_yes e q eq = eq ∙ sym (ap (λ (b : Bool). widen_if b v h l c r) e)

  pub widen_no : inside_of h l r.it ≡ false → r ≡ widen_f v h l c r
  unfolding widen_if
  widen_no e = sym (ap (λ (b : Bool). widen_if b v h l c r) e)

-- the reduced visit
module _ (v : Visit) (h : Here) (l : Loc) (c d : ℕ) (words : List ℕ) (hist : List ℤ) (r : With Out) (er : r ≡ v l.state words hist (null_of h l c d)) where
  reduced : again_f v h l c d r ≡ reduced_f v h l c d words hist
  unfolding reduced_f
  reduced = ap (again_f v h l c d) er

  pub reduced_again : again_of l d r.it ≡ true → (q : With Out) → q ≡ v r.it.state r.words r.history (null_of h l c 0) → widen_f v h l c q ≡ reduced_f v h l c d words hist
  unfolding again_if
  reduced_again e q eq = ap (widen_f v h l c) eq ∙ sym (ap (λ (b : Bool). again_if b v h l c r) e) ∙ reduced

  pub reduced_once : again_of l d r.it ≡ false → widen_f v h l c r ≡ reduced_f v h l c d words hist
  unfolding again_if
  reduced_once e = sym (ap (λ (b : Bool). again_if b v h l c r) e) ∙ reduced

-- one move's turn
module _ (v : Visit) (t : List ℕ) (set : Settings) (h : Here) (c i : ℕ) (l₀ l : Loc) (words : List ℕ) (hist : List ℤ) (el : l ≡ counted_of l₀) where
  counted : turn_if (eqb i 0) v t set h l c i words hist ≡ turn_f v t set h c i l₀ words hist
  counted = ap (λ (x : Loc). turn_if (eqb i 0) v t set h x c i words hist) el

  pub turn_first : i ≡ 0 → (r : With Out) → r ≡ v l.state words hist (full_of h l c) → judged_first t h l c r ≡ turn_f v t set h c i l₀ words hist
  unfolding turn_if
  turn_first z r er = ap (judged_first t h l c) er ∙ sym (ap (λ (b : Bool). turn_if b v t set h l c i words hist) (eq-eqb i 0 z)) ∙ counted

  module _ (later : i ≡ 0 → ⊥) where
    futile : futile_if (futile_of t set h l c) v t set h l c i words hist ≡ turn_f v t set h c i l₀ words hist
    unfolding turn_if
    futile = sym (ap (λ (b : Bool). turn_if b v t set h l c i words hist) (ne_eqb i 0 later)) ∙ counted

    pub turn_futile : futile_of t set h l c ≡ true → with (Continue l) words hist ≡ turn_f v t set h c i l₀ words hist
    unfolding futile_if
    turn_futile e = sym (ap (λ (b : Bool). futile_if b v t set h l c i words hist) e) ∙ futile

    pub turn_reduced : futile_of t set h l c ≡ false → (d : ℕ) → d ≡ reduction_at t set h c i → (r : With Out) → r ≡ reduced_f v h l c d words hist
        → judged h l (move_of t c) r ≡ turn_f v t set h c i l₀ words hist
    unfolding futile_if
    turn_reduced e d ed r er =
        ap (judged h l (move_of t c)) (er ∙ ap (λ (x : ℕ). reduced_f v h l c x words hist) ed) ∙ sym (ap (λ (b : Bool). futile_if b v t set h l c i words hist) e) ∙ futile

-- the rest of a walk: n moves, the i-th is next
module _ (v : Visit) (t : List ℕ) (set : Settings) (h : Here) (p : Option ℕ) (n i : ℕ) (l : Loc) (words : List ℕ) (hist : List ℤ) where
  module _ (s : With Turn) (lt : i < n) (e : s ≡ turn_f v t set h (child_of t h.node p i) i l words hist) where
    abbrev rest : Turn → With Turn
    rest q = next_if q s.words s.history t set h p (child_of t h.node p i) i (walk_f v t set h p (n - (i + 1)) (i + 1))

    step : walk_f v t set h p (n - i) i l words hist ≡ next_f t set h p (child_of t h.node p i) i s (walk_f v t set h p (n - (i + 1)) (i + 1))
    unfolding walk_f
    step =
        let m : n - i ≡ suc (n - (i + 1)) = omega arith in
        ap (λ (m : ℕ). walk_f v t set h p m i l words hist) m
        ∙ sym (ap (λ (x : With Turn). next_f t set h p (child_of t h.node p i) i x (walk_f v t set h p (n - (i + 1)) (i + 1))) e)

    pub walk_next : (m : Loc) → s.it ≡ Continue m → walk_f v t set h p (n - i) i l words hist ≡ walk_f v t set h p (n - (i + 1)) (i + 1) m s.words s.history
    unfolding next_if
    walk_next m d = step ∙ ap rest d

    pub walk_cut : (m : Loc) → s.it ≡ Break m → walk_f v t set h p (n - i) i l words hist ≡ cut_of (cutoff_of t set h p (child_of t h.node p i) i m s.words s.history)
    unfolding next_if
    walk_cut m d = step ∙ ap rest d

  pub walk_over : n ≤ i → walk_f v t set h p (n - i) i l words hist ≡ with (Continue l) words hist
  unfolding walk_f
  walk_over le = let e : n - i ≡ 0 = omega arith in ap (λ (m : ℕ). walk_f v t set h p m i l words hist) e
