-- Laws of a visit's steps around its walk, at the values that the code has. Assumes nothing.
use mathlib.Core.Path.{◌≡◌, sym, ap, ◌∙◌}
use mathlib.Core.Bool.{Bool, true, false}
use mathlib.Core.List.{List}
use Prim.Native.Nat.{ℕ, zero, suc, ◌-◌, ◌<◌}
use native.Mathlib.Nat.{not-suc-le-zero}
use native.Mathlib.Omega.{arith}
use lib.IntN.{ℤ, pos}
use borrow.Author.Tests.{eq-eqb, ne_eqb}
use Rattle.std.specs.declared.ops.ControlFlow.TheVariants.{Continue, Break}
use Rattle.state.specs.declared.Settings.{Settings}
use Rattle.state.specs.declared.State.{State}
use Rattle.state.specs.declared.Out.{Out}
use Rattle.state.specs.State.{Over, poll_of, answer_of}
use Rattle.captures.specs.Captures.{captures_f}
use Rattle.carry.specs.declared.Args.{Args}
use Rattle.carry.specs.declared.Here.{Here}
use Rattle.carry.specs.declared.Loc.{Loc}
use Rattle.carry.specs.Carry.{Turn, Entered, With, with, beside}
use Rattle.enter.specs.Enter.{extend_of, enter_of, deepens_of, inner_of}
use Rattle.leave.specs.Finish.{finish_of}
use Rattle.visits.specs.Search.{Visit, capture_of, walk_all, hinted, deepen_if, deepen_f, entered_f, depth_if, depth_f, stop_if, polled_f, visit_f}

-- inner deepening
module _ (v : Visit) (t : List ℕ) (set : Settings) (h : Here) (l : Loc) (words : List ℕ) (hist : List ℤ) where
  pub deepen_yes : deepens_of set h l ≡ true → (r : With Out) → r ≡ v l.state words hist (inner_of h l) → hinted t set h l r ≡ deepen_f v t set h l words hist
  unfolding deepen_if
  deepen_yes e r er = ap (hinted t set h l) er ∙ sym (ap (λ (b : Bool). deepen_if b v t set h l words hist) e)

  pub deepen_no : deepens_of set h l ≡ false → with l words hist ≡ deepen_f v t set h l words hist
  unfolding deepen_if
  deepen_no e = sym (ap (λ (b : Bool). deepen_if b v t set h l words hist) e)

-- a visit, one unit of fuel down
visit_step : (k n : ℕ) (t : List ℕ) (set : Settings) (st : State) (words : List ℕ) (hist : List ℤ) (a : Args) → n < k
    → visit_f k t set st words hist a ≡ polled_f k (visit_f (k - 1) t set) t set (poll_of set.limit st) words hist a
unfolding visit_f
visit_step zero n t set st words hist a h = absurd (not-suc-le-zero h)
visit_step (suc k) n t set st words hist a h =
    let e : k ≡ suc k - 1 = omega arith in
    ap (λ (j : ℕ). polled_f (suc k) (visit_f j t set) t set (poll_of set.limit st) words hist a) e

module _ (k n : ℕ) (t : List ℕ) (set : Settings) (st s : State) (words : List ℕ) (hist : List ℤ) (a : Args) (more : n < k) (es : s ≡ poll_of set.limit st) where
  abbrev v : Visit
  v = visit_f (k - 1) t set

  polled : polled_f k v t set s words hist a ≡ visit_f k t set st words hist a
  polled = ap (λ (x : State). polled_f k v t set x words hist a) es ∙ sym (visit_step k n t set st words hist a more)

  pub visit_stop : s.stop ≡ true → with (answer_of (pos 0) s) words hist ≡ visit_f k t set st words hist a
  unfolding stop_if
  visit_stop e = sym (ap (λ (b : Bool). stop_if b k v t set s words hist a) e) ∙ polled

  module _ (go : s.stop ≡ false) (x : Args) (ex : x ≡ extend_of t a) where
    going : depth_f k v t set s words hist x ≡ visit_f k t set st words hist a
    unfolding stop_if
    going = ap (depth_f k v t set s words hist) ex ∙ sym (ap (λ (b : Bool). stop_if b k v t set s words hist a) go) ∙ polled

    pub visit_captures : x.depth ≡ 0 → (r : Over Out) → r ≡ captures_f k set t s words (capture_of x) → beside r hist ≡ visit_f k t set st words hist a
    unfolding depth_if
    visit_captures z r er =
        ap (λ (y : Over Out). beside y hist) er ∙ sym (ap (λ (b : Bool). depth_if b k v t set s words hist x) (eq-eqb x.depth 0 z)) ∙ going

    module _ (deep : x.depth ≡ 0 → ⊥) (e : Entered) (ee : e ≡ enter_of set t words s x) where
      entered : entered_f e v t set words hist ≡ visit_f k t set st words hist a
      unfolding depth_if
      entered =
          ap (λ (y : Entered). entered_f y v t set words hist) ee ∙ sym (ap (λ (b : Bool). depth_if b k v t set s words hist x) (ne_eqb x.depth 0 deep)) ∙ going

      pub visit_answer : (o : Out) → e ≡ Break o → with o words hist ≡ visit_f k t set st words hist a
      unfolding entered_f
      visit_answer o q = sym (ap (λ (y : Entered). entered_f y v t set words hist) q) ∙ entered

      pub visit_moves : (h : Here) (l : Loc) → e ≡ Continue (h, l) → (d : With Loc) → d ≡ deepen_f v t set h l words hist → (w : With Turn) → w ≡ walk_all v t set h d
          → finish_of t set h w ≡ visit_f k t set st words hist a
      unfolding entered_f
      visit_moves h l q d ed w ew =
          ap (finish_of t set h) (ew ∙ ap (walk_all v t set h) ed) ∙ sym (ap (λ (y : Entered). entered_f y v t set words hist) q) ∙ entered
