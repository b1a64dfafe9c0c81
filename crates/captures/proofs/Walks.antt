-- Laws of the walk and of the visit, at the values that the code has; and where the children of a capture visit are. Assumes nothing.
use mathlib.Core.Path.{◌≡◌, refl, sym, ap, subst, ◌∙◌}
use mathlib.Core.Bool.{Bool, true, false}
use mathlib.Core.List.{List}
use Prim.Native.Nat.{ℕ, zero, suc, ◌+◌, ◌-◌, ◌≤◌, ◌<◌}
use native.Mathlib.Nat.{not-suc-le-zero}
use native.Mathlib.Omega.{arith}
use lib.IntN.{ℤ}
use Rattle.tree.specs.Blocks.{nodes_of}
use Rattle.record.specs.Node.{first_of, count_of, eval_of, hash_of, is_quiet}
use Rattle.state.specs.declared.Settings.{Settings}
use Rattle.state.specs.declared.State.{State}
use Rattle.state.specs.declared.Out.{Out}
use Rattle.state.specs.declared.Consulted.{Consulted}
use Rattle.std.specs.declared.option.Option.{Option}
use Rattle.std.specs.declared.option.Option.TheVariants.{Some, None}
use Rattle.state.specs.Accepted.{AcceptedBy}
use Rattle.moves.specs.Order.{child_of}
use Rattle.state.specs.State.{Over, over, poll_of, seen_of, count_node}
use Rattle.moves.specs.Kid.{Kid}
use Rattle.tree.proofs.Blocked.{record_in}
use Rattle.moves.proofs.Kids.{kid, blocked, laid}
use Rattle.moves.proofs.Ordered.{Among, among, nowhere, place_among}
use Rattle.capture_steps.specs.declared.Capture.{Capture}
use Rattle.capture_steps.specs.declared.Here.{Here}
use Rattle.capture_steps.specs.declared.Loc.{Loc}
use Rattle.std.specs.declared.ops.ControlFlow.TheVariants.{Continue, Break}
use Rattle.captures.specs.Reach.{Reach}
use Rattle.capture_steps.specs.Step.{Turn, Entered, Pat, stand_pat, cut_if, consulted, patted, stop_if, enter_of}
use Rattle.capture_steps.specs.Step.{noisy_if, noisy_at, noisy_place, down_of, finish_of}
use Rattle.captures.specs.Captures.{Visit, judged, turn_if, turn_f, next_if, next_f, walk_f, walk_all, entered_f, captures_f}

-- one child
module _ (v : Visit) (set : Settings) (t : List ℕ) (h : Here) (l : Loc) (c : ℕ) (words : List ℕ) where
  pub turn_quiet : is_quiet t c ≡ true → over (Continue l) words ≡ turn_f v set t h l c words
  unfolding turn_if
  turn_quiet e = sym (ap (λ (q : Bool). turn_if q v set t h l c words) e)

  pub turn_noisy : is_quiet t c ≡ false → (r : Over Out) → r ≡ v (count_node l.state) words (down_of h l c) → judged set t h l c r ≡ turn_f v set t h l c words
  unfolding turn_if
  turn_noisy e r er = ap (judged set t h l c) er ∙ sym (ap (λ (q : Bool). turn_if q v set t h l c words) e)

-- the rest of a walk: n children, the i-th is next
module _ (v : Visit) (set : Settings) (t : List ℕ) (h : Here) (p : Option ℕ) (n i : ℕ) (l : Loc) (words : List ℕ) where
  step : (s : Over Turn) → i < n → s ≡ turn_f v set t h l (child_of t h.node p i) words
      → walk_f v set t h p (n - i) i l words ≡ next_f s (walk_f v set t h p (n - (i + 1)) (i + 1))
  unfolding walk_f
  step s lt e =
      let m : n - i ≡ suc (n - (i + 1)) = omega arith in
      ap (λ (m : ℕ). walk_f v set t h p m i l words) m ∙ sym (ap (λ (x : Over Turn). next_f x (walk_f v set t h p (n - (i + 1)) (i + 1))) e)

  pub walk_next : (s : Over Turn) (m : Loc) → i < n → s ≡ turn_f v set t h l (child_of t h.node p i) words → s.it ≡ Continue m
      → walk_f v set t h p (n - i) i l words ≡ walk_f v set t h p (n - (i + 1)) (i + 1) m s.words
  unfolding next_if
  walk_next s m lt e d = step s lt e ∙ ap (λ (q : Turn). next_if q s.words (walk_f v set t h p (n - (i + 1)) (i + 1))) d

  pub walk_cut : (s : Over Turn) (m : Loc) → i < n → s ≡ turn_f v set t h l (child_of t h.node p i) words → s.it ≡ Break m
      → walk_f v set t h p (n - i) i l words ≡ over (Break m) s.words
  unfolding next_if
  walk_cut s m lt e d = step s lt e ∙ ap (λ (q : Turn). next_if q s.words (walk_f v set t h p (n - (i + 1)) (i + 1))) d

  pub walk_over : n ≤ i → walk_f v set t h p (n - i) i l words ≡ over (Continue l) words
  unfolding walk_f
  walk_over le = let e : n - i ≡ 0 = omega arith in ap (λ (m : ℕ). walk_f v set t h p m i l words) e

-- a visit, one unit of fuel down
pub visit_step : (k n : ℕ) (set : Settings) (t : List ℕ) (s : State) (words : List ℕ) (a : Capture) → n < k
    → captures_f k set t s words a ≡ entered_f (enter_of set t words s a) (captures_f (k - 1) set t) set t words
unfolding captures_f
visit_step zero n set t s words a h = absurd (not-suc-le-zero h)
visit_step (suc k) n set t s words a h =
    let e : k ≡ suc k - 1 = omega arith in
    ap (λ (j : ℕ). entered_f (enter_of set t words s a) (captures_f j set t) set t words) e

module _
    (k n : ℕ) (set : Settings) (t : List ℕ) (s : State) (words : List ℕ) (a : Capture) (more : n < k) (e : Entered)
    (ee : e ≡ enter_of set t words s a) where
  entered : entered_f e (captures_f (k - 1) set t) set t words ≡ captures_f k set t s words a
  entered = ap (λ (x : Entered). entered_f x (captures_f (k - 1) set t) set t words) ee ∙ sym (visit_step k n set t s words a more)

  pub visit_answer : (o : Out) → e ≡ Break o → over o words ≡ captures_f k set t s words a
  unfolding entered_f
  visit_answer o q = sym (ap (λ (x : Entered). entered_f x (captures_f (k - 1) set t) set t words) q) ∙ entered

  pub visit_moves : (h : Here) (l : Loc) → e ≡ Continue (h, l) → (w : Over Turn) → w ≡ walk_all (captures_f (k - 1) set t) set t h l words
      → finish_of t set h w ≡ captures_f k set t s words a
  unfolding entered_f
  visit_moves h l q w ew = ap (finish_of t set h) ew ∙ sym (ap (λ (x : Entered). entered_f x (captures_f (k - 1) set t) set t words) q) ∙ entered

-- a hint's place, if noisy, is a place among the children
among_if : (n p : ℕ) (b : Bool) → p < n → Among n (noisy_if b p)
unfolding noisy_if
among_if n p true lt = nowhere
among_if n p false lt = among lt

among_noisy : (t : List ℕ) (n first : ℕ) (p : Option ℕ) → Among n p → Among n (noisy_at t first p)
unfolding noisy_at
among_noisy t n first None a = nowhere
among_noisy t n first (Some p) (among lt) = among_if n p (is_quiet t (first + p)) lt

pub noisy_among : (t : List ℕ) (h : Here) (l : Loc) → Among (count_of t h.node) (noisy_place t h l)
unfolding noisy_place
noisy_among t h l =
    among_noisy t (count_of t h.node) (first_of t h.node) _ (place_among t (first_of t h.node) (count_of t h.node) l.mv)

-- the i-th child in the order of the walk
pub kid_at : (set : Settings) (t : List ℕ) → AcceptedBy set t → (h : Here) (l : Loc) (p : Option ℕ) → p ≡ noisy_place t h l → h.node < nodes_of t
    → (i : ℕ) → i < count_of t h.node → Kid t h.node (child_of t h.node p i)
kid_at set t ok h l p e r i lt = kid set t ok h.node i p r (subst (Among (count_of t h.node)) (sym e) (noisy_among t h l)) lt

-- the walk that is left to be made is that of the visit's own node, depth and ply
abbrev pub Stays : Capture → Here → Type 0
Stays a h = (h.node ≡ a.node) × ((h.below ≡ a.below) × (h.ply ≡ a.ply))

abbrev Leaves : Capture → Entered → Type 0
Leaves a (Break o) = Unit {0}
Leaves a (Continue (h, l)) = Stays a h

leaves_cut : (cut : Option ℤ) (w : Consulted) (s : State) (a : Capture) (old : ℤ) → Leaves a (cut_if cut w s a old)
unfolding cut_if
leaves_cut (Some x) w s a old = tt
leaves_cut None w s a old = (refl, (refl, refl))

leaves_pat : (p : Pat) (set : Settings) (t words : List ℕ) (s : State) (a : Capture) → Leaves a (patted p set t words s a)
unfolding patted
leaves_pat (Break x) set t words s a = tt
leaves_pat (Continue alpha) set t words s a =
    let seen = seen_of set.table words s (hash_of t a.node) in
    leaves_cut (consulted seen a alpha).cut (consulted seen a alpha) seen.state a alpha

leaves_stop : (b : Bool) (set : Settings) (t words : List ℕ) (s : State) (a : Capture) → Leaves a (stop_if b set t words s a)
unfolding stop_if
leaves_stop true set t words s a = tt
leaves_stop false set t words s a = leaves_pat (stand_pat set (eval_of t a.node) a) set t words s a

pub enter_stays : (set : Settings) (t words : List ℕ) (s : State) (a : Capture) (h : Here) (l : Loc) → Continue (h, l) ≡ enter_of set t words s a → Stays a h
unfolding enter_of
enter_stays set t words s a h l e =
    let p = poll_of set.limit s in
    subst (Leaves a) (sym e) (leaves_stop p.stop set t words p a)

-- what is asked of a visit holds of its walk
reach_walk : (t : List ℕ) (a : Capture) (h : Here) → Stays a h → Reach t a.node a.below a.ply → Reach t h.node h.below h.ply
reach_walk t a h (n, (b, p)) r = rw (n, b, p) r

pub walk_reach : (set : Settings) (t words : List ℕ) (s : State) (a : Capture) (h : Here) (l : Loc) → Continue (h, l) ≡ enter_of set t words s a
    → Reach t a.node a.below a.ply → Reach t h.node h.below h.ply
walk_reach set t words s a h l e = reach_walk t a h (enter_stays set t words s a h l e)

-- a child is where a capture visit can be
pub kid_reach : (t : List ℕ) (k c below ply : ℕ) → Kid t k c → Reach t k below ply → Reach t c (below + 1) (ply + 1)
kid_reach t k c below ply g r =
    record { in_tree = g.in_tree; below_least = omega (arith, g.level, r.below_least); ply_least = omega (arith, g.level, r.ply_least) }

-- a node's record lies in an accepted tree
pub ruleset tree_rules = (blocked, laid, record_in)
