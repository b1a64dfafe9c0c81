-- More fuel changes nothing: at a node of an accepted tree any two fuels above the nodes left give one capture visit. Statement first. Assumes nothing.
use mathlib.Core.Path.{◌≡◌, refl, sym, ap, subst, ◌∙◌}
use mathlib.Core.Bool.{Bool, true, false}
use mathlib.Core.List.{List}
use Prim.Native.Nat.{ℕ, zero, suc, ◌+◌, ◌-◌, ◌≤◌, ◌<◌}
use native.Mathlib.Omega.{arith}
use Rattle.tree.specs.Blocks.{nodes_of}
use Rattle.record.specs.Node.{count_of, is_quiet}
use Rattle.state.specs.declared.Settings.{Settings}
use Rattle.state.specs.declared.State.{State}
use Rattle.std.specs.declared.option.Option.{Option}
use Rattle.state.specs.Accepted.{AcceptedBy}
use Rattle.moves.specs.Kid.{Kid}
use Rattle.moves.specs.Order.{child_of}
use Rattle.state.specs.State.{Over, count_node}
use Rattle.moves.proofs.Kids.{kid}
use Rattle.moves.proofs.Ordered.{Among}
use Rattle.capture_steps.specs.declared.Capture.{Capture}
use Rattle.capture_steps.specs.declared.Here.{Here}
use Rattle.capture_steps.specs.declared.Loc.{Loc}
use Rattle.std.specs.declared.ops.ControlFlow.TheVariants.{Continue, Break}
use Rattle.capture_steps.specs.Step.{Turn, Entered, enter_of, noisy_place, down_of, finish_of}
use Rattle.captures.specs.Captures.{Visit, judged, turn_if, next_if, next_f, walk_f, entered_f, captures_f}
use Rattle.captures.proofs.Walks.{noisy_among, enter_stays}

-- of every accepted tree, from every state and table, at every node, window, depth and ply: the same answer and the same words
abbrev pub CapturesFuel : Type 0
CapturesFuel =
    (set : Settings) (t : List ℕ) → AcceptedBy set t
    → (k m : ℕ) (s : State) (words : List ℕ) (a : Capture) → a.node < nodes_of t → nodes_of t - a.node < k → nodes_of t - a.node < m
    → captures_f k set t s words a ≡ captures_f m set t s words a

-- a walk's rest reads only what is left of it
next_same
    : (w : Turn) (words : List ℕ) (f g : Loc → List ℕ → Over Turn) → ((l : Loc) (words : List ℕ) → f l words ≡ g l words)
    → next_if w words f ≡ next_if w words g
unfolding next_if
next_same (Break l) words f g e = refl
next_same (Continue l) words f g e = e l words

module _ (set : Settings) (t : List ℕ) (ok : AcceptedBy set t) where
  -- two visits that answer alike at the nodes of the tree above a node
  abbrev Alike : ℕ → Visit → Visit → Type 0
  Alike node v w = (s : State) (words : List ℕ) (a : Capture) → node < a.node → a.node < nodes_of t → v s words a ≡ w s words a

  -- so they make of each child, of the walk and of the whole visit the same

  module _ (v w : Visit) (h : Here) (e : Alike h.node v w) where
    turn-same : (b : Bool) (l : Loc) (c : ℕ) (words : List ℕ) → Kid t h.node c → turn_if b v set t h l c words ≡ turn_if b w set t h l c words
    unfolding turn_if
    turn-same true l c words g = refl
    turn-same false l c words g = ap (judged set t h l c) (e (count_node l.state) words (down_of h l c) g.above g.in_tree)

    walk_same
        : (p : Option ℕ) → h.node < nodes_of t → Among (count_of t h.node) p → (n i : ℕ) → i + n ≤ count_of t h.node → (l : Loc) (words : List ℕ)
        → walk_f v set t h p n i l words ≡ walk_f w set t h p n i l words
    unfolding walk_f
    walk_same p lt a zero i le l words = refl
    walk_same p lt a (suc n) i le l words =
        let c = child_of t h.node p i in
        let turned = turn-same (is_quiet t c) l c words (kid set t ok h.node i p lt a (omega arith)) in
        ap (λ (s : Over Turn). next_f s (walk_f v set t h p n (i + 1))) turned
        ∙ next_same _ _ _ _ (walk_same p lt a n (i + 1) (omega arith))

  entered-same
      : (x : Entered) (v w : Visit) (s : State) (words : List ℕ) (a : Capture) → x ≡ enter_of set t words s a → a.node < nodes_of t → Alike a.node v w
      → entered_f x v set t words ≡ entered_f x w set t words
  unfolding entered_f
  entered-same (Break o) v w s words a ex lt e = refl
  entered-same (Continue (h, l)) v w s words a ex lt e =
      let en = (enter_stays set t words s a h l ex).0 in
      ap (finish_of t set h)
      (walk_same v w h (subst (λ (n : ℕ). Alike n v w) (sym en) e) (noisy_place t h l) (omega (arith, en)) (noisy_among t h l)
      (count_of t h.node) 0 (omega arith) l words)

pub captures_fuel : CapturesFuel
unfolding captures_f
captures_fuel set t ok zero m s words a lt j k = absurd (omega arith)
captures_fuel set t ok (suc i) zero s words a lt j k = absurd (omega arith)
captures_fuel set t ok (suc i) (suc m) s words a lt j k =
    entered-same set t ok (enter_of set t words s a) (captures_f i set t) (captures_f m set t) s words a refl lt
    (λ s' words' b up in_tree. captures_fuel set t ok i m s' words' b in_tree (omega arith) (omega arith))
