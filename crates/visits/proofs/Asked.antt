-- What a visit asks holds of the visits that it makes. Assumes nothing.
use mathlib.Core.Path.{◌≡◌, refl, sym, subst, ◌∙◌}
use mathlib.Core.Bool.{Bool, true, false, ◌&&◌}
use mathlib.Core.List.{List}
use Prim.Native.Nat.{ℕ, ◌+◌, ◌-◌, ◌≤◌, ◌<◌}
use native.Mathlib.Omega.{arith}
use lib.Dec.{eqb, ltb}
use lib.IntN.{ℤ}
use lib.ListN.{length}
use borrow.Author.Tests.{ltb-true}
use Rattle.tree.specs.Blocks.{nodes_of}
use Rattle.record.specs.Node.{first_of, count_of, hash_of, in_check, is_draw}
use Rattle.tree.proofs.Every.{two}
use Rattle.tree.proofs.Blocked.{record_in}
use Rattle.state.specs.declared.Settings.{Settings}
use Rattle.state.specs.declared.State.{State}
use Rattle.state.specs.declared.Consulted.{Consulted}
use Rattle.std.specs.declared.option.Option.{Option}
use Rattle.std.specs.declared.option.Option.TheVariants.{Some, None}
use Rattle.std.specs.declared.ops.ControlFlow.TheVariants.{Continue, Break}
use Rattle.state.specs.Accepted.{AcceptedBy}
use Rattle.moves.specs.Kid.{Kid}
use Rattle.moves.specs.Order.{child_of}
use Rattle.state.specs.State.{seen_of}
use Rattle.moves.proofs.Kids.{kid, blocked, laid, level_low}
use Rattle.moves.proofs.Ordered.{Among, place_among}
use Rattle.captures.specs.Reach as captures
use Rattle.carry.specs.declared.Args.{Args}
use Rattle.carry.specs.declared.Here.{Here}
use Rattle.carry.specs.declared.Loc.{Loc}
use Rattle.carry.specs.Carry.{Entered}
use Rattle.enter.specs.Enter.{hint_place, extended, extend_of, here_of, loc_of, reverse_futile, reverse_if, cut_if, consulted, full_window, probe_of, draw_if, enter_of, deepens_of, inner_of}
use Rattle.turn.specs.Window.{full_of, null_of}
use Rattle.turn.specs.Prune.{reduction_if, reduction_at, late_of}
use Rattle.visits.specs.Reach.{Ready, Reach, Inside, need}
use Rattle.visits.specs.Search.{whole}

-- lent memory keeps its size
pub still_ready : (set : Settings) (t words words' : List ℕ) (hist hist' : List ℤ) → Ready set t words hist → length words' ≡ length words → length hist' ≡ length hist → Ready set t words' hist'
still_ready set t words words' hist hist' r ew eh =
    record { accepted = r.accepted; hh_above = r.hh_above; words_least = omega (arith, r.words_least); history_length = eh ∙ r.history_length }

-- the depth after the extension
extended_most : (b : Bool) (d : ℕ) → extended b d ≤ d + 1
unfolding extended
extended_most true d = omega arith
extended_most false d = omega arith

pub extend_most : (t : List ℕ) (a : Args) → (extend_of t a).depth ≤ a.depth + 1
unfolding extend_of
extend_most t a = extended_most (in_check t a.node) a.depth

-- b is a with another depth
abbrev pub Same : Args → Args → Type 0
Same b a = (b.node ≡ a.node) × ((b.side ≡ a.side) × (b.ply ≡ a.ply))

pub extend_same : (t : List ℕ) (a : Args) → Same (extend_of t a) a
unfolding extend_of
extend_same t a = (refl, (refl, refl))

-- the same of what `extend` returned
module _ (t : List ℕ) (a x : Args) (ex : x ≡ extend_of t a) where
  pub same_after : Same x a
  same_after = subst (λ (y : Args). Same y a) (sym ex) (extend_same t a)

  pub most_after : x.depth ≤ a.depth + 1
  most_after = subst (λ (y : Args). y.depth ≤ a.depth + 1) (sym ex) (extend_most t a)

-- the walk that is left to be made is that of the visit's own node, side, depth and ply
abbrev pub Stays : Args → Here → Type 0
Stays a h = (h.node ≡ a.node) × ((h.side ≡ a.side) × ((h.depth ≡ a.depth) × (h.ply ≡ a.ply)))

abbrev Leaves : Args → Entered → Type 0
Leaves a (Break o) = Unit {0}
Leaves a (Continue (h, l)) = Stays a h

leaves_reverse : (b : Bool) (a : Args) (h : Here) (l : Loc) → Stays a h → Leaves a (reverse_if b h l)
unfolding reverse_if
leaves_reverse true a h l s = tt
leaves_reverse false a h l s = s

leaves_cut : (cut : Option ℤ) (set : Settings) (t : List ℕ) (a : Args) (full : Bool) (w : Consulted) (s : State) → Leaves a (cut_if cut set t a full w s)
unfolding cut_if
leaves_cut (Some x) set t a full w s = tt
leaves_cut None set t a full w s =
    leaves_reverse (reverse_futile t set (here_of t a full w)) a (here_of t a full w) (loc_of a w s) (refl, (refl, (refl, refl)))

leaves_draw : (b : Bool) (set : Settings) (t words : List ℕ) (s : State) (a : Args) → Leaves a (draw_if b set t words s a)
unfolding draw_if probe_of
leaves_draw true set t words s a = tt
leaves_draw false set t words s a =
    let seen = seen_of set.table words s (hash_of t a.node) in
    let full = full_window a.alpha a.beta in
    leaves_cut (consulted seen a full).cut set t a full (consulted seen a full) seen.state

pub enter_stays : (set : Settings) (t words : List ℕ) (s : State) (a : Args) (h : Here) (l : Loc) → Continue (h, l) ≡ enter_of set t words s a → Stays a h
unfolding enter_of
enter_stays set t words s a h l e = subst (Leaves a) (sym e) (leaves_draw (is_draw t a.node) set t words s a)

-- a visit whose extended depth is not 0
pub inside : (t : List ℕ) (a x : Args) (h : Here) → x ≡ extend_of t a → Reach t a → (x.depth ≡ 0 → ⊥) → Stays x h → Inside t h
inside t a x h ex r z (n, (s, (d, p))) =
    let same = same_after t a x ex in
    let most = most_after t a x ex in
    let en : h.node ≡ a.node = n ∙ same.0 in
    record {
      in_tree = rw en r.in_tree;
      side_most = rw (s ∙ same.1.0) r.side_most;
      depth_least = omega (arith, d);
      depth_most = omega (arith, d, r.depth_most);
      ply_most = rw (en, p ∙ same.1.1) r.ply_most;
    }

-- a capture visit at depth 0
pub to_captures : (t : List ℕ) (a x : Args) → x ≡ extend_of t a → Reach t a → captures.Reach t x.node 1 (x.ply + 1)
to_captures t a x ex r =
    let same = same_after t a x ex in
    rw (same.0, same.1.1) (record { in_tree = r.in_tree; below_least = omega arith; ply_least = omega (arith, r.ply_most) })

-- inner deepening
pub deep_enough : (set : Settings) (h : Here) (l : Loc) → deepens_of set h l ≡ true → 2 < h.depth
unfolding deepens_of
deep_enough set h l e = ltb-true 2 h.depth (two (set.inner_deepening && h.full && eqb l.mv 0) (ltb 2 h.depth) e).1

pub to_inner : (t : List ℕ) (h : Here) (l : Loc) → Inside t h → Reach t (inner_of h l)
to_inner t h l i =
    record { in_tree = i.in_tree; side_most = i.side_most; depth_most = omega (arith, i.depth_most); ply_most = i.ply_most }

-- the children
module _ (t : List ℕ) (h : Here) (l : Loc) (c : ℕ) (i : Inside t h) (k : Kid t h.node c) where
  pub to_full : Reach t (full_of h l c)
  to_full =
      record { in_tree = k.in_tree; side_most = omega arith; depth_most = omega (arith, i.depth_most); ply_most = omega (arith, i.ply_most, k.level) }

  pub to_null : (d : ℕ) → Reach t (null_of h l c d)
  to_null d =
      record { in_tree = k.in_tree; side_most = omega arith; depth_most = omega (arith, i.depth_most); ply_most = omega (arith, i.ply_most, k.level) }

pub hint_among : (t : List ℕ) (h : Here) (l : Loc) → Among (count_of t h.node) (hint_place t h l)
unfolding hint_place
hint_among t h l = place_among t (first_of t h.node) (count_of t h.node) l.mv

-- the i-th child in the order of the walk
pub kid_at : (set : Settings) (t : List ℕ) → AcceptedBy set t → (h : Here) (l : Loc) (p : Option ℕ) → p ≡ hint_place t h l → h.node < nodes_of t
    → (i : ℕ) → i < count_of t h.node → Kid t h.node (child_of t h.node p i)
kid_at set t ok h l p e r i lt = kid set t ok h.node i p r (subst (Among (count_of t h.node)) (sym e) (hint_among t h l)) lt

-- a reduction leaves a depth
reduction_if_lem : (b : Bool) (t : List ℕ) (h : Here) (c i : ℕ) → reduction_if b t h c i ≤ h.depth - 1
unfolding reduction_if
reduction_if_lem true t h c i = omega arith
reduction_if_lem false t h c i = omega arith

pub reduction_most : (t : List ℕ) (set : Settings) (h : Here) (c i : ℕ) → reduction_at t set h c i ≤ h.depth - 1
reduction_most t set h c i = reduction_if_lem (late_of t set h c i) t h c i

-- the fuel of the whole tree is enough for any visit
pub enough : (t : List ℕ) (a : Args) → Reach t a → need t a.node a.depth < whole t
enough t a r = omega (arith, r.depth_most)

-- a node's record lies in an accepted tree, and its level is low
pub ruleset node_rules = (blocked, laid, record_in, level_low)
