-- More fuel changes nothing: at a node of an accepted tree any two fuels above the pair of nodes left and depth give one visit, so a reader may forget
-- the fuel. Statements first. Assumes nothing.
use mathlib.Core.Path.{◌≡◌, refl, sym, ap, ◌∙◌}
use mathlib.Core.Bool.{Bool, true, false}
use mathlib.Core.List.{List}
use Prim.Native.Nat.{ℕ, zero, suc, ◌+◌, ◌-◌, ◌≤◌, ◌<◌}
use native.Mathlib.Omega.{arith}
use lib.Dec.{eqb}
use lib.IntN.{ℤ}
use Rattle.std.specs.declared.ops.ControlFlow.TheVariants.{Continue, Break}
use Rattle.tree.specs.Blocks.{nodes_of}
use Rattle.record.specs.Node.{count_of, move_of}
use Rattle.state.specs.declared.Settings.{Settings}
use Rattle.state.specs.declared.State.{State}
use Rattle.state.specs.declared.Out.{Out}
use Rattle.std.specs.declared.option.Option.{Option}
use Rattle.state.specs.Accepted.{AcceptedBy}
use Rattle.moves.specs.Kid.{Kid}
use Rattle.moves.specs.Order.{child_of}
use Rattle.state.specs.State.{Over, poll_of}
use Rattle.moves.proofs.Kids.{kid}
use Rattle.moves.proofs.Ordered.{Among}
use Rattle.captures.proofs.Fuel.{captures_fuel}
use Rattle.carry.specs.declared.Args.{Args}
use Rattle.carry.specs.declared.Here.{Here}
use Rattle.carry.specs.declared.Loc.{Loc}
use Rattle.carry.specs.Carry.{Turn, Entered, With, beside}
use Rattle.enter.specs.Enter.{hint_place, extend_of, enter_of, deepens_of, inner_of}
use Rattle.turn.specs.Window.{counted_of, full_of, null_of, again_of, inside_of}
use Rattle.turn.specs.Prune.{futile_of, reduction_at}
use Rattle.leave.specs.Finish.{finish_of}
use Rattle.visits.specs.Reach.{Reach, need}
use Rattle.visits.specs.Search.{Visit, capture_of, widen_if, widen_f, again_if, again_f, reduced_f, judged, judged_first, futile_if, turn_if, next_if, next_f, walk_f, walk_all, hinted, deepen_if, deepen_f, entered_f, depth_if, stop_if, polled_f, visit_f, whole, node_search}
use Rattle.visits.proofs.Asked.{extend_most, extend_same, enter_stays, deep_enough, hint_among, enough}

-- of every accepted tree, from every state, table and history, at every node, side, window, depth and ply: the same answer, words and entries
abbrev pub VisitFuel : Type 0
VisitFuel =
    (t : List ℕ) (set : Settings) → AcceptedBy set t
    → (k m : ℕ) (s : State) (words : List ℕ) (hist : List ℤ) (a : Args)
    → a.node < nodes_of t → need t a.node a.depth < k → need t a.node a.depth < m
    → visit_f k t set s words hist a ≡ visit_f m t set s words hist a

-- where a search can be, a visit with fuel enough is the node search
abbrev pub IsNodeSearch : Type 0
IsNodeSearch =
    (t : List ℕ) (set : Settings) → AcceptedBy set t
    → (k : ℕ) (s : State) (words : List ℕ) (hist : List ℤ) (a : Args) → Reach t a → need t a.node a.depth < k
    → visit_f k t set s words hist a ≡ node_search t set s words hist a

-- the node search by its own steps: each visit that it makes is the node search again
abbrev pub NodeSearchAgain : Type 0
NodeSearchAgain =
    (t : List ℕ) (set : Settings) → AcceptedBy set t
    → (s : State) (words : List ℕ) (hist : List ℤ) (a : Args) → Reach t a
    → node_search t set s words hist a ≡ polled_f (whole t) (node_search t set) t set (poll_of set.limit s) words hist a

-- a walk's rest reads only what is left of it
next_same
    : (r : Turn) (words : List ℕ) (hist : List ℤ) (t : List ℕ) (set : Settings) (h : Here) (p : Option ℕ) (c i : ℕ) (f g : Loc → List ℕ → List ℤ → With Turn)
    → ((l : Loc) (words : List ℕ) (hist : List ℤ) → f l words hist ≡ g l words hist)
    → next_if r words hist t set h p c i f ≡ next_if r words hist t set h p c i g
unfolding next_if
next_same (Break l) words hist t set h p c i f g e = refl
next_same (Continue l) words hist t set h p c i f g e = e l words hist

module _ (t : List ℕ) (set : Settings) (ok : AcceptedBy set t) where
  -- two visits that answer alike at the nodes of the tree, where they need less than n
  abbrev Alike : ℕ → Visit → Visit → Type 0
  Alike n v w =
      (s : State) (words : List ℕ) (hist : List ℤ) (a : Args) → a.node < nodes_of t → need t a.node a.depth < n → v s words hist a ≡ w s words hist a

  -- so they make of each child, of the walk and of inner deepening the same, in a visit that needs n before its extension

  module _ (n : ℕ) (v w : Visit) (e : Alike n v w) (h : Here) (lt : h.node < nodes_of t) (enough : need t h.node h.depth ≤ n + 1) where
    -- one child
    module _ (c : ℕ) (g : Kid t h.node c) where
      full-same : (l : Loc) (s : State) (words : List ℕ) (hist : List ℤ) → v s words hist (full_of h l c) ≡ w s words hist (full_of h l c)
      full-same l s words hist = e s words hist (full_of h l c) g.in_tree (omega (arith, g.above))

      null-same : (l : Loc) (d : ℕ) (s : State) (words : List ℕ) (hist : List ℤ) → v s words hist (null_of h l c d) ≡ w s words hist (null_of h l c d)
      null-same l d s words hist = e s words hist (null_of h l c d) g.in_tree (omega (arith, g.above))

      widen-same : (b : Bool) (l : Loc) (r : With Out) → widen_if b v h l c r ≡ widen_if b w h l c r
      unfolding widen_if
      widen-same true l r = full-same l r.it.state r.words r.history
      widen-same false l r = refl

      again-same : (b : Bool) (l : Loc) (r : With Out) → again_if b v h l c r ≡ again_if b w h l c r
      unfolding again_if
      again-same true l r =
          let q = w r.it.state r.words r.history (null_of h l c 0) in
          ap (widen_f v h l c) (null-same l 0 r.it.state r.words r.history) ∙ widen-same (inside_of h l q.it) l q
      again-same false l r = widen-same (inside_of h l r.it) l r

      reduced-same : (l : Loc) (d : ℕ) (words : List ℕ) (hist : List ℤ) → reduced_f v h l c d words hist ≡ reduced_f w h l c d words hist
      unfolding reduced_f
      reduced-same l d words hist =
          let r = w l.state words hist (null_of h l c d) in
          ap (again_f v h l c d) (null-same l d l.state words hist) ∙ again-same (again_of l d r.it) l r

      futile-same : (b : Bool) (l : Loc) (i : ℕ) (words : List ℕ) (hist : List ℤ) → futile_if b v t set h l c i words hist ≡ futile_if b w t set h l c i words hist
      unfolding futile_if
      futile-same true l i words hist = refl
      futile-same false l i words hist = ap (judged h l (move_of t c)) (reduced-same l (reduction_at t set h c i) words hist)

      turn-same : (b : Bool) (l : Loc) (i : ℕ) (words : List ℕ) (hist : List ℤ) → turn_if b v t set h l c i words hist ≡ turn_if b w t set h l c i words hist
      unfolding turn_if
      turn-same true l i words hist = ap (judged_first t h l c) (full-same l l.state words hist)
      turn-same false l i words hist = futile-same (futile_of t set h l c) l i words hist

    walk_same
        : (p : Option ℕ) → Among (count_of t h.node) p → (j i : ℕ) → i + j ≤ count_of t h.node → (l : Loc) (words : List ℕ) (hist : List ℤ)
        → walk_f v t set h p j i l words hist ≡ walk_f w t set h p j i l words hist
    unfolding walk_f
    walk_same p a zero i le l words hist = refl
    walk_same p a (suc j) i le l words hist =
        let c = child_of t h.node p i in
        let turned = turn-same c (kid set t ok h.node i p lt a (omega arith)) (eqb i 0) (counted_of l) i words hist in
        ap (λ (s : With Turn). next_f t set h p c i s (walk_f v t set h p j (i + 1))) turned
        ∙ next_same _ _ _ t set h p c i _ _ (walk_same p a j (i + 1) (omega arith))

    all_same : (l : With Loc) → walk_all v t set h l ≡ walk_all w t set h l
    all_same l = walk_same (hint_place t h l.it) (hint_among t h l.it) (count_of t h.node) 0 (omega arith) l.it l.words l.history

    deepen-same
        : (b : Bool) (l : Loc) (words : List ℕ) (hist : List ℤ) → b ≡ deepens_of set h l → deepen_if b v t set h l words hist ≡ deepen_if b w t set h l words hist
    unfolding deepen_if
    deepen-same true l words hist eb =
        let deep = deep_enough set h l (sym eb) in
        ap (hinted t set h l) (e l.state words hist (inner_of h l) lt (omega arith))
    deepen-same false l words hist eb = refl

    moves-same : (l : Loc) (words : List ℕ) (hist : List ℤ) → entered_f (Continue (h, l)) v t set words hist ≡ entered_f (Continue (h, l)) w t set words hist
    unfolding entered_f
    moves-same l words hist =
        ap (finish_of t set h) (ap (walk_all v t set h) (deepen-same (deepens_of set h l) l words hist refl) ∙ all_same (deepen_f w t set h l words hist))

  -- the steps of a visit that needs n before its extension, x being its arguments after it
  module _ (n : ℕ) (v w : Visit) (e : Alike n v w) where
    module _ (s : State) (words : List ℕ) (hist : List ℤ) (x : Args) (lt : x.node < nodes_of t) (enough : need t x.node x.depth ≤ n + 1) where
      entered-same : (y : Entered) → y ≡ enter_of set t words s x → entered_f y v t set words hist ≡ entered_f y w t set words hist
      unfolding entered_f
      entered-same (Break o) ey = refl
      entered-same (Continue (h, l)) ey =
          let stays = enter_stays set t words s x h l ey in
          let en = stays.0 in
          let ed = stays.1.1.0 in
          moves-same n v w e h (omega arith) (rw (en, ed) enough) l words hist

      depth_same
          : (b : Bool) (k m : ℕ) → nodes_of t - x.node < k → nodes_of t - x.node < m
          → depth_if b k v t set s words hist x ≡ depth_if b m w t set s words hist x
      unfolding depth_if
      depth_same true k m j i = ap (λ (r : Over Out). beside r hist) (captures_fuel set t ok k m s words (capture_of x) lt j i)
      depth_same false k m j i = entered-same (enter_of set t words s x) refl

    stop-same
        : (b : Bool) (k m : ℕ) (s : State) (words : List ℕ) (hist : List ℤ) (a : Args)
        → a.node < nodes_of t → need t a.node a.depth ≡ n → n < k → n < m
        → stop_if b k v t set s words hist a ≡ stop_if b m w t set s words hist a
    unfolding stop_if
    stop-same true k m s words hist a lt en j i = refl
    stop-same false k m s words hist a lt en j i =
        let same = (extend_same t a).0 in
        let most = extend_most t a in
        depth_same s words hist (extend_of t a) (omega arith) (omega arith) (eqb (extend_of t a).depth 0) k m (omega arith) (omega arith)

pub visit_fuel : VisitFuel
unfolding visit_f
visit_fuel t set ok zero m s words hist a lt j i = absurd (omega arith)
visit_fuel t set ok (suc k) zero s words hist a lt j i = absurd (omega arith)
visit_fuel t set ok (suc k) (suc m) s words hist a lt j i =
    let p = poll_of set.limit s in
    stop-same t set ok (need t a.node a.depth) (visit_f k t set) (visit_f m t set)
    (λ s' words' hist' b in_tree less. visit_fuel t set ok k m s' words' hist' b in_tree (omega arith) (omega arith)) p.stop (suc k) (suc m) p words hist a lt refl j i

pub is_node_search : IsNodeSearch
is_node_search t set ok k s words hist a r more = visit_fuel t set ok k (whole t) s words hist a r.in_tree more (enough t a r)

pub node_search_again : NodeSearchAgain
unfolding visit_f
node_search_again t set ok s words hist a r =
    let p = poll_of set.limit s in
    let least = enough t a r in
    visit_fuel t set ok (whole t) (suc (whole t)) s words hist a r.in_tree least (omega arith)
    ∙ stop-same t set ok (need t a.node a.depth) (node_search t set) (node_search t set) (λ _ _ _ _ _ _. refl) p.stop (suc (whole t)) (whole t) p words hist a
    r.in_tree refl (omega arith) least
