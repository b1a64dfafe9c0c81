-- Row 5 in 01's words, "over 100 moves deep": it is given, where rows 1 to 3 are not, exactly when some node lies over 100 moves below the root.
-- Assumes nothing.
use Rattle.std.proofs.Common.{◌≡◌, ℕ, zero, suc, ◌+◌, ◌<◌, ◌≤◌, Bool, true, false, ltb, List, refl, subst, add-one, arith, ltb-false, ltb-true, eqb-true}
use borrow.Author.Tests.{eqb-false}
use Rattle.tree.specs.Blocks.{nodes_of}
use Rattle.tree.specs.Layout.{start_of, Laid}
use Rattle.tree.specs.Level.{edge, level_of, levels_right}
use Rattle.tree.proofs.Laid.{start_none, start_more, start_mono, start_total, start_above, children_right_lem}
use Rattle.tree.proofs.Parents.{ChildOf, parent}
use Rattle.tree.proofs.Levels.{edge_more, edge_one, edge_in, level_root, level_child, level_most}

-- the node c lies n moves below the root
pub data Below (t : List ℕ) : ℕ → ℕ → Type 0 where
  root : Below t 0 0
  move : {n c : ℕ} (k : ℕ) → Below t n k → ChildOf t k c → Below t (suc n) c

-- a node of the tree that lies n moves below the root
pub record Deep (t : List ℕ) (n : ℕ) : Type 0 where
  pub node : ℕ
  pub in_tree : node < nodes_of t
  pub below : Below t n node

module _ (t : List ℕ) (ok : Laid t) where
  -- a child of the tree has its parent there
  parent_in : (k c : ℕ) → ChildOf t k c → c < nodes_of t → k < nodes_of t
  parent_in k c p h = go (ltb k (nodes_of t)) refl
    where
      go : (b : Bool) → ltb k (nodes_of t) ≡ b → k < nodes_of t
      go true e = ltb-true k (nodes_of t) e
      go false e = absurd (omega (arith, start_mono t (nodes_of t) k (ltb-false k (nodes_of t) e), start_total t ok, p.low))

  -- where no node lies deeper than level 100, a node's level is the number of moves to it
  pub moves_level : (n c : ℕ) → edge t 101 ≡ nodes_of t → Below t n c → c < nodes_of t → level_of t c ≡ n
  moves_level zero zero d root h = level_root t 100
  moves_level zero (suc _) d b h = elim b [ ]
  moves_level (suc n) c d (move k b p) h =
      let i = moves_level n k d b (parent_in k c p h) in
      omega (arith, level_child t k c p (omega arith))

  edge-suc : (l : ℕ) → edge t (suc l) ≡ start_of t (edge t l)
  unfolding edge
  edge-suc l = refl

  -- the parent of a node of level l + 1 is neither before level l nor behind it
  not-before : (l c k : ℕ) → ChildOf t k c → start_of t (edge t l) ≤ c → edge t l ≤ k
  not-before l c k p lo = go (ltb k (edge t l)) refl
    where
      go : (b : Bool) → ltb k (edge t l) ≡ b → edge t l ≤ k
      go true e = let q = ltb-true k (edge t l) e in absurd (omega (arith, start_mono t (k + 1) (edge t l) (omega arith), start_more t k, p.high))
      go false e = ltb-false k (edge t l) e

  not_behind : (l c k : ℕ) → ChildOf t k c → c < start_of t (edge t (suc l)) → k < edge t (l + 1)
  not_behind l c k p hi = rw add-one (go (ltb k (edge t (suc l))) refl)
    where
      go : (b : Bool) → ltb k (edge t (suc l)) ≡ b → k < edge t (suc l)
      go true e = ltb-true k (edge t (suc l)) e
      go false e = absurd (omega (arith, start_mono t (edge t (suc l)) k (ltb-false k (edge t (suc l)) e), p.low))

  -- the nodes from where level l begins to where the next does lie l moves below the root
  between : (l c : ℕ) → edge t l ≤ c → c < edge t (l + 1) → c < nodes_of t → Below t l c
  between zero c lo hi h = let e : 0 ≡ c = omega (arith, edge_one t) in subst (Below t 0) e root
  between (suc l) c lo hi h =
      let a = edge-suc l in
      let b : c < start_of t (edge t (suc l)) = omega (arith, edge_more t (suc l)) in
      let m = start_mono t 0 (edge t l) (omega arith) in
      let p = parent t ok c (omega (arith, start_none t)) h in
      move p.node (between l p.node (not-before l c p.node p.child (omega arith)) (not_behind l c p.node p.child b) (omega (arith, p.below))) p.child

  pub within : levels_right t ≡ true → (n c : ℕ) → Below t n c → c < nodes_of t → n ≤ 100
  unfolding levels_right
  within e n c b h = omega (arith, moves_level n c (eqb-true (edge t 101) (nodes_of t) e) b h, level_most t 100 c)

  pub beyond : levels_right t ≡ false → Deep t 101
  unfolding levels_right
  beyond e =
      let n = eqb-false (edge t 101) (nodes_of t) e in
      let h : edge t 101 < nodes_of t = omega (arith, edge_in t ok 101, n) in
      let a = start_above t (edge t 101) (children_right_lem t ok (edge t 101) h) in
      record { node = edge t 101; in_tree = h; below = between 101 (edge t 101) (omega arith) (omega (arith, a, edge_more t 101)) h }
