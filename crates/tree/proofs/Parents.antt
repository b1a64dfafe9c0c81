-- A node's parent: the node among whose children it lies. It is there for every node but the root, lies before it, and is the only one. Assumes nothing.
use Rattle.std.proofs.Common.{◌≡◌, ℕ, zero, suc, ◌+◌, ◌<◌, ◌≤◌, Bool, true, false, ltb, leb, List, refl, arith, ltb-false, ltb-true, leb-false, leb-true}
use Rattle.record.specs.Node.{count_of}
use Rattle.tree.specs.Blocks.{nodes_of}
use Rattle.tree.specs.Layout.{start_of, Laid}
use Rattle.tree.proofs.Laid.{start_none, start_more, start_mono, start_total, start_above, children_right_lem}

-- node c is a child of node k
pub record ChildOf (t : List ℕ) (k c : ℕ) : Type 0 where
  pub low : start_of t k ≤ c
  pub high : c < start_of t k + count_of t k

-- a node before n of which c is a child
pub record ParentBelow (t : List ℕ) (n c : ℕ) : Type 0 where
  pub node : ℕ
  pub below : node < n
  pub child : ChildOf t node c

found : (t : List ℕ) (n c : ℕ) → start_of t 0 ≤ c → c < start_of t n → ParentBelow t n c
unfolding start_of
found t zero c lo hi = absurd (omega arith)
found t (suc n) c lo hi = go (leb (start_of t n) c) refl (found t n c lo)
  where
    go : (b : Bool) → leb (start_of t n) c ≡ b → (c < start_of t n → ParentBelow t n c) → ParentBelow t (suc n) c
    go true e f = record { node = n; below = omega arith; child = record { low = leb-true (start_of t n) c e; high = hi } }
    go false e f =
        let r = f (leb-false (start_of t n) c e) in
        record { node = r.node; below = omega (arith, r.below); child = r.child }

-- the parent, before its child
pub parent : (t : List ℕ) → Laid t → (c : ℕ) → 0 < c → c < nodes_of t → ParentBelow t c c
parent t ok c p h =
    let r = found t (nodes_of t) c (omega (arith, start_none t)) (omega (arith, start_total t ok)) in
    let a = start_above t r.node (children_right_lem t ok r.node r.below) in
    record { node = r.node; below = omega (arith, a, r.child.low); child = r.child }

apart : (t : List ℕ) (j k c : ℕ) → ChildOf t j c → ChildOf t k c → j < k → ⊥
apart t j k c p q l = let m = start_mono t (j + 1) k (omega arith) in omega (arith, m, start_more t j, p.high, q.low)

-- and only one
pub parent_one : (t : List ℕ) (j k c : ℕ) → ChildOf t j c → ChildOf t k c → j ≡ k
parent_one t j k c p q = go (ltb j k) refl (ltb k j) refl
  where
    go : (a : Bool) → ltb j k ≡ a → (b : Bool) → ltb k j ≡ b → j ≡ k
    go true e b f = absurd (apart t j k c p q (ltb-true j k e))
    go false e true f = absurd (apart t k j c q p (ltb-true k j f))
    go false e false f = omega (arith, ltb-false j k e, ltb-false k j f)
