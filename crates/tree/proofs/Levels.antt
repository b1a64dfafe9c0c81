-- Levels: where each begins, that they begin in the tree and in order, and that a child lies one level below its parent. Assumes nothing.
use Rattle.std.proofs.Common.{◌≡◌, ℕ, zero, suc, ◌+◌, ◌<◌, ◌≤◌, Bool, true, false, leb, List, sym, refl, ◌∙◌, add-one, arith, le-leb, leb-false, leb-true}
use borrow.Author.Tests.{lt-leb}
use Rattle.tree.specs.Pick.{pick}
use Rattle.tree.specs.Blocks.{nodes_of}
use Rattle.tree.specs.Layout.{start_of, Laid}
use Rattle.tree.specs.Level.{edge, level_in, level_of}
use Rattle.tree.proofs.Parents.{ChildOf}
use Rattle.tree.proofs.Laid.{start_more, start_none, start_mono, start_in, start_past}

-- where levels begin

pub edge_none : (t : List ℕ) → edge t 0 ≡ 0
unfolding edge
edge_none t = refl

pub edge_more : (t : List ℕ) (l : ℕ) → edge t (l + 1) ≡ start_of t (edge t l)
unfolding edge
edge_more t l = rw add-one

pub edge_one : (t : List ℕ) → edge t 1 ≡ 1
unfolding edge
edge_one t = start_none t

module _ (t : List ℕ) (ok : Laid t) where
  pub edge_in : (l : ℕ) → edge t l ≤ nodes_of t
  unfolding edge
  edge_in zero = omega arith
  edge_in (suc l) = start_in t ok (edge t l) (edge_in l)

  pub edge_step : (l : ℕ) → edge t l ≤ edge t (l + 1)
  edge_step l = rw edge_more (start_past t ok (edge t l) (edge_in l))

-- a node's level

pub level_none : (t : List ℕ) (k : ℕ) → level_in t 0 k ≡ 0
unfolding level_in
level_none t k = refl

up : (t : List ℕ) (j k : ℕ) → edge t (suc j) ≤ k → level_in t (suc j) k ≡ level_in t j k + 1
unfolding level_in
up t j k h = rw (le-leb (edge t (suc j)) k h)

stay : (t : List ℕ) (j k : ℕ) → k < edge t (suc j) → level_in t (suc j) k ≡ level_in t j k
unfolding level_in
stay t j k h = rw (lt-leb (edge t (suc j)) k h) (omega arith)

pub level_up : (t : List ℕ) (j k : ℕ) → edge t (j + 1) ≤ k → level_in t (j + 1) k ≡ level_in t j k + 1
level_up t j k h = rw (add-one j) (up t j k (rw (add-one j) at h))

pub level_stay : (t : List ℕ) (j k : ℕ) → k < edge t (j + 1) → level_in t (j + 1) k ≡ level_in t j k
level_stay t j k h = rw (add-one j) (stay t j k (rw (add-one j) at h))

pub level_most : (t : List ℕ) (j k : ℕ) → level_in t j k ≤ j
unfolding level_in
level_most t zero k = omega arith
level_most t (suc j) k = let i = level_most t j k in go (leb (edge t (suc j)) k) i
  where
    go : (b : Bool) → level_in t j k ≤ j → level_in t j k + pick b 1 0 ≤ suc j
    go true i = omega arith
    go false i = omega arith

-- a level begins at a child or before it exactly when the level before begins at its parent or before it
edge_kid : (t : List ℕ) (e n c : ℕ) → start_of t n ≤ c → c < start_of t (n + 1) → leb (start_of t e) c ≡ leb e n
edge_kid t e n c lo hi = go (leb e n) refl
  where
    go : (b : Bool) → leb e n ≡ b → leb (start_of t e) c ≡ leb e n
    go true q = let m = start_mono t e n (leb-true e n q) in le-leb (start_of t e) c (omega arith) ∙ sym q
    go false q = let l = leb-false e n q in let m = start_mono t (n + 1) e (omega arith) in lt-leb (start_of t e) c (omega arith) ∙ sym q

-- counted over one level more, a child's level is its parent's and one
pub kid_level : (t : List ℕ) (j n c : ℕ) → start_of t n ≤ c → c < start_of t (n + 1) → level_in t (suc j) c ≡ suc (level_in t j n)
unfolding level_in edge
kid_level t zero n c lo hi =
    let p = start_mono t 0 n (omega arith) in
    let q = start_none t in
    let l = le-leb (start_of t 0) c (omega arith) in
    rw l
kid_level t (suc j) n c lo hi =
    let i = kid_level t j n c lo hi in
    let l = edge_kid t (start_of t (edge t j)) n c lo hi in
    rw l (omega arith)

-- every level below the root begins behind the root
pub level_root : (t : List ℕ) (j : ℕ) → level_in t j 0 ≡ 0
unfolding level_in edge
level_root t zero = refl
level_root t (suc j) =
    let m = start_mono t 0 (edge t j) (omega arith) in
    let s = start_none t in
    rw (lt-leb (start_of t (edge t j)) 0 (omega arith)) (omega (arith, level_root t j))

-- where no level but the first hundred begins at the child or before it, a child's level is its parent's and one
pub level_child : (t : List ℕ) (k c : ℕ) → ChildOf t k c → c < edge t 101 → level_of t c ≡ level_of t k + 1
level_child t k c p h =
    let a = kid_level t 100 k c p.low (omega (arith, p.high, start_more t k)) in
    let b = stay t 100 c h in
    omega arith
