-- What row 3 gives: each node's count and first child, and where children begin. Assumes nothing.
use Rattle.std.proofs.Common.{◌≡◌, ℕ, zero, suc, ◌+◌, ◌-◌, ◌<◌, ◌≤◌, Bool, true, false, eqb, ltb, leb, List, refl, add-one, arith, ltb-false, ltb-true, eq-eqb, ne_eqb, eqb-true, leb-true}
use Rattle.tree.specs.Pick.{pick, all_below}
use Rattle.record.specs.Node.{count_of, first_of}
use Rattle.tree.specs.Blocks.{nodes_of}
use Rattle.tree.specs.Layout.{start_of, children_right, layout_right, Laid}
use Rattle.tree.proofs.Every.{two, three, every_at}

-- the starts, of any tree

pub start_none : (t : List ℕ) → start_of t 0 ≡ 1
unfolding start_of
start_none t = refl

pub start_more : (t : List ℕ) (k : ℕ) → start_of t (k + 1) ≡ start_of t k + count_of t k
unfolding start_of
start_more t k = rw add-one

start_add : (t : List ℕ) (a k : ℕ) → start_of t a ≤ start_of t (k + a)
unfolding start_of
start_add t a zero = let e : 0 + a ≡ a = omega arith in rw e (omega arith)
start_add t a (suc k) = let e : suc k + a ≡ suc (k + a) = omega arith in let i = start_add t a k in rw e (omega arith)

pub start_mono : (t : List ℕ) (a b : ℕ) → a ≤ b → start_of t a ≤ start_of t b
start_mono t a b h = let e : (b - a) + a ≡ b = omega arith in rw e at (start_add t a (b - a))

-- the children of one node

module _ (t : List ℕ) (k : ℕ) (ok : children_right t k ≡ true) where
  kids : (leb (count_of t k) 63 ≡ true) × (ltb k (start_of t k) ≡ true) × (eqb (first_of t k) (pick (eqb (count_of t k) 0) 0 (start_of t k)) ≡ true)
  unfolding children_right
  kids = three (leb (count_of t k) 63) (ltb k (start_of t k)) (eqb (first_of t k) (pick (eqb (count_of t k) 0) 0 (start_of t k))) ok

  pub count_most : count_of t k ≤ 63
  count_most = leb-true (count_of t k) 63 kids.0

  pub start_above : k < start_of t k
  start_above = ltb-true k (start_of t k) kids.1

  pub first_start : (count_of t k ≡ 0 → ⊥) → first_of t k ≡ start_of t k
  first_start h = rw (ne_eqb _ _ h) at (eqb-true (first_of t k) (pick (eqb (count_of t k) 0) 0 (start_of t k)) kids.2)

  pub first_none : count_of t k ≡ 0 → first_of t k ≡ 0
  first_none h = rw (eq-eqb _ _ h) at (eqb-true (first_of t k) (pick (eqb (count_of t k) 0) 0 (start_of t k)) kids.2)

-- the whole tree

module _ (t : List ℕ) (ok : Laid t) where
  both-rules : (all_below (children_right t) (nodes_of t) ≡ true) × (eqb (start_of t (nodes_of t)) (nodes_of t) ≡ true)
  unfolding layout_right
  both-rules = two (all_below (children_right t) (nodes_of t)) (eqb (start_of t (nodes_of t)) (nodes_of t)) ok.layout_right_lem

  pub children_right_lem : (k : ℕ) → k < nodes_of t → children_right t k ≡ true
  children_right_lem k h = every_at (children_right t) (nodes_of t) k both-rules.0 h

  pub start_total : start_of t (nodes_of t) ≡ nodes_of t
  start_total = eqb-true (start_of t (nodes_of t)) (nodes_of t) both-rules.1

  pub start_in : (k : ℕ) → k ≤ nodes_of t → start_of t k ≤ nodes_of t
  start_in k h = omega (arith, start_mono t k (nodes_of t) h, start_total)

  -- children begin no earlier than behind their parent, or at the last node's end
  pub start_past : (k : ℕ) → k ≤ nodes_of t → k ≤ start_of t k
  start_past k h = go (ltb k (nodes_of t)) refl
    where
      go : (b : Bool) → ltb k (nodes_of t) ≡ b → k ≤ start_of t k
      go true e = let a = start_above t k (children_right_lem k (ltb-true k (nodes_of t) e)) in omega arith
      go false e = let s : k ≡ nodes_of t = omega (arith, ltb-false k (nodes_of t) e) in rw s (omega (arith, start_total))

  -- the children of a node lie in the tree
  pub kids_in : (k : ℕ) → k < nodes_of t → start_of t k + count_of t k ≤ nodes_of t
  kids_in k h = omega (arith, start_in (k + 1) (omega arith), start_more t k)

  -- the children that a node's first child and count name, if any, are nodes
  pub kid_in : (k i : ℕ) → k < nodes_of t → i < count_of t k → first_of t k + i < nodes_of t
  kid_in k i h l = omega (arith, kids_in k h, first_start t k (children_right_lem k h) (λ e. omega arith))
