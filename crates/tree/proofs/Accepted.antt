-- What holds of an accepted tree, all from one equation: that none of the refusals 1 to 5 is given. Assumes nothing.
use Rattle.std.proofs.Common.{◌≡◌, ℕ, ◌+◌, ◌<◌, ◌≤◌, Bool, true, false, not, ltb, List, [], length, get_or, ℤ, pos, ◌-ℤ◌, neg_ℤ, refl, arith, ltb-true, eq-eqb, ne_eqb, eqb-true}
use lib.Signed.{mag, lt_z}
use borrow.Author.Tests.{eqb-false, not-true}
use Rattle.score.proofs.Order.{off}
use Rattle.tree.specs.Pick.{pick, all_below}
use Rattle.record.specs.Bytes.{le}
use Rattle.record.specs.Node.{record_at, record_of, first_of, count_of, flags_of, eval_of, move_of}
use Rattle.tree.specs.Blocks.{length_right, blocks_right, nodes_of, Blocked}
use Rattle.tree.specs.Layout.{start_of, layout_right, Laid}
use Rattle.tree.specs.Fields.{eval_right, move_right, differ, apart, siblings_right, fields_ok, unused_right, fields_right}
use Rattle.tree.specs.Level.{edge, level_of, levels_right}
use Rattle.tree.specs.Refusal.{tree_refusal, handed_part}
use Rattle.tree.proofs.Every.{two, four, every_at}
use Rattle.record.proofs.Places as places
use Rattle.tree.proofs.Blocked as blocked
use Rattle.tree.proofs.Laid as laid
use Rattle.tree.proofs.Levels as levels
use Rattle.tree.proofs.Within as within
use Rattle.tree.proofs.Parents as parents
use Rattle.tree.proofs.Depth as depth
use Rattle.tree.proofs.Depth.{Below}
use Rattle.tree.proofs.Parents.{ChildOf, ParentBelow}

-- every row holds
pub record Accepted (inf : ℤ) (maxPly : ℕ) (t : List ℕ) : Type 0 where
  pub length_right_lem : length_right t ≡ true
  pub blocks_right_lem : blocks_right t ≡ true
  pub layout_right_lem : layout_right t ≡ true
  pub fields_right_lem : fields_right inf maxPly t ≡ true
  pub levels_right_lem : levels_right t ≡ true

abbrev first : Bool → Bool → Bool → Bool → Bool → ℕ
first a b c d e = pick (not a) 1 (pick (not b) 2 (pick (not c) 3 (pick (not d) 4 (pick (not e) 5 0))))

none : (a b c d e : Bool) → first a b c d e ≡ 0 → (a ≡ true) × (b ≡ true) × (c ≡ true) × (d ≡ true) × (e ≡ true)
none true true true true true h = (refl, refl, refl, refl, refl)
none true true true true false h = absurd (omega arith)
none true true true false e h = absurd (omega arith)
none true true false d e h = absurd (omega arith)
none true false c d e h = absurd (omega arith)
none false b c d e h = absurd (omega arith)

-- no number above 5 is given
most : (a b c d e : Bool) → first a b c d e ≤ 5
most true true true true true = omega arith
most true true true true false = omega arith
most true true true false e = omega arith
most true true false d e = omega arith
most true false c d e = omega arith
most false b c d e = omega arith

pub refusal_most : (inf : ℤ) (maxPly : ℕ) (t : List ℕ) → tree_refusal inf maxPly t ≤ 5
unfolding tree_refusal
refusal_most inf maxPly t = most (length_right t) (blocks_right t) (layout_right t) (fields_right inf maxPly t) (levels_right t)

pub accepted : (inf : ℤ) (maxPly : ℕ) (t : List ℕ) → tree_refusal inf maxPly t ≡ 0 → Accepted inf maxPly t
unfolding tree_refusal
accepted inf maxPly t h =
    let r = none (length_right t) (blocks_right t) (layout_right t) (fields_right inf maxPly t) (levels_right t) h in
    record { length_right_lem = r.0; blocks_right_lem = r.1; layout_right_lem = r.2; fields_right_lem = r.3; levels_right_lem = r.4 }

-- and back
pub accepted_back : (inf : ℤ) (maxPly : ℕ) (t : List ℕ) → Accepted inf maxPly t → tree_refusal inf maxPly t ≡ 0
unfolding tree_refusal
accepted_back inf maxPly t a = rw (a.length_right_lem, a.blocks_right_lem, a.layout_right_lem, a.fields_right_lem, a.levels_right_lem)

module _ (inf : ℤ) (maxPly : ℕ) (t : List ℕ) (ok : tree_refusal inf maxPly t ≡ 0) where
  pub is_blocked : Blocked t
  is_blocked = let a = accepted inf maxPly t ok in record { length_right_lem = a.length_right_lem; blocks_right_lem = a.blocks_right_lem }

  pub is_laid : Laid t
  is_laid = record { blocked = is_blocked; layout_right_lem = (accepted inf maxPly t ok).layout_right_lem }

  -- the nodes, and their records

  pub nodes_least : 1 ≤ nodes_of t
  nodes_least = blocked.nodes_least t is_blocked

  pub nodes_most : nodes_of t ≤ 3968
  nodes_most = blocked.nodes_most t is_blocked

  pub record_in : (k : ℕ) → k < nodes_of t → record_at k + 16 ≤ length t
  record_in k h = blocked.record_in t is_blocked k h

  -- a node's part has its 16 bytes
  pub record_length : (k : ℕ) → k < nodes_of t → length (record_of t k) ≡ 16
  record_length k h = places.record_length t k (record_of t k) (record_in k h) refl

  pub record_byte : (k i : ℕ) → k < nodes_of t → i < 16 → get_or (record_of t k) i 0 ≡ get_or t (record_at k + i) 0
  record_byte k i h l = places.record_byte t k (record_of t k) (record_in k h) refl i l

  pub record_le : (k at n : ℕ) → k < nodes_of t → at + n ≤ 16 → le (record_of t k) at n ≡ le t (record_at k + at) n
  record_le k at n h l = places.record_le t k (record_of t k) (record_in k h) refl at n l

  -- the children of a node: consecutive nodes, above it and in the tree

  pub count_most : (k : ℕ) → k < nodes_of t → count_of t k ≤ 63
  count_most k h = laid.count_most t k (laid.children_right_lem t is_laid k h)

  pub start_above : (k : ℕ) → k < nodes_of t → k < start_of t k
  start_above k h = laid.start_above t k (laid.children_right_lem t is_laid k h)

  pub first_none : (k : ℕ) → k < nodes_of t → count_of t k ≡ 0 → first_of t k ≡ 0
  first_none k h = laid.first_none t k (laid.children_right_lem t is_laid k h)

  module _ (k : ℕ) (h : k < nodes_of t) (some : 0 < count_of t k) where
    pub first_start : first_of t k ≡ start_of t k
    first_start = laid.first_start t k (laid.children_right_lem t is_laid k h) (λ e. omega arith)

    pub first_above : k < first_of t k
    first_above = omega (arith, first_start, start_above k h)

    pub children_in : first_of t k + count_of t k ≤ nodes_of t
    children_in = omega (arith, first_start, laid.kids_in t is_laid k h)

  -- child i of a node is a child of it
  pub child_of : (k i : ℕ) → k < nodes_of t → i < count_of t k → ChildOf t k (first_of t k + i)
  child_of k i h l =
      let e = first_start k h (omega arith) in
      record { low = omega (arith, e); high = omega (arith, e) }

  -- it lies above that node, and in the tree

  pub child_above : (k i : ℕ) → k < nodes_of t → i < count_of t k → k < first_of t k + i
  child_above k i h l = omega (arith, first_above k h (omega arith))

  pub child_in : (k i : ℕ) → k < nodes_of t → i < count_of t k → first_of t k + i < nodes_of t
  child_in k i h l = laid.kid_in t is_laid k i h l

  -- every node but the root is a child of exactly one earlier node

  pub parent : (c : ℕ) → 0 < c → c < nodes_of t → ParentBelow t c c
  parent c p h = parents.parent t is_laid c p h

  pub parent_one : (j k c : ℕ) → ChildOf t j c → ChildOf t k c → j ≡ k
  parent_one j k c p q = parents.parent_one t j k c p q

  -- levels

  pub level_root : level_of t 0 ≡ 0
  level_root = levels.level_root t 100

  pub level_most : (k : ℕ) → level_of t k ≤ 100
  level_most k = levels.level_most t 100 k

  -- level 101 would begin behind the last node
  deep : edge t 101 ≡ nodes_of t
  unfolding levels_right
  deep = eqb-true (edge t 101) (nodes_of t) (accepted inf maxPly t ok).levels_right_lem

  pub level_child : (k c : ℕ) → ChildOf t k c → c < nodes_of t → level_of t c ≡ level_of t k + 1
  level_child k c p h = levels.level_child t k c p (omega (arith, deep))

  pub level_kid : (k i : ℕ) → k < nodes_of t → i < count_of t k → level_of t (first_of t k + i) ≡ level_of t k + 1
  level_kid k i h l = level_child k (first_of t k + i) (child_of k i h l) (child_in k i h l)

  -- a node's level is the number of moves from the root to it
  pub level_moves : (n c : ℕ) → Below t n c → c < nodes_of t → level_of t c ≡ n
  level_moves n c b h = depth.moves_level t is_laid n c deep b h

  -- fields

  fields-ok : (k : ℕ) → k < nodes_of t → fields_ok inf maxPly t k ≡ true
  unfolding fields_right
  fields-ok k h = every_at (fields_ok inf maxPly t) (nodes_of t) k (two (all_below (fields_ok inf maxPly t) (nodes_of t)) (unused_right t) (accepted inf maxPly t ok).fields_right_lem).0 h

  parts : (k : ℕ) → k < nodes_of t → (ltb (flags_of t k) 32 ≡ true) × (eval_right inf maxPly (eval_of t k) ≡ true) × (move_right t k ≡ true) × (siblings_right t k ≡ true)
  unfolding fields_ok
  parts k h = four (ltb (flags_of t k) 32) (eval_right inf maxPly (eval_of t k)) (move_right t k) (siblings_right t k) (fields-ok k h)

  pub flags_below : (k : ℕ) → k < nodes_of t → flags_of t k < 32
  flags_below k h = ltb-true (flags_of t k) 32 (parts k h).0

  pub eval_right_lem : (k : ℕ) → k < nodes_of t → eval_right inf maxPly (eval_of t k) ≡ true
  eval_right_lem k h = (parts k h).1

  pub eval_over : (k : ℕ) → k < nodes_of t → lt_z (neg_ℤ (inf -ℤ pos maxPly)) (eval_of t k) ≡ true
  unfolding eval_right
  eval_over k h = (two (lt_z (neg_ℤ (inf -ℤ pos maxPly)) (eval_of t k)) (lt_z (eval_of t k) (inf -ℤ pos maxPly)) (eval_right_lem k h)).0

  pub eval_under : (k : ℕ) → k < nodes_of t → lt_z (eval_of t k) (inf -ℤ pos maxPly) ≡ true
  unfolding eval_right
  eval_under k h = (two (lt_z (neg_ℤ (inf -ℤ pos maxPly)) (eval_of t k)) (lt_z (eval_of t k) (inf -ℤ pos maxPly)) (eval_right_lem k h)).1

  pub move_root : move_of t 0 ≡ 0
  unfolding move_right
  move_root = eqb-true (move_of t 0) 0 (parts 0 (omega (arith, nodes_least))).2

  pub move_some : (k : ℕ) → 0 < k → k < nodes_of t → move_of t k ≡ 0 → ⊥
  unfolding move_right
  move_some k p h = eqb-false (move_of t k) 0 (not-true _ (rw (ne_eqb k 0 (λ e. omega arith)) at (parts k h).2))

  -- siblings' moves differ
  pub siblings_differ : (k i j : ℕ) → k < nodes_of t → i < j → j < count_of t k → move_of t (first_of t k + i) ≡ move_of t (first_of t k + j) → ⊥
  unfolding siblings_right apart differ
  siblings_differ k i j h l m =
      let p = every_at (apart t (first_of t k)) (count_of t k) j (parts k h).3 m in
      let q = every_at (differ t (first_of t k) j) j i p l in
      eqb-false (move_of t (first_of t k + i)) (move_of t (first_of t k + j)) (not-true _ q)

-- the part that an accessor hands back: the node's record where nothing is refused, else the empty part

pub handed_record : (refusal : ℕ) (t : List ℕ) (k : ℕ) → refusal ≡ 0 → handed_part refusal t k ≡ record_of t k
unfolding handed_part
handed_record refusal t k e = rw (eq-eqb refusal 0 e)

pub handed_none : (refusal : ℕ) (t : List ℕ) (k : ℕ) → (refusal ≡ 0 → ⊥) → handed_part refusal t k ≡ []
unfolding handed_part
handed_none refusal t k n = rw (ne_eqb refusal 0 n)

-- an evaluation is read from 16 bits, whatever the tree
pub eval_mag : (t : List ℕ) (k : ℕ) → mag (eval_of t k) < 32768
unfolding eval_of
eval_mag t k = within.read_mag (le t (record_at k + 4) 2)

-- evaluations by their images (`off`), at an INF of v
module _ (v maxPly : ℕ) (t : List ℕ) (ok : tree_refusal (pos v) maxPly t ≡ 0) (hn : maxPly < v) (hv : v ≤ 30000) (k : ℕ) (h : k < nodes_of t) where
  pub eval_low : 32768 + maxPly < off (eval_of t k) + v
  eval_low = within.eval_low v maxPly (eval_of t k) hn hv (eval_mag t k) (eval_right_lem (pos v) maxPly t ok k h)

  pub eval_high : off (eval_of t k) + maxPly < 32768 + v
  eval_high = within.eval_high v maxPly (eval_of t k) hn hv (eval_mag t k) (eval_right_lem (pos v) maxPly t ok k h)
