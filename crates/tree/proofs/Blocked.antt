-- What rows 1 and 2 give: how many blocks and nodes there are, and that each node's record and each unused byte lies in the tree. Assumes nothing.
use Rattle.std.proofs.Common.{◌≡◌, ℕ, ◌+◌, ◌-◌, ◌*◌, ◌%◌, ◌<◌, ◌≤◌, true, ◌&&◌, eqb, leb, List, length, arith, eq-eqb, leb-true}
use Rattle.tree.specs.Pick.{pick}
use Rattle.record.specs.Bytes.{le}
use Rattle.record.specs.Node.{record_at}
use Rattle.tree.specs.Blocks.{blocks_of, length_right, used_in, used_right, check_to, block_right, blocks_right, nodes_of, Blocked}
use Rattle.tree.proofs.Every.{two, three, four, every_at}

-- a block that is right has the right used count
used_of : (t : List ℕ) (b : ℕ) → block_right t b ≡ true → used_right t b ≡ true
unfolding block_right
used_of t b e =
    let mark = eqb (le t (512 * b + 496) 4) 0x65727467 in
    let number = eqb (le t (512 * b + 500) 2) b in
    let zeros = eqb (le t (512 * b + 504) 4) 0 in
    let check = eqb (le t (512 * b + 508) 4) (check_to t (512 * b) 127) in
    let p = two (mark && number && used_right t b && zeros) check e in
    (four mark number (used_right t b) zeros p.0).2

used_bounds : (t : List ℕ) (b : ℕ) → used_right t b ≡ true → (pick (eqb (b + 1) (blocks_of t)) 1 31 ≤ used_in t b) × (used_in t b ≤ 31)
unfolding used_right
used_bounds t b e =
    let least = pick (eqb (b + 1) (blocks_of t)) 1 31 in
    let p = two (leb least (used_in t b)) (leb (used_in t b) 31) e in
    (leb-true least (used_in t b) p.0, leb-true (used_in t b) 31 p.1)

module _ (t : List ℕ) (ok : Blocked t) where
  whole : (eqb (length t % 512) 0 ≡ true) × (leb 1 (blocks_of t) ≡ true) × (leb (blocks_of t) 128 ≡ true)
  unfolding length_right
  whole = three (eqb (length t % 512) 0) (leb 1 (blocks_of t)) (leb (blocks_of t) 128) ok.length_right_lem

  pub blocks_least : 1 ≤ blocks_of t
  blocks_least = leb-true 1 (blocks_of t) whole.1

  pub blocks_most : blocks_of t ≤ 128
  blocks_most = leb-true (blocks_of t) 128 whole.2

  pub length_least : 512 ≤ length t
  length_least = omega (arith, blocks_least)

  pub block_right_lem : (b : ℕ) → b < blocks_of t → block_right t b ≡ true
  unfolding blocks_right
  block_right_lem b h = every_at (block_right t) (blocks_of t) b ok.blocks_right_lem h

  last-bounds : (1 ≤ used_in t (blocks_of t - 1)) × (used_in t (blocks_of t - 1) ≤ 31)
  last-bounds =
      let u = used_bounds t (blocks_of t - 1) (used_of t (blocks_of t - 1) (block_right_lem (blocks_of t - 1) (omega (arith, blocks_least)))) in
      let e : eqb (blocks_of t - 1 + 1) (blocks_of t) ≡ true = eq-eqb (blocks_of t - 1 + 1) (blocks_of t) (omega (arith, blocks_least)) in
      (rw e at u.0, u.1)

  pub used_least : 1 ≤ used_in t (blocks_of t - 1)
  used_least = last-bounds.0

  pub used_most : used_in t (blocks_of t - 1) ≤ 31
  used_most = last-bounds.1

  pub nodes_least : 1 ≤ nodes_of t
  unfolding nodes_of
  nodes_least = omega (arith, used_least)

  pub nodes_most : nodes_of t ≤ 3968
  unfolding nodes_of
  nodes_most = omega (arith, blocks_most, used_most)

  -- each node's record lies in the tree
  pub record_in : (k : ℕ) → k < nodes_of t → record_at k + 16 ≤ length t
  unfolding nodes_of record_at
  record_in k h = omega (arith, blocks_least, used_most)

  -- so does each unused byte
  pub unused_in : (i : ℕ) → i < 496 - 16 * used_in t (blocks_of t - 1) → 512 * (blocks_of t - 1) + 16 * used_in t (blocks_of t - 1) + i < length t
  unused_in i h = omega (arith, blocks_least, used_most)
