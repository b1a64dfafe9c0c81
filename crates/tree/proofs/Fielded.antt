-- What the code's tests of row 4 say of the definition's: a sibling's move, and an unused byte. Assumes nothing.
use Rattle.std.proofs.Common.{◌≡◌, ℕ, ◌+◌, ◌-◌, ◌*◌, ◌<◌, ◌≤◌, true, false, List, length, get_or, arith, eq-eqb, ne_eqb}
use Rattle.record.specs.Node.{move_of}
use Rattle.tree.specs.Blocks.{blocks_of, used_in, Blocked}
use Rattle.tree.specs.Fields.{differ, unused_zero}
use Rattle.tree.proofs.Blocked.{used_most, unused_in}

-- m is the move of child i, a that of child j
module _ (t : List ℕ) (first i j m a : ℕ) (is_m : m ≡ move_of t (first + i)) (is-a : a ≡ move_of t (first + j)) where
  pub alike : a ≡ m → differ t first i j ≡ false
  unfolding differ
  alike e = rw (← is-a, ← is_m, eq-eqb a m e)

  pub unlike : (a ≡ m → ⊥) → differ t first i j ≡ true
  unfolding differ
  unlike n = rw (← is-a, ← is_m, ne_eqb a m n)

-- u records of the last block are used
module _ (t : List ℕ) (u : ℕ) (is-u : u ≡ used_in t (blocks_of t - 1)) where
  pub unused_set : (i : ℕ) → (get_or t (512 * (blocks_of t - 1) + 16 * u + i) 0 ≡ 0 → ⊥) → unused_zero t i ≡ false
  unfolding unused_zero
  unused_set i n = rw (← is-u, ne_eqb (get_or t (512 * (blocks_of t - 1) + 16 * u + i) 0) 0 n)

  pub unused_clear : (i : ℕ) → get_or t (512 * (blocks_of t - 1) + 16 * u + i) 0 ≡ 0 → unused_zero t i ≡ true
  unfolding unused_zero
  unused_clear i e = rw (← is-u, eq-eqb (get_or t (512 * (blocks_of t - 1) + 16 * u + i) 0) 0 e)

  pub unused_most : Blocked t → u ≤ 31
  unused_most ok = omega (arith, is-u, used_most t ok)

  pub unused_place : Blocked t → (i : ℕ) → i < 496 - 16 * u → 512 * (blocks_of t - 1) + 16 * u + i < length t
  unused_place ok i h = omega (arith, is-u, unused_in t ok i (omega (arith, is-u)))
