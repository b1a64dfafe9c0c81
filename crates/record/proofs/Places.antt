-- A node's record, the part of the tree that is handed back: its length, its bytes and its numbers are the tree's. Assumes nothing.
use mathlib.Core.Path.{◌≡◌, ap, ◌∙◌}
use mathlib.Core.List.{List}
use Prim.Native.Nat.{ℕ, ◌+◌, ◌≤◌, ◌<◌}
use lib.ListN.{length, get_or}
use Rattle.record.specs.Bytes.{le}
use Rattle.record.specs.Node.{record_at, record_of}
use Rattle.record.proofs.LittleEndian.{part_length, part_byte, part_le}

-- r is node k's record
module _ (t : List ℕ) (k : ℕ) (r : List ℕ) (fits : record_at k + 16 ≤ length t) (is : r ≡ record_of t k) where
  pub record_length : length r ≡ 16
  record_length = ap length is ∙ part_length t (record_at k) 16 fits

  pub record_byte : (i : ℕ) → i < 16 → get_or r i 0 ≡ get_or t (record_at k + i) 0
  record_byte i h = ap (λ (p : List ℕ). get_or p i 0) is ∙ part_byte t (record_at k) 16 fits i h

  pub record_le : (at n : ℕ) → at + n ≤ 16 → le r at n ≡ le t (record_at k + at) n
  record_le at n h = ap (λ (p : List ℕ). le p at n) is ∙ part_le t (record_at k) 16 fits at n h
