-- What a store leaves, by its two cases, and that it keeps the table's length. Assumes nothing.
use Rattle.std.proofs.Common.{◌≡◌, ℕ, ◌+◌, ◌/◌, ◌≤◌, Bool, true, false, List, length, ℤ, refl, ap, mod-lt, arith, length-set}
use Rattle.transposition.specs.declared.Bound.{Bound}
use Rattle.transposition.specs.declared.Entry.{Entry}
use Rattle.table.specs.Slot.{slot_of, entry_at, replaces, put}
use Rattle.table.specs.Stats.{inserted}
use Rattle.table.specs.Table.{table_of, new_entry, store_if, store_of}
use Rattle.table.specs.declared.Stats.{Stats}

-- the slot of a hash lies in the table
pub slot_in : (words hash : ℕ) → 2 ≤ words → slot_of words hash + 2 ≤ words
unfolding slot_of
slot_in words hash long = omega (arith, mod-lt hash {m = words / 2} (omega arith))

module _ (words : List ℕ) (stats : Stats) (hash : ℕ) (depth score : ℤ) (mv : ℕ) (bound : Bound) where
  -- where a store does not replace, it changes no word, no counter and not the age
  pub store_keeps : replaces (entry_at words hash) stats.age depth ≡ false → store_of words stats hash depth score mv bound ≡ table_of words stats
  unfolding store_of store_if
  store_keeps n = ap (λ (b : Bool). store_if b words stats hash (new_entry stats depth score mv bound)) n

  -- where it replaces, the entry's words are in the slot, and an insert is counted
  pub store_puts : replaces (entry_at words hash) stats.age depth ≡ true → store_of words stats hash depth score mv bound ≡ table_of (put words (slot_of (length words) hash) hash (new_entry stats depth score mv bound)) (inserted stats)
  unfolding store_of store_if
  store_puts y = ap (λ (b : Bool). store_if b words stats hash (new_entry stats depth score mv bound)) y

  length-if : (b : Bool) (e : Entry) → length (store_if b words stats hash e).words ≡ length words
  unfolding store_if
  length-if true e = simp length-set
  length-if false e = refl

  -- a store keeps the table's length
  pub store_length : length (store_of words stats hash depth score mv bound).words ≡ length words
  unfolding store_of
  store_length = length-if (replaces (entry_at words hash) stats.age depth) (new_entry stats depth score mv bound)
