-- A cleared table: its length, what each slot holds, and which depths go into an empty slot. Assumes nothing.
use Rattle.std.proofs.Common.{◌≡◌, ℕ, ◌+◌, ◌<◌, ◌≤◌, List, length, get_or, ℤ, pos, ap, arith}
use lib.ListN.{length-replicate, get_or-replicate}
use lib.Signed.{le_z}
use Rattle.transposition.specs.Word.{entry_of}
use Rattle.transposition.specs.declared.Entry.{Entry}
use Rattle.table.specs.Slot.{slot_of, entry_at, replaces}
use Rattle.table.specs.Table.{clear_of}
use Rattle.table.proofs.Keep.{slot_in}

-- a clear keeps the table's length
pub clear_length : (words : List ℕ) → length (clear_of words).words ≡ length words
unfolding clear_of
clear_length words = length-replicate (length words) 0

-- every word is 0
zero_word : (words : List ℕ) (i : ℕ) → i < length words → get_or (clear_of words).words i 0 ≡ 0
unfolding clear_of
zero_word words i l = get_or-replicate (length words) i 0 0 l

-- so the entry of every slot is that of the word 0
cleared_entry : (words : List ℕ) (hash : ℕ) → 2 ≤ length words → entry_at (clear_of words).words hash ≡ entry_of 0
cleared_entry words hash long = ap entry_of (zero_word words (slot_of (length (clear_of words).words) hash + 1) inside)
  where
    inside : slot_of (length (clear_of words).words) hash + 1 < length words
    inside = rw (clear_length words) (omega (arith, slot_in (length words) hash long))

-- 01, Entries on both sides: "After clear, depth -1 into an empty slot isn't stored; depth 0 is.", for every table, every hash and every depth:
-- those of 0 and more are stored
pub after_clear : (words : List ℕ) (hash : ℕ) (depth : ℤ) → 2 ≤ length words → replaces (entry_at (clear_of words).words hash) (clear_of words).stats.age depth ≡ le_z (pos 0) depth
unfolding clear_of replaces entry_of
after_clear words hash depth long = ap (λ (e : Entry). replaces e 0 depth) (cleared_entry words hash long)
