-- 01, Entries on both sides, computed from the definitions that the contracts cite. Assumes nothing.
use Rattle.std.proofs.Common.{◌≡◌, ℕ, true, false, [], ◌∷◌, pos, negsuc, refl}
use Rattle.transposition.specs.Word.{bound_of, data_word, entry_of}
use Rattle.transposition.specs.declared.Bound.TheVariants.{Exact}
use Rattle.table.specs.Slot.{slot_of, replaces}
use Rattle.table.specs.Stats.{next_age, reset_of, zeroed, inserted}
use Rattle.table.specs.Table.{Table, table_of, store_if, store_of, clear_of, sized_to, well_sized}
use Rattle.table.specs.declared.Stats.{Stats}

-- "After clear, depth -1 into an empty slot isn't stored; depth 0 is." In a table of one slot that held something; the one counter that changes is that of the inserts.
abbrev pub cleared : Table
cleared = clear_of (7 ∷ 9 ∷ [])

pub after_clear : (store_of cleared.words cleared.stats 5 (negsuc 0) (pos 0) 16 Exact ≡ cleared)
    × (store_of cleared.words cleared.stats 5 (pos 0) (pos 0) 16 Exact ≡ table_of (0x0010000000000005 ∷ 0x0010000000000000 ∷ []) (inserted (zeroed 0)))
unfolding clear_of store_of store_if replaces slot_of entry_of bound_of data_word
after_clear = (refl, refl)

-- "Age 253 to 254, 254 to 0, 255 to 0.", by a reset, which zeroes the counters
abbrev pub aged : ℕ → Stats
aged age = record { age = age; lookups = 9; inserts = 5; hits = 4; misses = 3; collisions = 2 }

pub ages : (reset_of (aged 253) ≡ zeroed 254) × (reset_of (aged 254) ≡ zeroed 0) × (reset_of (aged 255) ≡ zeroed 0)
unfolding reset_of next_age
ages = (refl, refl, refl)

-- 01, row 8: 2 words and 131,072 are accepted; 0, 1, 3, 6 and 262,144 are not.
pub sizes : (well_sized 2 ≡ true) × (well_sized 131072 ≡ true) × (well_sized 0 ≡ false) × (well_sized 1 ≡ false) × (well_sized 3 ≡ false) × (well_sized 6 ≡ false) × (well_sized 262144 ≡ false)
unfolding sized_to
sizes = (refl, refl, refl, refl, refl, refl, refl)
