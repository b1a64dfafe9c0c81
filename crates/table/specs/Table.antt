-- The table: its words with its age and counters, and what a lookup, a store and a clear make of them; and the sizes that it may have. Assumes nothing.
use Rattle.std.specs.Prelude.{ℕ, zero, suc, ◌*◌, ◌^◌, Bool, true, false, ◌||◌, List, length, replicate, ℤ, ◌==◌}
use Rattle.transposition.specs.declared.Bound.{Bound}
use Rattle.transposition.specs.declared.Entry.{Entry}
use Rattle.table.specs.Slot.{slot_of, entry_at, find_of, replaces, put}
use Rattle.table.specs.Stats.{looked, inserted, zeroed}
use Rattle.table.specs.declared.Looked.{Looked}
use Rattle.table.specs.declared.Stats.{Stats}

-- a table as the definitions have it: the lent words, and the age and counters that go with them
pub record Table : Type 0 where
  pub words : List ℕ
  pub stats : Stats

abbrev pub table_of : List ℕ → Stats → Table
table_of words stats = record { words = words; stats = stats }

-- what is found, and the counters after it
unfoldable pub lookup_of : List ℕ → Stats → ℕ → Looked
lookup_of words stats hash = record { found = find_of words hash; stats = looked stats (find_of words hash) }

-- the entry that a store writes: its age is the table's
abbrev pub new_entry : Stats → ℤ → ℤ → ℕ → Bound → Entry
new_entry stats depth score mv bound = record { age = stats.age; bound = bound; depth = depth; score = score; mv = mv }

-- 01, Entry and table: "an insert is counted only then", that is where the store replaces
unfoldable pub store_if : Bool → List ℕ → Stats → ℕ → Entry → Table
store_if true words stats hash e = table_of (put words (slot_of (length words) hash) hash e) (inserted stats)
store_if false words stats hash e = table_of words stats

-- 01, Entry and table: "A store replaces when ages differ or new depth >= stored depth; an insert is counted only then."
unfoldable pub store_of : List ℕ → Stats → ℕ → ℤ → ℤ → ℕ → Bound → Table
store_of words stats hash depth score mv bound =
    store_if (replaces (entry_at words hash) stats.age depth) words stats hash (new_entry stats depth score mv bound)

-- 01, Entry and table: "Clear zeroes words, age, counters."
unfoldable pub clear_of : List ℕ → Table
clear_of words = table_of (replicate (length words) 0) (zeroed 0)

-- 2n words for one of the first k powers of two n
unfoldable pub sized_to : ℕ → ℕ → Bool
sized_to zero words = false
sized_to (suc k) words = words == 2 * 2 ^ k || sized_to k words

-- 01, row 8: "2n words, n a power of two, 1 to 65,536"; 65,536 is 2^16, the 17th power of two
abbrev pub well_sized : ℕ → Bool
well_sized words = sized_to 17 words
