-- A slot of the table: where it is, what a lookup finds there, and when a store replaces what is there. Assumes nothing.
use Rattle.std.specs.Prelude.{ℕ, ◌+◌, ◌*◌, ◌/◌, ◌%◌, Bool, cond, not, ◌||◌, List, length, ℤ, ◌==◌, bit_xor, int_le, slice_index, slice_set}
use Rattle.transposition.specs.Word.{data_word, entry_of, hash_word}
use Rattle.transposition.specs.declared.Entry.{Entry}
use Rattle.table.specs.declared.Found.{Found}
use Rattle.table.specs.declared.Found.TheVariants.{Miss, Collision, Hit}

-- 01, Entry and table: "Slot k is hash modulo n: word 2k is its hash word, 2k + 1 its data word." In a table of so many words, n is their half.
unfoldable pub slot_of : ℕ → ℕ → ℕ
slot_of words hash = hash % (words / 2) * 2

-- what stands in the slot of a hash: its hash word, its data word, and the entry that this holds
abbrev pub hash_at : List ℕ → ℕ → ℕ
hash_at words hash = slice_index words (slot_of (length words) hash)

abbrev pub data_at : List ℕ → ℕ → ℕ
data_at words hash = slice_index words (slot_of (length words) hash + 1)

abbrev pub entry_at : List ℕ → ℕ → Entry
entry_at words hash = entry_of (data_at words hash)

-- the slot's entry has no move
abbrev pub is_empty : List ℕ → ℕ → Bool
is_empty words hash = (entry_at words hash).mv == 0

-- the slot's words were stored under this hash
abbrev pub is_of : List ℕ → ℕ → Bool
is_of words hash = bit_xor (hash_at words hash) (data_at words hash) == hash

-- 01, Entry and table: "Lookup: move 0 is a miss even where the hash fits; else a wrong XOR is a collision; else a hit."
unfoldable pub find_of : List ℕ → ℕ → Found
find_of words hash = cond (is_empty words hash) Miss (cond (not (is_of words hash)) Collision (Hit (entry_at words hash)))

-- 01, Entry and table: "A store replaces when ages differ or new depth >= stored depth"
unfoldable pub replaces : Entry → ℕ → ℤ → Bool
replaces stored age depth = not (age == stored.age) || int_le stored.depth depth

-- 01, Entry and table: "word 2k is its hash word, 2k + 1 its data word", for the slot that starts at k
abbrev pub put : List ℕ → ℕ → ℕ → Entry → List ℕ
put words k hash e = slice_set (slice_set words k (hash_word hash (data_word e))) (k + 1) (data_word e)
