-- 01, Entries on both sides: "Age 1, Lower, depth -1, score -2, move 0x1234: data 0x1234FFFEFF010100; with hash 0xFF the hash word is
-- 0x1234FFFEFF0101FF." Computed from the definitions. Assumes nothing.
use mathlib.Core.Path.{◌≡◌, refl}
use lib.IntN.{negsuc}
use Rattle.transposition.specs.Word.{bound_of, data_word, entry_of, hash_word}
use Rattle.transposition.specs.declared.Bound.TheVariants.{Exact, Lower}
use Rattle.transposition.specs.declared.Entry.{Entry}

abbrev pub example : Entry
example = record { age = 1; bound = Lower; depth = negsuc 0; score = negsuc 1; mv = 0x1234 }

pub example_words : (data_word example ≡ 0x1234FFFEFF010100) × (hash_word 0xFF (data_word example) ≡ 0x1234FFFEFF0101FF)
unfolding data_word
example_words = (refl, refl)

pub example_read : entry_of 0x1234FFFEFF010100 ≡ example
unfolding entry_of bound_of
example_read = refl

-- 01, Entry and table: "any other byte reads Exact"
pub other_bytes : (bound_of 0 ≡ Exact) × (bound_of 3 ≡ Exact) × (bound_of 255 ≡ Exact)
unfolding bound_of
other_bytes = (refl, refl, refl)
