-- A lookup of what was just stored is a hit with that entry. Assumes nothing.
use Rattle.std.proofs.Common.{◌≡◌, ℕ, ◌+◌, ◌≤◌, true, List, length, get_or, set, ℤ, sym, refl, ap, ◌∙◌, ap₂, arith, length-set, get_or-set_other, get_or-set_same}
use lib.Bits.{bit_xor}
use Rattle.transposition.specs.Word.{data_word, entry_of, hash_word}
use Rattle.transposition.specs.declared.Bound.{Bound}
use Rattle.transposition.specs.declared.Entry.{Entry}
use Rattle.transposition.proofs.Packing.{Valid, read_back}
use Rattle.transposition.proofs.Xor.{xor_back}
use Rattle.table.specs.Slot.{slot_of, entry_at, find_of, replaces, put}
use Rattle.table.specs.Table.{Table, new_entry, store_of}
use Rattle.table.specs.declared.Found.TheVariants.{Hit}
use Rattle.table.specs.declared.Stats.{Stats}
use Rattle.table.proofs.Finding.{is_hit}
use Rattle.table.proofs.Keep.{slot_in, store_puts}

-- the two words of a slot after an entry was put there
module _ (words : List ℕ) (hash k : ℕ) (at : k ≡ slot_of (length words) hash) (e : Entry) (long : 2 ≤ length words) where
  room : k + 2 ≤ length words
  room = let h = slot_in (length words) hash long in omega arith

  pub data_put : get_or (put words k hash e) (k + 1) 0 ≡ data_word e
  data_put = get_or-set_same (set words k (hash_word hash (data_word e))) (k + 1) (data_word e) 0 (simp length-set (omega (arith, room)))

  pub hash_put : get_or (put words k hash e) k 0 ≡ hash_word hash (data_word e)
  hash_put =
      get_or-set_other (set words k (hash_word hash (data_word e))) (k + 1) k (data_word e) 0 (λ q. omega arith)
      ∙ get_or-set_same words k (hash_word hash (data_word e)) 0 (omega (arith, room))

  -- together they give the hash
  pub xor_put : bit_xor (get_or (put words k hash e) k 0) (get_or (put words k hash e) (k + 1) 0) ≡ hash
  xor_put = ap₂ bit_xor hash_put data_put ∙ xor_back hash (data_word e)

  -- so what was put there is found there
  pub put_found : Valid e → (e.mv ≡ 0 → ⊥) → find_of (put words k hash e) hash ≡ Hit e
  put_found v m = sym (is_hit (put words k hash e) hash k same-slot e (sym (ap entry_of data_put ∙ read_back e v)) m xor_put)
    where
      same-slot : k ≡ slot_of (length (put words k hash e)) hash
      same-slot = simp length-set at

-- a lookup of what was just stored, where the store replaced and the move is not 0, is a hit with that entry
pub store_found : (words : List ℕ) (stats : Stats) (hash : ℕ) (depth score : ℤ) (mv : ℕ) (bound : Bound) → 2 ≤ length words → Valid (new_entry stats depth score mv bound) → (mv ≡ 0 → ⊥) → replaces (entry_at words hash) stats.age depth ≡ true → find_of (store_of words stats hash depth score mv bound).words hash ≡ Hit (new_entry stats depth score mv bound)
store_found words stats hash depth score mv bound long v m y =
    ap (λ (t : Table). find_of t.words hash) (store_puts words stats hash depth score mv bound y)
    ∙ put_found words hash (slot_of (length words) hash) refl (new_entry stats depth score mv bound) long v m
