-- After a store, a lookup of any hash finds what was stored, under its own hash, or what it found before. Assumes nothing.
use Rattle.std.proofs.Common.{◌≡◌, ℕ, ◌+◌, ◌*◌, ◌/◌, ◌%◌, ◌≤◌, Bool, true, false, cond, not, eqb, ◌⊎◌, List, length, get_or, set, ℤ, sym, refl, ap, ◌∙◌, ap₂, inl, inr, arith, length-set, get_or-set_other, eqb-true}
use borrow.Author.Tests.{eqb-false}
use lib.Bits.{bit_xor}
use Rattle.transposition.specs.Word.{data_word, entry_of, hash_word}
use Rattle.transposition.specs.declared.Bound.{Bound}
use Rattle.transposition.specs.declared.Entry.{Entry}
use Rattle.transposition.proofs.Packing.{Valid, read_back}
use Rattle.table.specs.Slot.{slot_of, entry_at, find_of, replaces, put}
use Rattle.table.specs.Table.{Table, new_entry, store_of}
use Rattle.table.specs.declared.Found.{Found}
use Rattle.table.specs.declared.Found.TheVariants.{Miss, Collision, Hit}
use Rattle.table.specs.declared.Stats.{Stats}
use Rattle.table.proofs.Finding.{hit_holds}
use Rattle.table.proofs.Keep.{store_keeps, store_puts}
use Rattle.table.proofs.Again.{data_put, xor_put}

-- a slot starts at an even place
record Even (k : ℕ) : Type 0 where
  pub half : ℕ
  pub is : k ≡ half * 2

slot_even : (words hash : ℕ) → Even (slot_of words hash)
unfolding slot_of
slot_even words hash = record { half = hash % (words / 2); is = refl }

module _ (words : List ℕ) (hash other : ℕ) (e : Entry) where
  abbrev k : ℕ
  k = slot_of (length words) hash

  abbrev j : ℕ
  j = slot_of (length words) other

  same_length : length (put words k hash e) ≡ length words
  same_length = simp length-set

  -- in another slot nothing changes
  put_other : (j ≡ k → ⊥) → find_of (put words k hash e) other ≡ find_of words other
  unfolding find_of
  put_other n =
      ap (λ (i : ℕ). judge (get_or (put words k hash e) i 0) (get_or (put words k hash e) (i + 1) 0)) (ap (λ (l : ℕ). slot_of l other) same_length)
      ∙ ap₂ judge (away j n (λ q. omega (arith, a.is, b.is))) (away (j + 1) (λ q. omega (arith, a.is, b.is)) (λ q. n (omega arith)))
    where
      a : Even k
      a = slot_even (length words) hash

      b : Even j
      b = slot_even (length words) other

      judge : ℕ → ℕ → Found
      judge h d = cond (eqb (entry_of d).mv 0) Miss (cond (not (eqb (bit_xor h d) other)) Collision (Hit (entry_of d)))

      away : (i : ℕ) → (i ≡ k → ⊥) → (i ≡ k + 1 → ⊥) → get_or (put words k hash e) i 0 ≡ get_or words i 0
      away i p q =
          get_or-set_other (set words k (hash_word hash (data_word e))) (k + 1) i (data_word e) 0 q
          ∙ get_or-set_other words k i (hash_word hash (data_word e)) 0 p

  -- in the same one only the hash that was stored finds anything, and it finds the entry
  put_same : 2 ≤ length words → Valid e → j ≡ k → (f : Entry) → find_of (put words k hash e) other ≡ Hit f → (other ≡ hash) × (f ≡ e)
  put_same long v q f h =
      let s = hit_holds (put words k hash e) other f h in
      let at : slot_of (length (put words k hash e)) other ≡ k = ap (λ (l : ℕ). slot_of l other) same_length ∙ q in (
        sym s.fits ∙ ap (λ (i : ℕ). bit_xor (get_or (put words k hash e) i 0) (get_or (put words k hash e) (i + 1) 0)) at ∙ xor_put words hash k refl e long,
        s.entry ∙ ap (λ (i : ℕ). entry_of (get_or (put words k hash e) (i + 1) 0)) at ∙ ap entry_of (data_put words hash k refl e long) ∙ read_back e v,
      )

module _ (words : List ℕ) (stats : Stats) (hash : ℕ) (depth score : ℤ) (mv : ℕ) (bound : Bound) where
  pub store_finds : 2 ≤ length words → Valid (new_entry stats depth score mv bound) → (other : ℕ) (f : Entry) → find_of (store_of words stats hash depth score mv bound).words other ≡ Hit f → ((other ≡ hash) × (f ≡ new_entry stats depth score mv bound)) ⊎ (find_of words other ≡ Hit f)
  store_finds long v other f h = by-rule (replaces (entry_at words hash) stats.age depth) refl
    where
      by-slot : (b : Bool) → eqb (slot_of (length words) other) (slot_of (length words) hash) ≡ b → find_of (put words (slot_of (length words) hash) hash (new_entry stats depth score mv bound)) other ≡ Hit f → ((other ≡ hash) × (f ≡ new_entry stats depth score mv bound)) ⊎ (find_of words other ≡ Hit f)
      by-slot true q h = inl (put_same words hash other (new_entry stats depth score mv bound) long v (eqb-true (slot_of (length words) other) (slot_of (length words) hash) q) f h)
      by-slot false q h = inr (sym (put_other words hash other (new_entry stats depth score mv bound) (eqb-false (slot_of (length words) other) (slot_of (length words) hash) q)) ∙ h)

      by-rule : (b : Bool) → replaces (entry_at words hash) stats.age depth ≡ b → ((other ≡ hash) × (f ≡ new_entry stats depth score mv bound)) ⊎ (find_of words other ≡ Hit f)
      by-rule true r =
          by-slot (eqb (slot_of (length words) other) (slot_of (length words) hash)) refl
          (sym (ap (λ (t : Table). find_of t.words other) (store_puts words stats hash depth score mv bound r)) ∙ h)
      by-rule false r = inr (sym (ap (λ (t : Table). find_of t.words other) (store_keeps words stats hash depth score mv bound r)) ∙ h)
