-- What a lookup finds, by its cases; and what a hit says. Assumes nothing.
use Rattle.std.proofs.Common.{◌≡◌, ℕ, ◌+◌, Bool, true, false, cond, not, eqb, List, length, get_or, sym, refl, ap, ◌∙◌, subst, arith, eq-eqb, ne_eqb, eqb-true}
use lib.Bits.{bit_xor}
use borrow.Author.Tests.{eqb-false}
use Rattle.transposition.specs.Word.{entry_of}
use Rattle.transposition.specs.declared.Entry.{Entry}
use Rattle.transposition.proofs.Packing.{Valid, entry_valid}
use Rattle.table.specs.Slot.{slot_of, hash_at, data_at, entry_at, is_empty, is_of, find_of}
use Rattle.table.specs.declared.Found.TheVariants.{Miss, Collision, Hit}

-- the answer by what is read at k
module _ (words : List ℕ) (hash k : ℕ) (at : k ≡ slot_of (length words) hash) (e : Entry) (is : e ≡ entry_of (get_or words (k + 1) 0)) where
  judged : cond (eqb e.mv 0) Miss (cond (not (eqb (bit_xor (get_or words k 0) (get_or words (k + 1) 0)) hash)) Collision (Hit e)) ≡ find_of words hash
  unfolding find_of
  judged =
      ap (λ (x : Entry). cond (eqb x.mv 0) Miss (cond (not (eqb (bit_xor (get_or words k 0) (get_or words (k + 1) 0)) hash)) Collision (Hit x))) is
      ∙ ap (λ (j : ℕ). cond (eqb (entry_of (get_or words (j + 1) 0)).mv 0) Miss (cond (not (eqb (bit_xor (get_or words j 0) (get_or words (j + 1) 0)) hash)) Collision (Hit (entry_of (get_or words (j + 1) 0))))) at

  pub is_miss : e.mv ≡ 0 → Miss ≡ find_of words hash
  is_miss p = simp (eq-eqb e.mv 0 p) at judged

  pub is_hit : (e.mv ≡ 0 → ⊥) → bit_xor (get_or words k 0) (get_or words (k + 1) 0) ≡ hash → Hit e ≡ find_of words hash
  is_hit n x = simp (ne_eqb e.mv 0 n, eq-eqb (bit_xor (get_or words k 0) (get_or words (k + 1) 0)) hash x) at judged

  pub is_collision : (e.mv ≡ 0 → ⊥) → (bit_xor (get_or words k 0) (get_or words (k + 1) 0) ≡ hash → ⊥) → Collision ≡ find_of words hash
  is_collision n x = simp (ne_eqb e.mv 0 n, ne_eqb (bit_xor (get_or words k 0) (get_or words (k + 1) 0)) hash x) at judged

-- what a hit says: its entry is the slot's, so its fields fit; it has a move; and the slot's two words give the hash
pub record Holds (words : List ℕ) (hash : ℕ) (e : Entry) : Type 0 where
  pub entry : e ≡ entry_at words hash
  pub valid : Valid e
  pub move : e.mv ≡ 0 → ⊥
  pub fits : bit_xor (hash_at words hash) (data_at words hash) ≡ hash

pub hit_holds : (words : List ℕ) (hash : ℕ) (e : Entry) → find_of words hash ≡ Hit e → Holds words hash e
unfolding find_of
hit_holds words hash e h = go (is_empty words hash) refl (is_of words hash) refl h
  where
    go : (a : Bool) → is_empty words hash ≡ a → (b : Bool) → is_of words hash ≡ b → cond a Miss (cond (not b) Collision (Hit (entry_at words hash))) ≡ Hit e → Holds words hash e
    go true q b r h = absurd (let z : ◌≡◌ {A = ℕ} 0 1 = cc in omega arith)
    go false q false r h = absurd (let z : ◌≡◌ {A = ℕ} 0 1 = cc in omega arith)
    go false q true r h =
        let same : entry_at words hash ≡ e = cc in
        record {
          entry = sym same;
          valid = subst Valid same (entry_valid (data_at words hash));
          move = λ z. eqb-false (entry_at words hash).mv 0 q (ap (λ (x : Entry). x.mv) same ∙ z);
          fits = eqb-true (bit_xor (hash_at words hash) (data_at words hash)) hash r;
        }
