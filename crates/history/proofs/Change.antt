-- What an operation on the history changes: one entry, at a place below 8,192; lengths and bounds are kept. Assumes nothing.
use mathlib.Core.Path.{◌≡◌, refl, sym, subst}
use mathlib.Core.Bool.{Bool, true, false}
use mathlib.Core.List.{List}
use Prim.Native.Nat.{ℕ, ◌<◌, ◌≤◌}
use native.Mathlib.Omega.{arith}
use borrow.Author.Tests.{eqb-true, eqb-false}
use lib.Dec.{eqb}
use lib.IntN.{ℤ, pos, neg_ℤ, nat_abs}
use lib.ListN.{length, get_or, set, length-set, length-replicate, get_or-replicate}
use lib.Seq.{get_or-set_same, get_or-set_other}
use Rattle.history.specs.Gravity.{delta_of, gravity_of}
use Rattle.history.specs.Entries.{index_of, update_of, bonus_of, malus_of, clear_of, within_of}
use Rattle.history.proofs.Curve.{delta_le, minus_le}
use Rattle.history.proofs.Bounds.{gravity_in}
use Rattle.history.proofs.Inside.{AllIn, within_means, means_within}

-- every side's move has its place
pub index_below : (side mv : ℕ) → side ≤ 1 → mv < 65536 → index_of side mv < 8192
unfolding index_of
index_below side mv s m = omega arith

-- an operation turned h into h' by changing the entry at i alone, by v
pub record Changed (hh : ℕ) (h : List ℤ) (i : ℕ) (v : ℤ) (h' : List ℤ) : Type 0 where
  pub same_length : length h' ≡ length h
  pub there : i < length h → get_or h' i (pos 0) ≡ gravity_of hh (get_or h i (pos 0)) v
  pub elsewhere : (k : ℕ) → (k ≡ i → ⊥) → get_or h' k (pos 0) ≡ get_or h k (pos 0)
  pub stays : hh ≤ 16384 → AllIn hh h → AllIn hh h'

set_stays : (hh : ℕ) (h : List ℤ) (i : ℕ) (x : ℤ) → (i < length h → nat_abs x ≤ hh) → AllIn hh h → AllIn hh (set h i x)
set_stays hh h i x f a k l = go (eqb k i) refl
  where
    m : k < length h
    m = omega (arith, length-set h i x)

    go : (b : Bool) → eqb k i ≡ b → nat_abs (get_or (set h i x) k (pos 0)) ≤ hh
    go true e =
        let s : k ≡ i = eqb-true k i e in
        let j : i < length h = omega (arith, m) in
        subst (λ (n : ℕ). nat_abs (get_or (set h i x) n (pos 0)) ≤ hh) (sym s)
        (rw (get_or-set_same h i x (pos 0) j) (f j))
    go false e = rw (get_or-set_other h i k x (pos 0) (eqb-false k i e)) (a k m)

pub update_changed : (hh : ℕ) (h : List ℤ) (side mv : ℕ) (v : ℤ) → nat_abs v ≤ hh → Changed hh h (index_of side mv) v (update_of hh h side mv v)
unfolding update_of
update_changed hh h side mv v hv = record {
  same_length = simp length-set;
  there = get_or-set_same h (index_of side mv) _ (pos 0);
  elsewhere = λ k n. get_or-set_other h (index_of side mv) k _ (pos 0) n;
  stays = λ top a.
      set_stays hh h (index_of side mv) _
      (λ l. gravity_in hh (get_or h (index_of side mv) (pos 0)) v top (a (index_of side mv) l) hv) a;
}

pub bonus_changed : (hh : ℕ) (h : List ℤ) (side mv : ℕ) (depth : ℤ) → Changed hh h (index_of side mv) (pos (delta_of hh depth)) (bonus_of hh h side mv depth)
unfolding bonus_of
bonus_changed hh h side mv depth = update_changed hh h side mv (pos (delta_of hh depth)) (omega (arith, delta_le hh depth))

pub malus_changed : (hh : ℕ) (h : List ℤ) (side mv : ℕ) (depth : ℤ) → Changed hh h (index_of side mv) (neg_ℤ (pos (delta_of hh depth))) (malus_of hh h side mv depth)
unfolding malus_of
malus_changed hh h side mv depth =
    update_changed hh h side mv (neg_ℤ (pos (delta_of hh depth))) (omega (arith, minus_le hh depth))

-- a cleared history has its length, and lies within any bound
pub clear_length : (h : List ℤ) → length (clear_of h) ≡ length h
unfolding clear_of
clear_length h = length-replicate (length h) (pos 0)

pub clear_in : (hh : ℕ) (h : List ℤ) → AllIn hh (clear_of h)
unfolding clear_of
clear_in hh h i l = rw (get_or-replicate (length h) i (pos 0) (pos 0) (omega (arith, length-replicate (length h) (pos 0)))) (omega arith)

-- so what `within` says yes to once, it says yes to for good
pub within_stays : (hh : ℕ) (h : List ℤ) (i : ℕ) (v : ℤ) (h' : List ℤ) → Changed hh h i v h' → hh ≤ 16384 → within_of hh h ≡ true → within_of hh h' ≡ true
within_stays hh h i v h' c top e = means_within hh h' (c.stays top (within_means hh h e))
