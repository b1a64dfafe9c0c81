-- The counts are at most the slots passed, and one turn of the count. Assumes nothing.
use mathlib.Core.Path.{◌≡◌, sym, ap, ap₂, ◌∙◌}
use mathlib.Core.Bool.{Bool, true, false, cond}
use mathlib.Core.List.{List}
use Prim.Native.Nat.{ℕ, zero, suc, ◌+◌, ◌*◌, ◌≤◌}
use native.Mathlib.Numerals.{add-one}
use native.Mathlib.Omega.{arith}
use lib.Dec.{eqb}
use lib.ListN.{get_or}
use borrow.Author.Tests.{eq-eqb, ne_eqb}
use Rattle.transposition.specs.Word.{entry_of}
use Rattle.transposition.specs.declared.Bound.{Bound}
use Rattle.transposition.specs.declared.Bound.TheVariants.{Exact, Lower, Upper}
use Rattle.transposition.specs.declared.Entry.{Entry}
use Rattle.percentages.specs.Occupancy.{more, with_entry, counts_to}
use Rattle.percentages.specs.declared.occupancy.Counts.{Counts}

pub record Below (c : Counts) (k : ℕ) : Type 0 where
  pub exact : c.exact ≤ k
  pub lower : c.lower ≤ k
  pub upper : c.upper ≤ k

more_below : (c : Counts) (b : Bound) (k : ℕ) → Below c k → Below (more c b) (suc k)
unfolding more
more_below c Exact k h = record { exact = omega arith; lower = omega arith; upper = omega arith }
more_below c Lower k h = record { exact = omega arith; lower = omega arith; upper = omega arith }
more_below c Upper k h = record { exact = omega arith; lower = omega arith; upper = omega arith }

pick_below : (b : Bool) (x y : Counts) (k : ℕ) → Below x k → Below y k → Below (cond b x y) k
pick_below true x y k p q = p
pick_below false x y k p q = q

pub counts_below : (words : List ℕ) (k : ℕ) → Below (counts_to words k) k
unfolding counts_to
counts_below words zero = record { exact = omega arith; lower = omega arith; upper = omega arith }
counts_below words (suc k) =
    let h = counts_below words k in
    let e = entry_of (get_or words (k * 2 + 1) 0) in
    pick_below (eqb e.mv 0) (counts_to words k) (more (counts_to words k) e.bound) (suc k)
    (record { exact = omega arith; lower = omega arith; upper = omega arith })
    (more_below (counts_to words k) e.bound k h)

module _ (words : List ℕ) (k : ℕ) (c : Counts) (e : Entry) (p : c ≡ counts_to words k) (q : e ≡ entry_of (get_or words (k * 2 + 1) 0)) where
  turn : with_entry c e ≡ counts_to words (k + 1)
  unfolding counts_to
  turn = rw add-one (ap₂ with_entry p q)

  -- a move of 0 is passed over
  pub skipped : e.mv ≡ 0 → c ≡ counts_to words (k + 1)
  skipped z = sym (ap (λ (b : Bool). cond b c (more c e.bound)) (eq-eqb e.mv 0 z)) ∙ turn

  -- another is one more of its bound
  pub taken : (e.mv ≡ 0 → ⊥) → more c e.bound ≡ counts_to words (k + 1)
  taken z = sym (ap (λ (b : Bool). cond b c (more c e.bound)) (ne_eqb e.mv 0 z)) ∙ turn
