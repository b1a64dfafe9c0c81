-- The test of the entries: the code's, and that it says yes exactly when every entry lies within plus and minus HH_MAX. Assumes nothing.
use mathlib.Core.Path.{◌≡◌, refl, ap, ◌∙◌}
use mathlib.Core.Bool.{Bool, true, false, ◌&&◌, true≢false}
use mathlib.Core.List.{List, [], ◌∷◌}
use Prim.Native.Nat.{ℕ, zero, suc, ◌<◌, ◌≤◌}
use native.Mathlib.Nat.{not-suc-le-zero, le_of_suc-le-suc}
use native.Mathlib.Omega.{arith}
use borrow.Author.Tests.{le-leb, leb-false}
use lib.Dec.{T, leb, leb→le}
use lib.IntN.{ℤ, pos, nat_abs}
use lib.ListN.{length, get_or}
use mir.Facts.{and_yes}
use Rattle.score.proofs.Cases.{holds}
use Rattle.history.specs.Entries.{within_of}

-- every entry lies within plus and minus a bound
abbrev pub AllIn : ℕ → List ℤ → Type 0
AllIn hh h = (i : ℕ) → i < length h → nat_abs (get_or h i (pos 0)) ≤ hh

-- what the test means, both ways: row 9 of 01's refusals is not given exactly when every entry lies within
all_in : (hh : ℕ) (h : List ℤ) → T (within_of hh h) → AllIn hh h
unfolding within_of
all_in hh [] t i l = absurd (not-suc-le-zero l)
all_in hh (x ∷ h) t zero l = leb→le (nat_abs x) hh (and_yes (leb (nat_abs x) hh) (within_of hh h) t).0
all_in hh (x ∷ h) t (suc i) l = all_in hh h (and_yes (leb (nat_abs x) hh) (within_of hh h) t).1 i (le_of_suc-le-suc l)

pub within_means : (hh : ℕ) (h : List ℤ) → within_of hh h ≡ true → AllIn hh h
within_means hh h e = all_in hh h (holds e)

pub means_within : (hh : ℕ) (h : List ℤ) → AllIn hh h → within_of hh h ≡ true
unfolding within_of
means_within hh [] a = refl
means_within hh (x ∷ h) a =
    ap (λ (b : Bool). b && within_of hh h) (le-leb (nat_abs x) hh (a 0 (omega arith))) ∙ means_within hh h (λ i l. a (suc i) (omega arith))

-- and it is given exactly when one lies beyond
abbrev pub Beyond : ℕ → List ℤ → Type 0
Beyond hh h = (i : ℕ) × ((i < length h) × (hh < nat_abs (get_or h i (pos 0))))

pub not_means : (hh : ℕ) (h : List ℤ) → within_of hh h ≡ false → Beyond hh h
unfolding within_of
not_means hh [] e = absurd (true≢false e)
not_means hh (x ∷ h) e = go (leb (nat_abs x) hh) refl (λ q. not_means hh h (rw q at e))
  where
    go : (b : Bool) → leb (nat_abs x) hh ≡ b → (leb (nat_abs x) hh ≡ true → Beyond hh h) → Beyond hh (x ∷ h)
    go true q f = let r = f q in (suc r.0, (omega (arith, r.1.0), r.1.1))
    go false q f = (0, (omega arith, leb-false (nat_abs x) hh q))

pub means_not : (hh : ℕ) (h : List ℤ) → Beyond hh h → within_of hh h ≡ false
means_not hh h b = go (within_of hh h) refl
  where
    go : (t : Bool) → within_of hh h ≡ t → t ≡ false
    go true e = absurd (omega (arith, within_means hh h e b.0 b.1.0, b.1.1))
    go false e = refl
