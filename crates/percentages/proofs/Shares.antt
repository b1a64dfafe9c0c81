-- The shares of a well-sized table: their numbers are small enough for f64, and each share is exact. Assumes nothing.
use mathlib.Core.Path.{◌≡◌, refl, sym, subst}
use mathlib.Core.Bool.{true}
use mathlib.Core.List.{List}
use Prim.Native.Nat.{ℕ, ◌*◌, ◌<◌, ◌≤◌}
use native.Mathlib.Omega.{arith}
use lib.ListN.{length}
use Rattle.table.specs.Table.{well_sized}
use Rattle.percentages.specs.Occupancy.{slots, counts_of, occupancy_of, Exactly}
use Rattle.percentages.specs.declared.occupancy.Counts.{Counts}
use Rattle.percentages.specs.declared.occupancy.Occupancy.{Occupancy}
use Rattle.percentages.proofs.Count.{Below, counts_below}
use Rattle.percentages.proofs.Division.{exact}
use Rattle.table.proofs.Size.{well_sized_lem}

-- how large the slots and the counts can be
pub record Room (words : List ℕ) (c : Counts) : Type 0 where
  pub some : 0 < slots words
  pub most : slots words ≤ 65536
  pub exact : c.exact ≤ 65536
  pub lower : c.lower ≤ 65536
  pub upper : c.upper ≤ 65536

module _ (words : List ℕ) (well : well_sized (length words) ≡ true) where
  pub room : (c : Counts) → c ≡ counts_of words → Room words c
  room c e =
      let s = well_sized_lem (length words) well in
      let b = subst (λ (x : Counts). Below x (slots words)) (sym e) (counts_below words (slots words)) in
      record { some = omega arith; most = omega arith; exact = omega arith; lower = omega arith; upper = omega arith }

  -- 01, Entry and table: "They are exact in f64, since n is a power of two."
  pub exactly : (o : Occupancy) → o ≡ occupancy_of words → Exactly words o
  unfolding occupancy_of
  exactly o e =
      let s = well_sized_lem (length words) well in
      let r = room (counts_of words) refl in
      subst (Exactly words) (sym e)
      (record {
        exact = exact (slots words) ((counts_of words).exact * 100) s.power (omega arith);
        lower = exact (slots words) ((counts_of words).lower * 100) s.power (omega arith);
        upper = exact (slots words) ((counts_of words).upper * 100) s.power (omega arith);
      })
