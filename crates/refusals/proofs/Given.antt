-- A row is given where its rule fails; none is given exactly where all rules hold. Assumes nothing.
use mathlib.Core.Path.{◌≡◌, refl}
use mathlib.Core.Bool.{Bool, true, false, true≢false, false≢true}
use mathlib.Core.List.{List}
use Prim.Native.Nat.{ℕ, zero, suc}
use native.Mathlib.Omega.{arith}
use lib.IntN.{ℤ}
use Rattle.tree.specs.Refusal.{tree_refusal}
use Rattle.state.specs.declared.Settings.{Settings}
use Rattle.refusals.specs.Rows.{tree_settings_right, settings_right, history_settings_right, table_right, history_sized, history_right}
use Rattle.refusals.specs.First.{first, unless, tree_rows, search_rows, entry_rows}

-- a row: given where its rule fails, passed where it holds

pub unless_fails : (a : Bool) (n later : ℕ) → a ≡ false → n ≡ unless a n later
unless_fails true n later e = absurd (true≢false e)
unless_fails false n later e = refl

pub unless_holds : (a : Bool) (n later : ℕ) → a ≡ true → later ≡ unless a n later
unless_holds true n later e = refl
unless_holds false n later e = absurd (false≢true e)

pub first_some : (n later : ℕ) → (n ≡ 0 → ⊥) → n ≡ first n later
first_some zero later h = absurd (h refl)
first_some (suc n) later h = refl

pub first_none : (n later : ℕ) → n ≡ 0 → later ≡ first n later
first_none zero later e = refl
first_none (suc n) later e = absurd (omega arith)

-- the settings' row is given first, of a search and of a bonus or a malus

pub search_settings : (t words : List ℕ) (history : List ℤ) (set : Settings) → settings_right set ≡ false → 6 ≡ search_rows t words history set
unfolding search_rows
search_settings t words history set e = rw e

pub entry_settings : (history : List ℤ) (hh : ℤ) (side : ℕ) → history_settings_right hh side ≡ false → 6 ≡ entry_rows history hh side
unfolding entry_rows
entry_settings history hh side e = rw e

-- 0 where all rules hold, and only there

none_tree : (a : Bool) (n : ℕ) → unless a 6 n ≡ 0 → (a ≡ true) × (n ≡ 0)
none_tree true n h = (refl, h)
none_tree false n h = absurd (omega arith)

none_search : (a : Bool) (n : ℕ) (b c : Bool) → unless a 6 (first n (unless b 8 (unless c 8 0))) ≡ 0 → (a ≡ true) × (n ≡ 0) × (b ≡ true) × (c ≡ true)
none_search true zero true true h = (refl, refl, refl, refl)
none_search true zero true false h = absurd (omega arith)
none_search true zero false c h = absurd (omega arith)
none_search true (suc n) b c h = absurd (omega arith)
none_search false n b c h = absurd (omega arith)

none_entry : (a b c : Bool) → unless a 6 (unless b 8 (unless c 9 0)) ≡ 0 → (a ≡ true) × (b ≡ true) × (c ≡ true)
none_entry true true true h = (refl, refl, refl)
none_entry true true false h = absurd (omega arith)
none_entry true false c h = absurd (omega arith)
none_entry false b c h = absurd (omega arith)

pub tree_right : (inf : ℤ) (maxPly : ℕ) (t : List ℕ) → tree_rows inf maxPly t ≡ 0 → (tree_settings_right inf maxPly ≡ true) × (tree_refusal inf maxPly t ≡ 0)
unfolding tree_rows
tree_right inf maxPly t h = none_tree (tree_settings_right inf maxPly) (tree_refusal inf maxPly t) h

pub search-right
    : (t words : List ℕ) (history : List ℤ) (set : Settings) → search_rows t words history set ≡ 0
    → (settings_right set ≡ true) × (tree_refusal set.inf set.max_ply t ≡ 0) × (table_right words ≡ true) × (history_sized history ≡ true)
unfolding search_rows
search-right t words history set h = none_search (settings_right set) (tree_refusal set.inf set.max_ply t) (table_right words) (history_sized history) h

pub entry-right
    : (history : List ℤ) (hh : ℤ) (side : ℕ) → entry_rows history hh side ≡ 0
    → (history_settings_right hh side ≡ true) × (history_sized history ≡ true) × (history_right hh history ≡ true)
unfolding entry_rows
entry-right history hh side h = none_entry (history_settings_right hh side) (history_sized history) (history_right hh history) h
