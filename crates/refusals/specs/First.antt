-- The order of the refusals: "Checked in this order, whole input each; an entry tests only what it takes." Assumes nothing.
use Rattle.std.specs.Prelude.{Bool, not, List, ℕ, zero, suc, ℤ}
use Rattle.tree.specs.Pick.{pick}
use Rattle.tree.specs.Refusal.{tree_refusal}
use Rattle.state.specs.declared.Settings.{Settings}
use Rattle.refusals.specs.Rows.{tree_settings_right, settings_right, history_settings_right, table_right, history_sized, history_right}

-- the first number that is given, 0 where none is
abbrev pub first : ℕ → ℕ → ℕ
first zero later = later
first (suc n) later = suc n

-- a row's number where its rule does not hold, else the later rows'
abbrev pub unless : Bool → ℕ → ℕ → ℕ
unless right number later = pick (not right) number later

-- what the tree's check and the record accessor test first: 6, then 1 to 5
unfoldable pub tree_rows : ℤ → ℕ → List ℕ → ℕ
tree_rows inf maxPly t = unless (tree_settings_right inf maxPly) 6 (tree_refusal inf maxPly t)

-- what both searches test first: 6, 1 to 5, 8
unfoldable pub search_rows : List ℕ → List ℕ → List ℤ → Settings → ℕ
search_rows t words history set =
    unless (settings_right set) 6
    (first (tree_refusal set.inf set.max_ply t) (unless (table_right words) 8 (unless (history_sized history) 8 0)))

-- what a bonus or a malus tests: 6, 8, 9
unfoldable pub entry_rows : List ℤ → ℤ → ℕ → ℕ
entry_rows history hh side =
    unless (history_settings_right hh side) 6 (unless (history_sized history) 8 (unless (history_right hh history) 9 0))
