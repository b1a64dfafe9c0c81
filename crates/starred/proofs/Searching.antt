-- The root search's entry in the table's memory: it is not refused, so it answers what the root search below it does. Assumes nothing.
use mathlib.Core.Path.{◌≡◌, refl, sym, ap, ◌∙◌}
use mathlib.Core.Bool.{true}
use mathlib.Core.List.{List}
use Prim.Native.Nat.{ℕ}
use lib.IntN.{ℤ, pos}
use Rattle.table.specs.Stats.{zeroed}
use Rattle.tree.specs.Refusal.{tree_refusal}
use Rattle.carry.specs.Carry.{With}
use Rattle.root.specs.Root.{root_search}
use Rattle.refusals.specs.Rows.{inf_right, max_ply_right, hh_max_right, side_right, limit_right, tree_settings_right, history_settings_right, settings_right, table_right, history_sized, range_right}
use Rattle.refusals.specs.First.{search_rows}
use Rattle.desk.specs.RootEntry.{root_result, root_refusal}
use Rattle.desk.proofs.Searching.{root_given_lem}
use Rattle.starred.specs.Searched.{Switches, settings, empty, zeros, Answer, answer_of, searched, gives}
use Rattle.starred.proofs.Switching.{everywhere, everywhere_means, is_given, is_given_lem}
use Rattle.results.specs.Told.{RootResult}

-- the root search below the entry
abbrev pub ran : List ℕ → Switches → ℕ → ℕ → Answer
ran t s entries end = answer_of (root_result (root_search t (settings s) (zeroed 0) 1 end (empty entries) zeros).it)

module _ (t : List ℕ) (entries end : ℕ) (accepted : tree_refusal (pos 30000) 128 t ≡ 0) (sized : table_right (empty entries) ≡ true) (range : range_right (pos 1) (pos end) ≡ true) where
  -- no row of the refusals is given
  none : (s : Switches) → root_refusal t (empty entries) zeros (settings s) (pos 1) (pos end) ≡ 0
  unfolding root_refusal search_rows inf_right max_ply_right hh_max_right side_right limit_right tree_settings_right history_settings_right settings_right history_sized
  none s = rw (accepted, sized, range) refl

  -- so the entry answers what the root search does
  pub entered : (s : Switches) → searched t s entries end ≡ ran t s entries end
  entered s =
      sym
      (ap (λ (r : With RootResult). answer_of r.it)
      (root_given_lem t (empty entries) zeros (settings s) (pos 1) (pos end) (zeroed 0) (none s) (root_search t (settings s) (zeroed 0) 1 end (empty entries) zeros) refl))

  -- and an answer that is computed at every setting of the switches is the entry's
  pub at_all : (score : ℤ) (mv depth nodes : ℕ) → everywhere (λ (s : Switches). is_given score mv depth nodes (ran t s entries end)) ≡ true → (s : Switches) → searched t s entries end ≡ gives score mv depth nodes
  at_all score mv depth nodes h s = entered s ∙ is_given_lem score mv depth nodes (ran t s entries end) (everywhere_means (λ (s : Switches). is_given score mv depth nodes (ran t s entries end)) h s)
