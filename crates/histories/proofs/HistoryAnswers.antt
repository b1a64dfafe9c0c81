-- What a bonus or a malus has once no row is given, and leaves where one is; the delta of an HH_MAX in its range. Assumes nothing.
use Rattle.std.proofs.Common.{◌≡◌, ◌∙◌, refl, ap, true, ℕ, zero, suc, List, ℤ, ◌≤◌, length, arith, nat_abs}
use Rattle.history.specs.Gravity.{delta_of}
use Rattle.refusals.specs.Rows.{hh_max_right, side_right, history_settings_right, history_sized}
use Rattle.refusals.specs.First.{entry_rows}
use Rattle.refusals.proofs.Given.{unless_holds}
use Rattle.histories.specs.Histories.{delta_rows, delta_given, delta_answer, delta_entry, over_history, entry_refused, change_answer}

pub record Accepted (history : List ℤ) (hh : ℤ) (side : ℕ) : Type 0 where
  pub above : 4 ≤ nat_abs hh
  pub side_most : side ≤ 1
  pub sized : length history ≡ 8192

pub accepted : (history : List ℤ) (hh : ℤ) (side : ℕ) → 0 ≡ entry_rows history hh side → Accepted history hh side
unfolding entry_rows history_settings_right hh_max_right side_right history_sized
accepted = grind arith

pub delta_made : (hh depth : ℤ) → hh_max_right hh ≡ true → (d : ℕ) → d ≡ delta_of (nat_abs hh) depth → delta_given d ≡ delta_entry hh depth
unfolding delta_rows delta_answer
delta_made hh depth e d is = ap delta_given is ∙ ap (λ (r : ℕ). delta_answer r hh depth) (unless_holds (hh_max_right hh) 6 0 e)

-- a refused bonus or malus leaves the entries as they were
some : (history made : List ℤ) (side mv r : ℕ) → (r ≡ 0 → ⊥) → over_history (entry_refused r) history ≡ change_answer r history side mv made
unfolding change_answer
some history made side mv zero n = absurd (n refl)
some history made side mv (suc r) n = refl
