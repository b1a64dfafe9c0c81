-- Which refusal a search gets, by the rows' tests, and what is asked of the layers below where it gets none. Assumes nothing.
use mathlib.Core.Path.{◌≡◌, refl, sym, ap, ◌∙◌}
use mathlib.Core.Bool.{true}
use mathlib.Core.List.{List}
use Prim.Native.Nat.{ℕ, zero, suc, ◌≤◌}
use native.Mathlib.Omega.{arith}
use lib.IntN.{ℤ, pos, nat_abs}
use lib.Signed.{le_z}
use Rattle.table.specs.declared.Stats.{Stats}
use Rattle.state.specs.declared.Settings.{Settings}
use Rattle.carry.specs.Carry.{With, with}
use Rattle.visits.specs.Reach.{Ready}
use Rattle.root_steps.specs.declared.Depths.{Depths}
use Rattle.root.specs.Root.{root_search}
use Rattle.refusals.specs.Rows.{range_right}
use Rattle.refusals.specs.First.{search_rows}
use Rattle.refusals.proofs.Meaning.{search_settings_right, search_accepted, search_words, search_entries, set_hh_max_above}
use Rattle.desk.specs.RootEntry.{root_refusal, root_given, root_answer, root_entry}
use Rattle.results.specs.Told.{root_refused}

pub from_one : (z : ℤ) → le_z (pos 1) z ≡ true → le_z (pos 0) z ≡ true
from_one = grind arith

pub size_least : (z : ℤ) → le_z (pos 1) z ≡ true → 1 ≤ nat_abs z
size_least = grind arith

pub size_most : (z : ℤ) (n : ℕ) → le_z (pos 0) z ≡ true → le_z z (pos n) ≡ true → nat_abs z ≤ n
size_most = grind arith

pub from_start : (x y : ℤ) → le_z (pos 1) x ≡ true → le_z x y ≡ true → le_z (pos 0) y ≡ true
from_start = grind arith

-- lent memory and settings, where the rows that both searches test hold
pub ready : (t words : List ℕ) (history : List ℤ) (set : Settings) → search_rows t words history set ≡ 0 → Ready set t words history
ready t words history set z =
    record {
      accepted = search_accepted t words history set z;
      hh_above = set_hh_max_above set (search_settings_right t words history set z);
      words_least = search_words t words history set z;
      history_length = search_entries t words history set z;
    }

module _ (t words : List ℕ) (history : List ℤ) (set : Settings) (start end : ℤ) where
  pub root_right : root_refusal t words history set start end ≡ 0 → (search_rows t words history set ≡ 0) × (range_right start end ≡ true)
  unfolding root_refusal
  root_right = grind arith

  -- the answer where a refusal is given
  refused : (c : Stats) (n : ℕ) → (n ≡ 0 → ⊥) → with (root_refused n c) words history ≡ root_answer n t set c start end words history
  unfolding root_answer
  refused c zero h = absurd (h refl)
  refused c (suc n) h = refl

  pub root_refused_lem
      : (c : Stats) (n : ℕ) → n ≡ root_refusal t words history set start end → (n ≡ 0 → ⊥)
      → with (root_refused n c) words history ≡ root_entry t set c start end words history
  root_refused_lem c n e h = refused c n h ∙ ap (λ (m : ℕ). root_answer m t set c start end words history) e

  -- the answer where none is given
  pub root_given_lem
      : (c : Stats) → root_refusal t words history set start end ≡ 0 → (d : With Depths) → d ≡ root_search t set c (nat_abs start) (nat_abs end) words history
      → root_given d ≡ root_entry t set c start end words history
  unfolding root_answer
  root_given_lem c z d ed = ap root_given ed ∙ sym (ap (λ (m : ℕ). root_answer m t set c start end words history) z)
