-- The history's public entries: which refusal each gets, and what it answers and leaves. Assumes nothing.
use Rattle.std.specs.Prelude.{List, ℕ, zero, suc, ℤ, pos, nat_abs, get_or, Ok, Err}
use Rattle.std.specs.declared.result.Result.{Result}
use Rattle.refusal.specs.declared.Refusal.{Refusal}
use Rattle.refusal.specs.Number.{number_of}
use Rattle.history.specs.Gravity.{delta_of}
use Rattle.history.specs.Entries.{index_of, update_of, bonus_of, malus_of}
use Rattle.refusals.specs.Rows.{hh_max_right}
use Rattle.refusals.specs.First.{unless, entry_rows}

-- 01, row 6: "a setting is outside its range"; of the settings a delta takes HH_MAX alone
unfoldable pub delta_rows : ℤ → ℕ
delta_rows hh = unless (hh_max_right hh) 6 0

-- what is told of a call: the refusal's number, 0 for none; the delta, the entry after a bonus or a malus
pub record DeltaAnswer : Type 0 where
  pub refusal : ℕ
  pub delta : ℤ

pub record EntryAnswer : Type 0 where
  pub refusal : ℕ
  pub entry : ℤ

-- 01, Refusal numbers: "A refusal returns its number with every result number 0, and lent memory is unchanged". In each answer below the first
-- clause is a call that is not refused, the second one that is.

abbrev pub delta_given : ℕ → DeltaAnswer
delta_given d = record { refusal = 0; delta = pos d }

abbrev pub delta_refused : ℕ → DeltaAnswer
delta_refused r = record { refusal = r; delta = pos 0 }

-- 01, History and clock: "Delta: 16d^2 + 128d - 256, held to 0..HH_MAX/4 (rounded down)."
unfoldable pub delta_answer : ℕ → ℤ → ℤ → DeltaAnswer
delta_answer zero hh depth = delta_given (delta_of (nat_abs hh) depth)
delta_answer (suc r) hh depth = delta_refused (suc r)

abbrev pub delta_entry : ℤ → ℤ → DeltaAnswer
delta_entry hh depth = delta_answer (delta_rows hh) hh depth

-- what is answered, and the history's entries after it
pub record OverHistory : Type 0 where
  pub it : EntryAnswer
  pub history : List ℤ

abbrev pub over_history : EntryAnswer → List ℤ → OverHistory
over_history r history = record { it = r; history = history }

-- 01, History and clock: "Index: 4,096 * side + 64 * from + to"
abbrev pub entry_given : List ℤ → ℕ → ℕ → EntryAnswer
entry_given history side mv = record { refusal = 0; entry = get_or history (index_of side mv) (pos 0) }

abbrev pub entry_refused : ℕ → EntryAnswer
entry_refused r = record { refusal = r; entry = pos 0 }

-- entries made of those that went in
unfoldable pub change_answer : ℕ → List ℤ → ℕ → ℕ → List ℤ → OverHistory
change_answer zero history side mv made = over_history (entry_given made side mv) made
change_answer (suc r) history side mv made = over_history (entry_refused (suc r)) history

-- 01, History and clock: "New = old + v - old*|v|/HH_MAX, division toward zero"
abbrev pub change_entry : List ℤ → ℤ → ℕ → ℕ → ℤ → OverHistory
change_entry history hh side mv v = change_answer (entry_rows history hh side) history side mv (update_of (nat_abs hh) history side mv v)

-- "v is delta"
abbrev pub bonus_entry : List ℤ → ℤ → ℕ → ℕ → ℤ → OverHistory
bonus_entry history hh side mv depth = change_answer (entry_rows history hh side) history side mv (bonus_of (nat_abs hh) history side mv depth)

-- "or its negation"
abbrev pub malus_entry : List ℤ → ℤ → ℕ → ℕ → ℤ → OverHistory
malus_entry history hh side mv depth = change_answer (entry_rows history hh side) history side mv (malus_of (nat_abs hh) history side mv depth)

-- 01, Some places and their forms: "When an answer is an enum, a definition specifies this paper's number and values for each of its cases."

abbrev pub told_delta : Result ℤ Refusal → DeltaAnswer
told_delta (Ok d) = record { refusal = 0; delta = d }
told_delta (Err r) = delta_refused (number_of r)

abbrev pub told_entry : Result ℤ Refusal → EntryAnswer
told_entry (Ok x) = record { refusal = 0; entry = x }
told_entry (Err r) = entry_refused (number_of r)
