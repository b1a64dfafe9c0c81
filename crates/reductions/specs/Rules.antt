-- What is proved over the whole table of reductions, as one statement. Assumes nothing.
use Rattle.std.specs.Prelude.{◌≡◌, ℕ, ◌≤◌}

-- 01, Visits: "row 0 and column 0 zero. Over the whole table it is proved that the others lie in 1..6 and never fall along a row or column."
pub record Rules (entry : ℕ → ℕ → ℕ) : Type 0 where
  pub zero_row : (moves : ℕ) → moves ≤ 63 → entry 0 moves ≡ 0
  pub zero_column : (depth : ℕ) → depth ≤ 31 → entry depth 0 ≡ 0
  pub others : (depth moves : ℕ) → 1 ≤ depth → depth ≤ 31 → 1 ≤ moves → moves ≤ 63 → (1 ≤ entry depth moves) × (entry depth moves ≤ 6)
  pub along_row : (depth moves later : ℕ) → depth ≤ 31 → moves ≤ later → later ≤ 63 → entry depth moves ≤ entry depth later
  pub down_column : (depth deeper moves : ℕ) → depth ≤ deeper → deeper ≤ 31 → moves ≤ 63 → entry depth moves ≤ entry deeper moves
