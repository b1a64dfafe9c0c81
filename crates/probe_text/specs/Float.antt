-- How a float's digits are written: halved while they are even. Assumes nothing.
use Rattle.std.specs.Prelude.{◌≡◌, ℕ, ◌*◌, ◌%◌, ◌^◌, ◌<◌, ◌≤◌}

-- what is left times a power of two is the number, and is odd where that is not 0
pub record Halves (x left times : ℕ) : Type 0 where
  pub few : times ≤ 53
  pub whole : left * 2 ^ times ≡ x
  pub odd : 0 < x → left % 2 ≡ 1
