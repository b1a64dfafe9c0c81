-- 01, Refusal numbers: the number of each row of its table. Assumes nothing.
use Rattle.std.specs.Prelude.{◌≡◌, ℕ, Ok, Err}
use Rattle.std.specs.declared.result.Result.{Result}
use Rattle.refusal.specs.declared.Refusal.{Refusal}
use Rattle.refusal.specs.declared.Refusal.TheVariants.{Length, Blocks, Layout, Fields, Levels, Settings, Start, Sizes, Entries, Clock, Rate}

-- 01, Refusal numbers, the column "No."
abbrev pub number_of : Refusal → ℕ
number_of Length = 1
number_of Blocks = 2
number_of Layout = 3
number_of Fields = 4
number_of Levels = 5
number_of Settings = 6
number_of Start = 7
number_of Sizes = 8
number_of Entries = 9
number_of Clock = 10
number_of Rate = 11

-- the number that a call told: 0 where it answered
abbrev pub number_told : {A : Type 0} → Result A Refusal → ℕ
number_told (Ok a) = 0
number_told (Err r) = number_of r

-- one number, one row: what 01, What a result must tie down, asks of an answer by its number
abbrev pub NumberTells : Type 0
NumberTells = (r s : Refusal) → number_of r ≡ number_of s → r ≡ s
