-- What is taken for the tree. Assumes nothing.
use Rattle.std.specs.Prelude.{ℕ, zero, suc, ◌<◌, min, List, length, take, Option, Some, None, Result, Ok, Err}
use Rattle.std.specs.Io.KnownBytes.{Consumes, IsAtEnd}
use Rattle.io.specs.Counts.{IsPrefixLen}

-- what a read's answer says where it was to fill n bytes: only 0 is the end of the input
unfoldable pub step_of : {E : Type 0} → Result ℕ E → ℕ → Result (Option ℕ) E
step_of (Ok zero) n = Ok None
step_of (Ok (suc k)) n = Ok (Some (min (suc k) n))
step_of (Err e) n = Err e

-- bytes at the start of the buffer; of a read that failed nothing is taken
abbrev pub Taken : {E : Type 0} → Result ℕ E → List ℕ → Type 0
Taken (Ok n) buf = IsPrefixLen n buf
Taken (Err e) buf = Unit {0}

-- of a reader whose bytes are known: what is taken it had first, and where the buffer had room for more it has none left
abbrev pub TakenFirst : {E : Type 0} → Option (List ℕ) → Option (List ℕ) → Result ℕ E → List ℕ → Type 0
TakenFirst old new (Ok n) buf = Consumes old new (take n buf) × (n < length buf → IsAtEnd new)
TakenFirst old new (Err e) buf = Unit {0}
