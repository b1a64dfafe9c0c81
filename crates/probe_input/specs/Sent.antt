-- The table's words and the history's entries, as a chunk of a request's bytes holds them. Assumes nothing.
use Rattle.std.specs.Prelude.{List, ℕ, zero, suc, ◌+◌, ◌*◌, ℤ, set}
use Rattle.record.specs.Bytes.{le}
use Rattle.probe_input.specs.Fields.{signed16_at}

-- the first numbers of the chunk, of `width` bytes each, put into items from `at` on
unfoldable pub items_from : {X : Type 0} → (List ℕ → ℕ → X) → ℕ → List ℕ → List X → ℕ → ℕ → List X
items_from read width chunk items at zero = items
items_from read width chunk items at (suc k) = set (items_from read width chunk items at k) (at + k) (read chunk (width * k))

-- words have 8 bytes each
abbrev pub words_from : List ℕ → List ℕ → ℕ → ℕ → List ℕ
words_from = items_from (λ s at. le s at 8) 8

-- entries have 2 bytes each and are signed
abbrev pub entries_from : List ℕ → List ℤ → ℕ → ℕ → List ℤ
entries_from = items_from signed16_at 2
