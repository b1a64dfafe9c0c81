-- Calls of the table, what they leave, and what the lookups among them found: by these the law of the counters is stated. Assumes nothing.
use Rattle.std.specs.Prelude.{ℕ, ◌+◌, List, [], ◌∷◌, ℤ}
use Rattle.transposition.specs.declared.Bound.{Bound}
use Rattle.table.specs.Slot.{find_of}
use Rattle.table.specs.Stats.{reset_of}
use Rattle.table.specs.Table.{Table, table_of, lookup_of, store_of, clear_of}
use Rattle.table.specs.declared.Found.{Found}
use Rattle.table.specs.declared.Found.TheVariants.{Miss, Collision, Hit}

-- a call: a lookup of a hash; a store of a hash, depth, score, move and bound; a reset; a clear
pub data Call : Type 0 where
  lookup : ℕ → Call
  store : ℕ → ℤ → ℤ → ℕ → Bound → Call
  reset : Call
  clear : Call

-- the table that a call leaves
unfoldable pub after : Table → Call → Table
after t (lookup hash) = table_of t.words (lookup_of t.words t.stats hash).stats
after t (store hash depth score mv bound) = store_of t.words t.stats hash depth score mv bound
after t reset = table_of t.words (reset_of t.stats)
after t clear = clear_of t.words

-- the table that several calls leave, one after the other
unfoldable pub run : Table → List Call → Table
run t [] = t
run t (c ∷ cs) = run (after t c) cs

-- what the lookups have found since the last reset or clear, newest first, after one call more
unfoldable pub found_after : Table → List Found → Call → List Found
found_after t fs (lookup hash) = find_of t.words hash ∷ fs
found_after t fs (store hash depth score mv bound) = fs
found_after t fs reset = []
found_after t fs clear = []

-- and after several
unfoldable pub found_in : Table → List Found → List Call → List Found
found_in t fs [] = fs
found_in t fs (c ∷ cs) = found_in (after t c) (found_after t fs c) cs

-- one for each of the kind, none for another
abbrev pub hit : Found → ℕ
hit (Hit e) = 1
hit Miss = 0
hit Collision = 0

abbrev pub miss : Found → ℕ
miss (Hit e) = 0
miss Miss = 1
miss Collision = 0

abbrev pub collision : Found → ℕ
collision (Hit e) = 0
collision Miss = 0
collision Collision = 1

-- how many there are of a kind
unfoldable pub total : (Found → ℕ) → List Found → ℕ
total kind [] = 0
total kind (f ∷ fs) = total kind fs + kind f
