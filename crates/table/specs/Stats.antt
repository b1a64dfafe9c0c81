-- The age and the five counters: what a lookup, an insert and a reset make of them. Assumes nothing.
use Rattle.std.specs.Prelude.{ℕ, ◌+◌, ◌%◌, ◌^◌, cond, nat_le}
use Rattle.table.specs.declared.Found.{Found}
use Rattle.table.specs.declared.Found.TheVariants.{Miss, Collision, Hit}
use Rattle.table.specs.declared.Stats.{Stats}

-- 01, Refusal numbers: "Counts are 64-bit [..] sums, differences and negations of both wrap as the release build does."
abbrev pub one_more : ℕ → ℕ
one_more n = (n + 1) % 2 ^ 64

-- 01, Entry and table: "Misses are counted where they happen"; so are collisions and hits, and each of the three is a lookup
unfoldable pub looked : Stats → Found → Stats
looked s Miss =
    record { age = s.age; lookups = one_more s.lookups; inserts = s.inserts; hits = s.hits; misses = one_more s.misses; collisions = s.collisions }
looked s Collision =
    record { age = s.age; lookups = one_more s.lookups; inserts = s.inserts; hits = s.hits; misses = s.misses; collisions = one_more s.collisions }
looked s (Hit e) =
    record { age = s.age; lookups = one_more s.lookups; inserts = s.inserts; hits = one_more s.hits; misses = s.misses; collisions = s.collisions }

-- 01, Entry and table: "an insert is counted"
unfoldable pub inserted : Stats → Stats
inserted s =
    record { age = s.age; lookups = s.lookups; inserts = one_more s.inserts; hits = s.hits; misses = s.misses; collisions = s.collisions }

-- an age, and counters of 0
abbrev pub zeroed : ℕ → Stats
zeroed age = record { age = age; lookups = 0; inserts = 0; hits = 0; misses = 0; collisions = 0 }

-- 01, Entry and table: "age 254 or 255 becomes 0, else one more"
unfoldable pub next_age : ℕ → ℕ
next_age age = cond (nat_le 254 age) 0 (age + 1)

-- 01, Entry and table: "Reset: age 254 or 255 becomes 0, else one more; counters zeroed."
unfoldable pub reset_of : Stats → Stats
reset_of s = zeroed (next_age s.age)
