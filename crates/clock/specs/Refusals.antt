-- Row 10 of 01's refusal table, one test for each of its conditions, and which operation makes which. Assumes nothing.
use Rattle.std.specs.Prelude.{Bool, ◌||◌, ℕ, ◌-◌, eqb, ltb}
use Rattle.clock.specs.declared.Clock.{Clock}

-- 01, row 10: "clock ply outside 1..65,535"
abbrev pub ply_out : ℕ → Bool
ply_out ply = ltb ply 1 || ltb 65535 ply

-- "time over 2^32 - 1"
abbrev pub time_over : ℕ → Bool
time_over time = ltb 4294967295 time

-- "a poll count below the last"
abbrev pub count_below : Clock → ℕ → Bool
count_below c nodes = ltb nodes c.last

-- "now before the start or over 2^32 - 1 ms after it"
abbrev pub now_out : Clock → ℕ → Bool
now_out c now = ltb now c.started || ltb 4294967295 (now - c.started)

-- "a poll or allocation with remaining 0"
abbrev pub none_remaining : Clock → Bool
none_remaining c = eqb c.remaining 0

-- an allocation uses the clock's own time and what remains
abbrev pub allocation_refused : Clock → Bool
allocation_refused c = time_over c.time || none_remaining c

-- a poll's conditions, in the row's order; tested at every poll, also one that would not look
abbrev pub poll_refused : Clock → ℕ → ℕ → Bool
poll_refused c nodes now = time_over c.time || count_below c nodes || now_out c now || none_remaining c
