-- The clock of 004 by 01's rules: new, start, the settings, stop, allocated, poll. Assumes nothing.
use Rattle.std.specs.Prelude.{Bool, true, false, cond, ◌||◌, ℕ, ◌+◌, ◌-◌, ◌*◌, ◌/◌, ◌%◌, eqb, ltb}
use Rattle.clock.specs.declared.Clock.{Clock}
use Rattle.clock.specs.Answers.{Answer, gives, stopped, refused_when}
use Rattle.clock.specs.Refusals.{ply_out, time_over, allocation_refused, poll_refused}

-- 004, new: a clock that was never started; the moves of its level remain, and it counts from 0
abbrev pub new_clock : ℕ → ℕ → Clock
new_clock level time = record { level = level; remaining = level; time = time; increment = 0; last = 0; started = 0; finished = false }

-- 01, row 10: "time over 2^32 - 1"; no clock went in, so that "every result number 0" is a clock of zeros
unfoldable pub new_of : ℕ → ℕ → Answer
new_of level time = refused_when (time_over time) (new_clock 0 0) (gives 0 (new_clock level time))

-- 01, History and clock: "Start: played = (ply - 1)/2"
abbrev pub played_of : ℕ → ℕ
played_of ply = (ply - 1) / 2

-- "remaining = level - played modulo level, or 20 at level 0"
abbrev pub remaining_of : ℕ → ℕ → ℕ
remaining_of level ply = cond (eqb level 0) 20 (level - played_of ply % level)

-- 004, start: no node counted yet, not finished, started now
abbrev pub start_clock : Clock → ℕ → ℕ → Clock
start_clock c ply now =
    record {
      level = c.level;
      remaining = remaining_of c.level ply;
      time = c.time;
      increment = c.increment;
      last = 0;
      started = now;
      finished = false;
    }

-- 01, row 10: "clock ply outside 1..65,535"; a start tests nothing else
unfoldable pub start_of : Clock → ℕ → ℕ → Answer
start_of c ply now = refused_when (ply_out ply) c (gives 0 (start_clock c ply now))

-- 004, set_time
abbrev pub time_clock : Clock → ℕ → Clock
time_clock c time =
    record {
      level = c.level;
      remaining = c.remaining;
      time = time;
      increment = c.increment;
      last = c.last;
      started = c.started;
      finished = c.finished;
    }

-- 01, row 10: "time over 2^32 - 1", where a time goes in
unfoldable pub set_time_of : Clock → ℕ → Answer
set_time_of c time = refused_when (time_over time) c (gives 0 (time_clock c time))

-- 004, set_time_increment; row 10 has nothing on an increment, so that none is refused
abbrev pub set_increment_of : Clock → ℕ → Clock
set_increment_of c increment =
    record {
      level = c.level;
      remaining = c.remaining;
      time = c.time;
      increment = increment;
      last = c.last;
      started = c.started;
      finished = c.finished;
    }

-- 004, stop; never refused
abbrev pub stop_of : Clock → Clock
stop_of c =
    record {
      level = c.level;
      remaining = c.remaining;
      time = c.time;
      increment = c.increment;
      last = c.last;
      started = c.started;
      finished = true;
    }

-- 01, History and clock: "Allocated = (time + remaining * increment)/remaining."
abbrev pub allocation : Clock → ℕ
allocation c = (c.time + c.remaining * c.increment) / c.remaining

-- 01, row 10: "a poll or allocation with remaining 0", and a time over 2^32 - 1 in the clock
unfoldable pub allocated_of : Clock → Answer
allocated_of c = refused_when (allocation_refused c) c (gives (allocation c) c)

-- "A poll looks at the time only when nodes - last > 100"
abbrev pub looks : Clock → ℕ → Bool
looks c nodes = ltb 100 (nodes - c.last)

-- 004, elapsed_time
abbrev pub elapsed : Clock → ℕ → ℕ
elapsed c now = now - c.started

-- "stops when 50 + elapsed > allocated"
abbrev pub time_up : Clock → ℕ → Bool
time_up c now = ltb (allocation c) (50 + elapsed c now)

-- "then sets last, and stops when 50 + elapsed > allocated. A stop stays."
abbrev pub look : Clock → ℕ → ℕ → Clock
look c nodes now =
    record {
      level = c.level;
      remaining = c.remaining;
      time = c.time;
      increment = c.increment;
      last = nodes;
      started = c.started;
      finished = time_up c now || c.finished;
    }

-- the clock after a poll, one that looks and one that does not
abbrev pub poll_clock : Bool → Clock → ℕ → ℕ → Clock
poll_clock true c nodes now = look c nodes now
poll_clock false c nodes now = c

-- the answer is whether the clock is stopped; row 10's conditions come first, whether or not the poll looks
unfoldable pub poll_of : Clock → ℕ → ℕ → Answer
poll_of c nodes now = refused_when (poll_refused c nodes now) c (stopped (poll_clock (looks c nodes) c nodes now))
