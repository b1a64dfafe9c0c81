-- What each answer of the clock means in 01's words: the refusal number, the value, and the clock that comes back. Assumes nothing.
use Rattle.std.specs.Prelude.{Bool, true, false, cond, ℕ, Ok, Err}
use Rattle.std.specs.declared.result.Result.{Result}
use Rattle.refusal.specs.declared.Refusal.{Refusal}
use Rattle.refusal.specs.Number.{number_of}
use Rattle.clock.specs.declared.Clock.{Clock}

-- the refusal number, 0 for none; the value: the allocated time, or 1 where a poll is stopped; the clock after the call
pub record Answer : Type 0 where
  pub refusal : ℕ
  pub value : ℕ
  pub clock : Clock

-- 01, Refusal numbers: "A refusal returns its number with every result number 0 ..; clock, age and counters come back from a refused
-- call as they went in", and the clock's number is 10
abbrev pub refused : Clock → Answer
refused c = record { refusal = 10; value = 0; clock = c }

-- 01, History and clock: "The clock goes in by value and comes back."
abbrev pub gives : ℕ → Clock → Answer
gives v c = record { refusal = 0; value = v; clock = c }

-- a poll's value is whether the clock is stopped after it
abbrev pub stopped : Clock → Answer
stopped c = gives (cond c.finished 1 0) c

-- refused exactly when the test says so, and else the answer
abbrev pub refused_when : Bool → Clock → Answer → Answer
refused_when true c a = refused c
refused_when false c a = a

-- 01, Some places and their forms: "When an answer is an enum, a definition specifies this paper's number and values for each of its cases."

-- a call of a clock c that some row refuses
abbrev pub told_refused : Clock → Refusal → Answer
told_refused c r = record { refusal = number_of r; value = 0; clock = c }

-- what new, start and set_time of a clock c told
abbrev pub told : Clock → Result Clock Refusal → Answer
told c (Ok d) = gives 0 d
told c (Err r) = told_refused c r

-- what a poll of a clock c told
abbrev pub told_poll : Clock → Result Clock Refusal → Answer
told_poll c (Ok d) = stopped d
told_poll c (Err r) = told_refused c r

-- what an allocation by a clock c told; the clock stays as it is
abbrev pub told_time : Clock → Result ℕ Refusal → Answer
told_time c (Ok t) = gives t c
told_time c (Err r) = told_refused c r
