-- What holds of the clock's answers as a whole: row 10's "exactly when", that a stop stays, and that the contracts allow one result each.
-- Statements only. Assumes nothing.
use Rattle.std.specs.Prelude.{◌≡◌, Bool, true, false, ℕ}
use Rattle.std.specs.declared.result.Result.{Result}
use Rattle.refusal.specs.declared.Refusal.{Refusal}
use Rattle.clock.specs.declared.Clock.{Clock}
use Rattle.clock.specs.Answers.{Answer, refused, told, told_poll, told_time}
use Rattle.clock.specs.Refusals.{ply_out, time_over, allocation_refused, poll_refused}
use Rattle.clock.specs.Ticks.{new_clock, new_of, start_of, set_time_of, set_increment_of, stop_of, allocated_of, poll_of}

-- where the test passes the answer is the refusal, with the clock that went in; where it fails there is none
pub record RefusedExactly (test : Bool) (before : Clock) (a : Answer) : Type 0 where
  pub refuses : test ≡ true → a ≡ refused before
  pub accepts : test ≡ false → a.refusal ≡ 0

-- 01, Refusal numbers: "Given exactly when", of row 10; "clock .. come back from a refused call as they went in"
pub record Row10 : Type 0 where
  pub new : (level time : ℕ) → RefusedExactly (time_over time) (new_clock 0 0) (new_of level time)
  pub start : (c : Clock) (ply now : ℕ) → RefusedExactly (ply_out ply) c (start_of c ply now)
  pub set_time : (c : Clock) (time : ℕ) → RefusedExactly (time_over time) c (set_time_of c time)
  pub allocated : (c : Clock) → RefusedExactly (allocation_refused c) c (allocated_of c)
  pub poll : (c : Clock) (nodes now : ℕ) → RefusedExactly (poll_refused c nodes now) c (poll_of c nodes now)

-- 01, History and clock: "A stop stays."
pub record StopStays (c : Clock) : Type 0 where
  pub stopped : (stop_of c).finished ≡ true
  pub polled : (nodes now : ℕ) → c.finished ≡ true → (poll_of c nodes now).clock.finished ≡ true
  pub told : (nodes now : ℕ) → c.finished ≡ true → poll_refused c nodes now ≡ false → (poll_of c nodes now).value ≡ 1
  pub time_set : (time : ℕ) → c.finished ≡ true → (set_time_of c time).clock.finished ≡ true
  pub increment_set : (increment : ℕ) → c.finished ≡ true → (set_increment_of c increment).finished ≡ true

-- 01, What a result must tie down: "show that any two results allowed are equal"
pub record OneResult (c : Clock) (a : Answer) : Type 0 where
  pub ticked : (r s : Result Clock Refusal) → told c r ≡ a → told c s ≡ a → r ≡ s
  pub polled : (r s : Result Clock Refusal) → told_poll c r ≡ a → told_poll c s ≡ a → r ≡ s
  pub allotted : (r s : Result ℕ Refusal) → told_time c r ≡ a → told_time c s ≡ a → r ≡ s
