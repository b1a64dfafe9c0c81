-- 01's worked line of the clock, and the edges of row 10, as statements about the definitions that the contracts cite. Assumes nothing.
use Rattle.std.specs.Prelude.{◌≡◌, ◌+◌}
use Rattle.clock.specs.declared.Clock.{Clock}
use Rattle.clock.specs.Answers.{refused}
use Rattle.clock.specs.Ticks.{new_of, start_of, set_time_of, stop_of, allocated_of, poll_of}

-- five minutes for 40 moves, and the same started at ply 1 when it is 1,000
abbrev pub level40 : Clock
level40 = (new_of 40 300000).clock

abbrev pub begun : Clock
begun = (start_of level40 1 1000).clock

-- 01, Entries on both sides: "* Level 40: ply 1: 40; 80: 1; 81: 40. Allocated 7,500: elapsed 7,450 goes on, 7,451 stops. 100 nodes since
-- the last: no look; 101: a look."
pub record ClockLine : Type 0 where
  pub ply1 : (start_of level40 1 1000).clock.remaining ≡ 40
  pub ply80 : (start_of level40 80 1000).clock.remaining ≡ 1
  pub ply81 : (start_of level40 81 1000).clock.remaining ≡ 40
  pub allocated : (allocated_of begun).value ≡ 7500
  pub goes_on : (poll_of begun 101 (1000 + 7450)).value ≡ 0
  pub stops : (poll_of begun 101 (1000 + 7451)).value ≡ 1
  pub no_look : (poll_of begun 100 (1000 + 7451)).clock ≡ begun
  pub look : (poll_of begun 101 (1000 + 7450)).clock.last ≡ 101

-- the last number that is accepted and the first that is refused, for each condition of row 10
pub record Edges : Type 0 where
  pub ply0 : start_of level40 0 1000 ≡ refused level40
  pub ply_last : (start_of level40 65535 1000).refusal ≡ 0
  pub ply_over : start_of level40 65536 1000 ≡ refused level40
  pub time_last : (set_time_of begun 4294967295).refusal ≡ 0
  pub time_over : set_time_of begun 4294967296 ≡ refused begun
  pub count_same : (poll_of (poll_of begun 101 1000).clock 101 1000).refusal ≡ 0
  pub count_below : (poll_of (poll_of begun 101 1000).clock 100 1000).refusal ≡ 10
  pub now_first : (poll_of begun 0 1000).refusal ≡ 0
  pub now_before : poll_of begun 0 999 ≡ refused begun
  pub now_last : (poll_of begun 0 (1000 + 4294967295)).refusal ≡ 0
  pub now_over : poll_of begun 0 (1000 + 4294967296) ≡ refused begun
  pub level0 : (start_of (new_of 0 60000).clock 1 0).clock.remaining ≡ 20
  pub never_started : (allocated_of (new_of 0 60000).clock).refusal ≡ 10
  pub never_polled : (poll_of (new_of 0 60000).clock 0 0).refusal ≡ 10
  pub refused_stopped : (poll_of (stop_of begun) 0 999).value ≡ 0
