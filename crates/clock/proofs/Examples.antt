-- 01's worked line of the clock and the edges of row 10, by computing the definitions. Assumes nothing.
use mathlib.Core.Path.{refl}
use Rattle.clock.specs.Ticks.{new_of, start_of, set_time_of, allocated_of, poll_of}
use Rattle.clock.specs.Lines.{ClockLine, Edges}

pub clock_line : ClockLine
unfolding new_of start_of allocated_of poll_of
clock_line =
    record {
      ply1 = refl;
      ply80 = refl;
      ply81 = refl;
      allocated = refl;
      goes_on = refl;
      stops = refl;
      no_look = refl;
      look = refl;
    }

pub edges : Edges
unfolding new_of start_of set_time_of allocated_of poll_of
edges =
    record {
      ply0 = refl;
      ply_last = refl;
      ply_over = refl;
      time_last = refl;
      time_over = refl;
      count_same = refl;
      count_below = refl;
      now_first = refl;
      now_before = refl;
      now_last = refl;
      now_over = refl;
      level0 = refl;
      never_started = refl;
      never_polled = refl;
      refused_stopped = refl;
    }
