-- What a poll comes to that looks at the time and goes on. Assumes nothing.
use mathlib.Core.Path.{◌≡◌}
use mathlib.Core.Bool.{Bool, false}
use Prim.Native.Nat.{ℕ, ◌-◌, ◌<◌}
use borrow.Author.Tests.{lt-ltb}
use Rattle.clock.specs.declared.Clock.{Clock}
use Rattle.clock.specs.Answers.{stopped}
use Rattle.clock.specs.Ticks.{looks, time_up, poll_clock}

module _ (c : Clock) (nodes now : ℕ) where
  -- a look sets last, and f is whether the clock is stopped after it
  abbrev pub lookedAt : Bool → Clock
  lookedAt f =
      record {
        level = c.level;
        remaining = c.remaining;
        time = c.time;
        increment = c.increment;
        last = nodes;
        started = c.started;
        finished = f;
      }

  pub not_yet : {up : Bool} → 100 < nodes - c.last → up ≡ time_up c now → up ≡ false
      → stopped (lookedAt c.finished) ≡ stopped (poll_clock (looks c nodes) c nodes now)
  not_yet l e f = rw (lt-ltb _ _ l, ← e, f)
