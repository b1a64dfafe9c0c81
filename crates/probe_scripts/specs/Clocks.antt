-- The operations of a clock script. Assumes nothing.
use Rattle.std.specs.Prelude.{ℕ, cond, eqb, Result, Ok, Err}
use Rattle.probe_text.specs.declared.stop.Stop.{Stop as End}
use Rattle.probe_text.specs.declared.stop.Stop.TheVariants.{BadStep}
use Rattle.probe_scripts.specs.declared.clock_script.Operation.{Operation}
use Rattle.probe_scripts.specs.declared.clock_script.Operation.TheVariants.{New, Start, SetTime, SetIncrement, Stop, Allocated, Poll}

-- the operation that a step's first byte names; any other byte is refused
unfoldable pub clock_operation : ℕ → Result Operation End
clock_operation byte =
    cond (eqb byte 1) (Ok New)
    (cond (eqb byte 2) (Ok Start)
    (cond (eqb byte 3) (Ok SetTime)
    (cond (eqb byte 4) (Ok SetIncrement)
    (cond (eqb byte 5) (Ok Stop)
    (cond (eqb byte 6) (Ok Allocated)
    (cond (eqb byte 7) (Ok Poll)
    (Err BadStep)))))))
