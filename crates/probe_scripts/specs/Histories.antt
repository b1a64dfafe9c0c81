-- The operations of a history script. Assumes nothing.
use Rattle.std.specs.Prelude.{ℕ, cond, eqb, Result, Ok, Err}
use Rattle.probe_text.specs.declared.stop.Stop.{Stop}
use Rattle.probe_text.specs.declared.stop.Stop.TheVariants.{BadStep}
use Rattle.probe_scripts.specs.declared.history_script.Operation.{Operation}
use Rattle.probe_scripts.specs.declared.history_script.Operation.TheVariants.{Delta, Bonus, Malus}

-- the operation that a step's first byte names; any other byte is refused
unfoldable pub history_operation : ℕ → Result Operation Stop
history_operation byte = cond (eqb byte 1) (Ok Delta) (cond (eqb byte 2) (Ok Bonus) (cond (eqb byte 3) (Ok Malus) (Err BadStep)))
