-- The operations of a table script. Assumes nothing.
use Rattle.std.specs.Prelude.{ℕ, cond, eqb, Result, Ok, Err}
use Rattle.probe_text.specs.declared.stop.Stop.{Stop}
use Rattle.probe_text.specs.declared.stop.Stop.TheVariants.{BadStep}
use Rattle.probe_scripts.specs.declared.table_script.Operation.{Operation}
use Rattle.probe_scripts.specs.declared.table_script.Operation.TheVariants.{Lookup, Store, Reset, Clear, Occupancy, HitRate, MissRate, CollisionRate}

-- the operation that a step's first byte names; any other byte is refused
unfoldable pub table_operation : ℕ → Result Operation Stop
table_operation byte =
    cond (eqb byte 1) (Ok Lookup)
    (cond (eqb byte 2) (Ok Store)
    (cond (eqb byte 3) (Ok Reset)
    (cond (eqb byte 4) (Ok Clear)
    (cond (eqb byte 5) (Ok Occupancy)
    (cond (eqb byte 6) (Ok HitRate)
    (cond (eqb byte 7) (Ok MissRate)
    (cond (eqb byte 8) (Ok CollisionRate)
    (Err BadStep))))))))
