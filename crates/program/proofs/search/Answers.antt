-- `program::search` meets its contract: the arrays are lent fresh, and settings and counters are the program's. Assumes nothing.
use Rattle.std.proofs.Common.{ap, ap₂, ◌∙◌, pos}
use Rattle.table.specs.declared.Stats.{Stats}
use Rattle.state.specs.declared.Settings.{Settings}
use Rattle.carry.specs.Carry.{With}
use Rattle.desk.specs.RootEntry.{root_entry}
use Rattle.program.specs.Program.{fresh_table, fresh_history}
use Rattle.program.proofs.search.Goals as goal
use Rattle.results.specs.Told.{RootResult}

pub returns : goal.returns
unfolding fresh_table fresh_history
returns c =
    let t = c.args.tree.now in
    let entry = ap₂ (λ (set : Settings) (s : Stats). root_entry t set s (pos 1) (pos 31) fresh_table fresh_history) c.settings.ensures c.fresh-stats.ensures in
    ap (λ (w : With RootResult). w.it) (c.search_root-told.ensures ∙ entry)
