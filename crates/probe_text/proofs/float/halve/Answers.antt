-- `probe_text::float::halve` meets its contract: what is left has no low zeros. Assumes nothing.
use Rattle.probe_text.proofs.Halving.{halves}
use Rattle.probe_text.proofs.float.halve.Goals as goal

pub returns : goal.returns
returns c = halves c.args.x c.min-times.result c.requires c.min-times.ensures
