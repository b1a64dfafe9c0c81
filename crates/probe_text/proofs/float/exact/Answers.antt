-- `probe_text::float::exact` is safe: a float above 0 has bits, and its fraction with the leading 1 has 53 of them. Assumes nothing.
use Rattle.probe_text.proofs.Floats.{above_nan}
use Rattle.probe_text.proofs.float.exact.Goals as goal

pub float_to_bits-bits : goal.float_to_bits-bits
float_to_bits-bits c = above_nan _ c.args.x c.if-x.true
