-- `probe_text::text::Line::bytes` meets its contract: the bytes left, put after those passed, give the whole. Assumes nothing.
use Rattle.std.proofs.Common.{◌≡◌, drop}
use Rattle.probe_text.specs.Line.{puts}
use Rattle.probe_text.proofs.text.Line.bytes.Given as goal

abbrev pub invariant-loop-b : goal.invariant-loop-b
invariant-loop-b l = puts (drop l.b-index l.s) l.self ≡ puts l.s l.initial.self
