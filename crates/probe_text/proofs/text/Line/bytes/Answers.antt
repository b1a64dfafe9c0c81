-- `probe_text::text::Line::bytes` meets its contract: the bytes left, put after those passed, give the whole. Assumes nothing.
use Rattle.std.proofs.Common.{◌+◌, drop, sym, ap, ◌∙◌, arith}
use Rattle.probe_text.specs.Line.{puts}
use Rattle.probe_text.proofs.Lines.{puts_next, puts_end}
use Rattle.probe_text.proofs.text.Line.bytes.Goals as goal

pub loop-b-preserved : goal.loop-b-preserved
loop-b-preserved c =
    let i = c.loop-b.b-index in
    ap (puts (drop (i + 1) c.args.s.now)) c.byte.ensures ∙ puts_next c.args.s.now i c.loop-b.self c.loop-b-test.true ∙ c.loop-b.invariant

pub returns : goal.returns
returns c = sym (puts_end c.args.s.now c.loop-b.b-index c.loop-b.self (omega arith)) ∙ c.loop-b.invariant
