-- `probe_text::fnv::after` meets its contract: what is left of the number, after the sum so far, gives the whole. Assumes nothing.
use Rattle.std.proofs.Common.{◌≡◌, suc, ◌+◌, ◌-◌, sym, ap, ◌∙◌, arith}
use Rattle.probe_text.specs.Fnv.{byte_into, bytes_into}
use Rattle.probe_text.proofs.fnv.after.Goals as goal

pub loop-i-preserved : goal.loop-i-preserved
unfolding byte_into bytes_into
loop-i-preserved c =
    let m : c.args.n - c.loop-i._i ≡ suc (c.args.n - (c.loop-i._i + 1)) = omega arith in
    sym (ap (bytes_into c.loop-i.s c.loop-i.rest) m) ∙ c.loop-i.invariant
