-- `probe_text::fnv::after` meets its contract: what is left of the number, after the sum so far, gives the whole. Assumes nothing.
use Rattle.std.proofs.Common.{◌≡◌, ◌-◌}
use Rattle.probe_text.specs.Fnv.{bytes_into}
use Rattle.probe_text.proofs.fnv.after.Given as goal

abbrev pub invariant-loop-i : goal.invariant-loop-i
invariant-loop-i l = bytes_into l.s l.rest (l.n - l._i) ≡ bytes_into l.sum l.x l.n
