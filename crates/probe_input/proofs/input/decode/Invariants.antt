-- `probe_input::input::decode` meets its contract: the numbers passed stand in their places. Assumes nothing.
use Rattle.std.proofs.Common.{◌≡◌}
use Rattle.probe_input.specs.Sent.{items_from}
use Rattle.probe_input.proofs.input.decode.Given as goal

abbrev pub invariant-loop-i : goal.invariant-loop-i
invariant-loop-i g l = l.items ≡ items_from g.T.Number.read_at g.T.Number.WIDTH l.chunk l.initial.items 0 l.i
