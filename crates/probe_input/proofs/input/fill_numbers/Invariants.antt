-- `probe_input::input::fill_numbers` is safe: each part is as long as a chunk holds, or shorter. Assumes nothing.
use Rattle.std.proofs.Common.{◌≡◌, ◌/◌}
use Rattle.probe_input.proofs.input.fill_numbers.Given as goal

abbrev pub invariant-loop-part : goal.invariant-loop-part
invariant-loop-part g l =
    record {
      can_next : (goal.iterator-loop-part g).can_next l.part-iterator;
      ends : (goal.iterator-loop-part g).is_finite l.part-iterator;
      size : l.part-iterator.size ≡ 4096 / g.T.Number.WIDTH;
    }
