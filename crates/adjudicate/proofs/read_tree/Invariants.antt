-- `adjudicate::read_tree` meets its contract and ends: each turn adds at least a byte, and the buffer keeps its length.
-- Assumes nothing.
use Rattle.std.proofs.Common.{◌≡◌, ◌-◌, ◌≤◌}
use lib.ListN.{length, take}
use Rattle.std.specs.Io.KnownBytes.{Consumes}
use Rattle.adjudicate.proofs.read_tree.Given as goal

abbrev pub invariant-loop-done : goal.invariant-loop-done
invariant-loop-done g l =
    record {
      within : l.done ≤ length l.buf;
      kept : length l.buf ≡ length l.initial.buf;
      first : Consumes (g.R.Read.remaining l.initial.from) (g.R.Read.remaining l.from) (take l.done l.buf);
    }

abbrev pub decreases-loop-done : goal.decreases-loop-done
decreases-loop-done g l = length l.buf - l.done
