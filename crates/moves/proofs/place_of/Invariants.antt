-- The loop's invariant: nothing is found yet, and the scan from i on is the scan from the start. Assumes nothing.
use Rattle.std.proofs.Common.{◌≡◌, ◌-◌, None}
use Rattle.moves.specs.Order.{scan}
use Rattle.moves.proofs.place_of.Given as goal

abbrev pub invariant-loop-i : goal.invariant-loop-i
invariant-loop-i l = (l.place ≡ None) × (scan l.tree l.first l.hint l.i (l.count - l.i) ≡ scan l.tree l.first l.hint 0 l.count)
