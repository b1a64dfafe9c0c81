-- `leave::cutoff::credit` meets its contract. The loop's invariant: the malus of the moves before i is given. Assumes nothing.
use mathlib.Core.Path.{◌≡◌}
use Rattle.leave.specs.Cutoff.{malus_to}
use Rattle.leave.proofs.cutoff.credit.Given as goal

abbrev pub invariant-loop-i : goal.invariant-loop-i
invariant-loop-i l = l.history ≡ malus_to l.tree l.hh l.here l.place l.i l.initial.history
