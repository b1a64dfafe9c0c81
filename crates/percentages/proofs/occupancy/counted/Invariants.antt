-- `percentages::occupancy::counted` meets its contract. The loop's invariant: the counts of the slots before k. Assumes nothing.
use mathlib.Core.Path.{◌≡◌}
use Rattle.percentages.specs.Occupancy.{counts_to}
use Rattle.percentages.proofs.occupancy.counted.Given as goal

abbrev pub invariant-loop-k : goal.invariant-loop-k
invariant-loop-k l = l.c ≡ counts_to l.words l.k
