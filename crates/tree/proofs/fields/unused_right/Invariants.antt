-- `tree::fields::unused_right` meets its contract. The loop's invariant: each byte passed is 0. Assumes nothing.
use Rattle.std.proofs.Common.{◌≡◌, true}
use Rattle.tree.specs.Pick.{all_below}
use Rattle.tree.specs.Fields.{unused_zero}
use Rattle.tree.proofs.fields.unused_right.Given as goal

abbrev pub invariant-loop-i : goal.invariant-loop-i
invariant-loop-i l = all_below (unused_zero l.tree) l.i ≡ true
