-- `tree::fields::fields_right` meets its contract. The loop's invariant: each node passed is right. Assumes nothing.
use Rattle.std.proofs.Common.{◌≡◌, true}
use Rattle.tree.specs.Pick.{all_below}
use Rattle.tree.specs.Fields.{fields_ok}
use Rattle.tree.proofs.fields.fields_right.Given as goal

abbrev pub invariant-loop-k : goal.invariant-loop-k
invariant-loop-k l = all_below (fields_ok l.inf l.max_ply l.tree) l.k ≡ true
