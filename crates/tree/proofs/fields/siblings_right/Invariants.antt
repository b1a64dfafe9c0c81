-- `tree::fields::siblings_right` meets its contract. The loop's invariant: each child passed has another move than those before it. Assumes nothing.
use Rattle.std.proofs.Common.{◌≡◌, true}
use Rattle.tree.specs.Pick.{all_below}
use Rattle.tree.specs.Fields.{apart}
use Rattle.tree.proofs.fields.siblings_right.Given as goal

abbrev pub invariant-loop-i : goal.invariant-loop-i
invariant-loop-i l = all_below (apart l.tree l.first) l.i ≡ true
