-- `tree::fields::move_apart` meets its contract. The loop's invariant: each child passed has another move. Assumes nothing.
use Rattle.std.proofs.Common.{◌≡◌, true}
use Rattle.tree.specs.Pick.{all_below}
use Rattle.tree.specs.Fields.{differ}
use Rattle.tree.proofs.fields.move_apart.Given as goal

abbrev pub invariant-loop-j : goal.invariant-loop-j
invariant-loop-j l = all_below (differ l.tree l.first l.i) l.j ≡ true
