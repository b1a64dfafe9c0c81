-- `tree::blocks::turn` meets its contract: the two parts of a rotation share no bit, so it is their sum. Assumes nothing.
use Rattle.std.proofs.Common.{◌≡◌, ◌+◌, ◌*◌, ◌/◌, ◌%◌, bit_or, arith}
use Rattle.std.proofs.lemmas.Nat.{or_shifted}
use Rattle.tree.proofs.blocks.turn.Goals as goal

pub returns : goal.returns
returns c =
    let k = c.args.check in
    let e : k * 2 % 4294967296 ≡ k % 2147483648 * 2 = omega arith in
    let o : bit_or (k * 2 % 4294967296) (k / 2147483648) ≡ k % 2147483648 * 2 + k / 2147483648 =
    rw e (or_shifted (k % 2147483648) 1 (k / 2147483648) (omega arith)) in
    omega (arith, o, c.rotate_left.ensures)
