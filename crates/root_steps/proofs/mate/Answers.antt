-- `root_steps::mate` meets its contract: nothing wraps at 32 bits. Assumes nothing.
use Rattle.std.proofs.Common.{◌≡◌, true, false, ℤ, pos, ◌-ℤ◌, neg_ℤ, w32, to_z, of_z, arith}
use Rattle.std.proofs.lemmas.Int.{ints}
use lib.Signed.{le_z}
use Rattle.root_steps.specs.Step.{mate_line, mate_of}
use Rattle.root_steps.proofs.mate.Goals as goal

-- a number that goes through its 32 bits
abbrev through : ℤ → ℤ
through z = to_z w32 (of_z w32 z)

pub returns-then-score-line : goal.returns-then-score-line
unfolding mate_of
returns-then-score-line c =
    let score : through c.from-score.result ≡ c.args.score = omega (arith, ints) in
    let least : through (pos 0 -ℤ through (through c.from.result -ℤ through c.from-2.result)) ≡ neg_ℤ (mate_line c.args.set) = omega (arith, ints) in
    let low : le_z c.args.score (neg_ℤ (mate_line c.args.set)) ≡ true = simp (score, least) at c.if-score-line.true in
    simp (score, least) (rw low)

pub returns-else-score-line : goal.returns-else-score-line
unfolding mate_of
returns-else-score-line c =
    let score : through c.from-score.result ≡ c.args.score = omega (arith, ints) in
    let most : through (through c.from.result -ℤ through c.from-2.result) ≡ mate_line c.args.set = omega (arith, ints) in
    let least : through (pos 0 -ℤ through (through c.from.result -ℤ through c.from-2.result)) ≡ neg_ℤ (mate_line c.args.set) = omega (arith, ints) in
    let low : le_z c.args.score (neg_ℤ (mate_line c.args.set)) ≡ false = simp (score, least) at c.if-score-line.false in
    simp (score, most) (rw low)
