-- `turn::window::under` meets its contract: the sum fits 32 bits, and its sign is the test's answer. Assumes nothing.
use mathlib.Core.Path.{sym}
use lib.IntN.{◌+ℤ◌}
use mir.Syntax.{w32}
use mir.Val.{SFits}
use mir.Facts.{to_z-of_z, sfits_widen}
use Rattle.turn.proofs.Negated.{sum_fits, sum_is_below}
use Rattle.turn.proofs.window.under.Goals as goal

pub returns : goal.returns
returns c =
    let beta32 : SFits w32 c.args.beta = sfits_widen tt c.ranges.beta in
    let score32 : SFits w32 c.args.score = sfits_widen tt c.ranges.score in
    let sum32 : SFits w32 (c.args.beta +ℤ c.args.score) = sum_fits c.args.beta c.args.score c.ranges.beta.sfits c.ranges.score.sfits in
    simp (c.from.ensures, c.from-2.ensures, to_z-of_z c.ranges.beta, to_z-of_z beta32, to_z-of_z c.ranges.score, to_z-of_z score32, to_z-of_z sum32)
    (sym (sum_is_below c.args.beta c.args.score c.ranges.beta.sfits c.ranges.score.sfits (simp (to_z-of_z c.ranges.score) at c.if-score-ltminus32767.false)))
