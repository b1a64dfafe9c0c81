-- `history::malus` meets its contract: a delta's negation is as small as the delta. Assumes nothing.
use mathlib.Core.Path.{◌≡◌, ◌∙◌}
use borrow.Author.Rules.{rules}
use lib.IntN.{pos, +ℤ_idl}
use mir.Syntax.{w16}
use mir.Val.{to_z, of_z}
use mir.Facts.{to_z-of_z}
use Rattle.history.specs.Gravity.{delta_of}
use Rattle.history.proofs.Curve.{minus_le, minus16}
use Rattle.history.proofs.malus.Goals as goal

pub update-requires : goal.update-requires
update-requires c =
    let is : to_z w16 (of_z w16 c.delta_score-v.result) ≡ pos (delta_of c.args.hh c.args.depth) = to_z-of_z {w = w16} (search rules) ∙ (simp (to_z-of_z c.ranges.depth) at c.delta_score-v.ensures) in
    simp (is, +ℤ_idl, to_z-of_z (minus16 c.args.hh c.args.depth c.ranges.hh.fits))
    (c.requires.0, (c.requires.1.0, (c.requires.1.1, minus_le c.args.hh c.args.depth)))
