-- `histories::malus` meets its contract: the negation of a delta is at most a quarter of HH_MAX. Assumes nothing.
use Rattle.std.proofs.Common.{◌≡◌, ◌∙◌, ap, rules, pos, nat_abs, ℤ, ◌-ℤ◌, to_z, of_z, arith}
use lib.IntN.{neg_ℤ, +ℤ_idl}
use mir.Syntax.{w16}
use mir.Val.{SFits}
use mir.Facts.{to_z-of_z, Fits-nat_abs}
use Rattle.history.specs.Gravity.{delta_of}
use Rattle.history.proofs.Curve.{minus_le, minus16}
use Rattle.histories.proofs.malus.Goals as goal

pub change-requires : goal.change-requires
change-requires c =
    let n = delta_of (nat_abs c.args.hh) c.args.depth in
    let f : SFits w16 c.delta_score.result = search rules in
    let e : c.delta_score.result ≡ pos n = simp (to_z-of_z c.ranges.hh, to_z-of_z c.ranges.depth) at c.delta_score.ensures in
    let fits : SFits w16 (neg_ℤ (pos n)) = minus16 (nat_abs c.args.hh) c.args.depth (omega (arith, Fits-nat_abs {w' = w16} tt c.ranges.hh)) in
    let negated : to_z w16 (of_z w16 (pos 0 -ℤ to_z w16 (of_z w16 c.delta_score.result))) ≡ neg_ℤ (pos n) =
    ap (λ (z : ℤ). to_z w16 (of_z w16 (pos 0 -ℤ z))) (to_z-of_z f ∙ e)
    ∙ ap (λ (z : ℤ). to_z w16 (of_z w16 z)) (+ℤ_idl (neg_ℤ (pos n))) ∙ to_z-of_z fits in
    rw negated (simp (to_z-of_z c.ranges.hh) (minus_le (nat_abs c.args.hh) c.args.depth))
