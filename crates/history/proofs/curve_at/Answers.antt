-- `history::curve_at` meets its contract: each number on the way fits 32 bits. Assumes nothing.
use mathlib.Core.Path.{◌≡◌, refl}
use mir.Syntax.{w32}
use mir.Val.{SFits}
use mir.Facts.{to_z-of_z, sfits_widen}
use Rattle.history.specs.Gravity.{curve}
use Rattle.history.proofs.Curve.{by16, squared, by128, summed, curved}
use Rattle.history.proofs.curve_at.Goals as goal

pub overflow_sub-result : goal.overflow_sub-result
overflow_sub-result c =
    let d = c.args.depth in
    let f = c.ranges.depth in
    let wide : SFits w32 d = sfits_widen tt f in
    let is : c.from-d.result ≡ d = simp (to_z-of_z f) at c.from-d.ensures in
    simp (is, to_z-of_z wide, to_z-of_z (by16 d f), to_z-of_z (squared d f), to_z-of_z (by128 d f), to_z-of_z (summed d f)) (curved d f)

pub returns : goal.returns
unfolding curve
returns c =
    let d = c.args.depth in
    let f = c.ranges.depth in
    let wide : SFits w32 d = sfits_widen tt f in
    let is : c.from-d.result ≡ d = simp (to_z-of_z f) at c.from-d.ensures in
    simp (is, to_z-of_z wide, to_z-of_z (by16 d f), to_z-of_z (squared d f), to_z-of_z (by128 d f), to_z-of_z (summed d f), to_z-of_z (curved d f)) refl
