-- `tree::fields::eval_right` meets its contract: the bound and its negation fit 32 bits, and the first test is the definition's turned round. Assumes nothing.
use Rattle.std.proofs.Common.{◌≡◌, true, false, pos, ◌-ℤ◌, neg_ℤ, refl, arith, to_z-of_z, w32, SFits, to_z}
use lib.IntN.{+ℤ_idl}
use lib.Signed.{le_z}
use mir.Facts.{to_z_pos, sfits_widen}
use Rattle.tree.specs.Fields.{eval_right}
use Rattle.tree.proofs.Within.{most_fits, least_fits, le_turned}
use Rattle.tree.proofs.fields.eval_right.Goals as goal

pub overflow_cast-most : goal.overflow_cast-most
overflow_cast-most c =
    let inf32 : SFits w32 c.args.inf = sfits_widen tt c.ranges.inf in
    simp (to_z-of_z c.ranges.inf) inf32

pub overflow_sub-most : goal.overflow_sub-most
overflow_sub-most c =
    let inf32 : SFits w32 c.args.inf = sfits_widen tt c.ranges.inf in
    let ply : to_z w32 c.args.max_ply ≡ pos c.args.max_ply = to_z_pos w32 (omega (arith, c.ranges.max_ply.fits)) in
    let most : SFits w32 (c.args.inf -ℤ pos c.args.max_ply) = most_fits c.args.inf c.args.max_ply c.ranges.inf.sfits c.ranges.max_ply.fits in
    simp (to_z-of_z c.ranges.inf, to_z-of_z inf32, ply) most

pub overflow_cast-e : goal.overflow_cast-e
overflow_cast-e c =
    let e32 : SFits w32 c.args.e = sfits_widen tt c.ranges.e in
    simp (to_z-of_z c.ranges.e) e32

pub overflow_sub-most-2 : goal.overflow_sub-most-2
overflow_sub-most-2 c =
    let inf32 : SFits w32 c.args.inf = sfits_widen tt c.ranges.inf in
    let ply : to_z w32 c.args.max_ply ≡ pos c.args.max_ply = to_z_pos w32 (omega (arith, c.ranges.max_ply.fits)) in
    let most : SFits w32 (c.args.inf -ℤ pos c.args.max_ply) = most_fits c.args.inf c.args.max_ply c.ranges.inf.sfits c.ranges.max_ply.fits in
    let least : SFits w32 (neg_ℤ (c.args.inf -ℤ pos c.args.max_ply)) = least_fits c.args.inf c.args.max_ply c.ranges.inf.sfits c.ranges.max_ply.fits in
    simp (to_z-of_z c.ranges.inf, to_z-of_z inf32, ply, to_z-of_z most, +ℤ_idl) least

pub returns-then-e-most : goal.returns-then-e-most
unfolding eval_right
returns-then-e-most c =
    let e32 : SFits w32 c.args.e = sfits_widen tt c.ranges.e in
    let inf32 : SFits w32 c.args.inf = sfits_widen tt c.ranges.inf in
    let ply : to_z w32 c.args.max_ply ≡ pos c.args.max_ply = to_z_pos w32 (omega (arith, c.ranges.max_ply.fits)) in
    let most : SFits w32 (c.args.inf -ℤ pos c.args.max_ply) = most_fits c.args.inf c.args.max_ply c.ranges.inf.sfits c.ranges.max_ply.fits in
    let least : SFits w32 (neg_ℤ (c.args.inf -ℤ pos c.args.max_ply)) = least_fits c.args.inf c.args.max_ply c.ranges.inf.sfits c.ranges.max_ply.fits in
    let tested : le_z c.args.e (neg_ℤ (c.args.inf -ℤ pos c.args.max_ply)) ≡ true = simp (to_z-of_z c.ranges.e, to_z-of_z (e32), to_z-of_z c.ranges.inf, to_z-of_z (inf32), ply, to_z-of_z (most), +ℤ_idl, to_z-of_z (least)) at c.if-e-most.true in
    rw (le_turned c.args.e (neg_ℤ (c.args.inf -ℤ pos c.args.max_ply)), tested)

pub overflow_cast-result : goal.overflow_cast-result
overflow_cast-result c =
    let e32 : SFits w32 c.args.e = sfits_widen tt c.ranges.e in
    simp (to_z-of_z c.ranges.e) e32

pub returns : goal.returns
unfolding eval_right
returns c =
    let e32 : SFits w32 c.args.e = sfits_widen tt c.ranges.e in
    let inf32 : SFits w32 c.args.inf = sfits_widen tt c.ranges.inf in
    let ply : to_z w32 c.args.max_ply ≡ pos c.args.max_ply = to_z_pos w32 (omega (arith, c.ranges.max_ply.fits)) in
    let most : SFits w32 (c.args.inf -ℤ pos c.args.max_ply) = most_fits c.args.inf c.args.max_ply c.ranges.inf.sfits c.ranges.max_ply.fits in
    let least : SFits w32 (neg_ℤ (c.args.inf -ℤ pos c.args.max_ply)) = least_fits c.args.inf c.args.max_ply c.ranges.inf.sfits c.ranges.max_ply.fits in
    let passed : le_z c.args.e (neg_ℤ (c.args.inf -ℤ pos c.args.max_ply)) ≡ false = simp (to_z-of_z c.ranges.e, to_z-of_z (e32), to_z-of_z c.ranges.inf, to_z-of_z (inf32), ply, to_z-of_z (most), +ℤ_idl, to_z-of_z (least)) at c.if-e-most.false in
    simp (to_z-of_z c.ranges.e, to_z-of_z e32, to_z-of_z c.ranges.inf, to_z-of_z inf32, ply, to_z-of_z most)
    (rw (le_turned c.args.e (neg_ℤ (c.args.inf -ℤ pos c.args.max_ply)), passed) refl)
