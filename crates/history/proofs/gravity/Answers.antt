-- `history::gravity` meets its contract: each number on the way fits 32 bits, and `wrap` takes the last. Assumes nothing.
use mathlib.Core.Path.{◌∙◌}
use borrow.Author.Rules.{rules}
use native.Mathlib.Omega.{arith}
use lib.IntN.{pos, nat_abs}
use mir.Syntax.{w16, w32}
use mir.Val.{SFits}
use mir.Facts.{to_z-of_z, sfits_widen}
use Rattle.history.specs.Gravity.{new_of, gravity_of}
use Rattle.history.proofs.Bounds.{sum32, prod32, quot32, new32}
use Rattle.history.proofs.gravity.Goals as goal

pub overflow_sub-o : goal.overflow_sub-o
unfolding new_of
overflow_sub-o c =
    let hh = c.args.hh in
    let old = c.args.old in
    let v = c.args.v in
    let old32 : SFits w32 old = sfits_widen tt c.ranges.old in
    let v32 : SFits w32 v = sfits_widen tt c.ranges.v in
    let abs32 : SFits w32 (pos (nat_abs v)) = record { sfits = omega (arith, c.ranges.hh.fits) } in
    let hh32 : SFits w32 (pos hh) = record { sfits = omega (arith, c.ranges.hh.fits) } in
    let sum = sum32 hh old v c.ranges.old c.ranges.hh.fits c.requires.1 in
    let prod = prod32 hh old v c.ranges.old c.ranges.hh.fits c.requires.1 in
    let quot = quot32 hh old v c.ranges.old c.ranges.hh.fits c.requires.1 in
    simp (
      c.from-o.ensures,
      c.from.ensures,
      c.from-m.ensures,
      c.from-2.ensures,
      c.unsigned_abs.ensures.value,
      to_z-of_z c.ranges.old,
      to_z-of_z c.ranges.v,
      to_z-of_z old32,
      to_z-of_z v32,
      to_z-of_z abs32,
      to_z-of_z hh32,
      to_z-of_z sum,
      to_z-of_z prod,
      to_z-of_z quot,
    )
    (new32 hh old v c.ranges.old c.ranges.hh.fits c.requires.1)

pub returns : goal.returns
unfolding gravity_of new_of
returns c =
    let hh = c.args.hh in
    let old = c.args.old in
    let v = c.args.v in
    let old32 : SFits w32 old = sfits_widen tt c.ranges.old in
    let v32 : SFits w32 v = sfits_widen tt c.ranges.v in
    let abs32 : SFits w32 (pos (nat_abs v)) = record { sfits = omega (arith, c.ranges.hh.fits) } in
    let hh32 : SFits w32 (pos hh) = record { sfits = omega (arith, c.ranges.hh.fits) } in
    let sum = sum32 hh old v c.ranges.old c.ranges.hh.fits c.requires.1 in
    let prod = prod32 hh old v c.ranges.old c.ranges.hh.fits c.requires.1 in
    let quot = quot32 hh old v c.ranges.old c.ranges.hh.fits c.requires.1 in
    let new = new32 hh old v c.ranges.old c.ranges.hh.fits c.requires.1 in
    to_z-of_z {w = w16} (search rules)
    ∙ (simp (
      c.from-o.ensures,
      c.from.ensures,
      c.from-m.ensures,
      c.from-2.ensures,
      c.unsigned_abs.ensures.value,
      to_z-of_z c.ranges.old,
      to_z-of_z c.ranges.v,
      to_z-of_z old32,
      to_z-of_z v32,
      to_z-of_z abs32,
      to_z-of_z hh32,
      to_z-of_z sum,
      to_z-of_z prod,
      to_z-of_z quot,
      to_z-of_z new,
    ) at c.wrap.ensures)
