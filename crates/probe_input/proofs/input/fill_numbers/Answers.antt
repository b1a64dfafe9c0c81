-- `probe_input::input::fill_numbers` is safe: each part is as long as a chunk holds, or shorter. Assumes nothing.
use Rattle.std.proofs.Common.{◌≡◌, ℕ, ◌*◌, ◌/◌, ◌<◌, ◌≤◌, arith}
use Rattle.std.proofs.Math.Nat.{mul-le-mul_left}
use Rattle.probe_input.proofs.input.fill_numbers.Goals as goal

room : (w l n : ℕ) → 0 < w → l ≤ n → n ≡ 4096 / w → w * l ≤ 4096
room w l n p h e = let k : l ≤ 4096 / w = omega arith in omega (arith, mul-le-mul_left w k)

pub next-requires-in-loop-part : goal.next-requires-in-loop-part
next-requires-in-loop-part g c =
    room _ _ c.loop-part.part-iterator.size g.met.T.Number.fits.0 (omega (arith, c.in-Some.ensures.steps.1.1)) c.loop-part.invariant.size
