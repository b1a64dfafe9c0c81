-- `percentages::occupancy::occupied` meets its contract: each division is the one rounding, which over a power of two loses nothing. Assumes nothing.
use mathlib.Core.Path.{◌≡◌}
use Rattle.percentages.specs.Occupancy.{occupancy_of}
use Rattle.percentages.proofs.Shares.{exactly}
use Rattle.percentages.proofs.occupancy.occupied.Goals as goal

pub returns-clause-exact : goal.returns-clause-exact
unfolding occupancy_of
returns-clause-exact c =
    let e : ◌≡◌ (record { exact = c.quotient.result; lower = c.quotient-2.result; upper = c.quotient-3.result }) (occupancy_of c.args.words.now) =
    simp (c.quotient.ensures, c.quotient-2.ensures, c.quotient-3.ensures, c.counted-c.ensures) in
    exactly c.args.words.now c.requires _ e
