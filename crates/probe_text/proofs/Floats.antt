-- A float that is above a number is a number. Assumes nothing.
use Rattle.std.proofs.Common.{◌≡◌, true, not, T}
use mathlib.Core.Bool.{false≢true}
use lib.Ieee.{Float, nan, inf, fin, lt, is_nan}

pub above_nan : (z x : Float) → lt z x ≡ true → T (not (is_nan x))
unfolding lt is_nan
above_nan nan nan h = absurd (false≢true h)
above_nan (inf s) nan h = absurd (false≢true h)
above_nan (fin s m e) nan h = absurd (false≢true h)
above_nan z (inf s) h = tt
above_nan z (fin s m e) h = tt
