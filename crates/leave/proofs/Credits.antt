-- The malus of the moves tried: of none, and of one more; and what a cutoff asks of its steps. Assumes nothing.
use mathlib.Core.Path.{◌≡◌, refl, ap}
use mathlib.Core.List.{List}
use Prim.Native.Nat.{ℕ, ◌+◌}
use native.Mathlib.Numerals.{add-one}
use lib.IntN.{ℤ}
use Rattle.std.specs.declared.option.Option.{Option}
use Rattle.carry.specs.declared.Here.{Here}
use Rattle.moves.specs.Order.{child_of}
use Rattle.leave.specs.Cutoff.{malus_at, malus_to}
use Rattle.tree.proofs.Blocked.{record_in}
use Rattle.leave.proofs.Positive.{positive_abs}

pub malus_none : (t : List ℕ) (hh : ℕ) (h : Here) (p : Option ℕ) (hist : List ℤ) → malus_to t hh h p 0 hist ≡ hist
unfolding malus_to
malus_none t hh h p hist = refl

pub malus_more
    : (t : List ℕ) (hh : ℕ) (h : Here) (p : Option ℕ) (i : ℕ) (hist : List ℤ)
    → malus_to t hh h p (i + 1) hist ≡ malus_at t hh h (child_of t h.node p i) i (malus_to t hh h p i hist)
unfolding malus_to
malus_more t hh h p i hist = ap (λ (n : ℕ). malus_to t hh h p n hist) (add-one i)

-- a node's record lies in the tree, and HH_MAX is above 0
pub ruleset cutoff_rules = (record_in, positive_abs)
