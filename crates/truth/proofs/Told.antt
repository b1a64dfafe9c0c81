-- Demand 3 of an answer that the node search's definition gives. Assumes nothing.
use mathlib.Core.Path.{◌≡◌, sym, subst}
use mathlib.Core.List.{List}
use Prim.Native.Nat.{ℕ}
use lib.IntN.{ℤ}
use Rattle.state.specs.declared.Settings.{Settings}
use Rattle.state.specs.declared.State.{State}
use Rattle.state.specs.declared.Out.{Out}
use Rattle.state.specs.Accepted.{AcceptedBy}
use Rattle.carry.specs.declared.Args.{Args}
use Rattle.carry.specs.Carry.{With}
use Rattle.visits.specs.Reach.{Reach}
use Rattle.visits.specs.Search.{whole, node_search}
use Rattle.visits.proofs.Asked.{enough}
use Rattle.truth.specs.Demand3.{Told}
use Rattle.truth.proofs.Demand3.{demand3}

pub told
    : (set : Settings) (t : List ℕ) → AcceptedBy set t → (a : Args) → Reach t a
    → (s : State) (words : List ℕ) (history : List ℤ) (r : With Out) → r ≡ node_search t set s words history a → Told set t a r.it
told set t ok a reach s words history r e =
    subst (λ (x : With Out). Told set t a x.it) (sym e)
    (λ p i w. demand3 set t p i ok a reach w (whole t) s words history (enough t a reach))
