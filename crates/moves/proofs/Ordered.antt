-- The scan for the hint, one child on, and the children that the order leads to: each is a child. Assumes nothing.
use mathlib.Core.Path.{◌≡◌, ap, ◌∙◌}
use mathlib.Core.Bool.{Bool, true, false}
use mathlib.Core.List.{List}
use Prim.Native.Nat.{ℕ, zero, suc, ◌+◌, ◌-◌, ◌≤◌, ◌<◌}
use native.Mathlib.Omega.{arith}
use lib.Dec.{eqb, leb}
use borrow.Author.Tests.{ne_eqb}
use Rattle.tree.specs.Pick.{pick}
use Rattle.tree.proofs.Blocked.{nodes_most, record_in}
use Rattle.record.specs.Node.{move_of}
use Rattle.moves.specs.Order.{scan, place_of, order_at, pick_place}
use Rattle.std.specs.declared.option.Option.{Option}
use Rattle.std.specs.declared.option.Option.TheVariants.{Some, None}

-- a child that does not make the hint's move is passed over
pub scan_passed : (t : List ℕ) (first hint count i : ℕ) → i < count → (move_of t (first + i) ≡ hint → ⊥)
    → scan t first hint i (count - i) ≡ scan t first hint (i + 1) (count - (i + 1))
unfolding scan
scan_passed t first hint count i h q =
    let e : count - i ≡ suc (count - (i + 1)) = omega arith in ap (scan t first hint i) e ∙ rw (ne_eqb (move_of t (first + i)) hint q)

-- what the scan's proof cites: also that a node's record lies in the tree
pub ruleset scan_rules = (nodes_most, record_in, scan_passed)

-- a place among n children
pub data Among (n : ℕ) : Option ℕ → Type 0 where
  among : {p : ℕ} → p < n → Among n (Some p)
  nowhere : Among n None

among_pick : (n i : ℕ) (b : Bool) (q : Option ℕ) → i < n → Among n q → Among n (pick_place b (Some i) q)
among_pick n i true q h a = among h
among_pick n i false q h a = a

scan_among : (t : List ℕ) (first hint i m n : ℕ) → i + m ≤ n → Among n (scan t first hint i m)
unfolding scan
scan_among t first hint i zero n h = nowhere
scan_among t first hint i (suc m) n h =
    among_pick n i (eqb (move_of t (first + i)) hint) (scan t first hint (i + 1) m) (omega arith) (scan_among t first hint (i + 1) m n (omega arith))

pub place_among : (t : List ℕ) (first count hint : ℕ) → Among count (place_of t first count hint)
unfolding place_of
place_among t first count hint = go (eqb hint 0)
  where
    go : (b : Bool) → Among count (pick_place b None (scan t first hint 0 count))
    go true = nowhere
    go false = scan_among t first hint 0 count count (omega arith)

-- the i-th move tried is one of the n children
pub order_among : (n i : ℕ) (p : Option ℕ) → Among n p → i < n → order_at p i < n
unfolding order_at
order_among n i None a h = h
order_among n i (Some p) (among q) h = go (eqb i 0) (leb i p)
  where
    go : (a b : Bool) → pick a p (pick b (i - 1) i) < n
    go true b = q
    go false true = omega arith
    go false false = h
