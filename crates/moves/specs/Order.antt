-- The order of the moves. Assumes nothing.
use Rattle.std.specs.Prelude.{Bool, true, false, List, ℕ, zero, suc, ◌+◌, ◌-◌, eqb, leb}
use Rattle.tree.specs.Pick.{pick}
use Rattle.record.specs.Node.{first_of, move_of}
use Rattle.std.specs.declared.option.Option.{Option}
use Rattle.std.specs.declared.option.Option.TheVariants.{Some, None}

abbrev pub pick_place : Bool → Option ℕ → Option ℕ → Option ℕ
pick_place true a b = a
pick_place false a b = b

-- 01, Visits: "The scan stops at the first sibling whose move equals the hint." From child i on, with n to go.
unfoldable pub scan : List ℕ → ℕ → ℕ → ℕ → ℕ → Option ℕ
scan t first hint i zero = None
scan t first hint i (suc n) = pick_place (eqb (move_of t (first + i)) hint) (Some i) (scan t first hint (i + 1) n)

-- 01, Visits: "A hint that is no child .. isn't played"; a hint of 0 is none
unfoldable pub place_of : List ℕ → ℕ → ℕ → ℕ → Option ℕ
place_of t first count hint = pick_place (eqb hint 0) None (scan t first hint 0 count)

-- 01, Visits: "the table's move first if it is a child .., the rest as stored". Which child is the i-th to be tried.
unfoldable pub order_at : Option ℕ → ℕ → ℕ
order_at None i = i
order_at (Some p) i = pick (eqb i 0) p (pick (leb i p) (i - 1) i)

-- the node that the i-th move to be tried leads to
unfoldable pub child_of : List ℕ → ℕ → Option ℕ → ℕ → ℕ
child_of t node p i = first_of t node + order_at p i
