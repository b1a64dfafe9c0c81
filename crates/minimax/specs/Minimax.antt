-- The extended minimax and the capture value of 01, over the integers, where nothing wraps. Each goes down by fuel, one unit a level;
-- the number of nodes is always enough (`proofs/Fuel`). Assumes nothing.
use Rattle.std.specs.Prelude.{Bool, true, false, List, ℕ, zero, suc, ◌+◌, ◌-◌, leb, eqb, ℤ, pos, neg_ℤ, ◌+ℤ◌}
use Rattle.score.specs.Wrap.{max_z}
use Rattle.record.specs.Node.{first_of, count_of, eval_of, in_check, is_quiet, is_draw}
use Rattle.tree.specs.Blocks.{nodes_of}
use Rattle.state.specs.declared.Settings.{Settings}

-- 01, The tree: a node's children are consecutive, from its first child on. The i-th, from 0.
abbrev pub child_at : List ℕ → ℕ → ℕ → ℕ
child_at t node i = first_of t node + i

-- the greater of a value and a child's negated value, unless the child is passed over
abbrev pub greater : Bool → ℤ → ℤ → ℤ
greater true y x = x
greater false y x = max_z (neg_ℤ y) x

-- 01, Visits: "the greatest negated child". The greatest of x and the negated values of n children, from the i-th on, but those passed over.
unfoldable pub greatest : (ℕ → Bool) → (ℕ → ℤ) → ℤ → ℕ → ℕ → ℤ
greatest passed value x zero i = x
greatest passed value x (suc n) i = greater (passed i) (value i) (greatest passed value x n (i + 1))

-- no child is passed over
abbrev pub none : ℕ → Bool
none i = false

-- which children no capture leads to
abbrev pub quiet_at : List ℕ → ℕ → ℕ → Bool
quiet_at t node i = is_quiet t (child_at t node i)

-- 01, Visits: "Capture value: the evaluation when ply >= MAX_PLY; else the greatest of evaluation and negated noisy children's capture values"
unfoldable pub capture_if : Bool → List ℕ → ℕ → (ℕ → ℤ) → ℤ
capture_if true t node value = eval_of t node
capture_if false t node value = greatest (quiet_at t node) value (eval_of t node) (count_of t node) 0

-- ".., ply + 1"
unfoldable pub capture_v : ℕ → Settings → List ℕ → ℕ → ℕ → ℤ
capture_v zero set t node ply = pos 0
capture_v (suc k) set t node ply = capture_if (leb set.max_ply ply) t node (λ i. capture_v k set t (child_at t node i) (ply + 1))

-- 01, Visits: "No children: -INF + ply in check, else 0."
unfoldable pub end_of : Bool → ℤ → ℕ → ℤ
end_of true inf ply = neg_ℤ inf +ℤ pos ply
end_of false inf ply = pos 0

-- 01, Visits: "end of game as above; else the greatest negated child": x is the end of the game, the number is how many children there are
unfoldable pub of_children : ℕ → ℤ → (ℕ → ℤ) → ℤ
of_children zero x value = x
of_children (suc n) x value = greatest none value (neg_ℤ (value 0)) n 1

-- 01, Visits: "draw 0"
unfoldable pub of_draw : Bool → Settings → List ℕ → ℕ → ℕ → (ℕ → ℤ) → ℤ
of_draw true set t node ply value = pos 0
of_draw false set t node ply value = of_children (count_of t node) (end_of (in_check t node) set.inf ply) value

-- 01, Visits: "at 0 the capture value with ply + 1"; k is the fuel of the capture value
unfoldable pub of_depth : Bool → ℕ → Settings → List ℕ → ℕ → ℕ → (ℕ → ℤ) → ℤ
of_depth true k set t node ply value = capture_v k set t node (ply + 1)
of_depth false k set t node ply value = of_draw (is_draw t node) set t node ply value

-- 01, Visits: "in check adds 1"
unfoldable pub checked : Bool → ℕ → ℕ
checked true depth = depth + 1
checked false depth = depth

-- the depth of node c, with the check's
abbrev pub depth_at : List ℕ → ℕ → ℕ → ℕ
depth_at t c depth = checked (in_check t c) depth

-- 01, Visits: "Extended minimax of node, depth, ply", at a depth that has the check's extension; a child's is "at depth - 1, ply + 1"
unfoldable pub minimax_v : ℕ → Settings → List ℕ → ℕ → ℕ → ℕ → ℤ
minimax_v zero set t node depth ply = pos 0
minimax_v (suc k) set t node depth ply =
    of_depth (eqb depth 0) (suc k) set t node ply
    (λ i. minimax_v k set t (child_at t node i) (depth_at t (child_at t node i) (depth - 1)) (ply + 1))

-- with fuel enough for every tree

abbrev pub capture_value : Settings → List ℕ → ℕ → ℕ → ℤ
capture_value set t node ply = capture_v (nodes_of t) set t node ply

-- at a depth that has the check's extension
abbrev pub minimax_at : Settings → List ℕ → ℕ → ℕ → ℕ → ℤ
minimax_at set t node depth ply = minimax_v (nodes_of t) set t node depth ply

-- 01, Visits: "Extended minimax of node, depth, ply: in check adds 1; .."
unfoldable pub minimax : Settings → List ℕ → ℕ → ℕ → ℕ → ℤ
minimax set t node depth ply = minimax_at set t node (depth_at t node depth) ply
