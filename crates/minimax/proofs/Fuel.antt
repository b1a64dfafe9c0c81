-- More fuel changes nothing: on an accepted tree any two fuels that reach the nodes left give one capture value and one minimax. Assumes nothing.
use mathlib.Core.Path.{◌≡◌, refl, ap, ap₂}
use mathlib.Core.Bool.{Bool, true, false}
use mathlib.Core.List.{List}
use Prim.Native.Nat.{ℕ, zero, suc, ◌+◌, ◌-◌, ◌≤◌, ◌<◌}
use native.Mathlib.Omega.{arith}
use lib.Dec.{leb, eqb}
use lib.IntN.{ℤ, neg_ℤ}
use Rattle.record.specs.Node.{count_of, eval_of, in_check, is_draw}
use Rattle.tree.specs.Blocks.{nodes_of}
use Rattle.tree.proofs.Accepted.{child_above, child_in}
use Rattle.state.specs.declared.Settings.{Settings}
use Rattle.state.specs.Accepted.{AcceptedBy}
use Rattle.minimax.specs.Minimax.{child_at, greater, greatest, none, quiet_at, capture_if, capture_v, end_of, of_children, of_draw, of_depth, depth_at, minimax_v, minimax_at, minimax, capture_value}

-- the greatest reads only the values of the children from the i-th on
pub greatest-same
    : (passed : ℕ → Bool) (f g : ℕ → ℤ) (x y : ℤ) (n i : ℕ) → x ≡ y → ((j : ℕ) → j < i + n → f j ≡ g j)
    → greatest passed f x n i ≡ greatest passed g y n i
unfolding greatest
greatest-same passed f g x y zero i e h = e
greatest-same passed f g x y (suc n) i e h =
    ap₂ (greater (passed i)) (h i (omega arith)) (greatest-same passed f g x y n (i + 1) e (λ j l. h j (omega arith)))

module _ (set : Settings) (t : List ℕ) (ok : AcceptedBy set t) where
  -- a child has fewer nodes left
  pub kid_less : (node i k : ℕ) → node < nodes_of t → i < count_of t node → nodes_of t - node ≤ suc k → nodes_of t - child_at t node i ≤ k
  kid_less node i k h l m = omega (arith, child_above set.inf set.max_ply t ok node i h l)

  pub kid_in : (node i : ℕ) → node < nodes_of t → i < count_of t node → child_at t node i < nodes_of t
  kid_in node i h l = child_in set.inf set.max_ply t ok node i h l

  pub capture_if_lem : (b : Bool) (node : ℕ) (f g : ℕ → ℤ) → ((i : ℕ) → i < count_of t node → f i ≡ g i) → capture_if b t node f ≡ capture_if b t node g
  unfolding capture_if
  capture_if_lem true node f g h = refl
  capture_if_lem false node f g h = greatest-same (quiet_at t node) f g (eval_of t node) (eval_of t node) (count_of t node) 0 refl (λ j l. h j (omega arith))

  pub capture-fuel
      : (j k node ply : ℕ) → node < nodes_of t → nodes_of t - node ≤ j → nodes_of t - node ≤ k → capture_v j set t node ply ≡ capture_v k set t node ply
  unfolding capture_v
  capture-fuel zero k node ply h l m = absurd (omega arith)
  capture-fuel (suc j) zero node ply h l m = absurd (omega arith)
  capture-fuel (suc j) (suc k) node ply h l m =
      capture_if_lem (leb set.max_ply ply) node _ _
      (λ i c. capture-fuel j k (child_at t node i) (ply + 1) (kid_in node i h c) (kid_less node i j h c l) (kid_less node i k h c m))

  of-children : (n : ℕ) (x : ℤ) (f g : ℕ → ℤ) → ((i : ℕ) → i < n → f i ≡ g i) → of_children n x f ≡ of_children n x g
  unfolding of_children
  of-children zero x f g h = refl
  of-children (suc n) x f g h = greatest-same none f g (neg_ℤ (f 0)) (neg_ℤ (g 0)) n 1 (ap neg_ℤ (h 0 (omega arith))) (λ j l. h j (omega arith))

  of-draw : (b : Bool) (node ply : ℕ) (f g : ℕ → ℤ) → ((i : ℕ) → i < count_of t node → f i ≡ g i) → of_draw b set t node ply f ≡ of_draw b set t node ply g
  unfolding of_draw
  of-draw true node ply f g h = refl
  of-draw false node ply f g h = of-children (count_of t node) (end_of (in_check t node) set.inf ply) f g h

  pub of-depth
      : (b : Bool) (j k node ply : ℕ) (f g : ℕ → ℤ) → capture_v j set t node (ply + 1) ≡ capture_v k set t node (ply + 1)
      → ((i : ℕ) → i < count_of t node → f i ≡ g i) → of_depth b j set t node ply f ≡ of_depth b k set t node ply g
  unfolding of_depth
  of-depth true j k node ply f g e h = e
  of-depth false j k node ply f g e h = of-draw (is_draw t node) node ply f g h

  pub minimax-fuel
      : (j k node depth ply : ℕ) → node < nodes_of t → nodes_of t - node ≤ j → nodes_of t - node ≤ k
      → minimax_v j set t node depth ply ≡ minimax_v k set t node depth ply
  unfolding minimax_v
  minimax-fuel zero k node depth ply h l m = absurd (omega arith)
  minimax-fuel (suc j) zero node depth ply h l m = absurd (omega arith)
  minimax-fuel (suc j) (suc k) node depth ply h l m =
      of-depth (eqb depth 0) (suc j) (suc k) node ply _ _ (capture-fuel (suc j) (suc k) node (ply + 1) h l m)
      (λ i c. minimax-fuel j k (child_at t node i) (depth_at t (child_at t node i) (depth - 1)) (ply + 1) (kid_in node i h c) (kid_less node i j h c l) (kid_less node i k h c m))

  -- so the public values are those of every fuel that is enough

  pub capture_value_lem : (k node ply : ℕ) → node < nodes_of t → nodes_of t - node ≤ k → capture_v k set t node ply ≡ capture_value set t node ply
  capture_value_lem k node ply h l = capture-fuel k (nodes_of t) node ply h l (omega arith)

  pub minimax_at_lem : (k node depth ply : ℕ) → node < nodes_of t → nodes_of t - node ≤ k → minimax_v k set t node depth ply ≡ minimax_at set t node depth ply
  minimax_at_lem k node depth ply h l = minimax-fuel k (nodes_of t) node depth ply h l (omega arith)

  pub minimax_is : (k node depth ply : ℕ) → node < nodes_of t → nodes_of t - node ≤ k → minimax_v k set t node (depth_at t node depth) ply ≡ minimax set t node depth ply
  unfolding minimax
  minimax_is k node depth ply h l = minimax_at_lem k node (depth_at t node depth) ply h l
