-- Every capture value and every minimax of an accepted tree lies within plus and minus INF, so nothing wraps; and the greatest of some values by images
-- (`off`). Assumes nothing.
use mathlib.Core.Path.{◌≡◌, refl}
use mathlib.Core.Bool.{Bool, true, false}
use mathlib.Core.List.{List}
use Prim.Native.Nat.{ℕ, zero, suc, ◌+◌, ◌-◌, ◌≤◌, ◌<◌, max}
use native.Mathlib.Omega.{arith}
use lib.Dec.{leb, eqb}
use lib.IntN.{ℤ, pos, neg_ℤ, ◌+ℤ◌}
use Rattle.score.specs.Wrap.{add16, max_z}
use Rattle.score.proofs.Order.{off}
use Rattle.score.proofs.Range.{InZ, zero_off, neg_off, max_off, mate_off, wrap_in, neg16_is}
use Rattle.record.specs.Node.{count_of, eval_of, in_check, is_draw}
use Rattle.tree.specs.Blocks.{nodes_of}
use Rattle.tree.proofs.Accepted.{eval_low, eval_high, level_most}
use Rattle.state.specs.declared.Settings.{Settings}
use Rattle.leave.specs.Finish.{game_end}
use Rattle.minimax.specs.Minimax.{child_at, greater, greatest, none, quiet_at, capture_if, capture_v, end_of, of_children, of_draw, of_depth, depth_at, minimax_v}
use Rattle.truth.proofs.Settled.{plain_of, Known, At, kid_in, kid_at}

-- the greatest of the negated images of n children from the i-th on, but those passed over; 0, below every image, of none

abbrev pub best_if : Bool → ℕ → ℕ → ℕ
best_if true y rest = rest
best_if false y rest = max (65536 - y) rest

unfoldable pub best_of : (ℕ → Bool) → (ℕ → ℤ) → ℕ → ℕ → ℕ
best_of passed value zero i = 0
best_of passed value (suc m) i = best_if (passed i) (off (value i)) (best_of passed value m (i + 1))

pub pos_off : (n : ℕ) → off (pos n) ≡ 32768 + n
unfolding off
pos_off n = refl

module _ (n : ℕ) (small : n ≤ 30000) where
  pub neg_z : (z : ℤ) → InZ n z → InZ n (neg_ℤ z)
  neg_z z i = let e = neg_off n z small i in record { low = omega arith; high = omega arith }

  max-z : (a b : ℤ) → InZ n a → InZ n b → InZ n (max_z a b)
  max-z a b i j = let e = max_off n a b small i j in record { low = omega arith; high = omega arith }

  pub zero_in : InZ n (pos 0)
  zero_in = record { low = omega (arith, zero_off); high = omega (arith, zero_off) }

  greater-in : (b : Bool) (y r : ℤ) → InZ n y → InZ n r → InZ n (greater b y r)
  greater-in true y r i j = j
  greater-in false y r i j = max-z (neg_ℤ y) r (neg_z y i) j

  greater-off : (b : Bool) (y r : ℤ) (x q : ℕ) → InZ n y → InZ n r → off r ≡ max x q → off (greater b y r) ≡ max x (best_if b (off y) q)
  greater-off true y r x q i j e = e
  greater-off false y r x q i j e =
      let m = neg_off n y small i in let o = max_off n (neg_ℤ y) r small (neg_z y i) j in omega arith

  pub greatest-in
      : (passed : ℕ → Bool) (f : ℕ → ℤ) (x : ℤ) (m i : ℕ) → InZ n x → ((j : ℕ) → j < i + m → InZ n (f j)) → InZ n (greatest passed f x m i)
  unfolding greatest
  greatest-in passed f x zero i ix h = ix
  greatest-in passed f x (suc m) i ix h =
      greater-in (passed i) (f i) _ (h i (omega arith)) (greatest-in passed f x m (i + 1) ix (λ j l. h j (omega arith)))

  pub greatest-off
      : (passed : ℕ → Bool) (f : ℕ → ℤ) (x : ℤ) (m i : ℕ) → InZ n x → ((j : ℕ) → j < i + m → InZ n (f j))
      → off (greatest passed f x m i) ≡ max (off x) (best_of passed f m i)
  unfolding greatest best_of
  greatest-off passed f x zero i ix h = omega arith
  greatest-off passed f x (suc m) i ix h =
      greater-off (passed i) (f i) (greatest passed f x m (i + 1)) (off x) (best_of passed f m (i + 1)) (h i (omega arith))
      (greatest-in passed f x m (i + 1) ix (λ j l. h j (omega arith))) (greatest-off passed f x m (i + 1) ix (λ j l. h j (omega arith)))

module _ (n : ℕ) (set : Settings) (t : List ℕ) (ok : Known n set.max_ply t) where
  pub eval_in : (node : ℕ) → node < nodes_of t → InZ n (eval_of t node)
  eval_in node h =
      let hn : set.max_ply < n = omega (arith, ok.inf_low, ok.ply_high) in
      let l = eval_low n set.max_ply t ok.accepted hn ok.inf_high node h in
      let u = eval_high n set.max_ply t ok.accepted hn ok.inf_high node h in
      record { low = omega arith; high = omega arith }

  capture_if_lem : (b : Bool) (node : ℕ) (f : ℕ → ℤ) → node < nodes_of t → ((i : ℕ) → i < count_of t node → InZ n (f i)) → InZ n (capture_if b t node f)
  unfolding capture_if
  capture_if_lem true node f h k = eval_in node h
  capture_if_lem false node f h k =
      greatest-in n ok.inf_high (quiet_at t node) f (eval_of t node) (count_of t node) 0 (eval_in node h) (λ j l. k j (omega arith))

  pub capture_in : (k node ply : ℕ) → node < nodes_of t → InZ n (capture_v k (plain_of n set) t node ply)
  unfolding capture_v
  capture_in zero node ply h = zero_in n ok.inf_high
  capture_in (suc k) node ply h =
      capture_if_lem (leb set.max_ply ply) node _ h
      (λ i l. capture_in k (child_at t node i) (ply + 1) (kid_in n set.max_ply t ok node i h l))

  ply-less : (node ply : ℕ) → At t node ply → ply < n
  ply-less node ply p = omega (arith, level_most (pos n) set.max_ply t ok.accepted node, ok.inf_low, p.ply_most)

  pub end_in : (b : Bool) (node ply : ℕ) → At t node ply → InZ n (end_of b (pos n) ply)
  unfolding end_of
  end_in true node ply p =
      let l = ply-less node ply p in let e = mate_off n ply ok.inf_high l in record { low = omega arith; high = omega arith }
  end_in false node ply p = zero_in n ok.inf_high

  inf-in : InZ n (pos n)
  inf-in = let e = pos_off n in record { low = omega arith; high = omega arith }

  -- the search's wrapped sum is the sum
  pub end_is : (b : Bool) (node ply : ℕ) → At t node ply → game_end b (pos n) ply ≡ end_of b (pos n) ply
  unfolding game_end end_of add16
  end_is true node ply p = rw (neg16_is n (pos n) ok.inf_high inf-in) (wrap_in n (neg_ℤ (pos n) +ℤ pos ply) ok.inf_high (end_in true node ply p))
  end_is false node ply p = refl

  of-children : (m : ℕ) (x : ℤ) (f : ℕ → ℤ) → InZ n x → ((i : ℕ) → i < m → InZ n (f i)) → InZ n (of_children m x f)
  unfolding of_children
  of-children zero x f ix h = ix
  of-children (suc m) x f ix h =
      greatest-in n ok.inf_high none f (neg_ℤ (f 0)) m 1 (neg_z n ok.inf_high (f 0) (h 0 (omega arith))) (λ j l. h j (omega arith))

  of-draw : (b : Bool) (node ply : ℕ) (f : ℕ → ℤ) → At t node ply → ((i : ℕ) → i < count_of t node → InZ n (f i)) → InZ n (of_draw b (plain_of n set) t node ply f)
  unfolding of_draw
  of-draw true node ply f p h = zero_in n ok.inf_high
  of-draw false node ply f p h = of-children (count_of t node) _ f (end_in (in_check t node) node ply p) h

  of-depth
      : (b : Bool) (k node ply : ℕ) (f : ℕ → ℤ) → At t node ply → ((i : ℕ) → i < count_of t node → InZ n (f i))
      → InZ n (of_depth b k (plain_of n set) t node ply f)
  unfolding of_depth
  of-depth true k node ply f p h = capture_in k node (ply + 1) p.in_tree
  of-depth false k node ply f p h = of-draw (is_draw t node) node ply f p h

  pub minimax_in : (k node depth ply : ℕ) → At t node ply → InZ n (minimax_v k (plain_of n set) t node depth ply)
  unfolding minimax_v
  minimax_in zero node depth ply p = zero_in n ok.inf_high
  minimax_in (suc k) node depth ply p =
      of-depth (eqb depth 0) (suc k) node ply _ p
      (λ i l. minimax_in k (child_at t node i) (depth_at t (child_at t node i) (depth - 1)) (ply + 1) (kid_at n set.max_ply t ok node i ply p l))
