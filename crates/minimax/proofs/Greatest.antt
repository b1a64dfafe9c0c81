-- The greatest is the greatest: it is at least the value that it starts from and each negated child's value that is not passed over, and it is one of these.
-- Assumes nothing.
use mathlib.Core.Path.{◌≡◌, refl, sym, subst, ◌∙◌}
use mathlib.Core.Logic.{◌⊎◌, inl, inr}
use mathlib.Core.Bool.{Bool, true, false, cond, true≢false, false≢true}
use Prim.Native.Nat.{ℕ, zero, suc, ◌+◌, ◌≤◌, ◌<◌}
use native.Mathlib.Omega.{arith}
use borrow.Author.Tests.{le-leb, leb-true, ltb-true, ltb-false, eqb-true, eqb-false}
use lib.Dec.{eqb}
use lib.IntN.{ℤ, pos, negsuc, neg_ℤ}
use lib.Signed.{lt_z, le_z}
use Rattle.score.specs.Wrap.{max_z}
use Rattle.minimax.specs.Minimax.{greater, greatest}

-- the order of integers

le_same : (a : ℤ) → le_z a a ≡ true
le_same (pos a) = le-leb a a (omega arith)
le_same (negsuc a) = le-leb a a (omega arith)

pub le_trans : (a b c : ℤ) → le_z a b ≡ true → le_z b c ≡ true → le_z a c ≡ true
le_trans (pos a) (pos b) (pos c) h k = le-leb a c (omega (arith, leb-true a b h, leb-true b c k))
le_trans (pos a) (pos b) (negsuc c) h k = absurd (false≢true k)
le_trans (pos a) (negsuc b) c h k = absurd (false≢true h)
le_trans (negsuc a) b (pos c) h k = refl
le_trans (negsuc a) (pos b) (negsuc c) h k = absurd (false≢true k)
le_trans (negsuc a) (negsuc b) (negsuc c) h k = le-leb c a (omega (arith, leb-true b a h, leb-true c b k))

lt_le : (a b : ℤ) → lt_z a b ≡ true → le_z a b ≡ true
lt_le (pos a) (pos b) h = le-leb a b (omega (arith, ltb-true a b h))
lt_le (pos a) (negsuc b) h = absurd (false≢true h)
lt_le (negsuc a) (pos b) h = refl
lt_le (negsuc a) (negsuc b) h = le-leb b a (omega (arith, ltb-true b a h))

not_lt_le : (a b : ℤ) → lt_z a b ≡ false → le_z b a ≡ true
not_lt_le (pos a) (pos b) h = le-leb b a (ltb-false a b h)
not_lt_le (pos a) (negsuc b) h = refl
not_lt_le (negsuc a) (pos b) h = absurd (true≢false h)
not_lt_le (negsuc a) (negsuc b) h = le-leb a b (ltb-false b a h)

-- the greater of two

record Max (a b m : ℤ) : Type 0 where
  left : le_z a m ≡ true
  right : le_z b m ≡ true
  one : (m ≡ a) ⊎ (m ≡ b)

max_is : (a b : ℤ) → Max a b (max_z a b)
max_is a b = go (lt_z a b) refl
  where
    go : (t : Bool) → lt_z a b ≡ t → Max a b (cond t b a)
    go true e = record { left = lt_le a b e; right = le_same b; one = inr refl }
    go false e = record { left = le_same a; right = not_lt_le a b e; one = inl refl }

over_start : (b : Bool) (y r : ℤ) → le_z r (greater b y r) ≡ true
over_start true y r = le_same r
over_start false y r = (max_is (neg_ℤ y) r).right

over_child : (b : Bool) (y r : ℤ) → b ≡ false → le_z (neg_ℤ y) (greater b y r) ≡ true
over_child true y r e = absurd (true≢false e)
over_child false y r e = (max_is (neg_ℤ y) r).left

-- z is x, or the negated value of one of n children from the i-th on that is not passed over
pub data OneOf (passed : ℕ → Bool) (f : ℕ → ℤ) (x : ℤ) (n i : ℕ) (z : ℤ) : Type 0 where
  start : z ≡ x → OneOf passed f x n i z
  child : (j : ℕ) → i ≤ j → j < i + n → passed j ≡ false → z ≡ neg_ℤ (f j) → OneOf passed f x n i z

module _ (passed : ℕ → Bool) (f : ℕ → ℤ) (x : ℤ) where
  pub greatest_start : (n i : ℕ) → le_z x (greatest passed f x n i) ≡ true
  unfolding greatest
  greatest_start zero i = le_same x
  greatest_start (suc n) i = le_trans x _ _ (greatest_start n (i + 1)) (over_start (passed i) (f i) (greatest passed f x n (i + 1)))

  -- child j is child i, or one of the rest, of which `below` speaks
  over-one
      : (b : Bool) (i j : ℕ) (r : ℤ) → eqb j i ≡ b → i ≤ j → passed j ≡ false → (i + 1 ≤ j → le_z (neg_ℤ (f j)) r ≡ true)
      → le_z (neg_ℤ (f j)) (greater (passed i) (f i) r) ≡ true
  over-one true i j r e l p below =
      let q = eqb-true j i e in
      subst (λ (k : ℕ). le_z (neg_ℤ (f k)) (greater (passed i) (f i) r) ≡ true) (sym q)
      (over_child (passed i) (f i) r (subst (λ (k : ℕ). passed k ≡ false) q p))
  over-one false i j r e l p below =
      let q : i + 1 ≤ j = omega (arith, eqb-false j i e) in
      le_trans (neg_ℤ (f j)) r _ (below q) (over_start (passed i) (f i) r)

  pub greatest_child : (n i j : ℕ) → i ≤ j → j < i + n → passed j ≡ false → le_z (neg_ℤ (f j)) (greatest passed f x n i) ≡ true
  unfolding greatest
  greatest_child zero i j l u p = absurd (omega arith)
  greatest_child (suc n) i j l u p = over-one (eqb j i) i j (greatest passed f x n (i + 1)) refl l p (λ q. greatest_child n (i + 1) j q (omega arith) p)

  one_more : (b : Bool) (n i : ℕ) (r : ℤ) → passed i ≡ b → OneOf passed f x n (i + 1) r → OneOf passed f x (suc n) i (greater b (f i) r)
  one_more true n i r e (start q) = start q
  one_more true n i r e (child j l u p q) = child j (omega arith) (omega arith) p q
  one_more false n i r e o = either (max_is (neg_ℤ (f i)) r).one o
    where
      either : {z : ℤ} → (z ≡ neg_ℤ (f i)) ⊎ (z ≡ r) → OneOf passed f x n (i + 1) r → OneOf passed f x (suc n) i z
      either (inl q) o = child i (omega arith) (omega arith) e q
      either (inr q) (start k) = start (q ∙ k)
      either (inr q) (child j l u p k) = child j (omega arith) (omega arith) p (q ∙ k)

  pub greatest_one : (n i : ℕ) → OneOf passed f x n i (greatest passed f x n i)
  unfolding greatest
  greatest_one zero i = start refl
  greatest_one (suc n) i = one_more (passed i) n i (greatest passed f x n (i + 1)) refl (greatest_one n (i + 1))
