-- A test of every number below another, as a loop makes it: one more number, the first that fails, and what the test means. Assumes nothing.
use Rattle.std.proofs.Common.{◌≡◌, ℕ, zero, suc, ◌+◌, ◌<◌, ◌≤◌, Bool, true, false, ◌&&◌, ltb, sym, refl, ◌∙◌, subst, true≢false, add-one, arith, ltb-false, ltb-true}
use mathlib.Core.Bool.{false≢true}
use Rattle.tree.specs.Pick.{all_below}

-- tests that all hold, each of them and together

pub both : {a b : Bool} → a ≡ true → b ≡ true → (a && b) ≡ true
both p q = rw (p, q)

pub two : (a b : Bool) → (a && b) ≡ true → (a ≡ true) × (b ≡ true)
two true b e = (refl, e)
two false b e = absurd (false≢true e)

pub three : (a b c : Bool) → (a && b && c) ≡ true → (a ≡ true) × (b ≡ true) × (c ≡ true)
three a b c e = let p = two (a && b) c e in let q = two a b p.0 in (q.0, q.1, p.1)

pub four : (a b c d : Bool) → (a && b && c && d) ≡ true → (a ≡ true) × (b ≡ true) × (c ≡ true) × (d ≡ true)
four a b c d e = let p = two (a && b && c) d e in let q = three a b c p.0 in (q.0, q.1, q.2, p.1)

module _ (p : ℕ → Bool) where
  pub every_none : all_below p 0 ≡ true
  unfolding all_below
  every_none = refl

  -- what it means
  pub every_at : (n k : ℕ) → all_below p n ≡ true → k < n → p k ≡ true
  unfolding all_below
  every_at zero k e l = absurd (omega arith)
  every_at (suc n) k e l = go (every_at n k (two (all_below p n) (p n) e).0) (ltb k n) refl
    where
      go : (k < n → p k ≡ true) → (b : Bool) → ltb k n ≡ b → p k ≡ true
      go f true t = f (ltb-true k n t)
      go f false t = subst (λ (j : ℕ). p j ≡ true) (last (ltb-false k n t)) (two (all_below p n) (p n) e).1
        where
          last : n ≤ k → n ≡ k
          last m = omega arith

  pub every_of : (n : ℕ) → ((k : ℕ) → k < n → p k ≡ true) → all_below p n ≡ true
  unfolding all_below
  every_of zero f = refl
  every_of (suc n) f = both (every_of n (λ k l. f k (omega arith))) (f n (omega arith))

  -- one more number
  pub every_more : (i : ℕ) → all_below p i ≡ true → p i ≡ true → all_below p (i + 1) ≡ true
  unfolding all_below
  every_more i e h = rw add-one (both e h)

  -- all of them
  pub every_all : (i n : ℕ) → n ≤ i → i ≤ n → all_below p i ≡ true → true ≡ all_below p n
  every_all i n l u e = sym (subst (λ (j : ℕ). all_below p j ≡ true) (same l u) e)
    where
      same : n ≤ i → i ≤ n → i ≡ n
      same l u = omega arith

  -- one that fails
  pub every_fails : (i n : ℕ) → i < n → p i ≡ false → false ≡ all_below p n
  every_fails i n l f = go (all_below p n) refl
    where
      go : (b : Bool) → all_below p n ≡ b → false ≡ all_below p n
      go true e = absurd (true≢false (sym (every_at n i e l) ∙ f))
      go false e = sym e
