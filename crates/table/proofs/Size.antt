-- The sizes that a table may have: what the test means, both ways, and that the code tests it. Assumes nothing.
use Rattle.std.proofs.Common.{◌≡◌, ℕ, zero, suc, ◌+◌, ◌*◌, ◌/◌, ◌%◌, ◌^◌, ◌<◌, ◌≤◌, Bool, true, false, ◌||◌, eqb, sym, refl, ap, ◌∙◌, arith, pow_pos, pow_mono, eq-eqb, eqb-true}
use mathlib.Core.Bool.{false≢true}
use lib.Dec.{ltb}
use lib.Count.{ones_step}
use borrow.Author.Tests.{ltb-true, ltb-false}
use Rattle.std.specs.Int.RustNames.{count_ones}
use Rattle.std.proofs.lemmas.Nat.{zero_from_ones, ones_le_self}
use Rattle.table.specs.Table.{sized_to, well_sized}

-- a power of two, 1 to 65,536
pub record TwoPower (n : ℕ) : Type 0 where
  pub k : ℕ
  pub small : k ≤ 16
  pub is : n ≡ 2 ^ k

-- 2n words, n such a power
pub record Sized (words : ℕ) : Type 0 where
  pub power : TwoPower (words / 2)
  pub twice : words ≡ 2 * (words / 2)
  pub long : 2 ≤ words
  pub bounded : words ≤ 131072

record At (k words : ℕ) : Type 0 where
  pub j : ℕ
  pub small : j < k
  pub is : words ≡ 2 * 2 ^ j

at_one : (k words : ℕ) → sized_to k words ≡ true → At k words
unfolding sized_to
at_one zero words e = absurd (false≢true e)
at_one (suc k) words e = go (eqb words (2 * 2 ^ k)) refl e (at_one k words)
  where
    go : (b : Bool) → eqb words (2 * 2 ^ k) ≡ b → (b || sized_to k words) ≡ true → (sized_to k words ≡ true → At k words) → At (suc k) words
    go true q e f = record { j = k; small = omega arith; is = eqb-true words (2 * 2 ^ k) q }
    go false q e f = let s = f e in record { j = s.j; small = omega arith; is = s.is }

half : (x w : ℕ) → w ≡ 2 * x → w / 2 ≡ x
half x w e = omega arith

-- the test is met only by 2n words, n a power of two, 1 to 65,536
pub well_sized_lem : (words : ℕ) → well_sized words ≡ true → Sized words
well_sized_lem words e =
    let s = at_one 17 words e in
    let h = half (2 ^ s.j) words s.is in
    let low = pow_pos s.j in
    let top : 2 ^ s.j ≤ 2 ^ 16 = pow_mono {i = s.j} {j = 16} (omega (arith, s.small)) in
    record {
      power = record { k = s.j; small = omega (arith, s.small); is = h };
      twice = s.is ∙ sym (ap (λ (x : ℕ). 2 * x) h);
      long = omega (arith, s.is, low);
      bounded = omega (arith, s.is, top);
    }

-- and by all of them
one_at : (k words j : ℕ) → j < k → words ≡ 2 * 2 ^ j → sized_to k words ≡ true
unfolding sized_to
one_at zero words j l e = absurd (omega arith)
one_at (suc k) words j l e = go (eqb words (2 * 2 ^ k)) refl (λ m. one_at k words j m e)
  where
    go : (b : Bool) → eqb words (2 * 2 ^ k) ≡ b → (j < k → sized_to k words ≡ true) → (b || sized_to k words) ≡ true
    go true q f = refl
    go false q f = f (below (λ p. other (e ∙ ap (λ (i : ℕ). 2 * 2 ^ i) p)))
      where
        other : words ≡ 2 * 2 ^ k → ⊥
        other p = false≢true (sym q ∙ eq-eqb words (2 * 2 ^ k) p)

        below : (j ≡ k → ⊥) → j < k
        below n = omega arith

pub sized_well : (words : ℕ) → Sized words → well_sized words ≡ true
sized_well words s = one_at 17 words s.power.k (omega (arith, s.power.small)) (s.twice ∙ ap (λ (x : ℕ). 2 * x) s.power.is)

-- one bit is set exactly in a power of two
bit_one : (k : ℕ) → count_ones (2 ^ k) ≡ 1
bit_one zero = omega (arith, ones_step 1, ones_le_self 0)
bit_one (suc k) = omega (arith, ones_step (2 ^ suc k), halved, even, bit_one k)
  where
    halved : count_ones (2 ^ suc k / 2) ≡ count_ones (2 ^ k)
    halved = ap count_ones (half (2 ^ k) (2 ^ suc k) (omega arith))

    even : 2 ^ suc k % 2 ≡ 0
    even = omega arith

one_bit : (d n : ℕ) → n ≤ d → count_ones n ≡ 1 → (k : ℕ) × (n ≡ 2 ^ k)
one_bit zero n h e = absurd (omega (arith, ones_le_self n))
one_bit (suc d) n h e = go (n % 2) refl (one_bit d (n / 2) (omega arith))
  where
    step : count_ones n ≡ n % 2 + count_ones (n / 2)
    step = ones_step n

    go : (b : ℕ) → n % 2 ≡ b → (count_ones (n / 2) ≡ 1 → (k : ℕ) × (n / 2 ≡ 2 ^ k)) → (k : ℕ) × (n ≡ 2 ^ k)
    go zero q rest = let r = rest (omega (arith, step)) in (suc r.0, omega (arith, r.1))
    go (suc zero) q rest = let none = zero_from_ones (n / 2) (omega (arith, step)) in (0, omega arith)
    go (suc (suc b)) q rest = absurd (omega arith)

-- a power of two within the bounds is one of the sizes
one_of : (words k : ℕ) → words ≡ 2 ^ k → 2 ≤ words → words ≤ 131072 → well_sized words ≡ true
one_of words zero e low high = absurd (omega arith)
one_of words (suc k) e low high = one_at 17 words k (below (ltb k 17) refl) (e ∙ twice)
  where
    twice : 2 ^ suc k ≡ 2 * 2 ^ k
    twice = omega arith

    below : (b : Bool) → ltb k 17 ≡ b → k < 17
    below true q = ltb-true k 17 q
    below false q = let far : 2 ^ 17 ≤ 2 ^ k = pow_mono {i = 17} {j = k} (ltb-false k 17 q) in absurd (omega (arith, e, far))

-- what the code tests, by its cases
not_true : (b : Bool) → (b ≡ true → ⊥) → b ≡ false
not_true true f = absurd (f refl)
not_true false f = refl

pub too_short : (words : ℕ) → words < 2 → well_sized words ≡ false
too_short words l = not_true (well_sized words) (λ e. let s = well_sized_lem words e in omega (arith, s.long))

pub too_long : (words : ℕ) → 131072 < words → well_sized words ≡ false
too_long words l = not_true (well_sized words) (λ e. let s = well_sized_lem words e in omega (arith, s.bounded))

pub in_bounds : (words : ℕ) → 2 ≤ words → words ≤ 131072 → eqb (count_ones words) 1 ≡ well_sized words
in_bounds words low high = go (eqb (count_ones words) 1) refl
  where
    one : well_sized words ≡ true → count_ones words ≡ 1
    one e =
        let s = well_sized_lem words e in
        let power : words ≡ 2 ^ suc s.power.k = omega (arith, s.twice, s.power.is) in
        ap count_ones power ∙ bit_one (suc s.power.k)

    go : (b : Bool) → eqb (count_ones words) 1 ≡ b → eqb (count_ones words) 1 ≡ well_sized words
    go true q = let p = one_bit words words (omega arith) (eqb-true (count_ones words) 1 q) in
        q ∙ sym (one_of words p.0 p.1 low high)
    go false q = q ∙ sym (not_true (well_sized words) (λ e. false≢true (sym q ∙ eq-eqb (count_ones words) 1 (one e))))
