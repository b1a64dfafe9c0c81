-- The tests of the table's entries that antt computes over the whole table, and what each says of one entry or of two neighbours.
-- Assumes nothing.
use mathlib.Core.Path.{◌≡◌, refl, subst}
use mathlib.Core.Bool.{Bool, true, false, cond, ◌&&◌, ◌||◌}
use Prim.Native.Nat.{ℕ, ◌+◌, ◌*◌, ◌/◌, ◌%◌, ◌<◌, ◌≤◌}
use native.Mathlib.Omega.{arith}
use lib.Dec.{T, leb, eqb, leb→le, eqb→eq}
use lib.ListN.{length, get_or, drop}
use lib.Seq.{get_or-drop}
use borrow.Author.Tests.{eq-eqb, ne_eqb}
use Rattle.reductions.specs.Reductions.{reductions, entry_of}
use Rattle.reductions.proofs.Pairs.{and_left, and_right, at}

-- 01, Visits: "2,048 reductions"
pub count : length reductions ≡ 2048
unfolding reductions
count = refl

-- place k is in row 0 or in column 0
unfoldable edge : ℕ → Bool
edge k = eqb (k / 64) 0 || eqb (k % 64) 0

unfoldable range : ℕ → ℕ → ℕ → Bool
range k x y = cond (edge k) (eqb x 0) (leb 1 x && leb x 6)

-- the last column has no next one
unfoldable along : ℕ → ℕ → ℕ → Bool
along k x y = eqb (k % 64) 63 || leb x y

unfoldable down : ℕ → ℕ → ℕ → Bool
down k x y = leb x y

in_range : (k : ℕ) → k < 2048 → T (range k (get_or reductions k 0) (get_or reductions k 0))
unfolding reductions edge range
in_range k h = at range reductions reductions tt k h h

next_along : (k : ℕ) → k + 1 < 2048 → T (along k (get_or reductions k 0) (get_or (drop 1 reductions) k 0))
unfolding reductions along
next_along k h = at along reductions (drop 1 reductions) tt k (omega arith) (omega arith)

next_down : (k : ℕ) → k + 64 < 2048 → T (down k (get_or reductions k 0) (get_or (drop 64 reductions) k 0))
unfolding reductions down
next_down k h = at down reductions (drop 64 reductions) tt k (omega arith) (omega arith)

pub row_zero : (m : ℕ) → m ≤ 63 → entry_of 0 m ≡ 0
unfolding range edge
row_zero m hm =
    let e : (0 * 64 + m) / 64 ≡ 0 = omega arith in
    eqb→eq (entry_of 0 m) 0 (simp (eq-eqb ((0 * 64 + m) / 64) 0 e) at (in_range (0 * 64 + m) (omega arith)))

pub column_zero : (d : ℕ) → d ≤ 31 → entry_of d 0 ≡ 0
unfolding range edge
column_zero d hd = go (eqb ((d * 64 + 0) / 64) 0) refl
  where
    e : (d * 64 + 0) % 64 ≡ 0
    e = omega arith

    go : (b : Bool) → eqb ((d * 64 + 0) / 64) 0 ≡ b → entry_of d 0 ≡ 0
    go true q = eqb→eq (entry_of d 0) 0 (simp q at (in_range (d * 64 + 0) (omega arith)))
    go false q = eqb→eq (entry_of d 0) 0 (simp (q, eq-eqb ((d * 64 + 0) % 64) 0 e) at (in_range (d * 64 + 0) (omega arith)))

pub others : (d m : ℕ) → 1 ≤ d → d ≤ 31 → 1 ≤ m → m ≤ 63 → (1 ≤ entry_of d m) × (entry_of d m ≤ 6)
unfolding range edge
others d m pd hd pm hm =
    let a : (d * 64 + m) / 64 ≡ 0 → ⊥ = λ e. omega arith in
    let b : (d * 64 + m) % 64 ≡ 0 → ⊥ = λ e. omega arith in
    let t = simp (ne_eqb ((d * 64 + m) / 64) 0 a, ne_eqb ((d * 64 + m) % 64) 0 b) at (in_range (d * 64 + m) (omega arith)) in
    (leb→le 1 (entry_of d m) (and_left (leb 1 (entry_of d m)) (leb (entry_of d m) 6) t), leb→le (entry_of d m) 6 (and_right (leb 1 (entry_of d m)) (leb (entry_of d m) 6) t))

pub row_step : (d m : ℕ) → d ≤ 31 → m + 1 < 64 → entry_of d m ≤ entry_of d (m + 1)
unfolding along
row_step d m hd hm =
    let n : (d * 64 + m) % 64 ≡ 63 → ⊥ = λ e. omega arith in
    let t = simp (ne_eqb ((d * 64 + m) % 64) 63 n, get_or-drop 1 reductions (d * 64 + m) 0) at (next_along (d * 64 + m) (omega arith)) in
    subst (λ (k : ℕ). entry_of d m ≤ get_or reductions k 0) e (leb→le (entry_of d m) (get_or reductions (1 + (d * 64 + m)) 0) t)
  where
    e : 1 + (d * 64 + m) ≡ d * 64 + (m + 1)
    e = omega arith

pub column_step : (d m : ℕ) → d + 1 < 32 → m ≤ 63 → entry_of d m ≤ entry_of (d + 1) m
unfolding down
column_step d m hd hm =
    let t = simp (get_or-drop 64 reductions (d * 64 + m) 0) at (next_down (d * 64 + m) (omega arith)) in
    subst (λ (k : ℕ). entry_of d m ≤ get_or reductions k 0) e (leb→le (entry_of d m) (get_or reductions (64 + (d * 64 + m)) 0) t)
  where
    e : 64 + (d * 64 + m) ≡ (d + 1) * 64 + m
    e = omega arith
