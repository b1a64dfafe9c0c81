-- A rule of the entries of two lists, place by place, from one test that antt computes. Assumes nothing.
use mathlib.Core.Path.{◌≡◌, ◌∙◌, subst, sym}
use mathlib.Core.Bool.{Bool, true, false, ◌&&◌}
use mathlib.Core.List.{List, [], ◌∷◌}
use Prim.Native.Nat.{ℕ, zero, suc, ◌+◌, ◌-◌, ◌<◌, ◌≤◌}
use native.Mathlib.Nat.{add-zero, zero-add, add-suc, suc-add, le_of_suc-le-suc, not-suc-le-zero}
use native.Mathlib.Omega.{arith}
use lib.Dec.{T}
use lib.ListN.{length, get_or}

pub and_left : (a b : Bool) → T (a && b) → T a
and_left true b t = tt
and_left false b t = t

pub and_right : (a b : Bool) → T (a && b) → T b
and_right true b t = t
and_right false b t = absurd t

-- the test f passes at each place that both lists have, counted from i
abbrev pub pairs : (ℕ → ℕ → ℕ → Bool) → ℕ → List ℕ → List ℕ → Bool
pairs f i xs [] = true
pairs f i [] (y ∷ ys) = true
pairs f i (x ∷ xs) (y ∷ ys) = f i x y && pairs f (suc i) xs ys

from : (f : ℕ → ℕ → ℕ → Bool) (xs ys : List ℕ) (i : ℕ) → T (pairs f i xs ys) → (k : ℕ) → k < length xs → k < length ys → T (f (i + k) (get_or xs k 0) (get_or ys k 0))
from f xs [] i t k h l = absurd (not-suc-le-zero l)
from f [] (y ∷ ys) i t k h l = absurd (not-suc-le-zero h)
from f (x ∷ xs) (y ∷ ys) i t zero h l = subst (λ (m : ℕ). T (f m x y)) (sym (add-zero i)) (and_left (f i x y) (pairs f (suc i) xs ys) t)
from f (x ∷ xs) (y ∷ ys) i t (suc k) h l =
    subst (λ (m : ℕ). T (f m (get_or xs k 0) (get_or ys k 0))) (suc-add i k ∙ sym (add-suc i k))
    (from f xs ys (suc i) (and_right (f i x y) (pairs f (suc i) xs ys) t) k (le_of_suc-le-suc h) (le_of_suc-le-suc l))

-- a test that passes at every place passes at place k
pub at : (f : ℕ → ℕ → ℕ → Bool) (xs ys : List ℕ) → T (pairs f 0 xs ys) → (k : ℕ) → k < length xs → k < length ys → T (f k (get_or xs k 0) (get_or ys k 0))
at f xs ys t k h l = subst (λ (m : ℕ). T (f m (get_or xs k 0) (get_or ys k 0))) (zero-add k) (from f xs ys 0 t k h l)

-- what does not fall from one place to the next does not fall over j of them
over : (f : ℕ → ℕ) (n : ℕ) → ((k : ℕ) → k + 1 < n → f k ≤ f (k + 1)) → (i j : ℕ) → i + j < n → f i ≤ f (i + j)
over f n h i zero l = subst (λ (m : ℕ). f i ≤ f m) (sym (add-zero i)) (omega arith)
over f n h i (suc j) l =
    subst (λ (m : ℕ). f i ≤ f m) e (omega (arith, over f n h i j (omega arith), h (i + j) (omega arith)))
  where
    e : i + j + 1 ≡ i + suc j
    e = omega arith

-- nor from a place to any later one
pub steps : (f : ℕ → ℕ) (n : ℕ) → ((k : ℕ) → k + 1 < n → f k ≤ f (k + 1)) → (i k : ℕ) → i ≤ k → k < n → f i ≤ f k
steps f n h i k l b = subst (λ (m : ℕ). f i ≤ f m) e (over f n h i (k - i) (omega arith))
  where
    e : i + (k - i) ≡ k
    e = omega arith
