-- Little-endian numbers: a number is its halves, and a part's number is the whole's. Assumes nothing.
use mathlib.Core.Path.{◌≡◌, refl, sym, ap, ap₂, ◌∙◌}
use mathlib.Core.List.{List, [], ◌∷◌, ◌++◌}
use Prim.Native.Nat.{ℕ, zero, suc, ◌+◌, ◌*◌, ◌^◌, ◌-◌, ◌≤◌, ◌<◌}
use native.Mathlib.Nat.{add-zero, add-suc, add_assoc, add-mul, mul_assoc, mul_comm}
use native.Mathlib.Omega.{arith}
use lib.Pow.{pow-add}
use native.Mathlib.Nat.{mul-le-mul_right}
use lib.ListN.{get_or-append, replicate, length, get_or, drop, length-take, length-drop}
use Rattle.std.proofs.lemmas.List.{get_or-append_right}
use lib.Seq.{get_or-take, get_or-drop}
use Rattle.record.specs.Bytes.{le, part}

regroup : (x a g p q : ℕ) → x + a * p + g * (p * q) ≡ x + (a + g * q) * p
regroup x a g p q = omega (arith, add-mul a (g * q) p, mul_assoc g q p ∙ ap (λ (n : ℕ). g * n) (mul_comm q p))

-- m bytes, and n more
pub le_split : (s : List ℕ) (at m n : ℕ) → le s at (m + n) ≡ le s at m + le s (at + m) n * 256 ^ m
unfolding le
le_split s at m zero = rw add-zero (omega arith)
le_split s at m (suc n) =
    rw (add-suc, le_split s at m n, pow-add, ← add_assoc)
    (regroup (le s at m) (le s (at + m) n) (get_or s (at + m + n) 0) (256 ^ m) (256 ^ n))

-- eight bytes, as they are summed up
pub le_eight
    : (s : List ℕ) → le s 0 8 ≡ get_or s 0 0 + get_or s 1 0 * 256 + get_or s 2 0 * 65536 + get_or s 3 0 * 16777216 + get_or s 4 0 * 4294967296 + get_or s 5 0 * 1099511627776 + get_or s 6 0 * 281474976710656 + get_or s 7 0 * 72057594037927936
unfolding le
le_eight s = omega arith

-- bytes that are 0
pub le_zeros : (s : List ℕ) (at n : ℕ) → ((i : ℕ) → at ≤ i → get_or s i 0 ≡ 0) → le s at n ≡ 0
unfolding le
le_zeros s at zero h = refl
le_zeros s at (suc n) h = rw (le_zeros s at n h, h (at + n) (omega arith)) (omega arith)

-- the number that n bytes hold is below 256 ^ n
pub le_below : (s : List ℕ) (at n : ℕ) → ((i : ℕ) → get_or s i 0 < 256) → le s at n < 256 ^ n
unfolding le
le_below s at zero h = omega arith
le_below s at (suc n) h =
    let b : get_or s (at + n) 0 ≤ 255 = let l = h (at + n) in omega arith in
    omega (arith, le_below s at n h, mul-le-mul_right (256 ^ n) b)

-- a front, and what comes behind it
pub le_front : (a b : List ℕ) (n : ℕ) → n ≤ length a → le (a ++ b) 0 n ≡ le a 0 n
unfolding le
le_front a b zero h = refl
le_front a b (suc n) h =
    ap₂ (λ (x y : ℕ). x + y * 256 ^ n) (le_front a b n (omega arith)) (get_or-append a b 0 (0 + n) (omega arith))

zeros_at : (n i : ℕ) → get_or {A = ℕ} (replicate n 0) i 0 ≡ 0
zeros_at zero i = refl
zeros_at (suc n) zero = refl
zeros_at (suc n) (suc i) = zeros_at n i

-- a part, where its bytes are there
module _ (s : List ℕ) (start size : ℕ) (fits : start + size ≤ length s) where
  pub part_length : length (part s start size) ≡ size
  part_length = simp (length-take, length-drop) (omega arith)

  pub part_byte : (i : ℕ) → i < size → get_or (part s start size) i 0 ≡ get_or s (start + i) 0
  part_byte i h = get_or-take size (drop start s) i 0 h ∙ get_or-drop start s i 0

  pub part_le : (at n : ℕ) → at + n ≤ size → le (part s start size) at n ≡ le s (start + at) n
  unfolding le
  part_le at zero h = refl
  part_le at (suc n) h =
      ap₂ (λ (x y : ℕ). x + y * 256 ^ n) (part_le at n (omega arith))
      (part_byte (at + n) (omega arith) ∙ ap (λ (k : ℕ). get_or s k 0) (sym (add_assoc start at n)))

-- n bytes, padded with zeros to eight
pub le_padded
    : (s a : List ℕ) (at n : ℕ) → n ≤ 8 → at + n ≤ length s → a ≡ part s at n
    → le (a ++ drop n (0 ∷ 0 ∷ 0 ∷ 0 ∷ 0 ∷ 0 ∷ 0 ∷ 0 ∷ [])) 0 8 ≡ le s at n
le_padded s a at n w h e =
    let z : List ℕ = 0 ∷ 0 ∷ 0 ∷ 0 ∷ 0 ∷ 0 ∷ 0 ∷ 0 ∷ [] in
    let la : length a ≡ n = ap length e ∙ part_length s at n h in
    let eight : n + (8 - n) ≡ 8 = omega arith in
    let low : le (a ++ drop n z) 0 n ≡ le s at n =
    le_front a (drop n z) n (omega (arith, la)) ∙ ap (λ (p : List ℕ). le p 0 n) e ∙ part_le s at n h 0 n (omega arith) ∙ ap (λ (k : ℕ). le s k n) (add-zero at) in
    let high : le (a ++ drop n z) (0 + n) (8 - n) ≡ 0 =
    le_zeros (a ++ drop n z) (0 + n) (8 - n) (λ i l. get_or-append_right a (drop n z) n i 0 la (omega arith) ∙ get_or-drop n z (i - n) 0 ∙ zeros_at 8 (n + (i - n))) in
    let split : le (a ++ drop n z) 0 (n + (8 - n)) ≡ le s at n = le_split (a ++ drop n z) 0 n (8 - n) ∙ rw (high, low) (omega arith) in
    rw eight at split
