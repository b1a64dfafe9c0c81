-- Scores within plus and minus INF, by their distance from the least (`off`): orders, the greatest of two, and the operations, none of which wraps there.
-- Assumes nothing.
use mathlib.Core.Path.{◌≡◌, refl, sym, ◌∙◌}
use mathlib.Core.Bool.{Bool, true, false, true≢false, false≢true}
use Prim.Native.Nat.{ℕ, zero, suc, ◌+◌, ◌≤◌, ◌<◌, max}
use native.Mathlib.Omega.{arith}
use lib.IntN.{ℤ, pos, negsuc, neg_ℤ, ◌+ℤ◌, ◌-ℤ◌, pred_ℤ, -ℤ_one}
use lib.Signed.{mag, lt_z, le_z}
use borrow.Author.Tests.{ltb-true, ltb-false, leb-true, leb-false, lt-ltb}
use Rattle.score.specs.Wrap.{wrap16, neg16, sub16, max_z}
use Rattle.score.proofs.Wrapping.{wrap_mid}
use Rattle.score.proofs.Order.{off}
use Rattle.score.proofs.Order as order

-- the image of an integer within plus and minus INF
pub record InR (inf x : ℕ) : Type 0 where
  pub low : 32768 ≤ x + inf
  pub high : x ≤ 32768 + inf

abbrev pub InZ : ℕ → ℤ → Type 0
InZ inf z = InR inf (off z)

pub zero_off : off (pos 0) ≡ 32768
unfolding off
zero_off = refl

-- the tests

mag_in : (inf : ℕ) (z : ℤ) → inf ≤ 30000 → InZ inf z → mag z < 32768
unfolding off
mag_in inf (pos k) i r = omega arith
mag_in inf (negsuc k) i r = omega arith

pub lt_yes : (inf : ℕ) (a b : ℤ) → inf ≤ 30000 → InZ inf a → InZ inf b → lt_z a b ≡ true → off a < off b
lt_yes inf a b i ia ib e = ltb-true (off a) (off b) (sym (order.off_lt a b (mag_in inf a i ia) (mag_in inf b i ib)) ∙ e)

pub lt_not : (a b : ℤ) → lt_z a b ≡ false → off b ≤ off a
unfolding off
lt_not (pos a) (pos b) e = omega (arith, ltb-false a b e)
lt_not (pos a) (negsuc b) e = omega arith
lt_not (negsuc a) (pos b) e = absurd (true≢false e)
lt_not (negsuc a) (negsuc b) e = omega (arith, ltb-false b a e)

pub le_yes : (a b : ℤ) → le_z a b ≡ true → off a ≤ off b
unfolding off
le_yes (pos a) (pos b) e = omega (arith, leb-true a b e)
le_yes (pos a) (negsuc b) e = absurd (false≢true e)
le_yes (negsuc a) (pos b) e = omega arith
le_yes (negsuc a) (negsuc b) e = omega (arith, leb-true b a e)

pub le_not : (inf : ℕ) (a b : ℤ) → inf ≤ 30000 → InZ inf a → InZ inf b → le_z a b ≡ false → off b < off a
le_not inf a b i ia ib e = leb-false (off a) (off b) (sym (order.off_le a b (mag_in inf a i ia) (mag_in inf b i ib)) ∙ e)

-- the operations, where nothing wraps

pub wrap_in : (inf : ℕ) (z : ℤ) → inf ≤ 30000 → InZ inf z → wrap16 z ≡ z
wrap_in inf z i r = wrap_mid z (mag_in inf z i r)

pub neg_off : (inf : ℕ) (z : ℤ) → inf ≤ 30000 → InZ inf z → off (neg_ℤ z) + off z ≡ 65536
unfolding off
neg_off inf (pos zero) i r = refl
neg_off inf (pos (suc n)) i r = omega arith
neg_off inf (negsuc n) i r = omega arith

in_neg : (inf x y : ℕ) → inf ≤ 30000 → InR inf x → y + x ≡ 65536 → InR inf y
in_neg inf x y i r e = record { low = omega arith; high = omega arith }

pub neg16_is : (inf : ℕ) (z : ℤ) → inf ≤ 30000 → InZ inf z → neg16 z ≡ neg_ℤ z
unfolding neg16
neg16_is inf z i r = wrap_in inf (neg_ℤ z) i (in_neg inf (off z) (off (neg_ℤ z)) i r (neg_off inf z i r))

pub neg_eq : (inf : ℕ) (z : ℤ) → inf ≤ 30000 → InZ inf z → off (neg16 z) + off z ≡ 65536
neg_eq inf z i r = rw (neg16_is inf z i r) (neg_off inf z i r)

pub neg_in : (inf : ℕ) (z : ℤ) → inf ≤ 30000 → InZ inf z → InZ inf (neg16 z)
neg_in inf z i r = in_neg inf (off z) (off (neg16 z)) i r (neg_eq inf z i r)

pred_off : (inf : ℕ) (z : ℤ) → inf ≤ 30000 → InZ inf z → off (pred_ℤ z) + 1 ≡ off z
unfolding off
pred_off inf (pos zero) i r = refl
pred_off inf (pos (suc n)) i r = omega arith
pred_off inf (negsuc n) i r = omega arith

pub less_one : (inf : ℕ) (z : ℤ) → inf ≤ 30000 → InZ inf z → 32768 < off z + inf → off (sub16 z (pos 1)) + 1 ≡ off z
unfolding sub16
less_one inf z i r l =
    let e = pred_off inf z i r in
    let w : wrap16 (z -ℤ pos 1) ≡ pred_ℤ z = rw (-ℤ_one z) (wrap_in inf (pred_ℤ z) i (record { low = omega arith; high = omega arith })) in
    rw w e

pub max_off : (inf : ℕ) (a b : ℤ) → inf ≤ 30000 → InZ inf a → InZ inf b → off (max_z a b) ≡ max (off a) (off b)
max_off inf a b i ia ib = go (lt_z a b) refl
  where
    go : (x : Bool) → lt_z a b ≡ x → off (max_z a b) ≡ max (off a) (off b)
    go true e = rw e (let l = lt_yes inf a b i ia ib e in omega arith)
    go false e = rw e (let l = lt_not a b e in omega arith)

pub mate_off : (inf ply : ℕ) → inf ≤ 30000 → ply < inf → off (neg_ℤ (pos inf) +ℤ pos ply) + inf ≡ 32768 + ply
unfolding off
mate_off zero ply i l = absurd (omega arith)
mate_off (suc j) ply i l = rw (lt-ltb ply (suc j) l) (omega arith)

-- and back: an image tells the integer
pub off_inj : (inf : ℕ) (a b : ℤ) → inf ≤ 30000 → InZ inf a → InZ inf b → off a ≡ off b → a ≡ b
off_inj inf a b i ia ib e = order.off_inj a b (mag_in inf a i ia) (mag_in inf b i ib) e
