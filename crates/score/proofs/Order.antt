-- A 16-bit score as a natural number, its distance from the least: `off z` is z + 32768. Order and arithmetic on scores become what `omega` reads.
-- Assumes nothing.
use mathlib.Core.Path.{◌≡◌, refl, sym, ap, ◌∙◌}
use mathlib.Core.Bool.{Bool, true, false}
use Prim.Native.Nat.{ℕ, zero, suc, ◌+◌, ◌-◌, ◌%◌, ◌<◌, ◌≤◌}
use native.Mathlib.Omega.{arith}
use lib.Dec.{ltb, leb}
use lib.IntN.{ℤ, pos, negsuc, neg_ℤ, sub_ℕ, ◌+ℤ◌}
use lib.Signed.{mag, lt_z, le_z}
use mir.Syntax.{w16}
use mir.Val.{to_z}
use mir.Facts.{to_z_pos}
use borrow.Author.Tests.{le-ltb, lt-ltb, ltb-true, ltb-false, le-leb, lt-leb, leb-true, leb-false}
use Rattle.score.specs.Wrap.{low16, wrap16, neg16, add16}
use Rattle.score.proofs.Cases.{sub-ind}
use Rattle.score.proofs.Wrapping.{to_z_hi}

unfoldable pub off : ℤ → ℕ
off (pos n) = 32768 + n
off (negsuc n) = 32767 - n

pub off_below : (a : ℤ) → mag a < 32768 → off a < 65536
unfolding off
off_below (pos n) h = omega arith
off_below (negsuc n) h = omega arith

-- two tests of numbers agree where each implies the other
both : (a b c d : ℕ) → (a < b → c < d) → (c < d → a < b) → ltb a b ≡ ltb c d
both a b c d f g = go (ltb a b) refl
  where
    go : (t : Bool) → ltb a b ≡ t → ltb a b ≡ ltb c d
    go true e = e ∙ sym (lt-ltb c d (f (ltb-true a b e)))
    go false e = e ∙ sym (le-ltb c d (le_of (ltb-false a b e)))
      where
        le_of : b ≤ a → d ≤ c
        le_of h = go2 (ltb c d) refl
          where
            go2 : (t : Bool) → ltb c d ≡ t → d ≤ c
            go2 true q = omega (arith, g (ltb-true c d q))
            go2 false q = ltb-false c d q

pub off_lt : (a b : ℤ) → mag a < 32768 → mag b < 32768 → lt_z a b ≡ ltb (off a) (off b)
unfolding off
off_lt (pos a) (pos b) h k = both a b (32768 + a) (32768 + b) (λ l. omega arith) (λ l. omega arith)
off_lt (pos a) (negsuc b) h k = sym (le-ltb (32768 + a) (32767 - b) (omega arith))
off_lt (negsuc a) (pos b) h k = sym (lt-ltb (32767 - a) (32768 + b) (omega arith))
off_lt (negsuc a) (negsuc b) h k = both b a (32767 - a) (32767 - b) (λ l. omega arith) (λ l. omega arith)

-- the number that 16 bits hold
pub off_to_z : (n : ℕ) → n < 65536 → off (to_z w16 n) ≡ (n + 32768) % 65536
unfolding off
off_to_z n h = go (ltb n 32768) refl
  where
    go : (t : Bool) → ltb n 32768 ≡ t → off (to_z w16 n) ≡ (n + 32768) % 65536
    go true e = ap off (to_z_pos w16 (ltb-true n 32768 e)) ∙ s (ltb-true n 32768 e)
      where
        s : n < 32768 → 32768 + n ≡ (n + 32768) % 65536
        s l = omega arith
    go false e = ap off (to_z_hi n (ltb-false n 32768 e) h) ∙ s (ltb-false n 32768 e)
      where
        s : 32768 ≤ n → 32767 - (65535 - n) ≡ (n + 32768) % 65536
        s l = omega arith

low_neg : (a : ℤ) → mag a < 32768 → (low16 (neg_ℤ a) + 32768) % 65536 ≡ (65536 - off a) % 65536
unfolding off
low_neg (pos zero) h = refl
low_neg (pos (suc n)) h = omega arith
low_neg (negsuc n) h = omega arith

low_lt : (a : ℤ) → low16 a < 65536
low_lt (pos n) = omega arith
low_lt (negsuc n) = omega arith

pub off_neg : (a : ℤ) → mag a < 32768 → off (neg16 a) ≡ (65536 - off a) % 65536
unfolding neg16 wrap16
off_neg a h = off_to_z (low16 (neg_ℤ a)) (low_lt (neg_ℤ a)) ∙ low_neg a h

low_sub : (a b : ℕ) → a < 32768 → b ≤ 32768 → (low16 (sub_ℕ a b) + 32768) % 65536 ≡ (32768 + a - b) % 65536
low_sub a b h k = sub-ind a b (λ z. (low16 z + 32768) % 65536 ≡ (32768 + a - b) % 65536) (λ l. omega arith) (λ l. omega arith)

low_add : (a b : ℤ) → mag a < 32768 → mag b < 32768 → (low16 (a +ℤ b) + 32768) % 65536 ≡ (off a + off b + 32768) % 65536
unfolding off
low_add (pos a) (pos b) h k = omega arith
low_add (pos a) (negsuc b) h k = omega (arith, low_sub a (suc b) h k)
low_add (negsuc a) (pos b) h k = omega (arith, low_sub b (suc a) k h)
low_add (negsuc a) (negsuc b) h k = omega arith

pub off_add : (a b : ℤ) → mag a < 32768 → mag b < 32768 → off (add16 a b) ≡ (off a + off b + 32768) % 65536
unfolding add16 wrap16
off_add a b h k = off_to_z (low16 (a +ℤ b)) (low_lt (a +ℤ b)) ∙ low_add a b h k

-- what a search needs of negation: it turns the order round, above the least
pub neg_turns : (a b : ℤ) → mag a < 32768 → mag b < 32768 → 0 < off a → off a < off b → off (neg16 b) < off (neg16 a)
neg_turns a b h k p q = omega (arith, off_neg a h, off_neg b k, off_below a h, off_below b k)

both_le : (a b c d : ℕ) → (a ≤ b → c ≤ d) → (c ≤ d → a ≤ b) → leb a b ≡ leb c d
both_le a b c d f g = go (leb a b) refl (leb c d) refl
  where
    go : (t : Bool) → leb a b ≡ t → (u : Bool) → leb c d ≡ u → leb a b ≡ leb c d
    go true e true q = e ∙ sym q
    go true e false q = absurd (omega (arith, f (leb-true a b e), leb-false c d q))
    go false e true q = absurd (omega (arith, g (leb-true c d q), leb-false a b e))
    go false e false q = e ∙ sym q

pub off_le : (a b : ℤ) → mag a < 32768 → mag b < 32768 → le_z a b ≡ leb (off a) (off b)
unfolding off
off_le (pos a) (pos b) h k = both_le a b (32768 + a) (32768 + b) (λ l. omega arith) (λ l. omega arith)
off_le (pos a) (negsuc b) h k = sym (lt-leb (32768 + a) (32767 - b) (omega arith))
off_le (negsuc a) (pos b) h k = sym (le-leb (32767 - a) (32768 + b) (omega arith))
off_le (negsuc a) (negsuc b) h k = both_le b a (32767 - a) (32767 - b) (λ l. omega arith) (λ l. omega arith)

pub off_inj : (a b : ℤ) → mag a < 32768 → mag b < 32768 → off a ≡ off b → a ≡ b
unfolding off
off_inj (pos a) (pos b) h k e = ap pos (omega arith)
off_inj (pos a) (negsuc b) h k e = absurd (omega arith)
off_inj (negsuc a) (pos b) h k e = absurd (omega arith)
off_inj (negsuc a) (negsuc b) h k e = ap negsuc (omega arith)
