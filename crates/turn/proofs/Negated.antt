-- A score's negation in a comparison, told by a sum: what holds in 32 bits, where only -32,768 has to be told apart. Assumes nothing.
use mathlib.Core.Path.{◌≡◌, refl, sym, ap, subst, ◌∙◌}
use mathlib.Core.Bool.{Bool, true, false, cond}
use Prim.Native.Nat.{ℕ, suc, ◌+◌, ◌-◌, ◌<◌}
use native.Mathlib.Omega.{arith}
use lib.Dec.{ltb}
use lib.IntN.{ℤ, pos, negsuc, neg_ℤ, ◌+ℤ◌}
use lib.Signed.{mag, lt_z}
use mir.Syntax.{w32}
use mir.Val.{SFits}
use borrow.Author.Tests.{le-ltb, lt-ltb, ltb-true, ltb-false}
use Rattle.score.specs.Wrap.{low16, wrap16, neg16}
use Rattle.score.proofs.Cases.{sub-ind}
use Rattle.score.proofs.Order.{off, off_below, off_lt, off_neg}
use Rattle.tree.proofs.Within.{read_mag}

-- two tests of numbers agree where each implies the other
same_test : (a b c d : ℕ) (t u : Bool) → ltb a b ≡ t → ltb c d ≡ u → (a < b → c < d) → (c < d → a < b) → ltb a b ≡ ltb c d
same_test a b c d true true p q f g = p ∙ sym q
same_test a b c d true false p q f g = absurd (omega (arith, f (ltb-true a b p), ltb-false c d q))
same_test a b c d false true p q f g = absurd (omega (arith, g (ltb-true c d q), ltb-false a b p))
same_test a b c d false false p q f g = p ∙ sym q

-- a sum against 0
sum_below : (a b : ℤ) → mag a < 32768 → mag b < 32768 → lt_z (a +ℤ b) (pos 0) ≡ ltb (off a + off b) 65536
unfolding off
sum_below (pos a) (pos b) h k = le-ltb (a + b) 0 (omega arith) ∙ sym (le-ltb (32768 + a + (32768 + b)) 65536 (omega arith))
sum_below (pos a) (negsuc b) h k =
    sub-ind a (suc b) (λ (z : ℤ). lt_z z (pos 0) ≡ ltb (32768 + a + (32767 - b)) 65536)
    (λ l. sym (lt-ltb (32768 + a + (32767 - b)) 65536 (omega arith))) (λ l. le-ltb (a - suc b) 0 (omega arith) ∙ sym (le-ltb (32768 + a + (32767 - b)) 65536 (omega arith)))
sum_below (negsuc a) (pos b) h k =
    sub-ind b (suc a) (λ (z : ℤ). lt_z z (pos 0) ≡ ltb (32767 - a + (32768 + b)) 65536)
    (λ l. sym (lt-ltb (32767 - a + (32768 + b)) 65536 (omega arith))) (λ l. le-ltb (b - suc a) 0 (omega arith) ∙ sym (le-ltb (32767 - a + (32768 + b)) 65536 (omega arith)))
sum_below (negsuc a) (negsuc b) h k = sym (lt-ltb (32767 - a + (32767 - b)) 65536 (omega arith))

sum_above : (a b : ℤ) → mag a < 32768 → mag b < 32768 → lt_z (pos 0) (a +ℤ b) ≡ ltb 65536 (off a + off b)
unfolding off
sum_above (pos a) (pos b) h k = same_test 0 (a + b) 65536 (32768 + a + (32768 + b)) (ltb 0 (a + b)) (ltb 65536 (32768 + a + (32768 + b))) refl refl (λ l. omega arith) (λ l. omega arith)
sum_above (pos a) (negsuc b) h k =
    sub-ind a (suc b) (λ (z : ℤ). lt_z (pos 0) z ≡ ltb 65536 (32768 + a + (32767 - b)))
    (λ l. sym (le-ltb 65536 (32768 + a + (32767 - b)) (omega arith)))
    (λ l. same_test 0 (a - suc b) 65536 (32768 + a + (32767 - b)) _ _ refl refl (λ l. omega arith) (λ l. omega arith))
sum_above (negsuc a) (pos b) h k =
    sub-ind b (suc a) (λ (z : ℤ). lt_z (pos 0) z ≡ ltb 65536 (32767 - a + (32768 + b)))
    (λ l. sym (le-ltb 65536 (32767 - a + (32768 + b)) (omega arith)))
    (λ l. same_test 0 (b - suc a) 65536 (32767 - a + (32768 + b)) _ _ refl refl (λ l. omega arith) (λ l. omega arith))
sum_above (negsuc a) (negsuc b) h k = sym (le-ltb 65536 (32767 - a + (32767 - b)) (omega arith))

no : false ≡ true → ⊥
no e = subst (λ (b : Bool). cond b ⊥ Unit) e tt

-- below -32,767 there is one score
least : (s : ℤ) → mag s < 32768 → lt_z s (negsuc 32766) ≡ true → off s ≡ 0
unfolding off
least (pos n) h t = absurd (no t)
least (negsuc n) h t = omega (arith, ltb-true 32766 n t)

not_least : (s : ℤ) → mag s < 32768 → lt_z s (negsuc 32766) ≡ false → 0 < off s
unfolding off
not_least (pos n) h t = omega arith
not_least (negsuc n) h t = omega (arith, ltb-false 32766 n t)

sum_mag : (a b : ℤ) → mag a < 32768 → mag b < 32768 → mag (a +ℤ b) < 65536
sum_mag (pos a) (pos b) h k = omega arith
sum_mag (pos a) (negsuc b) h k = sub-ind a (suc b) (λ (z : ℤ). mag z < 65536) (λ l. omega arith) (λ l. omega arith)
sum_mag (negsuc a) (pos b) h k = sub-ind b (suc a) (λ (z : ℤ). mag z < 65536) (λ l. omega arith) (λ l. omega arith)
sum_mag (negsuc a) (negsuc b) h k = omega arith

pub sum_fits : (a b : ℤ) → mag a < 32768 → mag b < 32768 → SFits w32 (a +ℤ b)
sum_fits a b h k = let m = sum_mag a b h k in record { sfits = omega (arith, m) }

neg_mag : (s : ℤ) → mag (neg16 s) < 32768
unfolding neg16 wrap16
neg_mag s = read_mag (low16 (neg_ℤ s))

-- a score x beside the negation of s
module _ (x s : ℤ) (hx : mag x < 32768) (hs : mag s < 32768) where
  pub least_not_above : lt_z s (negsuc 32766) ≡ true → false ≡ lt_z x (neg16 s)
  least_not_above t = sym (off_lt x (neg16 s) hx (neg_mag s) ∙ le-ltb (off x) (off (neg16 s)) (omega (arith, off_neg s hs, least s hs t)))

  pub least_below : lt_z s (negsuc 32766) ≡ true → lt_z (neg16 s) x ≡ lt_z (negsuc 32767) x
  unfolding off
  least_below t =
      off_lt (neg16 s) x (neg_mag s) hx ∙ ap (λ (k : ℕ). ltb k (off x)) z ∙ sym (off_lt (negsuc 32767) x (omega arith) hx)
    where
      z : off (neg16 s) ≡ 0
      z = omega (arith, off_neg s hs, least s hs t)

  pub sum_is_above : lt_z s (negsuc 32766) ≡ false → lt_z (x +ℤ s) (pos 0) ≡ lt_z x (neg16 s)
  sum_is_above t =
      sum_below x s hx hs
      ∙ same_test (off x + off s) 65536 (off x) (off (neg16 s)) _ _ refl refl
      (λ l. omega (arith, off_neg s hs, not_least s hs t, off_below s hs)) (λ l. omega (arith, off_neg s hs, not_least s hs t, off_below s hs))
      ∙ sym (off_lt x (neg16 s) hx (neg_mag s))

  pub sum_is_below : lt_z s (negsuc 32766) ≡ false → lt_z (neg16 s) x ≡ lt_z (pos 0) (x +ℤ s)
  sum_is_below t =
      off_lt (neg16 s) x (neg_mag s) hx
      ∙ same_test (off (neg16 s)) (off x) 65536 (off x + off s) _ _ refl refl
      (λ l. omega (arith, off_neg s hs, not_least s hs t, off_below s hs)) (λ l. omega (arith, off_neg s hs, not_least s hs t, off_below s hs))
      ∙ sym (sum_above x s hx hs)
