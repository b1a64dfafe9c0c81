-- Two's complement at any width: the bits of a number below zero, the number that high bits hold, and both ways there and back. Assumes nothing.
use mathlib.Core.Path.{◌≡◌, refl, sym, ap, ◌∙◌, subst}
use mathlib.Core.Bool.{Bool, true, false}
use Prim.Native.Nat.{ℕ, suc, ◌-◌, ◌^◌, ◌<◌, ◌≤◌}
use native.Mathlib.Omega.{arith}
use lib.Dec.{ltb, eqb}
use lib.IntN.{ℤ, pos, negsuc}
use lib.Signed.{mag}
use mir.Syntax.{Width, w16}
use mir.Val.{SFits, to_z, of_z, sel, bits, hbits}
use mir.Facts.{to_z-of_z, to_z_pos}
use borrow.Author.Tests.{le-ltb, eqb-true, eqb-false, eq-eqb, ne_eqb, ltb-true, ltb-false}
use Rattle.score.specs.Wrap.{eq_z}
use Rattle.score.specs.Bits.{bits_of, signed_of}

pub to_z_big : (w : Width) (n : ℕ) → 2 ^ hbits w ≤ n → to_z w n ≡ negsuc (2 ^ bits w - suc n)
to_z_big w n h = ap (λ (t : Bool). sel t (pos n) (negsuc (2 ^ bits w - suc n))) (le-ltb n (2 ^ hbits w) h)

-- equality: the bits' equality is the numbers', and a test that computes
pub same_bits : (w : Width) {a b : ℤ} → SFits w a → SFits w b → of_z w a ≡ of_z w b → a ≡ b
same_bits w fa fb e = sym (to_z-of_z fa) ∙ ap (to_z w) e ∙ to_z-of_z fb

pub eq_z_yes : (a b : ℤ) → a ≡ b → eq_z a b ≡ true
unfolding eq_z
eq_z_yes a b e = subst (λ (x : ℤ). eq_z a x ≡ true) e (itself a)
  where
    itself : (a : ℤ) → eq_z a a ≡ true
    itself (pos n) = eq-eqb n n refl
    itself (negsuc n) = eq-eqb n n refl

pub eq_z_no : (a b : ℤ) → (a ≡ b → ⊥) → eq_z a b ≡ false
unfolding eq_z
eq_z_no (pos a) (pos b) h = ne_eqb a b (λ e. h (ap pos e))
eq_z_no (pos a) (negsuc b) h = refl
eq_z_no (negsuc a) (pos b) h = refl
eq_z_no (negsuc a) (negsuc b) h = ne_eqb a b (λ e. h (ap negsuc e))

pub same_is : (a b : ℤ) → SFits w16 a → SFits w16 b → eqb (of_z w16 a) (of_z w16 b) ≡ eq_z a b
same_is a b f g = go (eqb (of_z w16 a) (of_z w16 b)) refl
  where
    go : (t : Bool) → eqb (of_z w16 a) (of_z w16 b) ≡ t → eqb (of_z w16 a) (of_z w16 b) ≡ eq_z a b
    go true e = e ∙ sym (eq_z_yes a b (same_bits w16 f g (eqb-true (of_z w16 a) (of_z w16 b) e)))
    go false e = e ∙ sym (eq_z_no a b (λ q. eqb-false (of_z w16 a) (of_z w16 b) e (ap (of_z w16) q)))

-- there and back: the bits of a number that fits hold that number
pub signed_bits : (w : Width) (z : ℤ) → SFits w z → signed_of w (bits_of w z) ≡ z
signed_bits w z f = to_z-of_z f

-- and back again: the number that some bits hold has these bits
pub bits_signed : (w : Width) (n : ℕ) → n < 2 ^ bits w → bits_of w (signed_of w n) ≡ n
bits_signed w n h = go (ltb n (2 ^ hbits w)) refl
  where
    go : (t : Bool) → ltb n (2 ^ hbits w) ≡ t → of_z w (to_z w n) ≡ n
    go true e = ap (of_z w) (to_z_pos w (ltb-true n (2 ^ hbits w) e))
    go false e = ap (of_z w) (to_z_big w n (ltb-false n (2 ^ hbits w) e)) ∙ whole
      where
        whole : 2 ^ bits w - suc (2 ^ bits w - suc n) ≡ n
        whole = omega arith

-- what reaches a proof by its bits is the number itself
pub back16 : {z : ℤ} → mag z < 32768 → to_z w16 (of_z w16 z) ≡ z
back16 {z} h = to_z-of_z {w = w16} (record { sfits = h })

pub through : {z y : ℤ} → mag z < 32768 → z ≡ y → to_z w16 (of_z w16 z) ≡ y
through {z} {y} h e = back16 {z = z} h ∙ e

-- what a leaf said of a number that went to it by its bits
pub said : {A : Type 0} (f : ℤ → A) {r : A} {z : ℤ} → mag z < 32768 → r ≡ f (to_z w16 (of_z w16 z)) → r ≡ f z
said f {r} {z} h e = e ∙ ap f (back16 {z = z} h)
