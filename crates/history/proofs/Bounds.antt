-- Gravity: how far an entry can move, that it stays within plus and minus HH_MAX, that nothing wraps there, and that each number on the way fits. Assumes nothing.
use mathlib.Core.Path.{◌≡◌, refl, ap, ap₂, ◌∙◌, subst}
use mathlib.Core.Bool.{Bool, true, false}
use Prim.Native.Nat.{ℕ, zero, suc, ◌+◌, ◌-◌, ◌*◌, ◌/◌, ◌<◌, ◌≤◌}
use native.Mathlib.Nat.{mul-le-mul, zero-mul, mul_comm, mul-le-mul_left, mul-le-mul_right, mul-add, div-le_of_le-mul, le-div_iff_mul-le}
use native.Mathlib.Omega.{arith}
use borrow.Author.Tests.{leb-true, leb-false}
use lib.Dec.{leb}
use lib.IntN.{ℤ, pos, negsuc, neg_ℤ, nat_abs, sub_ℕ, ◌+ℤ◌, ◌*ℤ◌}
use lib.Signed.{mag, nat_abs-le, quot_z}
use mir.Syntax.{w16, w32}
use mir.Val.{SFits}
use Rattle.score.proofs.Diff.{diff_neg, diff_add, diff_abs, pos_diff, up, dn, as_diff, abs_mul, abs_add, fits_abs, quot_neg}
use Rattle.score.proofs.Wrapping.{wrap_mid}
use Rattle.history.specs.Gravity.{new_of, gravity_of}

-- what is taken off an entry of size a that moves by w: at most all of it, and enough to stay within H
cross : (a s t : ℕ) → t ≤ a → t * (a + s) ≤ a * (t + s)
cross a s t h = omega (arith, mul-add t a s, mul-add a t s, mul_comm t a, mul-le-mul_right s h)

taken_le : (H a w : ℕ) → w ≤ H → a * w / H ≤ a
taken_le H a w hw = div-le_of_le-mul H (omega (arith, mul-le-mul_left a hw, mul_comm a H))

taken_ge : (H a w : ℕ) → a ≤ H → w ≤ H → a + w ≤ H + a * w / H
taken_ge zero a w ha hw = omega arith
taken_ge (suc k) a w ha hw = omega (arith, (le-div_iff_mul-le {k = H} {x = a + w - H} {y = a * w} (omega arith)).1 (go (leb H (a + w)) refl))
  where
    H : ℕ
    H = suc k

    go : (b : Bool) → leb H (a + w) ≡ b → (a + w - H) * H ≤ a * w
    go true e =
        subst (λ (x : ℕ). (a + w - H) * x ≤ a * w) (whole (leb-true H (a + w) e))
        (subst (λ (x : ℕ). (a + w - H) * (a + (H - a)) ≤ a * x) (rest (leb-true H (a + w) e)) (cross a (H - a) (a + w - H) (omega arith)))
      where
        whole : H ≤ a + w → a + (H - a) ≡ H
        whole l = omega arith

        rest : H ≤ a + w → a + w - H + (H - a) ≡ w
        rest l = omega arith
    go false e = subst (λ (x : ℕ). x * H ≤ a * w) (none (leb-false H (a + w) e)) (omega (arith, zero-mul H))
      where
        none : a + w < H → 0 ≡ a + w - H
        none l = omega arith

-- new, as a difference of naturals
quot_pos : (H a w : ℕ) → quot_z (pos a *ℤ pos w) (pos H) ≡ sub_ℕ (a * w / H) 0
quot_pos H a w = pos_diff (a * w / H)

quot_negsuc : (H b w : ℕ) → quot_z (negsuc b *ℤ pos w) (pos H) ≡ sub_ℕ 0 (suc b * w / H)
quot_negsuc H b w = quot_neg (suc b * w) H ∙ ap neg_ℤ (pos_diff (suc b * w / H)) ∙ diff_neg (suc b * w / H) 0

new_diff : (H : ℕ) (old v : ℤ) (x y : ℕ) → quot_z (old *ℤ pos (nat_abs v)) (pos H) ≡ sub_ℕ x y → new_of H old v ≡ sub_ℕ (up old + up v + y) (dn old + dn v + x)
unfolding new_of
new_diff H old v x y e =
    ap₂ ◌+ℤ◌ (ap₂ ◌+ℤ◌ (as_diff old) (as_diff v) ∙ diff_add (up old) (dn old) (up v) (dn v)) (ap neg_ℤ e ∙ diff_neg x y)
    ∙ diff_add (up old + up v) (dn old + dn v) y x

parts : (v : ℤ) → up v + dn v ≡ nat_abs v
parts (pos n) = omega arith
parts (negsuc n) = omega arith

-- new within K, from two bounds on what is taken off: one law for both signs of old and of v
new_within : (H K : ℕ) (old v : ℤ) → nat_abs v ≤ H → nat_abs old + nat_abs v ≤ K + nat_abs old * nat_abs v / H → nat_abs v ≤ K → nat_abs (new_of H old v) ≤ K
new_within H K (pos a) v hv ge k =
    rw (new_diff H (pos a) v (a * nat_abs v / H) 0 (quot_pos H a (nat_abs v)))
    (diff_abs (a + up v + 0) (0 + dn v + a * nat_abs v / H) K (omega (arith, parts v)) (omega (arith, parts v, taken_le H a (nat_abs v) hv)))
new_within H K (negsuc b) v hv ge k =
    rw (new_diff H (negsuc b) v 0 (suc b * nat_abs v / H) (quot_negsuc H b (nat_abs v)))
    (diff_abs (0 + up v + suc b * nat_abs v / H) (suc b + dn v + 0) K (omega (arith, parts v, taken_le H (suc b) (nat_abs v) hv)) (omega (arith, parts v)))

-- 01: "The entry stays within plus and minus HH_MAX when old is": new does
pub new_in : (hh : ℕ) (old v : ℤ) → nat_abs old ≤ hh → nat_abs v ≤ hh → nat_abs (new_of hh old v) ≤ hh
new_in hh old v ho hv = new_within hh hh old v hv (taken_ge hh (nat_abs old) (nat_abs v) ho hv) hv

-- whatever old is, new is no farther from 0 than old and v together
pub new_far : (hh : ℕ) (old v : ℤ) → nat_abs v ≤ hh → nat_abs (new_of hh old v) ≤ nat_abs old + nat_abs v
new_far hh old v hv = new_within hh (nat_abs old + nat_abs v) old v hv (omega arith) (omega arith)

-- nothing wraps there
pub gravity_plain : (hh : ℕ) (old v : ℤ) → hh ≤ 16384 → nat_abs old ≤ hh → nat_abs v ≤ hh → gravity_of hh old v ≡ new_of hh old v
unfolding gravity_of
gravity_plain hh old v top ho hv =
    wrap_mid (new_of hh old v) (fits_abs w16 (new_of hh old v) (omega (arith, new_in hh old v ho hv))).sfits

-- 01: "The entry stays within plus and minus HH_MAX when old is."
pub gravity_in : (hh : ℕ) (old v : ℤ) → hh ≤ 16384 → nat_abs old ≤ hh → nat_abs v ≤ hh → nat_abs (gravity_of hh old v) ≤ hh
gravity_in hh old v top ho hv = rw (gravity_plain hh old v top ho hv) (new_in hh old v ho hv)

-- the numbers on the way, for an entry of 16 bits and a v of at most a quarter of HH_MAX, itself of 16 bits
quot_le : (hh : ℕ) (old : ℤ) (w : ℕ) → w ≤ hh → nat_abs (quot_z (old *ℤ pos w) (pos hh)) ≤ nat_abs old
quot_le hh (pos a) w hw = omega (arith, taken_le hh a w hw)
quot_le hh (negsuc b) w hw =
    rw (quot_negsuc hh b w) (diff_abs 0 (suc b * w / hh) (suc b) (omega arith) (omega (arith, taken_le hh (suc b) w hw)))

module _ (hh : ℕ) (old v : ℤ) (f : SFits w16 old) (u : hh < 65536) (hv : nat_abs v ≤ hh / 4) where
  old-size : nat_abs old ≤ 32768
  old-size = nat_abs-le old f.sfits

  pub sum32 : SFits w32 (old +ℤ v)
  sum32 = fits_abs w32 (old +ℤ v) (omega (arith, old-size, abs_add old v))

  pub prod32 : SFits w32 (old *ℤ pos (nat_abs v))
  prod32 =
      let m = mul-le-mul {n₁ = nat_abs old} {m₁ = nat_abs v} {n₂ = 32768} {m₂ = 16384} old-size (omega arith) in
      fits_abs w32 (old *ℤ pos (nat_abs v)) (omega (arith, abs_mul old (pos (nat_abs v))))

  pub quot32 : SFits w32 (quot_z (old *ℤ pos (nat_abs v)) (pos hh))
  quot32 = fits_abs w32 (quot_z (old *ℤ pos (nat_abs v)) (pos hh)) (omega (arith, old-size, quot_le hh old (nat_abs v) (omega arith)))

  new-abs : nat_abs (new_of hh old v) < 65536
  new-abs = omega (arith, old-size, new_far hh old v (omega arith))

  pub new_mag : mag (new_of hh old v) < 65536
  new_mag = omega (arith, mag-le (new_of hh old v), new-abs)
    where
      mag-le : (z : ℤ) → mag z ≤ nat_abs z
      mag-le (pos n) = omega arith
      mag-le (negsuc n) = omega arith

  pub new32 : SFits w32 (new_of hh old v)
  new32 = fits_abs w32 (new_of hh old v) (omega (arith, new-abs))
