-- What a score found in a window tells of a value, over images (`off`): `min beta v ≤ s ≤ max alpha v`. That is demand 3's three cases in two lines that
-- `omega` reads. Assumes nothing.
use mathlib.Core.Path.{◌≡◌, sym}
use mathlib.Core.Bool.{Bool, true, false, ◌&&◌, true≢false}
use Prim.Native.Nat.{ℕ, suc, ◌-◌, ◌≤◌, ◌<◌, max, min}
use native.Mathlib.Omega.{arith}
use lib.IntN.{ℤ, pos}
use lib.Signed.{lt_z}
use Rattle.score.specs.Wrap.{neg16, sub16}
use Rattle.score.proofs.Order.{off}
use Rattle.score.proofs.Range.{InR, InZ, neg_eq, neg_in, less_one, lt_not}

pub record Tells (inf alpha beta s v : ℕ) : Type 0 where
  pub range : InR inf s
  pub under : s ≤ max alpha v
  pub over : min beta v ≤ s

-- a window within plus and minus INF
pub record Window (inf : ℕ) (alpha beta : ℤ) : Type 0 where
  pub alpha_in : InZ inf alpha
  pub beta_in : InZ inf beta
  pub order : off alpha < off beta

pub same_tells : (inf alpha beta s : ℕ) → InR inf s → Tells inf alpha beta s s
same_tells inf alpha beta s r = record { range = r; under = omega arith; over = omega arith }

module _ (inf : ℕ) (i : inf ≤ 30000) (alpha beta : ℤ) (w : Window inf alpha beta) where
  -- a window whose alpha was raised
  pub raised_window : (a : ℤ) (m : ℕ) → off a ≡ max (off alpha) m → off a < off beta → Window inf a beta
  raised_window a m e l = record { alpha_in = record { low = omega arith; high = omega arith }; beta_in = w.beta_in; order = l }

  -- a child's window
  pub neg_window : Window inf (neg16 beta) (neg16 alpha)
  neg_window =
      let ea = neg_eq inf alpha i w.alpha_in in
      let eb = neg_eq inf beta i w.beta_in in
      record { alpha_in = neg_in inf beta i w.beta_in; beta_in = neg_in inf alpha i w.alpha_in; order = omega arith }

  -- a child's score, negated, tells of the child's value, negated
  pub neg_tells : (r : ℤ) (u : ℕ) → InR inf u → Tells inf (off (neg16 beta)) (off (neg16 alpha)) (off r) u → Tells inf (off alpha) (off beta) (off (neg16 r)) (65536 - u)
  neg_tells r u iu t =
      let ea = neg_eq inf alpha i w.alpha_in in
      let eb = neg_eq inf beta i w.beta_in in
      let er = neg_eq inf r i t.range in
      record { range = neg_in inf r i t.range; under = omega arith; over = omega arith }

  -- the null window is the window from alpha to alpha + 1

  pub null_window : Window inf (sub16 (neg16 alpha) (pos 1)) (neg16 alpha)
  null_window =
      let e = neg_eq inf alpha i w.alpha_in in
      let n = neg_in inf alpha i w.alpha_in in
      let l = less_one inf (neg16 alpha) i n (omega arith) in
      record { alpha_in = record { low = omega arith; high = omega arith }; beta_in = n; order = omega arith }

  pub null-tells
      : (r : ℤ) (u : ℕ) → InR inf u → Tells inf (off (sub16 (neg16 alpha) (pos 1))) (off (neg16 alpha)) (off r) u
      → Tells inf (off alpha) (suc (off alpha)) (off (neg16 r)) (65536 - u)
  null-tells r u iu t =
      let e = neg_eq inf alpha i w.alpha_in in
      let n = neg_in inf alpha i w.alpha_in in
      let l = less_one inf (neg16 alpha) i n (omega arith) in
      let er = neg_eq inf r i t.range in
      record { range = neg_in inf r i t.range; under = omega arith; over = omega arith }

-- a null window's score that is not strictly inside the window is as good as the window's own
pub outside-tells
    : (inf : ℕ) (alpha beta x : ℤ) (y : ℕ) (p q : Bool) → p ≡ lt_z alpha x → q ≡ lt_z x beta → p && q ≡ false
    → Tells inf (off alpha) (suc (off alpha)) (off x) y → Tells inf (off alpha) (off beta) (off x) y
outside-tells inf alpha beta x y true true ep eq e t = absurd (true≢false e)
outside-tells inf alpha beta x y true false ep eq e t = let l = lt_not x beta (sym eq) in record { range = t.range; under = t.under; over = omega arith }
outside-tells inf alpha beta x y false q ep eq e t = let l = lt_not alpha x (sym ep) in record { range = t.range; under = t.under; over = omega arith }
