-- A margin for each depth, as the steps cast it: it fits, and is the product. Assumes nothing.
use mathlib.Core.Path.{◌≡◌, sym, ap, subst, ◌∙◌}
use Prim.Native.Nat.{ℕ, ◌*◌, ◌<◌}
use lib.IntN.{ℤ, pos, ◌*ℤ◌}
use mir.Syntax.{w16}
use mir.Val.{SFits, to_z, of_z}
use mir.Facts.{to_z-of_z, to_z_pos}

module _ (m d : ℕ) (small : d < 32768) (h : m * d < 32768) where
  product : pos m *ℤ to_z w16 d ≡ pos (m * d)
  product = ap (λ (z : ℤ). pos m *ℤ z) (to_z_pos w16 small)

  pub margin_fits : SFits w16 (pos m *ℤ to_z w16 d)
  margin_fits = subst (SFits w16) (sym product) (record { sfits = h })

  pub margin_is : to_z w16 (of_z w16 (pos m *ℤ to_z w16 d)) ≡ pos (m * d)
  margin_is = to_z-of_z margin_fits ∙ product
