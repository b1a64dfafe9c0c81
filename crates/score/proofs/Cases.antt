-- Cases: a difference of naturals, and a test's value as a fact. Assumes nothing.
use mathlib.Core.Path.{◌≡◌, sym, subst}
use mathlib.Core.Bool.{Bool, true, false, not, cond}
use Prim.Native.Nat.{ℕ, suc, ◌-◌, ◌<◌, ◌≤◌}
use lib.Dec.{T, ltb, ltb→lt, nltb→le}
use lib.IntN.{ℤ, pos, negsuc, sub_ℕ}

cond_ind {ℓ} : (c : Bool) (x y : ℤ) (P : ℤ → Type ℓ) → (T c → P x) → (T (not c) → P y) → P (cond c x y)
cond_ind true x y P f g = f tt
cond_ind false x y P f g = g tt

-- a difference of naturals, by cases
pub sub-ind {ℓ} : (a b : ℕ) (P : ℤ → Type ℓ) → (a < b → P (negsuc (b - suc a))) → (b ≤ a → P (pos (a - b))) → P (sub_ℕ a b)
sub-ind a b P f g = cond_ind (ltb a b) (negsuc (b - suc a)) (pos (a - b)) P (λ t. f (ltb→lt a b t)) (λ t. g (nltb→le a b t))

pub holds : {b : Bool} → b ≡ true → T b
holds {b} e = subst T (sym e) tt
