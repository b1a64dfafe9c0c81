-- History: the delta of a depth, and what gravity makes of an entry, over the integers. Assumes nothing.
use Rattle.std.specs.Prelude.{ℕ, ◌/◌, min, ℤ, pos, negsuc, nat_abs, ◌+ℤ◌, ◌-ℤ◌, ◌*ℤ◌}
use Rattle.std.specs.Int.Signed.{quot_z}
use Rattle.score.specs.Wrap.{wrap16}

-- 01, History and clock: "16d^2 + 128d - 256"
unfoldable pub curve : ℤ → ℤ
curve d = pos 16 *ℤ d *ℤ d +ℤ pos 128 *ℤ d -ℤ pos 256

-- 01, History and clock: "held to 0..HH_MAX/4", for any most in place of HH_MAX/4
unfoldable pub held : ℤ → ℕ → ℕ
held (pos n) most = min n most
held (negsuc n) most = 0

-- 01, History and clock: "Delta: 16d^2 + 128d - 256, held to 0..HH_MAX/4 (rounded down)."
unfoldable pub delta_of : ℕ → ℤ → ℕ
delta_of hh d = held (curve d) (hh / 4)

-- 01, History and clock: "New = old + v - old*|v|/HH_MAX, division toward zero"
unfoldable pub new_of : ℕ → ℤ → ℤ → ℤ
new_of hh old v = old +ℤ v -ℤ quot_z (old *ℤ pos (nat_abs v)) (pos hh)

-- 003: "new as Score", the low 16 bits of new; within plus and minus HH_MAX that is new itself
unfoldable pub gravity_of : ℕ → ℤ → ℤ → ℤ
gravity_of hh old v = wrap16 (new_of hh old v)
