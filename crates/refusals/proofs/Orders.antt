-- Orders of an integer and numbers below it. Assumes nothing.
use mathlib.Core.Path.{◌≡◌}
use mathlib.Core.Bool.{true, false≢true}
use Prim.Native.Nat.{ℕ, ◌≤◌, ◌<◌}
use native.Mathlib.Omega.{arith}
use lib.IntN.{ℤ, pos, negsuc}
use lib.Signed.{lt_z, le_z}
use borrow.Author.Tests.{le-leb, lt-ltb, leb-true}

-- an integer from k on is above each number below k, and from each number up to k on

pub from_above : (j k : ℕ) (z : ℤ) → j < k → le_z (pos k) z ≡ true → lt_z (pos j) z ≡ true
from_above j k (pos n) l e = lt-ltb j n (omega (arith, leb-true k n e))
from_above j k (negsuc n) l e = absurd (false≢true e)

pub from_lower : (j k : ℕ) (z : ℤ) → j ≤ k → le_z (pos k) z ≡ true → le_z (pos j) z ≡ true
from_lower j k (pos n) l e = le-leb j n (omega (arith, leb-true k n e))
from_lower j k (negsuc n) l e = absurd (false≢true e)
