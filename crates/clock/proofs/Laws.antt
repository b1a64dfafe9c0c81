-- What the tests of the refusals say about the numbers of a clock, and that no sum of them wraps. Assumes nothing.
use mathlib.Core.Path.{◌≡◌}
use mathlib.Core.Bool.{false}
use Prim.Native.Nat.{ℕ, ◌+◌, ◌-◌, ◌*◌, ◌^◌, ◌<◌, ◌≤◌}
use native.Mathlib.Nat.{mul-le-mul}
use native.Mathlib.Omega.{arith}
use Rattle.std.proofs.lemmas.Bool.Decides.{nat_tests}
use Rattle.clock.specs.declared.Clock.{Clock}
use Rattle.clock.specs.Refusals.{ply_out, now_out, allocation_refused, poll_refused}

pub ply_from : (ply : ℕ) → ply_out ply ≡ false → 1 ≤ ply
ply_from ply e = grind (arith, nat_tests)

pub ply_to : (ply : ℕ) → ply_out ply ≡ false → ply ≤ 65535
ply_to ply e = grind (arith, nat_tests)

module _ (c : Clock) (e : allocation_refused c ≡ false) where
  pub time_to : c.time ≤ 4294967295
  time_to = grind (arith, nat_tests)

module _ (c : Clock) (now : ℕ) (e : now_out c now ≡ false) where
  pub now_from : c.started ≤ now
  now_from = grind (arith, nat_tests)

  pub now_to : now - c.started ≤ 4294967295
  now_to = grind (arith, nat_tests)

-- what a poll that is not refused may go by
pub record Polls (c : Clock) (nodes now : ℕ) : Type 0 where
  pub count : c.last ≤ nodes
  pub allocation : allocation_refused c ≡ false
  pub within : now_out c now ≡ false

pub polls : (c : Clock) (nodes now : ℕ) → poll_refused c nodes now ≡ false → Polls c nodes now
polls c nodes now e =
    record { count = grind (arith, nat_tests); allocation = grind (arith, nat_tests); within = grind (arith, nat_tests) }

-- the increments of all moves that remain fit 64 bits, also with the time
pub product_fits : {moves increment : ℕ} → moves ≤ 65535 → increment ≤ 65535 → moves * increment < 2 ^ 64
product_fits hm hi = omega (arith, mul-le-mul hm hi)

pub sum_fits : {time moves increment : ℕ} → time ≤ 4294967295 → moves ≤ 65535 → increment ≤ 65535 → time + moves * increment < 2 ^ 64
sum_fits ht hm hi = omega (arith, mul-le-mul hm hi)
