-- XOR undoes itself: the hash word and the data word give the hash back. Assumes nothing.
use mathlib.Core.Path.{◌≡◌}
use Prim.Native.Nat.{ℕ, ◌+◌, ◌%◌, ◌<◌}
use native.Mathlib.Omega.{arith}
use lib.Bits.{bit_xor}
use Rattle.std.specs.Int.{bit_at}
use Rattle.std.proofs.lemmas.Nat.Bits.{bit_at_xor, bit_at-lt, same_from_bits}

-- at one bit
back : (x y z w : ℕ) → z ≡ (x + y) % 2 → w ≡ (z + y) % 2 → x < 2 → w ≡ x
back x y z w p q h = omega arith

-- and at all of them
pub xor_back : (a b : ℕ) → bit_xor (bit_xor a b) b ≡ a
xor_back a b =
    same_from_bits (bit_xor (bit_xor a b) b) a
    (λ i. back (bit_at a i) (bit_at b i) (bit_at (bit_xor a b) i) (bit_at (bit_xor (bit_xor a b) b) i) (bit_at_xor a b i) (bit_at_xor (bit_xor a b) b i) (bit_at-lt a i))
