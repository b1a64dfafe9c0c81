-- Bytes put into a buffer: a word copied into the part from a place on. Assumes nothing.
use mathlib.Core.Path.{◌≡◌, ap, ◌∙◌}
use mathlib.Core.List.{List, ◌++◌, append_assoc}
use Prim.Native.Nat.{ℕ, ◌+◌, ◌≤◌}
use native.Mathlib.Omega.{arith}
use lib.ListN.{length, take, length-append}
use lib.Seq.{take_at, length-take-le}
use Rattle.text.specs.Text.{Put}

-- the part from `at` on, after a copy of the word to its start
pub put_part : (before word rest part post : List ℕ) (at n : ℕ) → at ≤ length before → n ≡ length word → part ≡ word ++ rest
    → Put before at word (take at before ++ (part ++ post)) (at + n)
put_part before word rest part post at n l e p =
    record {
      place = omega arith;
      bytes =
          let g : take at before ++ ((word ++ rest) ++ post) ≡ (take at before ++ word) ++ (rest ++ post) = simp append_assoc in
          let m : length (take at before ++ word) ≡ at + n = length-append (take at before) word ∙ omega (arith, length-take-le at before l) in
          ap (λ (x : List ℕ). take (at + n) (take at before ++ (x ++ post))) p ∙ ap (take (at + n)) g
          ∙ take_at (take at before ++ word) (rest ++ post) (at + n) m;
    }
