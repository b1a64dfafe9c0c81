-- The rules hold of the whole table. Assumes nothing.
use mathlib.Core.Path.{◌≡◌}
use Prim.Native.Nat.{ℕ, ◌≤◌}
use native.Mathlib.Omega.{arith}
use borrow.Author.Tests.{le-ltb}
use Rattle.reductions.specs.Reductions.{entry_of, reduction_of}
use Rattle.reductions.specs.Rules.{Rules}
use Rattle.reductions.proofs.Pairs.{steps}
use Rattle.reductions.proofs.Entries.{row_zero, column_zero, others, row_step, column_step}

-- inside of the table the reduction is the entry
pub inside : (d m : ℕ) → d ≤ 31 → m ≤ 63 → reduction_of d m ≡ entry_of d m
inside d m hd hm = simp (le-ltb 31 d hd, le-ltb 63 m hm)

of_entries : Rules entry_of
of_entries =
    record {
      zero_row = row_zero;
      zero_column = column_zero;
      others = others;
      along_row = λ d m n hd l hn. steps (λ (k : ℕ). entry_of d k) 64 (λ k b. row_step d k hd b) m n l (omega arith);
      down_column = λ d e m l he hm. steps (λ (k : ℕ). entry_of k m) 32 (λ k b. column_step k m b hm) d e l (omega arith);
    }

-- the statement of 01, of the definition that the contract of `reduction` cites
pub rules : Rules reduction_of
rules =
    record {
      zero_row = λ m hm. rw (inside 0 m (omega arith) hm) (of_entries.zero_row m hm);
      zero_column = λ d hd. rw (inside d 0 hd (omega arith)) (of_entries.zero_column d hd);
      others = λ d m pd hd pm hm. rw (inside d m hd hm) (of_entries.others d m pd hd pm hm);
      along_row = λ d m n hd l hn. rw (inside d m hd (omega arith), inside d n hd hn) (of_entries.along_row d m n hd l hn);
      down_column = λ d e m l he hm. rw (inside d m (omega arith) hm, inside e m he hm) (of_entries.down_column d e m l he hm);
    }
