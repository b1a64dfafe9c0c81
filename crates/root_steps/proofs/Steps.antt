-- A depth's score where no move was made. Assumes nothing.
use Rattle.std.proofs.Common.{◌≡◌, sym, ap, Bool, pos}
use borrow.Author.Tests.{eq-eqb}
use Rattle.root_steps.specs.declared.Walked.{Walked}
use Rattle.root_steps.specs.Step.{score_if, score_of}

pub score_none : (w : Walked) → w.mv ≡ 0 → pos 0 ≡ score_of w
unfolding score_if
score_none w z = sym (ap (λ (q : Bool). score_if q w.alpha) (eq-eqb w.mv 0 z))
