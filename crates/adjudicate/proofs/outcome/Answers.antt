-- `adjudicate::outcome` meets its contract: the answer's case decides. Assumes nothing.
use Rattle.std.proofs.Common.{rules, Ok, Err, Some, sym, ap, ◌∙◌}
use Rattle.std.proofs.lemmas.Result.{err_from_is_err_and}
use Rattle.adjudicate.proofs.Reading.{step_more, step_failed, step_end}
use Rattle.adjudicate.proofs.outcome.Goals as goal

pub returns-in_err-n : goal.returns-in_err-n
returns-in_err-n c =
    let p = err_from_is_err_and c.from_residual.result c.from_residual.ensures.1 in
    p.1 ∙ ap Err p.2 ∙ sym (step_failed _ _ _ c.in_err-n.was)

pub returns-in-0 : goal.returns-in-0
returns-in-0 c = sym (step_end _ _ _ c.in_ok-n.was c.in-0.is)

pub returns-in_default : goal.returns-in_default
returns-in_default c = ap (λ k. Ok (Some k)) c.min.ensures ∙ sym (step_more _ _ _ c.in_ok-n.was (search rules))
