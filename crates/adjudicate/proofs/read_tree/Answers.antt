-- `adjudicate::read_tree` meets its contract and ends: each turn adds at least a byte, and the buffer keeps its length.
-- Assumes nothing.
use Rattle.std.proofs.Common.{rules, Ok, sym, ap, ◌∙◌}
use Rattle.adjudicate.proofs.Reading.{step_takes, step_consumes, step_ended, take_part, take_before, consumes_none, consumes_both}
use Rattle.adjudicate.proofs.read_tree.Goals as goal

pub loop-done-init : goal.loop-done-init
loop-done-init g c = record { within = search rules; kept = search rules; first = consumes_none (g.R.Read.remaining c.args.from.now) c.args.buf.now }

pub overflow_add-done : goal.overflow_add-done
overflow_add-done g c =
    let t = step_takes c.read-got.result _ c.loop-done.done c.in-Some.n (sym c.outcome.ensures ∙ c.in_ok-n.was ∙ ap Ok c.in-Some.is) (search rules) in
    search rules

pub loop-done-smaller : goal.loop-done-smaller
loop-done-smaller g c =
    let t = step_takes c.read-got.result _ c.loop-done.done c.in-Some.n (sym c.outcome.ensures ∙ c.in_ok-n.was ∙ ap Ok c.in-Some.is) (search rules) in
    search rules

pub loop-done-preserved : goal.loop-done-preserved
loop-done-preserved g c =
    let t = step_takes c.read-got.result _ c.loop-done.done c.in-Some.n (sym c.outcome.ensures ∙ c.in_ok-n.was ∙ ap Ok c.in-Some.is) (search rules) in
    let s = step_consumes c.read-got.result (g.R.Read.remaining c.loop-done.from) (g.R.Read.remaining c.read-got.new.self) c.read-got.new.buf _ c.in-Some.n (sym c.outcome.ensures ∙ c.in_ok-n.was ∙ ap Ok c.in-Some.is) (search rules) c.read-got.ensures.bound c.read-got.ensures.bytes in
    record {
      within = search rules;
      kept = search rules;
      first = rw (take_part c.loop-done.buf c.read-got.new.buf _ c.loop-done.done c.in-Some.n (search rules) s.0)
          (consumes_both (g.R.Read.remaining c.args.from.now) (g.R.Read.remaining c.loop-done.from) (g.R.Read.remaining c.read-got.new.self) _ _ c.loop-done.invariant.first s.1);
    }

pub returns-in-None-clause-first : goal.returns-in-None-clause-first
returns-in-None-clause-first g c =
    let s = step_ended c.read-got.result (g.R.Read.remaining c.loop-done.from) (g.R.Read.remaining c.read-got.new.self) c.read-got.new.buf _ (sym c.outcome.ensures ∙ c.in_ok-n.was ∙ ap Ok c.in-None.is) (search rules) c.read-got.ensures.bytes in (
      rw (take_before c.loop-done.buf c.read-got.new.buf _ c.loop-done.done (search rules))
          (consumes_both (g.R.Read.remaining c.args.from.now) (g.R.Read.remaining c.loop-done.from) (g.R.Read.remaining c.read-got.new.self) _ _ c.loop-done.invariant.first s.0),
      λ _. s.1,
    )
