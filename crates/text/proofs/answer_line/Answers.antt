-- `text::answer_line` meets its contract: what was found, how, the end of the line. Assumes nothing.
use Rattle.std.proofs.Common.{Ok, ◌++◌, ap, ◌∙◌, rules, SFits, w16, to_z-of_z}
use Rattle.std.specs.Fmt.{signed_decimal}
use Rattle.text.specs.Text.{ascii}
use Rattle.text.proofs.Lines.{Fit, answered}
use Rattle.text.proofs.answer_line.Goals as goal
use Rattle.results.specs.Told.{told_root}

pub returns : goal.returns
unfolding ascii
returns c stats =
    let r = told_root (Ok c.args.a) stats in
    let score : SFits w16 c.args.a.score = search rules in
    let fit : Fit r = record { score = score.sfits; mv = search rules; depth = search rules; nodes = search rules } in
    let first = (rw c.new-line.ensures at c.put.ensures.put) ∙ ap (λ z. ascii "score " ++ signed_decimal z) (to_z-of_z score) in
    let last = rw c.from.ensures at c.put-5.ensures.put in
    answered r fit first c.put-2.ensures.put c.put-3.ensures.put c.put-4.ensures.put last c.push_str.ensures.bytes
