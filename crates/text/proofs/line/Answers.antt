-- `text::line` meets its contract: a refusal has its own line. Assumes nothing.
use Rattle.std.proofs.Common.{sym, ap, ◌∙◌}
use Rattle.text.specs.Text.{refused_line, line_by, line_of}
use Rattle.text.proofs.Lines.{line_refused}
use Rattle.text.proofs.line.Goals as goal
use Rattle.results.specs.Told.{told_root}

pub returns-in-Err : goal.returns-in-Err
returns-in-Err c stats =
    c.refused_line.ensures ∙ ap refused_line c.number.ensures ∙ line_refused c.in-Err.r stats
    ∙ ap (λ told. line_of (told_root told stats)) (sym c.in-Err.is)

pub returns-in-Ok : goal.returns-in-Ok
unfolding line_by
returns-in-Ok c stats = c.answer_line.ensures stats ∙ ap (λ told. line_of (told_root told stats)) (sym c.in-Ok.is)
