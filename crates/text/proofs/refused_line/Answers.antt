-- `text::refused_line` meets its contract: the word, the number, the end of the line. Assumes nothing.
use Rattle.std.proofs.Common.{rules}
use Rattle.text.specs.Text.{ascii}
use Rattle.text.proofs.Lines.{refused}
use Rattle.text.proofs.refused_line.Goals as goal

pub returns : goal.returns
unfolding ascii
returns c = refused c.args.refusal (search rules) (rw c.new-line.ensures at c.put.ensures.put) c.push_str.ensures.bytes
