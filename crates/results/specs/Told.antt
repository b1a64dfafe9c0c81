-- What a search's answer tells in 01's words, as one record: the refusal's number, the values, the age and counters after the call.
-- Assumes nothing.
use Rattle.std.specs.Prelude.{Bool, false, ℕ, ℤ, pos, Ok, Err}
use Rattle.std.specs.declared.result.Result.{Result}
use Rattle.refusal.specs.declared.Refusal.{Refusal}
use Rattle.refusal.specs.Number.{number_of}
use Rattle.table.specs.declared.Stats.{Stats}
use Rattle.results.specs.declared.NodeAnswer.{NodeAnswer}
use Rattle.results.specs.declared.RootAnswer.{RootAnswer}

-- what is told of a node search: the refusal's number, 0 for none; what it answers; the age and counters after it
pub record NodeResult : Type 0 where
  pub refusal : ℕ
  pub score : ℤ
  pub nodes : ℕ
  pub stopped : Bool
  pub stats : Stats

-- 01, Refusal numbers: "A refusal returns its number with every result number 0, and lent memory is unchanged; clock, age and counters come back
-- from a refused call as they went in."
abbrev pub node_refused : ℕ → Stats → NodeResult
node_refused r c = record { refusal = r; score = pos 0; nodes = 0; stopped = false; stats = c }

-- what is told of a root search: the refusal's number, 0 for none; what it answers; the age and counters after it
pub record RootResult : Type 0 where
  pub refusal : ℕ
  pub score : ℤ
  pub mv : ℕ
  pub depth : ℕ
  pub nodes : ℕ
  pub stopped : Bool
  pub stats : Stats

-- the same of a root search
abbrev pub root_refused : ℕ → Stats → RootResult
root_refused r c = record { refusal = r; score = pos 0; mv = 0; depth = 0; nodes = 0; stopped = false; stats = c }

-- 01, Some places and their forms: "When an answer is an enum, a definition specifies this paper's number and values for each of its cases." The
-- age and counters are those that the search leaves.
abbrev pub told_node : Result NodeAnswer Refusal → Stats → NodeResult
told_node (Ok a) c = record { refusal = 0; score = a.score; nodes = a.nodes; stopped = a.stopped; stats = c }
told_node (Err r) c = node_refused (number_of r) c

abbrev pub told_root : Result RootAnswer Refusal → Stats → RootResult
told_root (Ok a) c =
    record { refusal = 0; score = a.score; mv = a.mv; depth = a.depth; nodes = a.nodes; stopped = a.stopped; stats = c }
told_root (Err r) c = root_refused (number_of r) c

-- what was found, of what is told: the numbers without the refusal's, the age and the counters
abbrev pub node_found : NodeResult → NodeAnswer
node_found r = record { score = r.score; nodes = r.nodes; stopped = r.stopped }

abbrev pub root_found : RootResult → RootAnswer
root_found r = record { score = r.score; mv = r.mv; depth = r.depth; nodes = r.nodes; stopped = r.stopped }
