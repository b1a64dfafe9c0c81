-- Demand 3 at the public entry. Assumes nothing.
use Rattle.std.specs.Prelude.{◌≡◌, false, List, ℕ, nat_abs, IfOk}
use Rattle.std.specs.declared.result.Result.{Result}
use Rattle.refusal.specs.declared.Refusal.{Refusal}
use Rattle.state.specs.declared.Settings.{Settings}
use Rattle.minimax.specs.Minimax.{minimax}
use Rattle.truth.specs.Demand3.{Plain, Tells3}
use Rattle.desk.specs.declared.node_search.Start.{Start}
use Rattle.results.specs.declared.NodeAnswer.{NodeAnswer}

-- with all six switches off, a node search that is neither refused nor stopped tells the truth of the extended minimax
abbrev pub NodeTold : Settings → List ℕ → Start → Result NodeAnswer Refusal → Type 0
NodeTold set t at r =
    Plain set
    → IfOk r (λ a. a.stopped ≡ false → Tells3 at.alpha at.beta a.score (minimax set t at.node (nat_abs at.depth) at.ply))
