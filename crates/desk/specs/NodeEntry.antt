-- The node search's entry: which refusal it gets, and what it answers and leaves. Assumes nothing.
use Rattle.std.specs.Prelude.{Bool, false, ◌&&◌, List, ℕ, zero, suc, ◌-◌, ◌%◌, eqb, ℤ, pos, nat_abs}
use Rattle.table.specs.declared.Stats.{Stats}
use Rattle.tree.specs.Level.{level_of}
use Rattle.tree.specs.Pick.{pick}
use Rattle.state.specs.declared.Settings.{Settings}
use Rattle.state.specs.declared.State.{State}
use Rattle.state.specs.declared.Out.{Out}
use Rattle.carry.specs.declared.Args.{Args}
use Rattle.carry.specs.Carry.{With, with}
use Rattle.visits.specs.Search.{node_search}
use Rattle.refusals.specs.Rows.{history_right, node_right, window_right, depth_right, ply_right}
use Rattle.refusals.specs.First.{first, unless, search_rows}
use Rattle.desk.specs.declared.node_search.Start.{Start}
use Rattle.results.specs.Told.{NodeResult, node_refused}

-- row 7, of all that a node search takes
unfoldable pub start_right : List ℕ → Settings → Start → Bool
start_right t set at =
    node_right t at.node && window_right set.inf at.alpha at.beta && depth_right at.depth && ply_right set.max_ply at.ply

-- 01, Refusal numbers: 6, 1 to 5, 8, 9, 7
unfoldable pub node_refusal : List ℕ → List ℕ → List ℤ → Settings → Start → ℕ
node_refusal t words history set at =
    first (search_rows t words history set) (unless (history_right set.hh_max history) 9 (unless (start_right t set at) 7 0))

-- 01, History and clock: "the side changes at each level below the tree's root"
unfoldable pub side_at : List ℕ → Settings → ℕ → ℕ
side_at t set node = pick (eqb (level_of t node % 2) 0) set.side (1 - set.side)

-- 01, Visits: "Both begin with count 0 and the stop unset"
abbrev pub fresh : Stats → State
fresh c = record { nodes = 0; stop = false; stats = c }

abbrev pub args_of : List ℕ → Settings → Start → Args
args_of t set at =
    record { node = at.node; side = side_at t set at.node; alpha = at.alpha; beta = at.beta; depth = nat_abs at.depth; ply = at.ply }

-- 01, Visits: "The node search gives score, node count and stop mark"
abbrev pub node_result : Out → NodeResult
node_result o = record { refusal = 0; score = o.score; nodes = o.state.nodes; stopped = o.state.stop; stats = o.state.stats }

abbrev pub node_given : With Out → With NodeResult
node_given r = with (node_result r.it) r.words r.history

unfoldable pub node_answer : ℕ → List ℕ → Settings → Stats → Start → List ℕ → List ℤ → With NodeResult
node_answer zero t set c at words history = node_given (node_search t set (fresh c) words history (args_of t set at))
node_answer (suc r) t set c at words history = with (node_refused (suc r) c) words history

abbrev pub node_entry : List ℕ → Settings → Stats → Start → List ℕ → List ℤ → With NodeResult
node_entry t set c at words history = node_answer (node_refusal t words history set at) t set c at words history
