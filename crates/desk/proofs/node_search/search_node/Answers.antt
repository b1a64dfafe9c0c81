-- `desk::node_search::search_node` meets its contract: what the search asks is known once no row is given; its score tells demand 3.
-- Assumes nothing.
use Rattle.std.proofs.Common.{ℤ, Ok, sym, ap, subst, ◌∙◌, rules}
use mir.Syntax.{w16}
use mir.Val.{SFits}
use mir.Facts.{to_z-of_z}
use Rattle.carry.specs.Carry.{with}
use Rattle.carry.specs.declared.Args.{Args}
use Rattle.moves.proofs.Kids.{laid}
use Rattle.visits.specs.Search.{whole, node_search}
use Rattle.visits.specs.Reach.{Reach}
use Rattle.visits.proofs.Asked.{enough}
use Rattle.truth.specs.Demand3.{Told}
use Rattle.truth.proofs.Told.{told}
use Rattle.refusals.proofs.Meaning.{search_accepted, set_side_most}
use Rattle.desk.specs.NodeEntry.{fresh}
use Rattle.desk.proofs.Searching.{ready}
use Rattle.desk.proofs.Starting.{node_given_lem}
use Rattle.desk.proofs.Unrefused.{node_rows_hold, settings_hold, depth_zero, start_reach, in_range, windowed}
use Rattle.desk.proofs.node_search.search_node.Goals as goal
use Rattle.results.specs.Told.{told_node}

pub args_of-a-requires-clause-laid : goal.args_of-a-requires-clause-laid
args_of-a-requires-clause-laid c = laid c.args.set _ (search_accepted _ _ _ _ (node_rows_hold _ _ _ _ _ (sym c.in_ok-node_refusal.ensures)))

pub args_of-a-requires-clause-side_bound : goal.args_of-a-requires-clause-side_bound
args_of-a-requires-clause-side_bound c = set_side_most c.args.set (settings_hold _ _ _ _ _ (sym c.in_ok-node_refusal.ensures))

pub args_of-a-requires-clause-depth_value : goal.args_of-a-requires-clause-depth_value
args_of-a-requires-clause-depth_value c = depth_zero _ _ _ _ _ (sym c.in_ok-node_refusal.ensures)

pub search_node-o-requires-clause-ready : goal.search_node-o-requires-clause-ready
search_node-o-requires-clause-ready c = ready _ _ _ _ (node_rows_hold _ _ _ _ _ (sym c.in_ok-node_refusal.ensures))

pub search_node-o-requires-clause-reach : goal.search_node-o-requires-clause-reach
search_node-o-requires-clause-reach c =
    subst (Reach c.args.tree.now) (sym c.args_of-a.ensures) (start_reach _ _ _ _ _ (sym c.in_ok-node_refusal.ensures))

pub returns-clause-searched : goal.returns-clause-searched
returns-clause-searched c =
    let t = c.args.tree.now in
    let words = c.args.words.now in
    let history = c.args.history.now in
    let set = c.args.set in
    let none = sym c.in_ok-node_refusal.ensures in
    let x = c.args_of-a.result in
    let answer = with c.search_node-o.result c.search_node-o.new.words c.search_node-o.new.history in
    let here : Reach t x = subst (Reach t) (sym c.args_of-a.ensures) (start_reach _ _ _ _ _ none) in
    let score-fits : SFits w16 c.search_node-o.result.score = search rules in
    ap (λ (z : ℤ). with (told_node (Ok (record { score = z; nodes = c.search_node-o.result.state.nodes; stopped = c.search_node-o.result.state.stop }))
    c.search_node-o.result.state.stats) c.search_node-o.new.words c.search_node-o.new.history) (to_z-of_z score-fits)
    ∙ (node_given_lem t words history set c.args.at c.args.stats.now none answer
    (c.search_node-o.ensures (whole t) (enough t x here)
    ∙ ap (λ (y : Args). node_search t set (fresh c.args.stats.now) words history y) c.args_of-a.ensures))

pub returns-clause-truth : goal.returns-clause-truth
returns-clause-truth c =
    let t = c.args.tree.now in
    let words = c.args.words.now in
    let history = c.args.history.now in
    let set = c.args.set in
    let none = sym c.in_ok-node_refusal.ensures in
    let x = c.args_of-a.result in
    let st = fresh c.args.stats.now in
    let answer = with c.search_node-o.result c.search_node-o.new.words c.search_node-o.new.history in
    let here : Reach t x = subst (Reach t) (sym c.args_of-a.ensures) (start_reach _ _ _ _ _ none) in
    let ok = search_accepted t words history set (node_rows_hold _ _ _ _ _ none) in
    let score-fits : SFits w16 c.search_node-o.result.score = search rules in
    simp (to_z-of_z score-fits)
    (λ p e. subst (λ (y : Args). Told set t y c.search_node-o.result) c.args_of-a.ensures
    (told set t ok x here st words history answer (c.search_node-o.ensures (whole t) (enough t x here)))
    p (in_range _ _ _ _ _ none) (windowed _ _ _ _ _ none) e)
