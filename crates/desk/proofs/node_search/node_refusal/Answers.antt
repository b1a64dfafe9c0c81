-- `desk::node_search::node_refusal` meets its contract: what its tests ask is known once the searches' rows are not given. Assumes nothing.
use Rattle.std.proofs.Common.{sym}
use mir.Facts.{to_z-of_z}
use borrow.Author.Rules.{rules}
use mir.Syntax.{w16}
use mir.Val.{SFits}
use Rattle.moves.proofs.Kids.{blocked}
use Rattle.refusals.proofs.Meaning.{search_settings_right, search_accepted, set_hh_max_from}
use Rattle.desk.proofs.node_search.node_refusal.Goals as goal

pub history_right-requires : goal.history_right-requires
history_right-requires c =
    let hh-fits : SFits w16 c.args.set.hh_max = search rules in
    simp (to_z-of_z hh-fits) (set_hh_max_from c.args.set (search_settings_right _ _ _ _ (sym c.in_ok-search_rows.ensures)))

pub start_right-requires : goal.start_right-requires
start_right-requires c = blocked c.args.set _ (search_accepted _ _ _ _ (sym c.in_ok-search_rows.ensures))
