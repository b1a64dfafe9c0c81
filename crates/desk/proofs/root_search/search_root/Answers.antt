-- `desk::root_search::search_root` meets its contract: what the root search asks is known once no row is given. Assumes nothing.
use Rattle.std.proofs.Common.{◌≡◌, sym, nat_abs}
use mir.Facts.{to_z-of_z}
use Rattle.desk.specs.RootEntry.{root_refusal}
use Rattle.desk.proofs.Searching.{ready}
use Rattle.desk.proofs.Unrefused.{root_rows_hold, side_bound, start_bound, end_bound}
use Rattle.desk.proofs.root_search.search_root.Goals as goal

pub search_root-d-requires-clause-ready : goal.search_root-d-requires-clause-ready
search_root-d-requires-clause-ready c = ready _ _ _ _ (root_rows_hold _ _ _ _ _ _ (sym c.in_ok-root_refusal.ensures))

pub search_root-d-requires-clause-side_bound : goal.search_root-d-requires-clause-side_bound
search_root-d-requires-clause-side_bound c =
    let told : 0 ≡ root_refusal c.args.tree.now c.args.words.now c.args.history.now c.args.set c.args.start c.args.end =
    simp (to_z-of_z c.ranges.start, to_z-of_z c.ranges.end) at c.in_ok-root_refusal.ensures in
    let none = sym told in
    let start-size : c.unsigned_abs.result ≡ nat_abs c.args.start = simp (to_z-of_z c.ranges.start) at c.unsigned_abs.ensures.value in
    let end-size : c.unsigned_abs-2.result ≡ nat_abs c.args.end = simp (to_z-of_z c.ranges.end) at c.unsigned_abs-2.ensures.value in
    (side_bound _ _ _ _ _ _ none, (rw start-size (start_bound _ _ _ _ _ _ none), rw end-size (end_bound _ _ _ _ _ _ none)))
