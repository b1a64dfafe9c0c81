-- `tree::level::levels_right` meets its contract. The loop's invariant: where level l and the next begin. Assumes nothing.
use Rattle.std.proofs.Common.{◌≡◌, ◌+◌, eqb, sym, ap, ◌∙◌, ap₂, arith}
use Rattle.tree.specs.Layout.{start_of}
use Rattle.tree.specs.Level.{edge, levels_right}
use Rattle.tree.proofs.Blocked.{length_least}
use Rattle.tree.proofs.Levels.{edge_none, edge_one, edge_more, edge_in, edge_step}
use Rattle.tree.proofs.level.levels_right.Goals as goal

pub loop-l-init : goal.loop-l-init
loop-l-init c = (omega arith, sym (edge_none _), sym (edge_one _))

pub start_from-after-requires : goal.start_from-after-requires
start_from-after-requires c =
    let t = c.args.tree.now in
    let i = c.loop-l.invariant in
    record {
      laid = c.requires;
      from_le_to = omega (arith, i.1, i.2, edge_step t c.requires c.loop-l.l);
      to_bound = omega (arith, i.2, edge_in t c.requires (c.loop-l.l + 1));
      start_value = i.2 ∙ edge_more t c.loop-l.l ∙ ap (start_of t) (sym i.1);
    }

pub loop-l-preserved : goal.loop-l-preserved
loop-l-preserved c =
    let t = c.args.tree.now in
    (omega arith, c.loop-l.invariant.2, c.start_from-after.ensures ∙ ap (start_of t) c.loop-l.invariant.2 ∙ sym (edge_more t (c.loop-l.l + 1)))

pub nodes-requires : goal.nodes-requires
nodes-requires c = length_least c.args.tree.now c.requires.blocked

pub returns : goal.returns
unfolding levels_right
returns c =
    let t = c.args.tree.now in
    let e : c.loop-l.l ≡ 101 = omega arith in
    ap₂ eqb (c.loop-l.invariant.1 ∙ ap (edge t) e) c.nodes.ensures
