-- `tree::level::level` meets its contract. The loop's invariant: where level l and the next begin, and how many of the first l begin at the node or before it. Assumes nothing.
use Rattle.std.proofs.Common.{◌≡◌, ℕ, ◌+◌, ◌<◌, ◌≤◌, sym, ap, ◌∙◌, arith}
use Rattle.tree.specs.Layout.{start_of}
use Rattle.tree.specs.Level.{edge, level_in}
use Rattle.tree.proofs.Levels.{edge_none, edge_one, edge_more, edge_in, edge_step, level_none, level_up, level_stay}
use Rattle.tree.proofs.level.level.Goals as goal
use Rattle.tree.proofs.level.level.Goals.{then-next-node, else-next-node}

pub loop-l-init : goal.loop-l-init
loop-l-init c = (omega arith, sym (edge_none _), sym (edge_one _), sym (level_none _ _), omega arith)

pub start_from-after-requires : goal.start_from-after-requires
start_from-after-requires c =
    let t = c.args.tree.now in
    let i = c.loop-l.invariant in
    record {
      laid = c.requires;
      from_le_to = omega (arith, i.1, i.2, edge_step t c.requires c.loop-l.l);
      to_bound = omega (arith, i.2, edge_in t c.requires (c.loop-l.l + 1));
      start_value = i.2 ∙ edge_more t c.loop-l.l ∙ ap (start_of t) (sym i.1);
    }

pub loop-l-preserved : goal.loop-l-preserved
loop-l-preserved c =
    let t = c.args.tree.now in
    let i = c.loop-l.invariant in
    let n = c.loop-l.l in (
      omega arith,
      i.2,
      c.start_from-after.ensures ∙ ap (start_of t) i.2 ∙ sym (edge_more t (n + 1)),
      elim c.if-next-node.branch [
        | then-next-node w ↦ let h : edge t (n + 1) ≤ c.args.node = omega (arith, w.if-next-node.true, i.2) in omega (arith, w.level-is, i.3, level_up t n c.args.node h)
        | else-next-node w ↦ let h : c.args.node < edge t (n + 1) = omega (arith, w.if-next-node.false, i.2) in omega (arith, w.level-is, i.3, level_stay t n c.args.node h)
      ],
      elim c.if-next-node.branch [ then-next-node w ↦ omega (arith, w.level-is, i.4) | else-next-node w ↦ omega (arith, w.level-is, i.4) ],
    )

pub returns : goal.returns
returns c =
    let e : c.loop-l.l ≡ 100 = omega arith in
    c.loop-l.invariant.3 ∙ ap (λ (j : ℕ). level_in c.args.tree.now j c.args.node) e
