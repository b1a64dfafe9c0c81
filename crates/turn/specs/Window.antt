-- One move's turn: the windows in which its child is visited, and what the answer makes of the walk. Assumes nothing.
use Rattle.std.specs.Prelude.{Bool, true, false, not, ◌&&◌, List, ℕ, ◌+◌, ◌-◌, eqb, ℤ, pos}
use Rattle.std.specs.Int.Signed.{lt_z, le_z}
use Rattle.score.specs.Wrap.{neg16, sub16}
use Rattle.std.specs.declared.ops.ControlFlow.TheVariants.{Continue, Break}
use Rattle.record.specs.Node.{move_of}
use Rattle.state.specs.declared.State.{State}
use Rattle.state.specs.declared.Out.{Out}
use Rattle.state.specs.State.{count_node}
use Rattle.carry.specs.declared.Args.{Args}
use Rattle.carry.specs.declared.Here.{Here}
use Rattle.carry.specs.declared.Loc.{Loc}
use Rattle.carry.specs.Carry.{Turn}

-- 000: "self.nodes_count += 1"
abbrev pub counted_of : Loc → Loc
counted_of l = record { alpha = l.alpha; best = l.best; mv = l.mv; state = count_node l.state }

-- 000: "-self.search_node(-beta, -alpha, depth - 1, ply + 1)"; the side changes at each level
abbrev pub full_of : Here → Loc → ℕ → Args
full_of h l c =
    record { node = c; side = 1 - h.side; alpha = neg16 h.beta; beta = neg16 l.alpha; depth = h.depth - 1; ply = h.ply + 1 }

-- 000: "-self.search_node(-alpha - 1, -alpha, depth - r - 1, ply + 1)"
abbrev pub null_of : Here → Loc → ℕ → ℕ → Args
null_of h l c d =
    record {
      node = c;
      side = 1 - h.side;
      alpha = sub16 (neg16 l.alpha) (pos 1);
      beta = neg16 l.alpha;
      depth = h.depth - 1 - d;
      ply = h.ply + 1;
    }

-- 000: after the first move, "best_score = score; best_move = m"
abbrev pub first_best : List ℕ → Loc → ℕ → Out → Loc
first_best t l c r = record { alpha = l.alpha; best = neg16 r.score; mv = move_of t c; state = l.state }

-- 000: "r > 0 && score > alpha"
unfoldable pub again_of : Loc → ℕ → Out → Bool
again_of l d r = not (eqb d 0) && lt_z l.alpha (neg16 r.score)

-- 000: "alpha < score && score < beta"
unfoldable pub inside_of : Here → Loc → Out → Bool
inside_of h l r = lt_z l.alpha (neg16 r.score) && lt_z (neg16 r.score) h.beta

-- 000: "if score > alpha { if score >= beta { .. } alpha = score; best_score = score; best_move = m; }"
unfoldable pub beta_if : Bool → Loc → Turn
beta_if true l = Break l
beta_if false l = Continue l

unfoldable pub raise_if : Bool → Here → Loc → ℕ → ℤ → State → Turn
raise_if true h l m x s = beta_if (le_z h.beta x) (record { alpha = x; best = x; mv = m; state = s })
raise_if false h l m x s = Continue (record { alpha = l.alpha; best = l.best; mv = l.mv; state = s })

unfoldable pub judge_of : Here → Loc → ℕ → Out → Turn
judge_of h l m r = raise_if (lt_z l.alpha (neg16 r.score)) h l m (neg16 r.score) r.state
