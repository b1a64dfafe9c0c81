-- The steps of a node's visit before its moves, in the order of 01's 'Visits'. Assumes nothing.
use Rattle.std.specs.Prelude.{Bool, true, false, not, ◌&&◌, List, ℕ, ◌+◌, ◌-◌, ◌*◌, ltb, eqb, ℤ, pos}
use Rattle.std.specs.Int.Signed.{le_z}
use Rattle.score.specs.Wrap.{add16, sub16, eq_z}
use Rattle.std.specs.declared.ops.ControlFlow.TheVariants.{Continue, Break}
use Rattle.record.specs.Node.{first_of, count_of, eval_of, hash_of, in_check, is_draw, is_pawn_ending, is_improving}
use Rattle.std.specs.declared.option.Option.{Option}
use Rattle.std.specs.declared.option.Option.TheVariants.{Some, None}
use Rattle.moves.specs.Order.{place_of}
use Rattle.state.specs.declared.Settings.{Settings}
use Rattle.state.specs.declared.State.{State}
use Rattle.state.specs.declared.Out.{Out}
use Rattle.state.specs.declared.Seen.{Seen}
use Rattle.state.specs.declared.Consulted.{Consulted}
use Rattle.state.specs.State.{answer_of, seen_of}
use Rattle.state.specs.Consult.{consult_of, hint_of}
use Rattle.carry.specs.declared.Args.{Args}
use Rattle.carry.specs.declared.Here.{Here}
use Rattle.carry.specs.declared.Loc.{Loc}
use Rattle.carry.specs.Carry.{Entered}

abbrev pub with_depth : Args → ℕ → Args
with_depth a d = record { node = a.node; side = a.side; alpha = a.alpha; beta = a.beta; depth = d; ply = a.ply }

-- 01, Visits: "in check, depth + 1"
unfoldable pub extended : Bool → ℕ → ℕ
extended true d = d + 1
extended false d = d

unfoldable pub extend_of : List ℕ → Args → Args
extend_of t a = with_depth a (extended (in_check t a.node) a.depth)

-- 000: "let is_pv = alpha != beta - 1"
unfoldable pub full_window : ℤ → ℤ → Bool
full_window alpha beta = not (eq_z alpha (sub16 beta (pos 1)))

-- 000: RFP_MARGIN is 75, RFP_IMPROV 20: "eval >= beta + rfp_margin - rfp_improv"
unfoldable pub margin_if : Bool → ℤ → ℤ
margin_if true m = sub16 m (pos 20)
margin_if false m = m

abbrev pub margin : List ℕ → Here → ℤ
margin t h = margin_if (is_improving t h.node) (add16 h.beta (pos (75 * h.depth)))

-- 000: "!is_pv && !is_in_check && !is_pawn_ending && depth < 7 && .. eval >= beta + ..", if the switch is on
unfoldable pub reverse_futile : List ℕ → Settings → Here → Bool
reverse_futile t set h =
    set.reverse_futility && not h.full && ltb h.depth 7 && not (in_check t h.node) && not (is_pawn_ending t h.node)
    && le_z (margin t h) h.eval

abbrev pub here_of : List ℕ → Args → Bool → Consulted → Here
here_of t a full w =
    record {
      node = a.node;
      side = a.side;
      old = a.alpha;
      beta = w.beta;
      depth = a.depth;
      ply = a.ply;
      full = full;
      eval = eval_of t a.node;
    }

abbrev pub loc_of : Args → Consulted → State → Loc
loc_of a w s = record { alpha = w.alpha; best = a.alpha; mv = w.hint; state = s }

unfoldable pub reverse_if : Bool → Here → Loc → Entered
reverse_if true h l = Break (answer_of h.eval l.state)
reverse_if false h l = Continue (h, l)

unfoldable pub cut_if : Option ℤ → Settings → List ℕ → Args → Bool → Consulted → State → Entered
cut_if (Some x) set t a full w s = Break (answer_of x s)
cut_if None set t a full w s = reverse_if (reverse_futile t set (here_of t a full w)) (here_of t a full w) (loc_of a w s)

-- 01, Visits: "a table cutoff or a table bound on the window is taken only when alpha is beta - 1 and stored depth >= depth"
abbrev pub consulted : Seen → Args → Bool → Consulted
consulted seen a full = consult_of seen.found (not full) (pos a.depth) a.alpha a.beta

abbrev pub judge_seen : Seen → Settings → List ℕ → Args → Bool → Entered
judge_seen seen set t a full = cut_if (consulted seen a full).cut set t a full (consulted seen a full) seen.state

unfoldable pub probe_of : Settings → List ℕ → List ℕ → State → Args → Entered
probe_of set t words s a = judge_seen (seen_of set.table words s (hash_of t a.node)) set t a (full_window a.alpha a.beta)

-- 01, Visits: "draw: 0; table; reverse futility"
unfoldable pub draw_if : Bool → Settings → List ℕ → List ℕ → State → Args → Entered
draw_if true set t words s a = Break (answer_of (pos 0) s)
draw_if false set t words s a = probe_of set t words s a

unfoldable pub enter_of : Settings → List ℕ → List ℕ → State → Args → Entered
enter_of set t words s a = draw_if (is_draw t a.node) set t words s a

-- 01, Visits: "inner deepening (same node and ply, depth - 2, only in a full window without a hint and depth over 2)"
unfoldable pub deepens_of : Settings → Here → Loc → Bool
deepens_of set h l = set.inner_deepening && h.full && eqb l.mv 0 && ltb 2 h.depth

abbrev pub inner_of : Here → Loc → Args
inner_of h l = record { node = h.node; side = h.side; alpha = l.alpha; beta = h.beta; depth = h.depth - 2; ply = h.ply }

abbrev pub hinted_by : Seen → Loc → Loc
hinted_by seen l = record { alpha = l.alpha; best = l.best; mv = hint_of seen.found; state = seen.state }

-- 000: "if let Some(t) = self.tt.get(hash) { best_move = t.best_move(); }"
unfoldable pub hinted_of : Settings → List ℕ → List ℕ → Here → Loc → Out → Loc
hinted_of set t words h l r = hinted_by (seen_of set.table words r.state (hash_of t h.node)) l

-- 01, Visits: "the table's move first if it is a child"
unfoldable pub hint_place : List ℕ → Here → Loc → Option ℕ
hint_place t h l = place_of t (first_of t h.node) (count_of t h.node) l.mv
