-- The steps of a root search that visit no node, in the order of 000. Assumes nothing.
use Rattle.std.specs.Prelude.{Bool, true, false, ◌&&◌, ◌||◌, List, [], ◌∷◌, take, ℕ, ◌-◌, eqb, ltb, ℤ, pos, neg_ℤ, ◌-ℤ◌}
use Rattle.std.specs.Int.Signed.{lt_z, le_z}
use Rattle.std.specs.List.{list_all}
use Rattle.std.specs.declared.ops.ControlFlow.{ControlFlow}
use Rattle.std.specs.declared.ops.ControlFlow.TheVariants.{Continue, Break}
use Rattle.score.specs.Wrap.{neg16}
use Rattle.transposition.specs.declared.Bound.TheVariants.{Exact}
use Rattle.table.specs.declared.Stats.{Stats}
use Rattle.table.specs.Stats.{reset_of}
use Rattle.record.specs.Node.{first_of, count_of, move_of, hash_of}
use Rattle.state.specs.declared.Settings.{Settings}
use Rattle.state.specs.declared.State.{State}
use Rattle.state.specs.declared.Out.{Out}
use Rattle.std.specs.declared.option.Option.{Option}
use Rattle.moves.specs.Order.{place_of}
use Rattle.state.specs.State.{Over, over, poll_of, count_node, keep_of}
use Rattle.carry.specs.declared.Args.{Args}
use Rattle.root_steps.specs.declared.Best.{Best}
use Rattle.root_steps.specs.declared.Depths.{Depths}
use Rattle.root_steps.specs.declared.Walked.{Walked}

-- 01, Visits: "The root search zeroes history and, if the table switch is on, resets age."
unfoldable pub fresh_stats : Bool → Stats → Stats
fresh_stats true c = reset_of c
fresh_stats false c = c

-- 01, Visits: "Both begin with count 0 and the stop unset"; "when none was, score, move and depth are 0"
abbrev pub fresh_of : Settings → Stats → Depths
fresh_of set c =
    record {
      best = record { score = pos 0; mv = 0; depth = 0 };
      scores = pos 0 ∷ pos 0 ∷ pos 0 ∷ [];
      state = record { nodes = 0; stop = false; stats = fresh_stats set.table c };
    }

abbrev pub mate_line : Settings → ℤ
mate_line set = set.inf -ℤ pos set.max_ply

-- 000: not "-inf < score && score < inf", inf being INF - MAX_PLY
unfoldable pub mate_of : Settings → ℤ → Bool
mate_of set x = le_z x (neg_ℤ (mate_line set)) || le_z (mate_line set) x

-- 000: "Stop the search if the position was mate at the 3 previous shallower depths", "if depth > 6"
unfoldable pub mated_of : Settings → Depths → ℕ → Bool
mated_of set d depth = ltb 6 depth && list_all (mate_of set) d.scores

-- 000: "let mut alpha = -INF"
abbrev pub begin_of : Settings → State → Walked
begin_of set s = record { any = false; alpha = neg16 set.inf; mv = 0; state = s }

-- 000: "if !best_move.is_null() { self.moves.add_move(best_move) }"
unfoldable pub place_root : List ℕ → Best → Option ℕ
place_root t b = place_of t (first_of t 0) (count_of t 0) b.mv

abbrev pub polled_of : Settings → Walked → Walked
polled_of set w = record { any = w.any; alpha = w.alpha; mv = w.mv; state = poll_of set.limit w.state }

abbrev pub counted_of : Walked → State
counted_of w = count_node w.state

-- 000: "-self.search_node(-beta, -alpha, depth - 1, ply + 1)" at ply 0, beta being INF
abbrev pub down_of : Settings → ℕ → Walked → ℕ → Args
down_of set depth w c =
    record { node = c; side = 1 - set.side; alpha = neg16 set.inf; beta = neg16 w.alpha; depth = depth - 1; ply = 1 }

-- 000: "if score > alpha { .. alpha = score; best_scores[depth] = score; best_moves[depth] = m; }"
unfoldable pub raise_if : Bool → List ℕ → Walked → ℕ → ℤ → State → Walked
raise_if true t w c x s = record { any = true; alpha = x; mv = move_of t c; state = s }
raise_if false t w c x s = record { any = true; alpha = w.alpha; mv = w.mv; state = s }

unfoldable pub judge_of : List ℕ → Walked → ℕ → Out → Walked
judge_of t w c r = raise_if (lt_z w.alpha (neg16 r.score)) t w c (neg16 r.score) r.state

unfoldable pub score_if : Bool → ℤ → ℤ
score_if true x = pos 0
score_if false x = x

-- 000: best_scores[depth], 0 where no move beat alpha
abbrev pub score_of : Walked → ℤ
score_of w = score_if (eqb w.mv 0) w.alpha

-- what a depth leaves: a break where no move was made
abbrev pub Deepened : Type 0
Deepened = ControlFlow Depths Depths

-- 000: "if !has_legal_moves { break }"
unfoldable pub any_if : Bool → Depths → Deepened
any_if true d = Continue d
any_if false d = Break d

abbrev pub shifted_of : Depths → Walked → Best → State → Deepened
shifted_of d w b s = any_if w.any (record { best = b; scores = score_of w ∷ take 2 d.scores; state = s })

abbrev pub kept_by : Depths → ℕ → Walked → Over State → Over Deepened
kept_by d depth w k = over (shifted_of d w (record { score = w.alpha; mv = w.mv; depth = depth }) k.it) k.words

-- 000: "self.tt.set(hash, depth, best_score, best_move, Bound::Exact)"
unfoldable pub kept_of : List ℕ → Settings → Depths → ℕ → Walked → State → List ℕ → Over Deepened
kept_of t set d depth w s words = kept_by d depth w (keep_of set.table words s (hash_of t 0) (pos depth) w.alpha w.mv Exact)

unfoldable pub stopped_if : Bool → List ℕ → Settings → Depths → ℕ → Walked → State → List ℕ → Over Deepened
stopped_if true t set d depth w s words = over (shifted_of d w d.best s) words
stopped_if false t set d depth w s words = kept_of t set d depth w s words

abbrev pub unless_stopped : List ℕ → Settings → Depths → ℕ → Walked → State → List ℕ → Over Deepened
unless_stopped t set d depth w s words = stopped_if s.stop t set d depth w s words

-- 01, Errors that look right: "Root values of an unfinished depth kept (only depth 1 may be)"
unfoldable pub first_if : Bool → List ℕ → Settings → Depths → ℕ → Walked → List ℕ → Over Deepened
first_if true t set d depth w words = kept_of t set d depth w w.state words
first_if false t set d depth w words = unless_stopped t set d depth w (poll_of set.limit w.state) words

-- 000: "!best_moves[depth].is_null() && (depth == 1 || !self.clock.poll(self.nodes_count))"
unfoldable pub saved_if : Bool → List ℕ → Settings → Depths → ℕ → Walked → List ℕ → Over Deepened
saved_if true t set d depth w words = over (shifted_of d w d.best w.state) words
saved_if false t set d depth w words = first_if (eqb depth 1) t set d depth w words

abbrev pub saved_of : List ℕ → Settings → Depths → ℕ → Walked → List ℕ → Over Deepened
saved_of t set d depth w words = saved_if (eqb w.mv 0) t set d depth w words
