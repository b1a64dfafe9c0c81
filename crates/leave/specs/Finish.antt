-- The end of a visit: the cutoff's score, the end of the game, or alpha, with the best score stored. Assumes nothing.
use Rattle.std.specs.Prelude.{Bool, true, false, List, ℕ, eqb, ℤ, pos}
use Rattle.std.specs.Int.Signed.{lt_z}
use Rattle.score.specs.Wrap.{neg16, add16}
use Rattle.transposition.specs.declared.Bound.{Bound}
use Rattle.transposition.specs.declared.Bound.TheVariants.{Exact, Upper}
use Rattle.std.specs.declared.ops.ControlFlow.TheVariants.{Continue, Break}
use Rattle.record.specs.Node.{count_of, hash_of, in_check}
use Rattle.state.specs.declared.Settings.{Settings}
use Rattle.state.specs.declared.State.{State}
use Rattle.state.specs.declared.Out.{Out}
use Rattle.state.specs.State.{Over, over, answer_of, keep_of}
use Rattle.carry.specs.declared.Here.{Here}
use Rattle.carry.specs.declared.Loc.{Loc}
use Rattle.carry.specs.Carry.{Turn, With, beside}

-- 01, Visits: "No children: -INF + ply in check, else 0."
unfoldable pub game_end : Bool → ℤ → ℕ → ℤ
game_end true inf ply = add16 (neg16 inf) (pos ply)
game_end false inf ply = pos 0

-- 01, Visits: "the bound stored is Exact if the best score exceeds the alpha of entry, else Upper"
unfoldable pub bound_if : Bool → Bound
bound_if true = Exact
bound_if false = Upper

abbrev pub bound_of : Here → Loc → Bound
bound_of h l = bound_if (lt_z h.old l.best)

abbrev pub kept_with : ℤ → Over State → Over Out
kept_with x k = over (answer_of x k.it) k.words

-- "with the best score kept as 000 keeps it"; the answer is alpha
unfoldable pub stored_of : List ℕ → Settings → Here → Loc → List ℕ → Over Out
stored_of t set h l words =
    kept_with l.alpha (keep_of set.table words l.state (hash_of t h.node) (pos h.depth) l.best l.mv (bound_of h l))

-- no moves: the end of the game
unfoldable pub end_if : Bool → List ℕ → Settings → Here → Loc → List ℕ → Over Out
end_if true t set h l words = over (answer_of (game_end (in_check t h.node) set.inf h.ply) l.state) words
end_if false t set h l words = stored_of t set h l words

-- a cutoff's score is the answer, and was stored
unfoldable pub finish_if : Turn → List ℕ → Settings → Here → List ℕ → Over Out
finish_if (Break l) t set h words = over (answer_of l.best l.state) words
finish_if (Continue l) t set h words = end_if (eqb (count_of t h.node) 0) t set h l words

abbrev pub finish_of : List ℕ → Settings → Here → With Turn → With Out
finish_of t set h w = beside (finish_if w.it t set h w.words) w.history
