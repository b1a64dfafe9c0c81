-- Futility, and the reductions of late moves. Assumes nothing.
use Rattle.std.specs.Prelude.{Bool, true, false, not, ◌&&◌, List, ℕ, ◌+◌, ◌-◌, ◌*◌, min, ltb, pos}
use Rattle.std.specs.Int.Signed.{lt_z}
use Rattle.score.specs.Wrap.{add16}
use Rattle.reductions.specs.Reductions.{reduction_of}
use Rattle.record.specs.Node.{in_check, is_quiet}
use Rattle.state.specs.declared.Settings.{Settings}
use Rattle.carry.specs.declared.Here.{Here}
use Rattle.carry.specs.declared.Loc.{Loc}

-- 1 where a test holds, else 0
abbrev pub one : Bool → ℕ
one true = 1
one false = 0

-- 000: "!is_pv && !is_in_check && !is_giving_check && m.is_quiet()", "depth < 6", "eval + margin < alpha", FP_MARGIN being 50
unfoldable pub futile_of : List ℕ → Settings → Here → Loc → ℕ → Bool
futile_of t set h l c =
    set.futility && not h.full && ltb h.depth 6 && not (in_check t h.node) && not (in_check t c) && is_quiet t c
    && lt_z (add16 h.eval (pos (50 * h.depth))) l.alpha

-- 000: LMR, "m.is_quiet() && depth > 2 && moves_count > 3 + (is_pv as usize)", where i moves were tried before this one
unfoldable pub late_of : List ℕ → Settings → Here → ℕ → ℕ → Bool
late_of t set h c i = set.late_move && is_quiet t c && ltb 2 h.depth && ltb (3 + one h.full) (i + 1)

-- 000: LMR less one each for a full window, in check, giving check, "clamp(0, depth - 1)"
unfoldable pub reduction_if : Bool → List ℕ → Here → ℕ → ℕ → ℕ
reduction_if true t h c i =
    min (reduction_of h.depth (i + 1) - (one h.full + one (in_check t h.node) + one (in_check t c))) (h.depth - 1)
reduction_if false t h c i = 0

abbrev pub reduction_at : List ℕ → Settings → Here → ℕ → ℕ → ℕ
reduction_at t set h c i = reduction_if (late_of t set h c i) t h c i
