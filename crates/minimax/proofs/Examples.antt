-- The extended minimax of 01's two worked trees, by computation. Assumes nothing.
use mathlib.Core.Path.{◌≡◌, refl}
use mathlib.Core.Bool.{false}
use mathlib.Core.List.{List, [], ◌∷◌, ◌++◌}
use Prim.Native.Nat.{ℕ}
use lib.IntN.{pos}
use Rattle.record.specs.Bytes.{le}
use Rattle.record.specs.Node.{record_at, first_of, count_of, flags_of, eval_of, in_check, is_quiet, is_draw}
use Rattle.tree.specs.Blocks.{nodes_of}
use Rattle.tree.proofs.Examples.{mate, quiet}
use Rattle.state.specs.declared.Settings.{Settings}
use Rattle.minimax.specs.Minimax.{greatest, capture_if, capture_v, end_of, of_children, of_draw, of_depth, checked, minimax_v, minimax, capture_value}

-- INF 30,000, MAX_PLY 128, no switch
abbrev pub plain : Settings
plain =
    record {
      inf = pos 30000;
      max_ply = 128;
      hh_max = pos 16384;
      side = 0;
      limit = 1000000;
      table = false;
      delta = false;
      reverse_futility = false;
      futility = false;
      late_move = false;
      inner_deepening = false;
    }

-- "Root whose one child is in check and childless, INF 30,000, depth 1: 29,999."
pub mate_one : minimax plain mate 0 1 0 ≡ pos 29999
unfolding mate le record_at first_of count_of flags_of eval_of in_check is_quiet is_draw nodes_of greatest capture_if capture_v end_of of_children of_draw of_depth checked minimax_v minimax
mate_one = refl

-- "depth 1 gives 40"
pub quiet_one : minimax plain quiet 0 1 0 ≡ pos 40
unfolding quiet le record_at first_of count_of flags_of eval_of in_check is_quiet is_draw nodes_of greatest capture_if capture_v end_of of_children of_draw of_depth checked minimax_v minimax
quiet_one = refl

-- "depths 1 and 2 give 0"
pub quiet_two : minimax plain quiet 0 2 0 ≡ pos 0
unfolding quiet le record_at first_of count_of flags_of eval_of in_check is_quiet is_draw nodes_of greatest capture_if capture_v end_of of_children of_draw of_depth checked minimax_v minimax
quiet_two = refl

-- the children are quiet, so the root's capture value is its evaluation
pub quiet_capture : capture_value plain quiet 0 0 ≡ pos 0
unfolding quiet le record_at first_of count_of flags_of eval_of in_check is_quiet is_draw nodes_of greatest capture_if capture_v
quiet_capture = refl

-- records alone, read with fuel enough: a drawn node with evaluation 30
unfoldable drawn : List ℕ
drawn = 0 ∷ 0 ∷ 0 ∷ 8 ∷ 30 ∷ 0 ∷ 0 ∷ 0 ∷ 1 ∷ 0 ∷ 0 ∷ 0 ∷ 0 ∷ 0 ∷ 0 ∷ 0 ∷ []

-- 01, Errors that look right: "a drawn node at depth 0 goes to quiescence"
drawn_zero : minimax_v 1 plain drawn 0 0 0 ≡ pos 30
unfolding drawn le record_at first_of count_of flags_of eval_of in_check is_quiet is_draw greatest capture_if capture_v end_of of_children of_draw of_depth checked minimax_v
drawn_zero = refl

drawn_one : minimax_v 1 plain drawn 0 1 0 ≡ pos 0
unfolding drawn le record_at first_of count_of flags_of eval_of in_check is_quiet is_draw greatest capture_if capture_v end_of of_children of_draw of_depth checked minimax_v
drawn_one = refl

-- a root with evaluation 0 and one noisy child with evaluation -40
unfoldable noisy : List ℕ
noisy =
    (1 ∷ 0 ∷ 1 ∷ 0 ∷ 0 ∷ 0 ∷ 0 ∷ 0 ∷ 1 ∷ 0 ∷ 0 ∷ 0 ∷ 0 ∷ 0 ∷ 0 ∷ 0 ∷ [])
    ++ (0 ∷ 0 ∷ 0 ∷ 0 ∷ 216 ∷ 255 ∷ 16 ∷ 0 ∷ 2 ∷ 0 ∷ 0 ∷ 0 ∷ 0 ∷ 0 ∷ 0 ∷ 0 ∷ [])

-- at depth 0 the capture counts, up to the last ply before MAX_PLY
noisy_zero : (minimax_v 2 plain noisy 0 0 0 ≡ pos 40) × (minimax_v 2 plain noisy 0 0 126 ≡ pos 40) × (minimax_v 2 plain noisy 0 0 127 ≡ pos 0)
unfolding noisy le record_at first_of count_of flags_of eval_of in_check is_quiet is_draw greatest capture_if capture_v end_of of_children of_draw of_depth checked minimax_v
noisy_zero = (refl, refl, refl)
