-- The depths one after the other, one depth on; the root search, which begins them. Assumes nothing.
use mathlib.Core.Path.{ap₂}
use Rattle.std.proofs.Common.{◌≡◌, ℕ, suc, ◌+◌, ◌-◌, ◌≤◌, ◌<◌, true, false, List, ℤ, sym, ap, ◌∙◌, arith}
use Rattle.std.specs.declared.ops.ControlFlow.TheVariants.{Continue, Break}
use Rattle.table.specs.declared.Stats.{Stats}
use Rattle.history.specs.Entries.{clear_of}
use Rattle.state.specs.declared.Settings.{Settings}
use Rattle.carry.specs.Carry.{with}
use Rattle.visits.specs.Search.{Visit, node_search}
use Rattle.visits.proofs.Asked.{still_ready}
use Rattle.root_steps.specs.declared.Depths.{Depths}
use Rattle.root_steps.specs.Step.{Deepened, fresh_of, mated_of}
use Rattle.root.specs.Root.{depth_f, over_if, mate_if, depths_f, root_search}

module _ (v : Visit) (t : List ℕ) (set : Settings) (end depth : ℕ) (d : Depths) (words : List ℕ) (hist : List ℤ) where
  step : depth < end → depths_f v t set (end - depth) depth (with d words hist)
      ≡ mate_if (mated_of set d depth) v t set depth (with d words hist) (depths_f v t set (end - (depth + 1)) (depth + 1))
  unfolding depths_f
  step lt = let m : end - depth ≡ suc (end - (depth + 1)) = omega arith in ap (λ (m : ℕ). depths_f v t set m depth (with d words hist)) m

  -- mates end them
  pub depths_mated : depth < end → mated_of set d depth ≡ true → depths_f v t set (end - depth) depth (with d words hist) ≡ with d words hist
  unfolding mate_if
  depths_mated lt e = step lt ∙ rw e

  module _ (last : Depths) (words' : List ℕ) (hist' : List ℤ) where
    -- so does a depth without a move
    pub depths_over : (r : Deepened) → depth < end → mated_of set d depth ≡ false
        → with r words' hist' ≡ depth_f v t set depth (with d words hist) → r ≡ Break last
        → with last words' hist' ≡ depths_f v t set (end - depth) depth (with d words hist)
    unfolding mate_if over_if
    depths_over r lt e er eb = sym (step lt ∙ rw (e, ← er, eb))

    -- else the next is made
    pub depths_passed : depth < end → mated_of set d depth ≡ false → with (Continue last) words' hist' ≡ depth_f v t set depth (with d words hist)
        → depths_f v t set (end - depth) depth (with d words hist) ≡ depths_f v t set (end - (depth + 1)) (depth + 1) (with last words' hist')
    unfolding mate_if over_if
    depths_passed lt e er = step lt ∙ rw (e, ← er)

  pub depths_ended : end ≤ depth → depths_f v t set (end - depth) depth (with d words hist) ≡ with d words hist
  unfolding depths_f
  depths_ended le = let m : end - depth ≡ 0 = omega arith in ap (λ (m : ℕ). depths_f v t set m depth (with d words hist)) m

-- the root search: the depths from fresh ones on, over a history of zeros
pub root_is : (t : List ℕ) (set : Settings) (c : Stats) (start end : ℕ) (words : List ℕ) (hist hist' : List ℤ) (d : Depths)
    → d ≡ fresh_of set c → hist' ≡ clear_of hist
    → depths_f (node_search t set) t set (end - start) start (with d words hist') ≡ root_search t set c start end words hist
unfolding root_search
root_is t set c start end words hist hist' d ed eh =
    ap₂ (λ (x : Depths) (y : List ℤ). depths_f (node_search t set) t set (end - start) start (with x words y)) ed eh

-- what the loop's goals are answered by
pub ruleset depths_rules = (still_ready, depths_mated, depths_passed, depths_ended)
