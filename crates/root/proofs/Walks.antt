-- The walk over the root's moves, one move on. Assumes nothing.
use Rattle.std.proofs.Common.{◌≡◌, ℕ, suc, ◌+◌, ◌-◌, ◌≤◌, ◌<◌, true, false, List, ℤ, ap, ◌∙◌, arith}
use Rattle.state.specs.declared.Settings.{Settings}
use Rattle.std.specs.declared.option.Option.{Option}
use Rattle.tree.proofs.Blocked.{record_in}
use Rattle.moves.specs.Order.{child_of}
use Rattle.moves.proofs.Kids.{blocked, laid}
use Rattle.carry.specs.Carry.{with}
use Rattle.visits.specs.Search.{Visit}
use Rattle.visits.proofs.Asked.{still_ready}
use Rattle.root_steps.specs.declared.Walked.{Walked}
use Rattle.root_steps.specs.Step.{polled_of}
use Rattle.root.specs.Root.{turn_f, stop_if, polled_f, walk_f}
use Rattle.root.proofs.Asked.{root_in, root_kid}

module _ (v : Visit) (t : List ℕ) (set : Settings) (depth : ℕ) (p : Option ℕ) (n i : ℕ) (w : Walked) (words : List ℕ) (hist : List ℤ) where
  step : i < n → walk_f v t set depth p (n - i) i (with w words hist)
      ≡ polled_f v t set depth (polled_of set w) (child_of t 0 p i) words hist (walk_f v t set depth p (n - (i + 1)) (i + 1))
  unfolding walk_f
  step lt = let m : n - i ≡ suc (n - (i + 1)) = omega arith in ap (λ (m : ℕ). walk_f v t set depth p m i (with w words hist)) m

  -- a poll that stops ends it
  pub walk_stopped : i < n → (polled_of set w).state.stop ≡ true
      → walk_f v t set depth p (n - i) i (with w words hist) ≡ with (polled_of set w) words hist
  unfolding stop_if
  walk_stopped lt e = step lt ∙ rw e

  -- else the next move is made
  pub walk_passed : i < n → (polled_of set w).state.stop ≡ false → walk_f v t set depth p (n - i) i (with w words hist)
      ≡ walk_f v t set depth p (n - (i + 1)) (i + 1) (turn_f v t set depth (polled_of set w) (child_of t 0 p i) words hist)
  unfolding stop_if
  walk_passed lt e = step lt ∙ rw e

  pub walk_ended : n ≤ i → walk_f v t set depth p (n - i) i (with w words hist) ≡ with w words hist
  unfolding walk_f
  walk_ended le = let m : n - i ≡ 0 = omega arith in ap (λ (m : ℕ). walk_f v t set depth p m i (with w words hist)) m

-- what the loop's goals are answered by
pub ruleset walk_rules = (record_in, blocked, laid, still_ready, root_in, root_kid, walk_stopped, walk_passed, walk_ended)
