-- A stopped visit's answer; the hint's place, if it is one, leads into the tree. Assumes nothing.
use Rattle.std.proofs.Common.{◌≡◌, ◌∙◌, sym, ap, Bool, true, ℕ, ◌+◌, ◌≤◌, ◌<◌, pos, List, Option, Some, None, arith}
use Rattle.std.specs.declared.ops.ControlFlow.TheVariants.{Break}
use Rattle.tree.specs.Blocks.{nodes_of}
use Rattle.tree.specs.Layout.{Laid}
use Rattle.tree.proofs.Blocked.{nodes_most, record_in}
use Rattle.record.specs.Node.{first_of, count_of}
use Rattle.state.specs.declared.Settings.{Settings}
use Rattle.state.specs.declared.State.{State}
use Rattle.state.specs.State.{answer_of, poll_of}
use Rattle.moves.specs.Order.{place_of}
use Rattle.moves.proofs.Kids.{kids_within}
use Rattle.moves.proofs.Ordered.{Among, among, place_among}
use Rattle.capture_steps.specs.declared.Capture.{Capture}
use Rattle.capture_steps.specs.Step.{PlaceIn, stop_if, polled, enter_of}

-- a visit whose poll stops it answers 0
module _ (set : Settings) (t words : List ℕ) (st s : State) (a : Capture) (es : s ≡ poll_of set.limit st) where
  entered : polled set t words s a ≡ enter_of set t words st a
  unfolding enter_of
  entered = ap (λ (x : State). polled set t words x a) es

  pub enter_stop : s.stop ≡ true → Break (answer_of (pos 0) s) ≡ enter_of set t words st a
  unfolding stop_if
  enter_stop e = sym (ap (λ (q : Bool). stop_if q set t words s a) e) ∙ entered

-- the record of a place's child lies in the tree
pub ruleset noisy_rules = (nodes_most, record_in)

place_in : (n first count : ℕ) (p : Option ℕ) → Among count p → first + count ≤ n → PlaceIn n first p
place_in n first count None a h = tt
place_in n first count (Some p) (among l) h = omega arith

pub hint_in : (t : List ℕ) → Laid t → (k hint : ℕ) → k < nodes_of t → PlaceIn (nodes_of t) (first_of t k) (place_of t (first_of t k) (count_of t k) hint)
hint_in t l k hint h = place_in _ (first_of t k) (count_of t k) _ (place_among t (first_of t k) (count_of t k) hint) (kids_within t l k h)
