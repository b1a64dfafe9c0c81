-- Statements of a search's state that its steps keep: a poll, a count, a change of age and counters, and so a lookup and a store.
-- The first: a stop stays. What a turn left, whether it cut or not. Assumes nothing.
use mathlib.Core.Path.{◌≡◌, refl, sym, ◌∙◌}
use mathlib.Core.Bool.{Bool, true, false, ◌||◌, true≢false}
use mathlib.Core.List.{List}
use Prim.Native.Nat.{ℕ}
use lib.Dec.{leb}
use lib.IntN.{ℤ}
use Rattle.std.specs.declared.ops.ControlFlow.{ControlFlow}
use Rattle.std.specs.declared.ops.ControlFlow.TheVariants.{Continue, Break}
use Rattle.transposition.specs.declared.Bound.{Bound}
use Rattle.table.specs.declared.Stats.{Stats}
use Rattle.state.specs.declared.Settings.{Settings}
use Rattle.state.specs.declared.State.{State}
use Rattle.state.specs.State.{poll_of, count_node, with_stats, seen_of, keep_of}

-- what a turn left, whether it cut or not
abbrev pub left : {A : Type 0} → ControlFlow A A → A
left (Break l) = l
left (Continue l) = l

-- the statement Q is kept by a poll, a count, and a change of age and counters
pub record Closed (set : Settings) (Q : State → Type 0) : Type 0 where
  pub polled : (s : State) → Q s → Q (poll_of set.limit s)
  pub counted : (s : State) → Q s → Q (count_node s)
  pub restated : (s : State) (c : Stats) → Q s → Q (with_stats s c)

module _ (set : Settings) (Q : State → Type 0) (cl : Closed set Q) where
  pub seen_q : (b : Bool) (words : List ℕ) (s : State) (hash : ℕ) → Q s → Q (seen_of b words s hash).state
  unfolding seen_of
  seen_q true words s hash q = cl.restated s _ q
  seen_q false words s hash q = q

  pub keep_q : (b : Bool) (words : List ℕ) (s : State) (hash : ℕ) (d x : ℤ) (m : ℕ) (e : Bound) → Q s → Q (keep_of b words s hash d x m e).it
  unfolding keep_of
  keep_q true words s hash d x m e q = cl.restated s _ q
  keep_q false words s hash d x m e q = q

-- 01, History and clock: "A stop stays"
pub record Stopped (s : State) : Type 0 where
  pub is : s.stop ≡ true

or_true : (a b : Bool) → b ≡ true → a || b ≡ true
or_true true b e = refl
or_true false b e = e

polled_stop : (limit : ℕ) (s : State) → Stopped s → Stopped (poll_of limit s)
unfolding poll_of
polled_stop limit s q = record { is = or_true (leb limit s.nodes) s.stop q.is }

counted_stop : (s : State) → Stopped s → Stopped (count_node s)
unfolding count_node
counted_stop s q = record { is = q.is }

pub stays : (set : Settings) → Closed set Stopped
stays set = record { polled = λ s q. polled_stop set.limit s q; counted = λ s q. counted_stop s q; restated = λ s c q. record { is = q.is } }

-- so if the end is not stopped, no point before it was
pub back : (s u : State) → (Stopped s → Stopped u) → u.stop ≡ false → s.stop ≡ false
back s u f e = go s.stop refl
  where
    go : (b : Bool) → s.stop ≡ b → s.stop ≡ false
    go true p = absurd (true≢false (sym (f (record { is = p })).is ∙ e))
    go false p = p
