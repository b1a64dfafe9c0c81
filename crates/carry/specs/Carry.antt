-- What a visit carries beside its value. Assumes nothing.
use Rattle.std.specs.Prelude.{List, ℕ, ℤ}
use Rattle.std.specs.declared.ops.ControlFlow.{ControlFlow}
use Rattle.state.specs.declared.Out.{Out}
use Rattle.state.specs.State.{Over}
use Rattle.carry.specs.declared.Here.{Here}
use Rattle.carry.specs.declared.Loc.{Loc}

-- what a turn of the walk leaves: a break where it cut
abbrev pub Turn : Type 0
Turn = ControlFlow Loc Loc

-- what the steps before the moves leave: an answer, or the moves to be made
abbrev pub Entered : Type 0
Entered = ControlFlow Out (Here × Loc)

-- a value, the table's words and the history's entries after it
pub record With (A : Type 0) : Type 0 where
  pub it : A
  pub words : List ℕ
  pub history : List ℤ

abbrev pub with : {A : Type 0} → A → List ℕ → List ℤ → With A
with x words history = record { it = x; words = words; history = history }

-- what changed the words alone, beside the history
abbrev pub beside : {A : Type 0} → Over A → List ℤ → With A
beside r history = with r.it r.words history
