-- What a linked caller asks for and is told: the root search's entry with the program's settings. Assumes nothing.
use Rattle.std.specs.Prelude.{Bool, List, ℕ, ◌/◌, ◌%◌, eqb, ℤ, pos}
use Rattle.table.specs.Stats.{zeroed}
use Rattle.state.specs.declared.Settings.{Settings}
use Rattle.carry.specs.Carry.{With}
use Rattle.desk.specs.RootEntry.{root_entry}
use Rattle.results.specs.Told.{RootResult}

unfoldable pub bit_of : ℕ → ℕ → Bool
bit_of bits unit = eqb (bits / unit % 2) 1

-- 01: "INF 30,000, MAX_PLY 128, HH_MAX 16,384, side 0", and the six switches in 01's order, a bit each from the lowest
abbrev pub settings_of : ℕ → ℕ → Settings
settings_of switches limit =
    record {
      inf = pos 30000;
      max_ply = 128;
      hh_max = pos 16384;
      side = 0;
      limit = limit;
      table = bit_of switches 1;
      delta = bit_of switches 2;
      reverse_futility = bit_of switches 4;
      futility = bit_of switches 8;
      late_move = bit_of switches 16;
      inner_deepening = bit_of switches 32;
    }

-- all that a call leaves with its caller
pub record Told : Type 0 where
  pub refusal : ℕ
  pub score : ℤ
  pub mv : ℕ
  pub nodes : ℕ
  pub words : List ℕ
  pub history : List ℤ

abbrev pub told : ℕ → ℤ → ℕ → ℕ → List ℕ → List ℤ → Told
told refusal score mv nodes words history =
    record { refusal = refusal; score = score; mv = mv; nodes = nodes; words = words; history = history }

abbrev pub told_of : With RootResult → Told
told_of r = told r.it.refusal r.it.score r.it.mv r.it.nodes r.words r.history

-- the root search from depth 1 to end - 1, in a table of age 0 whose counters are 0
abbrev pub called : List ℕ → ℕ → ℕ → ℤ → List ℕ → List ℤ → Told
called t switches limit end words history = told_of (root_entry t (settings_of switches limit) (zeroed 0) (pos 1) end words history)
