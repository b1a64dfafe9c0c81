-- What the program searches with, and what it answers of a tree. Assumes nothing.
use Rattle.std.specs.Prelude.{true, List, ℕ, ℤ, pos, replicate}
use Rattle.table.specs.declared.Stats.{Stats}
use Rattle.state.specs.declared.Settings.{Settings}
use Rattle.carry.specs.Carry.{With}
use Rattle.desk.specs.RootEntry.{root_entry}
use Rattle.text.specs.Text.{line_of}
use Rattle.results.specs.Told.{RootResult}

-- 01, Entries on both sides: "INF 30,000, MAX_PLY 128, HH_MAX 16,384, side 0, limit 1,000,000, all switches on"
abbrev pub program_settings : Settings
program_settings =
    record {
      inf = pos 30000;
      max_ply = 128;
      hh_max = pos 16384;
      side = 0;
      limit = 1000000;
      table = true;
      delta = true;
      reverse_futility = true;
      futility = true;
      late_move = true;
      inner_deepening = true;
    }

-- an age and counters of which nothing was counted yet
abbrev pub fresh_stats : Stats
fresh_stats = record { age = 0; lookups = 0; inserts = 0; hits = 0; misses = 0; collisions = 0 }

-- 01, Entries on both sides: "4,096 entries", two words to an entry
unfoldable pub fresh_table : List ℕ
fresh_table = replicate 8192 0

-- 01, Refusal numbers: a history is "8,192 entries"
unfoldable pub fresh_history : List ℤ
fresh_history = replicate 8192 (pos 0)

-- 01, Entries on both sides: "The program reads a tree .. start 1, end 31"
abbrev pub program_entry : List ℕ → With RootResult
program_entry t = root_entry t program_settings fresh_stats (pos 1) (pos 31) fresh_table fresh_history

-- the line that the program answers a tree with
abbrev pub program_line : List ℕ → List ℕ
program_line t = line_of (program_entry t).it
