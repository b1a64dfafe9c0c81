-- What the table's searches are of: a node as the tree's readers read it, the settings, the lent memory, and the answer of the root search's
-- entry. Assumes nothing.
use Rattle.std.specs.Prelude.{Bool, true, false, List, ℕ, ◌*◌, ℤ, pos, replicate}
use Rattle.table.specs.Stats.{zeroed}
use Rattle.record.specs.Node.{count_of, eval_of, move_of, hash_of, in_check, is_quiet}
use Rattle.state.specs.declared.Settings.{Settings}
use Rattle.desk.specs.RootEntry.{root_entry}
use Rattle.results.specs.Told.{RootResult}

pub record Node : Type 0 where
  pub children : ℕ
  pub check : Bool
  pub quiet : Bool
  pub eval : ℤ
  pub mv : ℕ
  pub hash : ℕ

abbrev pub node_at : List ℕ → ℕ → Node
node_at t k =
    record { children = count_of t k; check = in_check t k; quiet = is_quiet t k; eval = eval_of t k; mv = move_of t k; hash = hash_of t k }

-- 01, Visits: "The six switches: table, delta, reverse futility, futility, late-move, inner deepening."
pub record Switches : Type 0 where
  pub table : Bool
  pub delta : Bool
  pub reverse : Bool
  pub futility : Bool
  pub late : Bool
  pub inner : Bool

abbrev pub all_off : Switches
all_off = record { table = false; delta = false; reverse = false; futility = false; late = false; inner = false }

abbrev pub all_on : Switches
all_on = record { table = true; delta = true; reverse = true; futility = true; late = true; inner = true }

-- 01, Entries on both sides: "INF 30,000, MAX_PLY 128, HH_MAX 16,384, side 0, limit 1,000,000"
abbrev pub settings : Switches → Settings
settings s =
    record {
      inf = pos 30000;
      max_ply = 128;
      hh_max = pos 16384;
      side = 0;
      limit = 1000000;
      table = s.table;
      delta = s.delta;
      reverse_futility = s.reverse;
      futility = s.futility;
      late_move = s.late;
      inner_deepening = s.inner;
    }

-- an empty table of so many entries, and a history of zeros
abbrev pub empty : ℕ → List ℕ
empty entries = replicate (2 * entries) 0

abbrev pub zeros : List ℤ
zeros = replicate 8192 (pos 0)

-- the answer without the age and counters
pub record Answer : Type 0 where
  pub refusal : ℕ
  pub score : ℤ
  pub mv : ℕ
  pub depth : ℕ
  pub nodes : ℕ
  pub stopped : Bool

abbrev pub answer_of : RootResult → Answer
answer_of r =
    record { refusal = r.refusal; score = r.score; mv = r.mv; depth = r.depth; nodes = r.nodes; stopped = r.stopped }

-- the root search's entry, from depth 1 to end - 1, in a table of so many entries that is empty and of age 0
abbrev pub searched : List ℕ → Switches → ℕ → ℕ → Answer
searched t s entries end = answer_of (root_entry t (settings s) (zeroed 0) (pos 1) (pos end) (empty entries) zeros).it

-- neither refused nor stopped, with this score, move, last depth and node count
abbrev pub gives : ℤ → ℕ → ℕ → ℕ → Answer
gives score mv depth nodes = record { refusal = 0; score = score; mv = mv; depth = depth; nodes = nodes; stopped = false }
