-- The rows of 01's refusal table, each as the test that its rule holds: the row is given exactly where the test fails. Ranges are closed.
-- Assumes nothing.
use Rattle.std.specs.Prelude.{Bool, ◌&&◌, List, ℕ, eqb, leb, ltb, ℤ, pos, neg_ℤ, nat_abs, length}
use Rattle.std.specs.Int.Signed.{lt_z, le_z}
use Rattle.table.specs.Table.{well_sized}
use Rattle.history.specs.Entries.{within_of}
use Rattle.tree.specs.Blocks.{nodes_of}
use Rattle.state.specs.declared.Settings.{Settings}

-- row 6, "a setting is outside its range"; 01: "INF 1,000 to 30,000"
unfoldable pub inf_right : ℤ → Bool
inf_right inf = le_z (pos 1000) inf && le_z inf (pos 30000)

-- "MAX_PLY 32 to 128"
unfoldable pub max_ply_right : ℕ → Bool
max_ply_right maxPly = leb 32 maxPly && leb maxPly 128

-- "HH_MAX 4 to 16,384"
unfoldable pub hh_max_right : ℤ → Bool
hh_max_right hh = le_z (pos 4) hh && le_z hh (pos 16384)

-- "root side 0 or 1"
unfoldable pub side_right : ℕ → Bool
side_right side = leb side 1

-- "node limit 1 to 1,000,000,000"
unfoldable pub limit_right : ℕ → Bool
limit_right limit = leb 1 limit && leb limit 1000000000

-- what a tree's check takes: evaluations need INF and MAX_PLY
unfoldable pub tree_settings_right : ℤ → ℕ → Bool
tree_settings_right inf maxPly = inf_right inf && max_ply_right maxPly

-- what a bonus or a malus takes
unfoldable pub history_settings_right : ℤ → ℕ → Bool
history_settings_right hh side = hh_max_right hh && side_right side

-- what a search takes: all five
unfoldable pub settings_right : Settings → Bool
settings_right set =
    tree_settings_right set.inf set.max_ply && history_settings_right set.hh_max set.side && limit_right set.limit

-- row 8: "table isn't 2n words, n a power of two, 1 to 65,536; or history isn't 8,192 entries"
abbrev pub table_right : List ℕ → Bool
table_right words = well_sized (length words)

unfoldable pub history_sized : List ℤ → Bool
history_sized history = eqb (length history) 8192

-- row 9: "a history entry beyond plus or minus HH_MAX"
unfoldable pub history_right : ℤ → List ℤ → Bool
history_right hh history = within_of (nat_abs hh) history

-- row 7: "node absent"
unfoldable pub node_right : List ℕ → ℕ → Bool
node_right t node = ltb node (nodes_of t)

-- row 7: "not -INF <= alpha < beta <= INF"
unfoldable pub window_right : ℤ → ℤ → ℤ → Bool
window_right inf alpha beta = le_z (neg_ℤ inf) alpha && lt_z alpha beta && le_z beta inf

-- row 7: "depth outside 0..30"
unfoldable pub depth_right : ℤ → Bool
depth_right depth = le_z (pos 0) depth && le_z depth (pos 30)

-- row 7: "ply outside 0..MAX_PLY"
unfoldable pub ply_right : ℕ → ℕ → Bool
ply_right maxPly ply = leb ply maxPly

-- row 7: "root range not 1 <= start <= end <= 31"
unfoldable pub range_right : ℤ → ℤ → Bool
range_right start end = le_z (pos 1) start && le_z start end && le_z end (pos 31)
