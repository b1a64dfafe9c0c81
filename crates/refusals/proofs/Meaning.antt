-- What the rules give, each as a fact, and what a search, a tree's check and a bonus have once no row is given. Assumes nothing.
use mathlib.Core.Path.{◌≡◌}
use mathlib.Core.Bool.{true}
use mathlib.Core.List.{List}
use Prim.Native.Nat.{ℕ, ◌≤◌, ◌<◌}
use native.Mathlib.Omega.{arith}
use lib.Dec.{leb}
use lib.IntN.{ℤ, pos, neg_ℤ, nat_abs}
use lib.ListN.{length}
use lib.Signed.{lt_z, le_z}
use borrow.Author.Tests.{leb-true, ltb-true, eqb-true}
use Rattle.table.specs.Table.{well_sized}
use Rattle.table.proofs.Size.{well_sized_lem}
use Rattle.history.specs.Entries.{within_of}
use Rattle.tree.specs.Blocks.{nodes_of}
use Rattle.tree.specs.Refusal.{tree_refusal}
use Rattle.tree.proofs.Every.{two, three}
use Rattle.state.specs.declared.Settings.{Settings}
use Rattle.refusals.specs.Rows.{inf_right, max_ply_right, hh_max_right, side_right, limit_right, tree_settings_right, history_settings_right, settings_right, history_sized, history_right, node_right, window_right, depth_right, ply_right, range_right}
use Rattle.refusals.specs.First.{tree_rows, search_rows, entry_rows}
use Rattle.refusals.proofs.Orders.{from_above, from_lower}
use Rattle.refusals.proofs.Given.{tree_right, search-right, entry-right}

-- row 6

module _ (hh : ℤ) (ok : hh_max_right hh ≡ true) where
  pub hh_max_least : le_z (pos 4) hh ≡ true
  unfolding hh_max_right
  hh_max_least = (two (le_z (pos 4) hh) (le_z hh (pos 16384)) ok).0

  pub hh_max_most : le_z hh (pos 16384) ≡ true
  unfolding hh_max_right
  hh_max_most = (two (le_z (pos 4) hh) (le_z hh (pos 16384)) ok).1

  pub hh_max_above : lt_z (pos 0) hh ≡ true
  hh_max_above = from_above 0 4 hh (omega arith) hh_max_least

  pub hh_max_from : le_z (pos 0) hh ≡ true
  hh_max_from = from_lower 0 4 hh (omega arith) hh_max_least

module _ (inf : ℤ) (maxPly : ℕ) (ok : tree_settings_right inf maxPly ≡ true) where
  inf-tests : (le_z (pos 1000) inf ≡ true) × (le_z inf (pos 30000) ≡ true)
  unfolding tree_settings_right inf_right
  inf-tests = two (le_z (pos 1000) inf) (le_z inf (pos 30000)) (two (inf_right inf) (max_ply_right maxPly) ok).0

  ply-tests : (leb 32 maxPly ≡ true) × (leb maxPly 128 ≡ true)
  unfolding tree_settings_right max_ply_right
  ply-tests = two (leb 32 maxPly) (leb maxPly 128) (two (inf_right inf) (max_ply_right maxPly) ok).1

  pub inf_least : le_z (pos 1000) inf ≡ true
  inf_least = inf-tests.0

  pub inf_most : le_z inf (pos 30000) ≡ true
  inf_most = inf-tests.1

  pub max_ply_least : 32 ≤ maxPly
  max_ply_least = leb-true 32 maxPly ply-tests.0

  pub max_ply_most : maxPly ≤ 128
  max_ply_most = leb-true maxPly 128 ply-tests.1

module _ (hh : ℤ) (side : ℕ) (ok : history_settings_right hh side ≡ true) where
  pub hh_right : hh_max_right hh ≡ true
  unfolding history_settings_right
  hh_right = (two (hh_max_right hh) (side_right side) ok).0

  pub side_most : side ≤ 1
  unfolding history_settings_right side_right
  side_most = leb-true side 1 (two (hh_max_right hh) (side_right side) ok).1

module _ (set : Settings) (ok : settings_right set ≡ true) where
  parts : (tree_settings_right set.inf set.max_ply ≡ true) × (history_settings_right set.hh_max set.side ≡ true) × (limit_right set.limit ≡ true)
  unfolding settings_right
  parts = three (tree_settings_right set.inf set.max_ply) (history_settings_right set.hh_max set.side) (limit_right set.limit) ok

  limit-tests : (leb 1 set.limit ≡ true) × (leb set.limit 1000000000 ≡ true)
  unfolding limit_right
  limit-tests = two (leb 1 set.limit) (leb set.limit 1000000000) parts.2

  set-hh-right : hh_max_right set.hh_max ≡ true
  set-hh-right = hh_right set.hh_max set.side parts.1

  pub set_inf_least : le_z (pos 1000) set.inf ≡ true
  set_inf_least = inf_least set.inf set.max_ply parts.0

  pub set_inf_most : le_z set.inf (pos 30000) ≡ true
  set_inf_most = inf_most set.inf set.max_ply parts.0

  pub set_max_ply_least : 32 ≤ set.max_ply
  set_max_ply_least = max_ply_least set.inf set.max_ply parts.0

  pub set_max_ply_most : set.max_ply ≤ 128
  set_max_ply_most = max_ply_most set.inf set.max_ply parts.0

  pub set_hh_max_least : le_z (pos 4) set.hh_max ≡ true
  set_hh_max_least = hh_max_least set.hh_max set-hh-right

  pub set_hh_max_most : le_z set.hh_max (pos 16384) ≡ true
  set_hh_max_most = hh_max_most set.hh_max set-hh-right

  pub set_hh_max_above : lt_z (pos 0) set.hh_max ≡ true
  set_hh_max_above = hh_max_above set.hh_max set-hh-right

  pub set_hh_max_from : le_z (pos 0) set.hh_max ≡ true
  set_hh_max_from = hh_max_from set.hh_max set-hh-right

  pub set_side_most : set.side ≤ 1
  set_side_most = side_most set.hh_max set.side parts.1

  pub set_limit_least : 1 ≤ set.limit
  set_limit_least = leb-true 1 set.limit limit-tests.0

  pub set_limit_most : set.limit ≤ 1000000000
  set_limit_most = leb-true set.limit 1000000000 limit-tests.1

-- row 7

pub node_in : (t : List ℕ) (node : ℕ) → node_right t node ≡ true → node < nodes_of t
unfolding node_right
node_in t node ok = ltb-true node (nodes_of t) ok

module _ (inf alpha beta : ℤ) (ok : window_right inf alpha beta ≡ true) where
  window-tests : (le_z (neg_ℤ inf) alpha ≡ true) × (lt_z alpha beta ≡ true) × (le_z beta inf ≡ true)
  unfolding window_right
  window-tests = three (le_z (neg_ℤ inf) alpha) (lt_z alpha beta) (le_z beta inf) ok

  pub window_low : le_z (neg_ℤ inf) alpha ≡ true
  window_low = window-tests.0

  pub window_open : lt_z alpha beta ≡ true
  window_open = window-tests.1

  pub window_high : le_z beta inf ≡ true
  window_high = window-tests.2

module _ (depth : ℤ) (ok : depth_right depth ≡ true) where
  depth-tests : (le_z (pos 0) depth ≡ true) × (le_z depth (pos 30) ≡ true)
  unfolding depth_right
  depth-tests = two (le_z (pos 0) depth) (le_z depth (pos 30)) ok

  pub depth_least : le_z (pos 0) depth ≡ true
  depth_least = depth-tests.0

  pub depth_most : le_z depth (pos 30) ≡ true
  depth_most = depth-tests.1

pub ply_most : (maxPly ply : ℕ) → ply_right maxPly ply ≡ true → ply ≤ maxPly
unfolding ply_right
ply_most maxPly ply ok = leb-true ply maxPly ok

module _ (start end : ℤ) (ok : range_right start end ≡ true) where
  range-tests : (le_z (pos 1) start ≡ true) × (le_z start end ≡ true) × (le_z end (pos 31) ≡ true)
  unfolding range_right
  range-tests = three (le_z (pos 1) start) (le_z start end) (le_z end (pos 31)) ok

  pub start_least : le_z (pos 1) start ≡ true
  start_least = range-tests.0

  pub start_end : le_z start end ≡ true
  start_end = range-tests.1

  pub end_most : le_z end (pos 31) ≡ true
  end_most = range-tests.2

-- rows 8 and 9

pub history_length : (history : List ℤ) → history_sized history ≡ true → length history ≡ 8192
unfolding history_sized
history_length history ok = eqb-true (length history) 8192 ok

pub history_within : (hh : ℤ) (history : List ℤ) → history_right hh history ≡ true → within_of (nat_abs hh) history ≡ true
unfolding history_right
history_within hh history ok = ok

-- no row is given

module _ (inf : ℤ) (maxPly : ℕ) (t : List ℕ) (ok : tree_rows inf maxPly t ≡ 0) where
  pub tree_settings_right_lem : tree_settings_right inf maxPly ≡ true
  tree_settings_right_lem = (tree_right inf maxPly t ok).0

  pub tree_accepted : tree_refusal inf maxPly t ≡ 0
  tree_accepted = (tree_right inf maxPly t ok).1

module _ (t words : List ℕ) (history : List ℤ) (set : Settings) (ok : search_rows t words history set ≡ 0) where
  pub search_settings_right : settings_right set ≡ true
  search_settings_right = (search-right t words history set ok).0

  pub search_accepted : tree_refusal set.inf set.max_ply t ≡ 0
  search_accepted = (search-right t words history set ok).1

  pub search_well_sized : well_sized (length words) ≡ true
  search_well_sized = (search-right t words history set ok).2

  pub search_words : 2 ≤ length words
  search_words = (well_sized_lem (length words) search_well_sized).long

  pub search_entries : length history ≡ 8192
  search_entries = history_length history (search-right t words history set ok).3

module _ (history : List ℤ) (hh : ℤ) (side : ℕ) (ok : entry_rows history hh side ≡ 0) where
  pub entry_settings_right : history_settings_right hh side ≡ true
  entry_settings_right = (entry-right history hh side ok).0

  pub entry_length : length history ≡ 8192
  entry_length = history_length history (entry-right history hh side ok).1

  pub entry_within : within_of (nat_abs hh) history ≡ true
  entry_within = history_within hh history (entry-right history hh side ok).2
