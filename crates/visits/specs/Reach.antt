-- What a visit asks: settings and lent memory, a node of the tree, a depth and a ply that a search reaches there. Assumes nothing.
use Rattle.std.specs.Prelude.{◌≡◌, true, List, ℕ, ◌+◌, ◌-◌, ◌*◌, ◌≤◌, ◌<◌, ℤ, pos, length}
use Rattle.std.specs.Int.Signed.{lt_z}
use Rattle.tree.specs.Blocks.{nodes_of}
use Rattle.tree.specs.Level.{level_of}
use Rattle.state.specs.declared.Settings.{Settings}
use Rattle.state.specs.Accepted.{AcceptedBy}
use Rattle.carry.specs.declared.Args.{Args}
use Rattle.carry.specs.declared.Here.{Here}

-- an accepted tree, HH_MAX above 0, and lent memory of the right size
pub record Ready (set : Settings) (t words : List ℕ) (history : List ℤ) : Type 0 where
  pub accepted : AcceptedBy set t
  pub hh_above : lt_z (pos 0) set.hh_max ≡ true
  pub words_least : 2 ≤ length words
  pub history_length : length history ≡ 8192

-- a visit's arguments
pub record Reach (t : List ℕ) (a : Args) : Type 0 where
  pub in_tree : a.node < nodes_of t
  pub side_most : a.side ≤ 1
  pub depth_most : a.depth ≤ 30
  pub ply_most : a.ply ≤ level_of t a.node + 128

-- a visit whose depth, with the extension, is not 0
pub record Inside (t : List ℕ) (h : Here) : Type 0 where
  pub in_tree : h.node < nodes_of t
  pub side_most : h.side ≤ 1
  pub depth_least : 1 ≤ h.depth
  pub depth_most : h.depth ≤ 31
  pub ply_most : h.ply ≤ level_of t h.node + 128

-- 01, 'Some places and their forms': "pair of nodes remaining and depth falls". The pair as one number, the fuel that a visit wants.
abbrev pub need : List ℕ → ℕ → ℕ → ℕ
need t node depth = (nodes_of t - node) * 256 + depth
