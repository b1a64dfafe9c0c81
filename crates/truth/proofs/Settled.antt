-- The settings that demand 3 speaks of: the switches off and INF a natural number, with what is known of them and of the tree. Assumes nothing.
use mathlib.Core.Path.{◌≡◌, sym}
use mathlib.Core.Bool.{false}
use mathlib.Core.List.{List}
use Prim.Native.Nat.{ℕ, ◌+◌, ◌≤◌, ◌<◌}
use native.Mathlib.Omega.{arith}
use lib.IntN.{pos}
use Rattle.record.specs.Node.{first_of, count_of}
use Rattle.tree.specs.Blocks.{nodes_of}
use Rattle.tree.specs.Level.{level_of}
use Rattle.tree.specs.Refusal.{tree_refusal}
use Rattle.tree.proofs.Accepted.{child_in, level_kid}
use Rattle.state.specs.declared.Settings.{Settings}
use Rattle.truth.specs.Demand3.{Plain}

-- settings with the switches off and INF n
abbrev pub plain_of : ℕ → Settings → Settings
plain_of n set =
    record {
      inf = pos n;
      max_ply = set.max_ply;
      hh_max = set.hh_max;
      side = set.side;
      limit = set.limit;
      table = false;
      delta = false;
      reverse_futility = false;
      futility = false;
      late_move = false;
      inner_deepening = false;
    }

pub plain_is : (n : ℕ) (set : Settings) → set.inf ≡ pos n → Plain set → plain_of n set ≡ set
plain_is n set e p i =
    record {
      inf = sym e i;
      max_ply = set.max_ply;
      hh_max = set.hh_max;
      side = set.side;
      limit = set.limit;
      table = sym p.table i;
      delta = sym p.delta i;
      reverse_futility = sym p.reverse_futility i;
      futility = sym p.futility i;
      late_move = sym p.late_move i;
      inner_deepening = sym p.inner_deepening i;
    }

-- what is known of INF, MAX_PLY and the tree
pub record Known (n maxPly : ℕ) (t : List ℕ) : Type 0 where
  pub accepted : tree_refusal (pos n) maxPly t ≡ 0
  pub inf_low : 1000 ≤ n
  pub inf_high : n ≤ 30000
  pub ply_high : maxPly ≤ 128

-- a node of the tree at a ply that a search can meet there
pub record At (t : List ℕ) (node ply : ℕ) : Type 0 where
  pub in_tree : node < nodes_of t
  pub ply_most : ply ≤ level_of t node + 128

module _ (n maxPly : ℕ) (t : List ℕ) (ok : Known n maxPly t) (node i : ℕ) where
  pub kid_in : node < nodes_of t → i < count_of t node → first_of t node + i < nodes_of t
  kid_in h l = child_in (pos n) maxPly t ok.accepted node i h l

  pub kid_at : (ply : ℕ) → At t node ply → i < count_of t node → At t (first_of t node + i) (ply + 1)
  kid_at ply p l =
      record { in_tree = kid_in p.in_tree l; ply_most = omega (arith, level_kid (pos n) maxPly t ok.accepted node i p.in_tree l) }
