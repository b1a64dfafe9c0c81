-- Demand 3: with the six switches off, the score of a search that was not stopped tells the truth of the extended minimax. The statement;
-- `proofs/Demand3` proves it. Assumes nothing.
use Rattle.std.specs.Prelude.{◌≡◌, true, false, List, ℕ, ◌≤◌, ◌<◌, ℤ, pos, neg_ℤ}
use Rattle.std.specs.Int.Signed.{lt_z, le_z}
use Rattle.state.specs.declared.Settings.{Settings}
use Rattle.state.specs.declared.State.{State}
use Rattle.state.specs.declared.Out.{Out}
use Rattle.state.specs.Accepted.{AcceptedBy}
use Rattle.carry.specs.declared.Args.{Args}
use Rattle.visits.specs.Reach.{Reach, need}
use Rattle.visits.specs.Search.{visit_f}
use Rattle.minimax.specs.Minimax.{minimax}

-- what a score found between alpha and beta says of a value: strictly inside it is that value, at or below alpha it is at least that value,
-- at or above beta it is at most that value
pub record Tells3 (alpha beta score value : ℤ) : Type 0 where
  pub inside : lt_z alpha score ≡ true → lt_z score beta ≡ true → score ≡ value
  pub low : le_z score alpha ≡ true → le_z value score ≡ true
  pub high : le_z beta score ≡ true → le_z score value ≡ true

-- 01, Visits: "The six switches: table, delta, reverse futility, futility, late-move, inner deepening." All off.
pub record Plain (set : Settings) : Type 0 where
  pub table : set.table ≡ false
  pub delta : set.delta ≡ false
  pub reverse_futility : set.reverse_futility ≡ false
  pub futility : set.futility ≡ false
  pub late_move : set.late_move ≡ false
  pub inner_deepening : set.inner_deepening ≡ false

-- INF 1,000 to 30,000, MAX_PLY 32 to 128
pub record InRange (set : Settings) : Type 0 where
  pub inf_least : le_z (pos 1000) set.inf ≡ true
  pub inf_most : le_z set.inf (pos 30000) ≡ true
  pub ply_least : 32 ≤ set.max_ply
  pub ply_most : set.max_ply ≤ 128

-- -INF <= alpha < beta <= INF
pub record Windowed (inf alpha beta : ℤ) : Type 0 where
  pub alpha_least : le_z (neg_ℤ inf) alpha ≡ true
  pub order : lt_z alpha beta ≡ true
  pub beta_most : le_z beta inf ≡ true

-- of every tree that is accepted, from every state, table and history, at every limit
abbrev pub Demand3 : Type 0
Demand3 =
    (set : Settings) (t : List ℕ) → Plain set → InRange set → AcceptedBy set t
    → (a : Args) → Reach t a → Windowed set.inf a.alpha a.beta
    → (k : ℕ) (s : State) (words : List ℕ) (history : List ℤ) → need t a.node a.depth < k
    → (visit_f k t set s words history a).it.state.stop ≡ false
    → Tells3 a.alpha a.beta (visit_f k t set s words history a).it.score (minimax set t a.node a.depth a.ply)

-- what an answer of the node search tells: with all switches off, settings in range and an ordered window, unless it was stopped
abbrev pub Told : Settings → List ℕ → Args → Out → Type 0
Told set t a r =
    Plain set → InRange set → Windowed set.inf a.alpha a.beta → r.state.stop ≡ false
    → Tells3 a.alpha a.beta r.score (minimax set t a.node a.depth a.ply)
