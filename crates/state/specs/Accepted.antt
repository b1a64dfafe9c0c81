-- What a search asks of its tree. Assumes nothing.
use Rattle.std.specs.Prelude.{◌≡◌, ℕ, List}
use Rattle.tree.specs.Refusal.{tree_refusal}
use Rattle.state.specs.declared.Settings.{Settings}

-- the tree gets none of the refusals 1 to 5 under these settings
abbrev pub AcceptedBy : Settings → List ℕ → Type 0
AcceptedBy set t = tree_refusal set.inf set.max_ply t ≡ 0
