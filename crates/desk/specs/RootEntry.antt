-- The root search's entry: which refusal it gets, and what it answers and leaves. Assumes nothing.
use Rattle.std.specs.Prelude.{Bool, false, List, ℕ, zero, suc, ℤ, pos, nat_abs}
use Rattle.table.specs.declared.Stats.{Stats}
use Rattle.state.specs.declared.Settings.{Settings}
use Rattle.carry.specs.Carry.{With, with}
use Rattle.root_steps.specs.declared.Depths.{Depths}
use Rattle.root.specs.Root.{root_search}
use Rattle.refusals.specs.Rows.{range_right}
use Rattle.refusals.specs.First.{first, unless, search_rows}
use Rattle.results.specs.Told.{RootResult, root_refused}

-- 01, Refusal numbers: 6, 1 to 5, 8, 7; row 9 is "not tested by the root search"
unfoldable pub root_refusal : List ℕ → List ℕ → List ℤ → Settings → ℤ → ℤ → ℕ
root_refusal t words history set start end = first (search_rows t words history set) (unless (range_right start end) 7 0)

-- 01, Visits: "Its result is score, move, depth, node count and stop mark, where depth is the last one whose move was saved"
abbrev pub root_result : Depths → RootResult
root_result d =
    record {
      refusal = 0;
      score = d.best.score;
      mv = d.best.mv;
      depth = d.best.depth;
      nodes = d.state.nodes;
      stopped = d.state.stop;
      stats = d.state.stats;
    }

abbrev pub root_given : With Depths → With RootResult
root_given d = with (root_result d.it) d.words d.history

unfoldable pub root_answer : ℕ → List ℕ → Settings → Stats → ℤ → ℤ → List ℕ → List ℤ → With RootResult
root_answer zero t set c start end words history = root_given (root_search t set c (nat_abs start) (nat_abs end) words history)
root_answer (suc r) t set c start end words history = with (root_refused (suc r) c) words history

abbrev pub root_entry : List ℕ → Settings → Stats → ℤ → ℤ → List ℕ → List ℤ → With RootResult
root_entry t set c start end words history = root_answer (root_refusal t words history set start end) t set c start end words history
