-- What the table makes of a window. Assumes nothing.
use Rattle.std.specs.Prelude.{ℕ, Bool, true, false, cond, ◌&&◌, ℤ, int_le, int_lt, Some, None}
use Rattle.score.specs.Wrap.{max_z}
use Rattle.transposition.specs.declared.Bound.{Bound}
use Rattle.transposition.specs.declared.Bound.TheVariants.{Exact, Lower, Upper}
use Rattle.transposition.specs.declared.Entry.{Entry}
use Rattle.table.specs.declared.Found.{Found}
use Rattle.table.specs.declared.Found.TheVariants.{Miss, Collision, Hit}
use Rattle.state.specs.declared.Consulted.{Consulted}

-- the window stays, with a hint
abbrev pub stay : ℕ → ℤ → ℤ → Consulted
stay hint alpha beta = record { cut = None; alpha = alpha; beta = beta; hint = hint }

-- 000: "if alpha >= beta { return t.score() }"
abbrev pub narrowed : Entry → ℤ → ℤ → Consulted
narrowed e alpha beta = record { cut = cond (int_le beta alpha) (Some e.score) None; alpha = alpha; beta = beta; hint = e.mv }

-- 000: an Exact score is the answer, a Lower one raises alpha, an Upper one lowers beta
unfoldable pub by_bound : Bound → Entry → ℤ → ℤ → Consulted
by_bound Exact e alpha beta = record { cut = Some e.score; alpha = alpha; beta = beta; hint = e.mv }
by_bound Lower e alpha beta = narrowed e (max_z alpha e.score) beta
by_bound Upper e alpha beta = narrowed e alpha (cond (int_lt e.score beta) e.score beta)

abbrev pub use_of : Entry → ℤ → ℤ → Consulted
use_of e alpha beta = by_bound e.bound e alpha beta

unfoldable pub use_if : Bool → Entry → ℤ → ℤ → Consulted
use_if true e alpha beta = use_of e alpha beta
use_if false e alpha beta = stay e.mv alpha beta

-- 01, Visits: "In the node search a table cutoff or a table bound on the window is taken only when alpha is beta - 1 and stored depth >= depth;
-- in captures stored depth >= depth is enough."
unfoldable pub consult_of : Found → Bool → ℤ → ℤ → ℤ → Consulted
consult_of Miss usable depth alpha beta = stay 0 alpha beta
consult_of Collision usable depth alpha beta = stay 0 alpha beta
consult_of (Hit e) usable depth alpha beta = use_if (usable && int_le depth e.depth) e alpha beta

-- the move that a lookup gives to be tried first, 0 where there is none
unfoldable pub hint_of : Found → ℕ
hint_of Miss = 0
hint_of Collision = 0
hint_of (Hit e) = e.mv
