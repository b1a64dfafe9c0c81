-- What is computed for each of the 64 settings of the six switches holds for every setting. Assumes nothing.
use mathlib.Core.Path.{◌≡◌}
use mathlib.Core.Bool.{Bool, true, false, not, ◌&&◌}
use Prim.Native.Nat.{ℕ}
use native.Mathlib.Omega.{arith}
use lib.Dec.{eqb}
use lib.IntN.{ℤ}
use Rattle.score.specs.Wrap.{eq_z}
use Rattle.tree.proofs.Every.{two}
use Rattle.starred.specs.Searched.{Switches, Answer, gives}

-- a test at both settings of one switch
abbrev off_on : (Bool → Bool) → Bool
off_on test = test false && test true

off_on_means : (test : Bool → Bool) → off_on test ≡ true → (b : Bool) → test b ≡ true
off_on_means test e false = (two (test false) (test true) e).0
off_on_means test e true = (two (test false) (test true) e).1

abbrev switches : Bool → Bool → Bool → Bool → Bool → Bool → Switches
switches a b c d e f = record { table = a; delta = b; reverse = c; futility = d; late = e; inner = f }

-- a test at all settings of the six
unfoldable pub everywhere : (Switches → Bool) → Bool
everywhere test = off_on (λ a. off_on (λ b. off_on (λ c. off_on (λ d. off_on (λ e. off_on (λ f. test (switches a b c d e f)))))))

-- and what it tells of one setting
pub everywhere_means : (test : Switches → Bool) → everywhere test ≡ true → (s : Switches) → test s ≡ true
unfolding everywhere
everywhere_means test h s =
    off_on_means (λ f. test (switches s.table s.delta s.reverse s.futility s.late f))
    (off_on_means (λ e. off_on (λ f. test (switches s.table s.delta s.reverse s.futility e f)))
    (off_on_means (λ d. off_on (λ e. off_on (λ f. test (switches s.table s.delta s.reverse d e f))))
    (off_on_means (λ c. off_on (λ d. off_on (λ e. off_on (λ f. test (switches s.table s.delta c d e f)))))
    (off_on_means (λ b. off_on (λ c. off_on (λ d. off_on (λ e. off_on (λ f. test (switches s.table b c d e f))))))
    (off_on_means (λ a. off_on (λ b. off_on (λ c. off_on (λ d. off_on (λ e. off_on (λ f. test (switches a b c d e f)))))))
    h s.table) s.delta) s.reverse) s.futility) s.late) s.inner

-- whether an answer is that of a search neither refused nor stopped, with this score, move, depth and node count
unfoldable pub is_given : ℤ → ℕ → ℕ → ℕ → Answer → Bool
is_given score mv depth nodes a =
    eqb a.refusal 0 && eq_z a.score score && eqb a.mv mv && eqb a.depth depth && eqb a.nodes nodes && not a.stopped

-- the answer, as an equation
pub is_given_lem : (score : ℤ) (mv depth nodes : ℕ) (a : Answer) → is_given score mv depth nodes a ≡ true → a ≡ gives score mv depth nodes
unfolding is_given eq_z
is_given_lem = grind arith
