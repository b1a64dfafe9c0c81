-- The proof of demand 3: from images back to integers, and from settings in range to those of `Settled`. Assumes nothing.
use mathlib.Core.Path.{◌≡◌, refl, subst}
use mathlib.Core.Bool.{true, false, false≢true}
use mathlib.Core.List.{List}
use Prim.Native.Nat.{ℕ, zero, suc, ◌+◌, ◌≤◌, ◌<◌}
use native.Mathlib.Omega.{arith}
use borrow.Author.Tests.{le-leb, leb-true, ltb-true}
use lib.IntN.{ℤ, pos, negsuc, neg_ℤ}
use lib.Signed.{lt_z, le_z}
use Rattle.score.proofs.Order.{off}
use Rattle.score.proofs.Range.{InZ, lt_yes, le_yes, off_inj}
use Rattle.tree.specs.Refusal.{tree_refusal}
use Rattle.state.specs.declared.Settings.{Settings}
use Rattle.state.specs.declared.State.{State}
use Rattle.state.specs.Accepted.{AcceptedBy}
use Rattle.carry.specs.declared.Args.{Args}
use Rattle.visits.specs.Reach.{Reach, need}
use Rattle.visits.specs.Search.{visit_f}
use Rattle.minimax.specs.Minimax.{depth_at, minimax_v, minimax}
use Rattle.minimax.proofs.Fuel.{minimax_is}
use Rattle.truth.specs.Demand3.{Tells3, InRange, Windowed, Demand3}
use Rattle.truth.proofs.Settled.{plain_of, plain_is, Known, At}
use Rattle.truth.proofs.Ranges.{pos_off, minimax_in}
use Rattle.truth.proofs.Tells.{Tells, Window}
use Rattle.truth.proofs.Truth.{visit-ok}

-- an INF in range is a natural number in range
record Natural (z : ℤ) : Type 0 where
  n : ℕ
  is : z ≡ pos n
  low : 1000 ≤ n
  high : n ≤ 30000

natural : (z : ℤ) → le_z (pos 1000) z ≡ true → le_z z (pos 30000) ≡ true → Natural z
natural (pos n) l h = record { n = n; is = refl; low = leb-true 1000 n l; high = leb-true n 30000 h }
natural (negsuc n) l h = absurd (false≢true l)

-- the orders of integers and of their images

le_up : (inf : ℕ) (a b : ℤ) → inf ≤ 30000 → InZ inf a → InZ inf b → off a ≤ off b → le_z a b ≡ true
unfolding off
le_up inf (pos a) (pos b) i ia ib h = le-leb a b (omega arith)
le_up inf (pos a) (negsuc b) i ia ib h = absurd (omega arith)
le_up inf (negsuc a) (pos b) i ia ib h = refl
le_up inf (negsuc a) (negsuc b) i ia ib h = le-leb b a (omega arith)

-- what lies at or above -INF has its image there
low_in : (inf : ℕ) (z : ℤ) → 0 < inf → inf ≤ 30000 → le_z (neg_ℤ (pos inf)) z ≡ true → 32768 ≤ off z + inf
unfolding off
low_in zero z p i h = absurd (omega arith)
low_in (suc j) (pos k) p i h = omega arith
low_in (suc j) (negsuc k) p i h = omega (arith, leb-true k j h)

-- the strict order of two integers, the lower above -INF, by images
lt_low : (inf : ℕ) (a b : ℤ) → 32768 ≤ off a + inf → inf ≤ 30000 → lt_z a b ≡ true → off a < off b
unfolding off
lt_low inf (pos a) (pos b) l i h = omega (arith, ltb-true a b h)
lt_low inf (pos a) (negsuc b) l i h = absurd (false≢true h)
lt_low inf (negsuc a) (pos b) l i h = omega arith
lt_low inf (negsuc a) (negsuc b) l i h = omega (arith, ltb-true b a h)

pub window : (inf : ℕ) (alpha beta : ℤ) → 0 < inf → inf ≤ 30000 → Windowed (pos inf) alpha beta → Window inf alpha beta
window inf alpha beta p i w =
    let l = low_in inf alpha p i w.alpha_least in
    let o = lt_low inf alpha beta l i w.order in
    let u = le_yes beta (pos inf) w.beta_most in
    let e = pos_off inf in
    record { alpha_in = record { low = l; high = omega arith }; beta_in = record { low = omega arith; high = omega arith }; order = o }

-- the two inequalities are the three cases
pub cases
    : (inf : ℕ) (alpha beta s v : ℤ) → inf ≤ 30000 → Window inf alpha beta → InZ inf v → Tells inf (off alpha) (off beta) (off s) (off v)
    → Tells3 alpha beta s v
cases inf alpha beta s v i w iv t =
    record {
      inside = λ l u.
          let a = lt_yes inf alpha s i w.alpha_in t.range l in
          let b = lt_yes inf s beta i t.range w.beta_in u in
          off_inj inf s v i t.range iv (omega arith);
      low = λ l. let a = le_yes s alpha l in let o = w.order in le_up inf v s i iv t.range (omega arith);
      high = λ l. let a = le_yes beta s l in let o = w.order in le_up inf s v i t.range iv (omega arith);
    }

-- of the settings of `Settled`
module _
    (n : ℕ) (set : Settings) (t : List ℕ) (ok : Known n set.max_ply t) (a : Args) (r : Reach t a) (w : Window n a.alpha a.beta)
    (k : ℕ) (s : State) (words : List ℕ) (hist : List ℤ) (f : need t a.node a.depth < k) where
  abbrev Goal : Settings → Type 0
  Goal y =
      (visit_f k t y s words hist a).it.state.stop ≡ false
      → Tells3 a.alpha a.beta (visit_f k t y s words hist a).it.score (minimax y t a.node a.depth a.ply)

  place : At t a.node a.ply
  place = record { in_tree = r.in_tree; ply_most = r.ply_most }

  settled : Goal (plain_of n set)
  settled e =
      let y = plain_of n set in
      let score = (visit_f k t y s words hist a).it.score in
      let d = depth_at t a.node a.depth in
      subst (λ (v : ℤ). Tells3 a.alpha a.beta score v) (minimax_is y t ok.accepted k a.node a.depth a.ply r.in_tree (omega arith))
      (cases n a.alpha a.beta score (minimax_v k y t a.node d a.ply) ok.inf_high w (minimax_in n set t ok k a.node d a.ply place)
      (visit-ok n set t ok k s words hist a place w e))

known : (set : Settings) (t : List ℕ) → InRange set → AcceptedBy set t → (z : Natural set.inf) → Known z.n set.max_ply t
known set t i acc z =
    record {
      accepted = subst (λ (x : ℤ). tree_refusal x set.max_ply t ≡ 0) z.is acc;
      inf_low = z.low;
      inf_high = z.high;
      ply_high = i.ply_most;
    }

pub demand3 : Demand3
demand3 set t p i acc a r w k s words hist f =
    let z = natural set.inf i.inf_least i.inf_most in
    let ok = known set t i acc z in
    let win = window z.n a.alpha a.beta (omega arith) z.high (subst (λ (x : ℤ). Windowed x a.alpha a.beta) z.is w) in
    subst (λ (y : Settings). Goal z.n set t ok a r win k s words hist f y) (plain_is z.n set z.is p)
    (settled z.n set t ok a r win k s words hist f)
