-- A cutoff: bonus and malus, and the store. Assumes nothing.
use Rattle.std.specs.Prelude.{Bool, true, false, not, ◌&&◌, List, ℕ, zero, suc, eqb, ℤ, pos, nat_abs}
use Rattle.transposition.specs.declared.Bound.TheVariants.{Lower}
use Rattle.history.specs.Entries.{bonus_of, malus_of}
use Rattle.record.specs.Node.{move_of, hash_of, is_quiet}
use Rattle.state.specs.declared.Settings.{Settings}
use Rattle.state.specs.declared.State.{State}
use Rattle.std.specs.declared.option.Option.{Option}
use Rattle.moves.specs.Order.{child_of}
use Rattle.state.specs.State.{Over, keep_of}
use Rattle.carry.specs.declared.Here.{Here}
use Rattle.carry.specs.declared.Loc.{Loc}
use Rattle.carry.specs.Carry.{With, with}

-- 01, Visits: "a malus .. to each earlier quiet move except the first tried": the i-th move tried, which leads to c
unfoldable pub malus_if : Bool → List ℕ → ℕ → Here → ℕ → List ℤ → List ℤ
malus_if true t hh h c hist = malus_of hh hist h.side (move_of t c) (pos h.depth)
malus_if false t hh h c hist = hist

abbrev pub malus_at : List ℕ → ℕ → Here → ℕ → ℕ → List ℤ → List ℤ
malus_at t hh h c i hist = malus_if (not (eqb i 0) && is_quiet t c) t hh h c hist

-- "in order": of the moves tried before the n-th
unfoldable pub malus_to : List ℕ → ℕ → Here → Option ℕ → ℕ → List ℤ → List ℤ
malus_to t hh h p zero hist = hist
malus_to t hh h p (suc i) hist = malus_at t hh h (child_of t h.node p i) i (malus_to t hh h p i hist)

-- 01, Visits: "On a quiet cutoff: bonus, then a malus"
unfoldable pub credit_of : List ℕ → ℕ → Here → Option ℕ → ℕ → ℕ → List ℤ → List ℤ
credit_of t hh h p m n hist = malus_to t hh h p n (bonus_of hh hist h.side m (pos h.depth))

unfoldable pub credit_if : Bool → List ℕ → Settings → Here → Option ℕ → ℕ → ℕ → List ℤ → List ℤ
credit_if true t set h p m n hist = credit_of t (nat_abs set.hh_max) h p m n hist
credit_if false t set h p m n hist = hist

abbrev pub cut_with : Loc → List ℤ → Over State → With Loc
cut_with l hist k = with (record { alpha = l.alpha; best = l.best; mv = l.mv; state = k.it }) k.words hist

-- 000: "self.tt.set(hash, depth, score, m, Bound::Lower); return score"
unfoldable pub cutoff_of : List ℕ → Settings → Here → Option ℕ → ℕ → ℕ → Loc → List ℕ → List ℤ → With Loc
cutoff_of t set h p c i l words hist =
    cut_with l (credit_if (is_quiet t c) t set h p l.mv i hist)
    (keep_of set.table words l.state (hash_of t h.node) (pos h.depth) l.best l.mv Lower)
