-- The law of the counters. 01, Entry and table: "from any reset on, over any calls, lookups equal hits plus misses plus collisions modulo 2^64, each
-- total defined from the calls made". Assumes nothing.
use Rattle.std.proofs.Common.{◌≡◌, ℕ, ◌+◌, ◌%◌, ◌^◌, Bool, true, false, List, [], ◌∷◌, length, refl, ap, ◌∙◌, arith}
use Rattle.transposition.specs.declared.Entry.{Entry}
use Rattle.table.specs.Slot.{entry_at, find_of, replaces}
use Rattle.table.specs.Stats.{looked, inserted, zeroed, next_age, reset_of}
use Rattle.table.specs.Table.{Table, new_entry, lookup_of, store_if, store_of, clear_of}
use Rattle.table.specs.Calls.{Call, lookup, store, reset, clear, after, run, found_after, found_in, hit, miss, collision, total}
use Rattle.table.specs.declared.Found.{Found}
use Rattle.table.specs.declared.Found.TheVariants.{Miss, Collision, Hit}
use Rattle.table.specs.declared.Stats.{Stats}

-- each counter is a total of what was found, modulo 2^64; the totals add up, and so do the counters
pub record Balanced (s : Stats) (fs : List Found) : Type 0 where
  pub lookups : s.lookups ≡ length fs % 2 ^ 64
  pub hits : s.hits ≡ total hit fs % 2 ^ 64
  pub misses : s.misses ≡ total miss fs % 2 ^ 64
  pub collisions : s.collisions ≡ total collision fs % 2 ^ 64
  pub totals : length fs ≡ total hit fs + total miss fs + total collision fs
  pub sum : s.lookups ≡ (s.hits + s.misses + s.collisions) % 2 ^ 64

-- the law: a table of any words, age and counters, a reset or a clear of it, and then any calls
abbrev pub From : Call → Type 0
From c = (t : Table) (calls : List Call) → Balanced (run (after t c) calls).stats (found_in (after t c) [] calls)

-- what one call keeps

record Counted (s : Stats) (fs : List Found) : Type 0 where
  pub lookups : s.lookups ≡ length fs % 2 ^ 64
  pub hits : s.hits ≡ total hit fs % 2 ^ 64
  pub misses : s.misses ≡ total miss fs % 2 ^ 64
  pub collisions : s.collisions ≡ total collision fs % 2 ^ 64

-- counters of 0 count nothing found
none : (age : ℕ) → Counted (zeroed age) []
unfolding total
none age = record { lookups = refl; hits = refl; misses = refl; collisions = refl }

one_look : (s : Stats) (fs : List Found) (f : Found) → Counted s fs → Counted (looked s f) (f ∷ fs)
unfolding looked total
one_look s fs Miss h = record { lookups = omega arith; hits = omega arith; misses = omega arith; collisions = omega arith }
one_look s fs Collision h = record { lookups = omega arith; hits = omega arith; misses = omega arith; collisions = omega arith }
one_look s fs (Hit e) h = record { lookups = omega arith; hits = omega arith; misses = omega arith; collisions = omega arith }

one_store : (b : Bool) (words : List ℕ) (s : Stats) (hash : ℕ) (e : Entry) (fs : List Found) → Counted s fs → Counted (store_if b words s hash e).stats fs
unfolding store_if inserted
one_store true words s hash e fs h = record { lookups = h.lookups; hits = h.hits; misses = h.misses; collisions = h.collisions }
one_store false words s hash e fs h = h

one_call : (t : Table) (fs : List Found) (c : Call) → Counted t.stats fs → Counted (after t c).stats (found_after t fs c)
unfolding after found_after lookup_of store_of reset_of clear_of
one_call t fs (lookup hash) h = one_look t.stats fs (find_of t.words hash) h
one_call t fs (store hash depth score mv bound) h =
    one_store (replaces (entry_at t.words hash) t.stats.age depth) t.words t.stats hash (new_entry t.stats depth score mv bound) fs h
one_call t fs reset h = none (next_age t.stats.age)
one_call t fs clear h = none 0

-- and several

all_calls : (t : Table) (fs : List Found) (cs : List Call) → Counted t.stats fs → Counted (run t cs).stats (found_in t fs cs)
unfolding run found_in
all_calls t fs [] h = h
all_calls t fs (c ∷ cs) h = all_calls (after t c) (found_after t fs c) cs (one_call t fs c h)

-- each lookup found one of the three
adds_up : (fs : List Found) → length fs ≡ total hit fs + total miss fs + total collision fs
unfolding total
adds_up [] = refl
adds_up (Miss ∷ fs) = let h = adds_up fs in omega arith
adds_up (Collision ∷ fs) = let h = adds_up fs in omega arith
adds_up (Hit e ∷ fs) = let h = adds_up fs in omega arith

-- a sum's remainder is that of the remainders' sum
sum_rest : (a b c : ℕ) → (a + b + c) % 2 ^ 64 ≡ (a % 2 ^ 64 + b % 2 ^ 64 + c % 2 ^ 64) % 2 ^ 64
sum_rest a b c = omega arith

balanced : (s : Stats) (fs : List Found) → Counted s fs → Balanced s fs
balanced s fs h =
    record {
      lookups = h.lookups;
      hits = h.hits;
      misses = h.misses;
      collisions = h.collisions;
      totals = adds_up fs;
      sum =
          h.lookups ∙ ap (λ (n : ℕ). n % 2 ^ 64) (adds_up fs) ∙ sum_rest (total hit fs) (total miss fs) (total collision fs)
          ∙ rw (h.hits, h.misses, h.collisions) refl;
    }

-- from any reset on, and from any clear on
at_reset : (t : Table) → Counted (after t reset).stats []
unfolding after reset_of
at_reset t = none (next_age t.stats.age)

pub from_reset : From reset
from_reset t calls = balanced _ _ (all_calls (after t reset) [] calls (at_reset t))

at_clear : (t : Table) → Counted (after t clear).stats []
unfolding after clear_of
at_clear t = none 0

pub from_clear : From clear
from_clear t calls = balanced _ _ (all_calls (after t clear) [] calls (at_clear t))
