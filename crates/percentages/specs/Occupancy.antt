-- Occupancy: of each bound, the entries whose move is not 0, times 100 over n. Assumes nothing.
use Rattle.std.specs.Prelude.{false, cond, List, ℕ, zero, suc, ◌+◌, ◌*◌, ◌/◌, eqb, length, get_or}
use Rattle.std.specs.Float.{binary64}
use Rattle.std.specs.Float.Ieee.{round}
use Rattle.std.specs.Float.Ieee.Exact.{HasValue}
use Rattle.transposition.specs.Word.{entry_of}
use Rattle.transposition.specs.declared.Bound.{Bound}
use Rattle.transposition.specs.declared.Bound.TheVariants.{Exact, Lower, Upper}
use Rattle.transposition.specs.declared.Entry.{Entry}
use Rattle.percentages.specs.declared.occupancy.Counts.{Counts}
use Rattle.percentages.specs.declared.occupancy.Occupancy.{Occupancy}

-- one more of a bound
unfoldable pub more : Counts → Bound → Counts
more c Exact = record { exact = c.exact + 1; lower = c.lower; upper = c.upper }
more c Lower = record { exact = c.exact; lower = c.lower + 1; upper = c.upper }
more c Upper = record { exact = c.exact; lower = c.lower; upper = c.upper + 1 }

-- 01, Entry and table: "the entries of each bound whose move isn't 0"
abbrev pub with_entry : Counts → Entry → Counts
with_entry c e = cond (eqb e.mv 0) c (more c e.bound)

-- over the first k slots
unfoldable pub counts_to : List ℕ → ℕ → Counts
counts_to words zero = record { exact = 0; lower = 0; upper = 0 }
counts_to words (suc k) = with_entry (counts_to words k) (entry_of (get_or words (k * 2 + 1) 0))

-- over the whole table, of n slots
abbrev pub slots : List ℕ → ℕ
slots words = length words / 2

abbrev pub counts_of : List ℕ → Counts
counts_of words = counts_to words (slots words)

-- 01, Entry and table: "Occupancy is a record of three percentages, the entries of each bound whose move isn't 0, times 100 over n."
unfoldable pub occupancy_of : List ℕ → Occupancy
occupancy_of words =
    record {
      exact = round binary64 false ((counts_of words).exact * 100) (slots words);
      lower = round binary64 false ((counts_of words).lower * 100) (slots words);
      upper = round binary64 false ((counts_of words).upper * 100) (slots words);
    }

-- 01, Entry and table: "They are exact in f64, since n is a power of two.": each field is, as a number, its count times 100 over n
pub record Exactly (words : List ℕ) (o : Occupancy) : Type 0 where
  pub exact : HasValue o.exact false ((counts_of words).exact * 100) (slots words)
  pub lower : HasValue o.lower false ((counts_of words).lower * 100) (slots words)
  pub upper : HasValue o.upper false ((counts_of words).upper * 100) (slots words)
