-- A rate: what each answer says, and which is given. Assumes nothing.
use Rattle.std.specs.Prelude.{Bool, true, false, cond, ◌||◌, ℕ, ◌*◌, ◌^◌, ltb, eqb, Float, pos}
use Rattle.std.specs.Float.{fin, binary64}
use Rattle.std.specs.Float.Ieee.{round}
use Rattle.percentages.specs.declared.rates.Rate.{Rate}
use Rattle.percentages.specs.declared.rates.Rate.TheVariants.{Share, NoLookups, Refused}

-- what an answer says: 01's refusal number, 0 for none; whether anything was looked up; and the share
pub record Said : Type 0 where
  pub number : ℕ
  pub looked : Bool
  pub share : Float

-- 01, Refusal numbers: "A refusal returns its number with every result number 0"
abbrev pub refusal : Said
refusal = record { number = 11; looked = false; share = fin false 0 (pos 0) }

-- 01, Entry and table: "the news that nothing was looked up"
abbrev pub no_share : Said
no_share = record { number = 0; looked = false; share = fin false 0 (pos 0) }

abbrev pub a_share : Float → Said
a_share x = record { number = 0; looked = true; share = x }

-- what each case of the answer says
unfoldable pub said : Rate → Said
said (Share x) = a_share x
said NoLookups = no_share
said Refused = refusal

-- 01, row 11: "a rate's count or lookups over 2^40"; then "either a share or the news that nothing was looked up", where the share is
-- "count times 100 over lookups, rounded once"
unfoldable pub rate_of : ℕ → ℕ → Said
rate_of count lookups =
    cond (ltb (2 ^ 40) count || ltb (2 ^ 40) lookups) refusal
    (cond (eqb lookups 0) no_share (a_share (round binary64 false (count * 100) lookups)))
