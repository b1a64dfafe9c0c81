-- Rates, computed from the definition that the contracts cite. Assumes nothing.
use mathlib.Core.Path.{◌≡◌, refl}
use mathlib.Core.Bool.{false}
use lib.Count.{count_trailing_zeros}
use lib.Ieee.{fin, round, size, span, climb, units, odd}
use lib.IntN.{pos, negsuc}
use Rattle.percentages.specs.Rate.{a_share, no_share, rate_of}

-- One of three lookups: the float nearest to 100/3. Two of four: exactly 50. None of none: the news. Over 2^40: the refusal, and first.
pub rates : (rate_of 1 3 ≡ a_share (fin false 4691249611844267 (negsuc 46))) × (rate_of 2 4 ≡ a_share (fin false 25 (pos 1))) × (rate_of 0 0 ≡ no_share) × ((rate_of 1099511627777 0).number ≡ 11)
unfolding rate_of round size span climb units odd count_trailing_zeros
rates = (refl, refl, refl, refl)
