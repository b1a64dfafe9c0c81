-- What an answer says tells the answer: two rates that say the same are the same. Assumes nothing.
use mathlib.Core.Path.{◌≡◌, refl, ap}
use mathlib.Core.Bool.{true≢false, false≢true}
use native.Mathlib.Omega.{arith}
use Rattle.percentages.specs.Rate.{Said, said}
use Rattle.percentages.specs.declared.rates.Rate.{Rate}
use Rattle.percentages.specs.declared.rates.Rate.TheVariants.{Share, NoLookups, Refused}

pub said_tells : (a b : Rate) → said a ≡ said b → a ≡ b
unfolding said
said_tells (Share x) (Share y) e = ap Share (ap (λ (s : Said). s.share) e)
said_tells (Share x) NoLookups e = absurd (true≢false (ap (λ (s : Said). s.looked) e))
said_tells (Share x) Refused e = absurd (true≢false (ap (λ (s : Said). s.looked) e))
said_tells NoLookups (Share y) e = absurd (false≢true (ap (λ (s : Said). s.looked) e))
said_tells NoLookups NoLookups e = refl
said_tells NoLookups Refused e = let n = ap (λ (s : Said). s.number) e in absurd (omega arith)
said_tells Refused (Share y) e = absurd (false≢true (ap (λ (s : Said). s.looked) e))
said_tells Refused NoLookups e = let n = ap (λ (s : Said). s.number) e in absurd (omega arith)
said_tells Refused Refused e = refl
