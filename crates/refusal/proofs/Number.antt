-- Laws of the refusals' numbers.
use Rattle.std.proofs.Common.{arith}
use Rattle.refusal.specs.Number.{NumberTells}

pub number_tells : NumberTells
number_tells = grind arith
