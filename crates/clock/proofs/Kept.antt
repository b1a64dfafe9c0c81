-- The promises of specs/Promises.antt hold. Assumes nothing.
use Rattle.std.proofs.Common.{arith}
use Rattle.refusal.proofs.Number.{number_tells}
use Rattle.clock.specs.declared.Clock.{Clock}
use Rattle.clock.specs.Answers.{Answer}
use Rattle.clock.specs.Ticks.{new_of, start_of, set_time_of, allocated_of, poll_of}
use Rattle.clock.specs.Promises.{Row10, StopStays, OneResult}

pub row10 : Row10
unfolding new_of start_of set_time_of allocated_of poll_of
row10 = grind arith

pub stop_stays : (c : Clock) → StopStays c
unfolding set_time_of poll_of
stop_stays = grind arith

pub one_result : (c : Clock) (a : Answer) → OneResult c a
one_result = grind (arith, number_tells)
