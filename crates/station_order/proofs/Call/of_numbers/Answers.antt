use Rattle.std.proofs.Common.{rules}
use Rattle.facts.specs.Fact.{test}
use Rattle.station_order.specs.Order.{noted}
use Rattle.station_order.proofs.Call.of_numbers.Goals as goal

pub returns-in-1-default : goal.returns-in-1-default
unfolding noted test
returns-in-1-default c = search rules

pub returns-in-2-default : goal.returns-in-2-default
unfolding noted test
returns-in-2-default c = search rules

pub returns-in-3-default : goal.returns-in-3-default
unfolding noted test
returns-in-3-default c = search rules

pub returns-in-4-default : goal.returns-in-4-default
unfolding noted test
returns-in-4-default c = search rules

pub returns-in-5-eq32 : goal.returns-in-5-eq32
unfolding noted test
returns-in-5-eq32 c = search rules

pub returns-in-5-eq64 : goal.returns-in-5-eq64
unfolding noted test
returns-in-5-eq64 c = search rules

pub returns-in-5-eq240 : goal.returns-in-5-eq240
unfolding noted test
returns-in-5-eq240 c = search rules
