use Rattle.hex_judge.specs.Stands.{Summed}
use Rattle.hex_judge.proofs.sum_of.Given as goal

abbrev pub invariant-loop-j : goal.invariant-loop-j
invariant-loop-j l = Summed l.text l.at l.j l.sum
