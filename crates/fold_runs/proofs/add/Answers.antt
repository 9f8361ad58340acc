use lib.ListN.{length-set, length-take}
use native.Mathlib.Omega.{arith}
use Rattle.fold_runs.specs.RunsLaws.{takes_none, takes_word}
use Rattle.fold_runs.proofs.add.Goals as goal

pub overflow_cast-seats : goal.overflow_cast-seats
overflow_cast-seats c =
    omega (arith, (c.holds.ensures c.if-holds.true).there, length-take c.args.g.runs c.args.words.now, c.requires.0.runs)

pub returns-then-holds : goal.returns-then-holds
returns-then-holds c =
    takes_none _ _ _ _ (record { few = omega (arith, c.requires.0.few); some = omega (arith, c.requires.0.some); runs = c.requires.0.runs; met = omega arith; long = c.requires.0.long; seats = simp length-set c.requires.0.seats })

pub returns : goal.returns
returns c =
    takes_word _ _ _ _ _ _ _ c.clip-e.result (omega (arith, c.requires.0.long)) c.clip-e.ensures c.word_of.ensures (record { few = omega (arith, c.requires.0.few); some = omega (arith, c.requires.0.some); runs = c.requires.0.runs; met = omega arith; long = simp length-set c.requires.0.long; seats = c.requires.0.seats })
