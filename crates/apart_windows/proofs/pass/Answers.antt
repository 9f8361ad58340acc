use Rattle.apart_windows.specs.RunsLaws.{count_most}
use native.Mathlib.Omega.{arith}
use Rattle.apart_windows.proofs.pass.Goals as goal

pub past-requires : goal.past-requires
past-requires c =
    (c.entries-n.ensures, omega (arith, c.entries-n.ensures, count_most c.args.s))
