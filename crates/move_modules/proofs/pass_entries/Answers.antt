use Rattle.inside_walk.specs.Entries.{count_most}
use Rattle.std.proofs.Common.{arith}
use Rattle.move_modules.proofs.pass_entries.Goals as goal

pub add_entries-requires : goal.add_entries-requires
add_entries-requires c =
    rw c.entries-k.ensures c.requires

pub past-requires : goal.past-requires
past-requires c =
    let e = c.entries-k.ensures in
    (e, omega (arith, e, count_most c.args.s))

pub returns : goal.returns
returns c =
    (c.past.ensures, rw c.entries-k.ensures at c.add_entries.ensures)
