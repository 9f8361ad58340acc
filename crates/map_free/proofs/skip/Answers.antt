use Rattle.map_free.specs.Look.{skips_none}
use Rattle.map_free.proofs.skip.Goals as goal

pub returns-in-NoneFree-eq18446744073709551615 : goal.returns-in-NoneFree-eq18446744073709551615
returns-in-NoneFree-eq18446744073709551615 c =
    let end = c.in-NoneFree-eq18446744073709551615 in
    skips_none c.loop-last.invariant.0 _ end.ensures c.requires.0.fit end.field-0-test
