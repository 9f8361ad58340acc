use Rattle.std.proofs.Common.{arith}
use Rattle.map_free.specs.Sorted.{table_good, map_same}
use Rattle.map_list.specs.MapLaws.{maps_short, maps_refused, maps_written}
use Rattle.map_list.proofs.map.Goals as goal

pub returns-then-out-lt2048 : goal.returns-then-out-lt2048
returns-then-out-lt2048 c = rw c.refused.ensures (maps_short _ _ c.if-out-lt2048.true)

pub write_spans-requires : goal.write_spans-requires
write_spans-requires c = (table_good c.in-Ok.ensures (omega (arith, c.in-Ok.ensures.gathered.few, c.collect.array_long)), c.if-out-lt2048.false)

pub returns-in-Err : goal.returns-in-Err
returns-in-Err c = rw c.refused-in-Err.ensures (maps_refused _ _ c.if-out-lt2048.false c.in-Err.ensures)

pub returns-in-Ok : goal.returns-in-Ok
returns-in-Ok c =
    let w = c.in-Ok.ensures in
    maps_written _ _ c.if-out-lt2048.false w.gathered _ (map_same w) _ _ c.write_spans.ensures
