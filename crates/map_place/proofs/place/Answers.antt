use Rattle.std.proofs.Common.{arith}
use Rattle.map_free.specs.Sorted.{table_good, map_same}
use Rattle.map_place.specs.PlaceLaws.{places_refused, places_size, places_none, places_at}
use Rattle.map_place.proofs.place.Goals as goal

pub returns-in-Err : goal.returns-in-Err
returns-in-Err c = rw c.refused.ensures (places_refused _ _ c.in-Err.ensures)

pub returns-then-size-eq0 : goal.returns-then-size-eq0
returns-then-size-eq0 c = rw c.refused-then-size-eq0.ensures (places_size _ _ c.in-Ok.ensures.gathered (λ h. omega (arith, h.0)))

pub returns-then-size-gt16777216 : goal.returns-then-size-gt16777216
returns-then-size-gt16777216 c = rw c.refused-then-size-gt16777216.ensures (places_size _ _ c.in-Ok.ensures.gathered (λ h. omega (arith, h.1)))

pub find-requires : goal.find-requires
find-requires c = (table_good c.in-Ok.ensures (omega (arith, c.in-Ok.ensures.gathered.few, c.collect.array_long)), omega arith, omega arith)

pub returns-in-Some : goal.returns-in-Some
returns-in-Some c =
    let w = c.in-Ok.ensures in
    places_at _ _ w.gathered (omega arith) (omega arith) _ (map_same w) _ c.in-Some.ensures

pub returns-in-None : goal.returns-in-None
returns-in-None c =
    let w = c.in-Ok.ensures in
    rw c.refused-in-None.ensures (places_none _ _ w.gathered (omega arith) (omega arith) _ (map_same w) c.in-None.ensures)
