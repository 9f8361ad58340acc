use Rattle.move_answer.proofs.SignLaws.{below, above}
use mir.Facts.{to_z-of_z}
use native.Mathlib.Omega.{arith}
use Rattle.move_answer.proofs.magnitude.Goals as goal

pub overflow_sub-result : goal.overflow_sub-result
overflow_sub-result c = rw (to_z-of_z c.ranges.distance) (below c.args.distance (rw (to_z-of_z c.ranges.distance) at c.if-distance-lt0.true) c.ranges.distance).fits

pub overflow_cast-result : goal.overflow_cast-result
overflow_cast-result c = rw ((to_z-of_z c.ranges.distance), to_z-of_z (below c.args.distance (rw (to_z-of_z c.ranges.distance) at c.if-distance-lt0.true) c.ranges.distance).fits) ((below c.args.distance (rw (to_z-of_z c.ranges.distance) at c.if-distance-lt0.true) c.ranges.distance).positive, record { fits = omega (arith, (below c.args.distance (rw (to_z-of_z c.ranges.distance) at c.if-distance-lt0.true) c.ranges.distance).next, (below c.args.distance (rw (to_z-of_z c.ranges.distance) at c.if-distance-lt0.true) c.ranges.distance).most) })

pub overflow_add-result : goal.overflow_add-result
overflow_add-result c = rw ((to_z-of_z c.ranges.distance), to_z-of_z (below c.args.distance (rw (to_z-of_z c.ranges.distance) at c.if-distance-lt0.true) c.ranges.distance).fits) (record { fits = omega (arith, (below c.args.distance (rw (to_z-of_z c.ranges.distance) at c.if-distance-lt0.true) c.ranges.distance).next, (below c.args.distance (rw (to_z-of_z c.ranges.distance) at c.if-distance-lt0.true) c.ranges.distance).most) })

pub returns-then-distance-lt0 : goal.returns-then-distance-lt0
returns-then-distance-lt0 c = rw ((to_z-of_z c.ranges.distance), to_z-of_z (below c.args.distance (rw (to_z-of_z c.ranges.distance) at c.if-distance-lt0.true) c.ranges.distance).fits) (below c.args.distance (rw (to_z-of_z c.ranges.distance) at c.if-distance-lt0.true) c.ranges.distance).next

pub overflow_cast-result-2 : goal.overflow_cast-result-2
overflow_cast-result-2 c = rw (to_z-of_z c.ranges.distance) ((above c.args.distance (rw (to_z-of_z c.ranges.distance) at c.if-distance-lt0.false) c.ranges.distance).0, record { fits = omega (arith, (above c.args.distance (rw (to_z-of_z c.ranges.distance) at c.if-distance-lt0.false) c.ranges.distance).1) })

pub returns : goal.returns
returns c = rw (to_z-of_z c.ranges.distance)
