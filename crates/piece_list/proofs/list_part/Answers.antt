use Prim.Native.Nat.{◌≤◌, ◌<◌}
use lib.ListN.{length}
use native.Mathlib.Omega.{arith}
use Rattle.piece_stretch.specs.Stretch.{after}
use Rattle.piece_list.specs.Filling.{listing_start, listing_on, listing_room, listing_few, listing_end}
use Rattle.piece_list.proofs.list_part.Goals as goal

pub loop-at-init : goal.loop-at-init
loop-at-init g c =
    let a = c.args in
    listing_start g.U.Unit.writing (after a.o a.a.now) a.shipped.now a.r a.from a.to a.places.now a.i c.requires.from_le_to.0

pub put-requires : goal.put-requires
put-requires g c =
    let a = c.args in
    let L = c.loop-at in
    let (u, less) = c.in-Some.ensures in
    -- a place before it would do too: which one it is is told by what is listed
    let left : L.j < g.U.Unit.places (length a.places.now) =
    listing_room g.U.Unit.writing (after a.o a.a.now) a.shipped.now a.r a.from a.to a.places.now a.i L.places L.j L.k L.invariant c.in-Some.at less u _
    c.requires.i_le_from.1 in
    rw L.invariant.lists.long (omega (arith, left, L.invariant.lists.count))

pub overflow_add-j : goal.overflow_add-j
overflow_add-j g c =
    let a = c.args in
    let L = c.loop-at in
    let (u, less) = c.in-Some.ensures in
    let few : L.j ≤ c.in-Some.at =
    listing_few g.U.Unit.writing (after a.o a.a.now) a.shipped.now a.r a.from a.to a.places.now a.i L.places L.j L.k L.invariant c.in-Some.at less u
    c.requires.i_le_from.0 in
    record { fits = omega (arith, few, less) }

pub loop-at-preserved : goal.loop-at-preserved
loop-at-preserved g c =
    let a = c.args in
    let L = c.loop-at in
    let (u, less) = c.in-Some.ensures in
    rw (c.put.ensures, c.entry_of.ensures)
    (listing_on g.U.Unit.writing (after a.o a.a.now) a.shipped.now a.r a.from a.to a.places.now a.i L.places L.j L.k L.invariant c.in-Some.at less u)

pub returns : goal.returns
returns g c =
    let a = c.args in
    let L = c.loop-at in
    listing_end g.U.Unit.writing (after a.o a.a.now) a.shipped.now a.r a.from a.to a.places.now a.i L.places L.j L.k L.invariant c.in_default.ensures
