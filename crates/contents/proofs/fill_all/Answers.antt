use Rattle.contents.specs.Listing.{coded}
use Rattle.contents.specs.Filling.{all_length, all_written}
use Rattle.inside_judge.specs.Rules.{patch_items}
use Rattle.inside_list.specs.Inventory.{inventory}
use Rattle.reading_rules.specs.Reading.{entries_at, file_at}
use Rattle.words.specs.Le.{le}
use Rattle.words.specs.PutLaws.{length_put, length_put_all}
use lib.ListN.{length}
use Prim.Native.Nat.{◌+◌, ◌*◌, ◌≤◌}
use mathlib.Core.Path.{◌≡◌, ap, ◌∙◌}
use native.Mathlib.Omega.{arith}
use Rattle.contents.proofs.fill_all.Goals as goal

-- the list has the places of all entries
room : (c : goal.After-entry_of) →
    let a = c.args in
    4 * (a.r.n + 1 + length (inventory a.image.now (le 8 a.image.now 32) (file_at a.r))) ≤ length a.places.now
room c =
    omega (arith, c.requires.1, all_length c.args.image.now c.args.r c.requires.0)

room-at-2 : (c : goal.After-fill_patches-arg-1) →
    let a = c.args in
    4 * (a.r.n + 1 + length (inventory a.image.now (le 8 a.image.now 32) (file_at a.r))) ≤ length a.places.now
room-at-2 c =
    omega (arith, c.requires.1, all_length c.args.image.now c.args.r c.requires.0)

room-at-3 : (c : goal.After-struct_known-3-1) →
    let a = c.args in
    4 * (a.r.n + 1 + length (inventory a.image.now (le 8 a.image.now 32) (file_at a.r))) ≤ length a.places.now
room-at-3 c =
    omega (arith, c.requires.1, all_length c.args.image.now c.args.r c.requires.0)

-- it is as long once the base word is written, and the patch words
long : (c : goal.After-struct_known-3-1) → length c.put32.new.s ≡ length c.args.places.now
long c =
    let a = c.args in
    ap length c.put32.ensures ∙ length_put 4 a.places.now 0 c.entry_of.result

long-at-2 : (c : goal.After-slice_known-4-1) → length c.put32.new.s ≡ length c.args.places.now
long-at-2 c =
    let a = c.args in
    ap length c.put32.ensures ∙ length_put 4 a.places.now 0 c.entry_of.result

long-at-3 : (c : goal.After-fill_patches-arg-1) → length c.put32.new.s ≡ length c.args.places.now
long-at-3 c =
    let a = c.args in
    ap length c.put32.ensures ∙ length_put 4 a.places.now 0 c.entry_of.result

long-2 : (c : goal.After-struct_known-3-1) →
    length c.fill_patches.new.places ≡ length c.args.places.now
long-2 c =
    let a = c.args in
    ap length c.fill_patches.ensures
    ∙ length_put_all 4 c.put32.new.s 4 (coded 8 (patch_items a.image.now (entries_at a.r) a.r.n))
    ∙ long c

long-2-at-2 : (c : goal.After-slice_known-4-1) →
    length c.fill_patches.new.places ≡ length c.args.places.now
long-2-at-2 c =
    let a = c.args in
    ap length c.fill_patches.ensures
    ∙ length_put_all 4 c.put32.new.s 4 (coded 8 (patch_items a.image.now (entries_at a.r) a.r.n))
    ∙ long-at-2 c

pub overflow_add-r : goal.overflow_add-r
overflow_add-r c = omega (arith, c.requires.0)

pub entry_of-requires : goal.entry_of-requires
entry_of-requires c = let g = c.requires.0 in (omega arith, omega (arith, g))

pub put32-requires : goal.put32-requires
put32-requires c = omega (arith, room c)

pub fill_patches-requires : goal.fill_patches-requires
fill_patches-requires c =
    (c.requires.0, omega (arith, room-at-2 c, long-at-3 c))

pub le64-v-requires : goal.le64-v-requires
le64-v-requires c =
    let g = c.requires.0 in omega (arith, g.length_least)

pub overflow_sub-r : goal.overflow_sub-r
overflow_sub-r c =
    let g = c.requires.0 in
    omega (arith, g.file_at_lem)

pub overflow_add-r-2 : goal.overflow_add-r-2
overflow_add-r-2 c =
    let g = c.requires.0 in
    omega (arith, g.n_most)

pub fill-requires : goal.fill-requires
fill-requires c =
    let g = c.requires.0 in
    rw c.le64-v.ensures.is (g.walkable, omega (arith, room-at-3 c, long-2 c))

pub shape_of-places : goal.shape_of-places
shape_of-places c =
    let a = c.args in
    ap length c.fill.ensures
    ∙ length_put_all 4 c.fill_patches.new.places (4 * (a.r.n + 1)) (inventory a.image.now c.le64-v.result (file_at a.r))
    ∙ long-2-at-2 c

pub returns : goal.returns
returns c =
    let a = c.args in
    c.fill.ensures
    ∙ rw (c.le64-v.ensures.is, c.fill_patches.ensures, c.put32.ensures, c.entry_of.ensures)
    (all_written a.image.now a.r c.requires.0 a.places.now)
