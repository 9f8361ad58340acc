use Rattle.std.specs.Prelude.{not}
use Rattle.inside_list.specs.Inventory.{is_module, word_entries}
use Rattle.inside_list.specs.Filling.{module_length, module_listed, module_passed}
use Rattle.inside_blocks.specs.Blocks.{items}
use Rattle.facts.specs.FactLaws.{granted, refuted}
use Rattle.words.specs.PutLaws.{length_put, length_put_all}
use Prim.Native.Nat.{◌+◌, ◌*◌, ◌≤◌}
use lib.ListN.{length}
use mathlib.Core.Path.{◌≡◌, ap, ◌∙◌}
use native.Mathlib.Omega.{arith}
use Rattle.inside_list.proofs.fill_module.Goals as goal

-- the list has the places of the file, the section and the words
room : (c : goal.After-put32-arg-1) → let a = c.args in
    4 * (a.i + 2 + length (word_entries 3 (items a.image.now a.m))) ≤ length a.places.now
room c =
    let a = c.args in
    omega (arith, c.requires.4, module_length a.image.now a.places.now a.i a.file a.at a.m (granted c.is_module.ensures (ap not c.if-not-is_module.false)))

room-at-2 : (c : goal.After-entry_of) → let a = c.args in
    4 * (a.i + 2 + length (word_entries 3 (items a.image.now a.m))) ≤ length a.places.now
room-at-2 c =
    let a = c.args in
    omega (arith, c.requires.4, module_length a.image.now a.places.now a.i a.file a.at a.m (granted c.is_module.ensures (ap not c.if-not-is_module.false)))

room-at-3 : (c : goal.After-put32-arg-2-1) → let a = c.args in
    4 * (a.i + 2 + length (word_entries 3 (items a.image.now a.m))) ≤ length a.places.now
room-at-3 c =
    let a = c.args in
    omega (arith, c.requires.4, module_length a.image.now a.places.now a.i a.file a.at a.m (granted c.is_module.ensures (ap not c.if-not-is_module.false)))

room-at-4 : (c : goal.After-entry_of-2) → let a = c.args in
    4 * (a.i + 2 + length (word_entries 3 (items a.image.now a.m))) ≤ length a.places.now
room-at-4 c =
    let a = c.args in
    omega (arith, c.requires.4, module_length a.image.now a.places.now a.i a.file a.at a.m (granted c.is_module.ensures (ap not c.if-not-is_module.false)))

room-at-5 : (c : goal.After-fill_words-arg-1) → let a = c.args in
    4 * (a.i + 2 + length (word_entries 3 (items a.image.now a.m))) ≤ length a.places.now
room-at-5 c =
    let a = c.args in
    omega (arith, c.requires.4, module_length a.image.now a.places.now a.i a.file a.at a.m (granted c.is_module.ensures (ap not c.if-not-is_module.false)))

-- it is as long once the file is written, and the section
long : (c : goal.After-fill_words-arg-1) → let a = c.args in
    length c.put32.new.s ≡ length a.places.now
long c =
    let a = c.args in
    ap length c.put32.ensures ∙ length_put 4 a.places.now (4 * a.i) c.entry_of.result

long-at-2 : (c : goal.After-slice_known-4-1) → let a = c.args in
    length c.put32.new.s ≡ length a.places.now
long-at-2 c =
    let a = c.args in
    ap length c.put32.ensures ∙ length_put 4 a.places.now (4 * a.i) c.entry_of.result

long-at-3 : (c : goal.After-entry_of-2) → let a = c.args in
    length c.put32.new.s ≡ length a.places.now
long-at-3 c =
    let a = c.args in
    ap length c.put32.ensures ∙ length_put 4 a.places.now (4 * a.i) c.entry_of.result

long-2 : (c : goal.After-fill_words-arg-1)
    → let a = c.args in
    length c.put32-2.new.s ≡ length a.places.now
long-2 c =
    let a = c.args in
    ap length c.put32-2.ensures ∙ length_put 4 c.put32.new.s (4 * a.i + 4) c.entry_of-2.result ∙ long c

long-2-at-2 : (c : goal.After-slice_known-4-1)
    → let a = c.args in
    length c.put32-2.new.s ≡ length a.places.now
long-2-at-2 c =
    let a = c.args in
    ap length c.put32-2.ensures ∙ length_put 4 c.put32.new.s (4 * a.i + 4) c.entry_of-2.result ∙ long-at-2 c

pub returns-then-not-is_module : goal.returns-then-not-is_module
returns-then-not-is_module c =
    let a = c.args in
    module_passed a.image.now a.places.now a.i a.file a.at a.m
    (refuted c.is_module.ensures (ap not c.if-not-is_module.true))

pub overflow_mul-i : goal.overflow_mul-i
overflow_mul-i c = omega (arith, room c)

pub entry_of-requires : goal.entry_of-requires
entry_of-requires c = (omega arith, c.requires.2)

pub put32-requires : goal.put32-requires
put32-requires c = omega (arith, room-at-2 c)

pub overflow_mul-i-2 : goal.overflow_mul-i-2
overflow_mul-i-2 c = omega (arith, room-at-3 c)

pub overflow_add-i : goal.overflow_add-i
overflow_add-i c = omega (arith, room-at-3 c)

pub entry_of-requires-2 : goal.entry_of-requires-2
entry_of-requires-2 c = (omega arith, c.requires.3)

pub put32-requires-2 : goal.put32-requires-2
put32-requires-2 c =
    omega (arith, room-at-4 c, long-at-3 c)

pub overflow_add-i-2 : goal.overflow_add-i-2
overflow_add-i-2 c = omega (arith, room-at-5 c)

pub fill_words-requires : goal.fill_words-requires
fill_words-requires c =
    (c.requires.0, c.requires.1, omega (arith, room-at-5 c, long-2 c))

pub shape_of-places : goal.shape_of-places
shape_of-places c =
    let a = c.args in
    ap length c.fill_words.ensures.1
    ∙ length_put_all 4 c.put32-2.new.s (4 * (a.i + 2)) (word_entries 3 (items a.image.now a.m))
    ∙ long-2-at-2 c

pub returns : goal.returns
returns c =
    let a = c.args in
    let e = c.fill_words.ensures in (
      omega (arith, e.0, module_length a.image.now a.places.now a.i a.file a.at a.m (granted c.is_module.ensures (ap not c.if-not-is_module.false))),
      e.1
          ∙ rw (c.put32-2.ensures, c.put32.ensures, c.entry_of-2.ensures, c.entry_of.ensures)
          (module_listed a.image.now a.places.now a.i a.file a.at a.m (granted c.is_module.ensures (ap not c.if-not-is_module.false))),
    )
