use Rattle.sheet_bodies.specs.SetLaws.{length_written, body_within}
use Rattle.sheet_bodies.specs.Set.{written}
use Rattle.sheet.specs.Sheet.{Sound, count, offset, size, position, entry_at, body_at, field_fits}
use Rattle.sheet.specs.declared.Entry.{Entry}
use Rattle.facts.specs.Fact.{Holds}
use lib.ListN.{length}
use mathlib.Core.List.{List}
use Prim.Native.Nat.{ℕ, ◌+◌, ◌-◌, ◌≤◌, ◌<◌}
use mathlib.Core.Path.{◌≡◌, refl, ap, ◌∙◌}
use native.Mathlib.Numerals.{add-one}
use native.Mathlib.Omega.{arith}
use Rattle.sheet_bodies.proofs.write_sheet.Goals as goal

-- an entry lies in its field, and its body in the sheet
entry : {s : List ℕ} {z : ℕ} (i : ℕ) {w : Entry} → Sound s z → i < count s → w ≡ entry_at s i
    → (32 ≤ w.offset) × (w.offset + w.size ≤ z) × (w.position + w.size ≤ length s)
entry {s} {z} i {w} sound h e =
    let field : Holds (field_fits s z i) = sound.fields i h in
    let body : position s i ≡ body_at s i = (sound.bodies.0 i h).1.0 in
    rw e (field.0, field.1, omega (arith, body, body_within s z sound i h))

pub loop-i-init : goal.loop-i-init
unfolding written
loop-i-init c = (refl, refl)

pub overflow_sub-w : goal.overflow_sub-w
overflow_sub-w c = omega (arith, entry c.loop-i.i c.requires (omega (arith, c.count-i-end.ensures.value.0)) c.entry-w.ensures.value)

pub copy_body-requires : goal.copy_body-requires
copy_body-requires c =
    rw c.bytes-bytes.ensures
    (omega (arith, entry c.loop-i.i c.requires (omega (arith, c.count-i-end.ensures.value.0)) c.entry-w.ensures.value, c.loop-i.invariant.1))

pub loop-i-preserved : goal.loop-i-preserved
unfolding written
loop-i-preserved c =
    let L = c.loop-i in
    let s = c.args.sheet.now in
    let p = c.args.part.now in
    let e = c.entry-w.ensures.value in
    let of : c.entry-w.result.offset ≡ offset s L.i = ap (λ (k : Entry). k.offset) e in
    let sz : c.entry-w.result.size ≡ size s L.i = ap (λ (k : Entry). k.size) e in
    let po : c.entry-w.result.position ≡ body_at s L.i = ap (λ (k : Entry). k.position) e ∙ (c.requires.bodies.0 L.i (omega (arith, c.count-i-end.ensures.value.0))).1.0 in
    let new : c.copy_body.new.part ≡ written p s (L.i + 1) = rw (add-one, ← L.invariant.0, ← of, ← sz, ← po) (rw c.bytes-bytes.ensures at c.copy_body.ensures) in
    (new, ap length new ∙ length_written p s (L.i + 1))

pub shape_of-part : goal.shape_of-part
shape_of-part c = c.loop-i.invariant.1

pub returns : goal.returns
returns c =
    let s = c.args.sheet.now in
    let e : c.loop-i.i ≡ count s = omega (arith, c.count-i-end.ensures.value.0) in
    rw e at c.loop-i.invariant.0
