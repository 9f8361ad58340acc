use Rattle.setting.specs.SettingLaws.{setting_unread, region_part_lem, unread_place, region_place_lem}
use Rattle.setting.specs.Setting.{region_part, region_place}
use Rattle.reading_rules.specs.Guarantee.{Guaranteed}
use Rattle.reading_rules.specs.Edition.{guaranteed}
use Rattle.reading_rules.specs.Reading.{reading2}
use Rattle.answers.specs.declared.Reading.{Reading}
use lib.ListN.{take, drop}
use Prim.Native.Nat.{ℕ, ◌+◌, ◌-◌}
use native.Mathlib.Nat.{add_assoc}
use mathlib.Core.Path.{◌≡◌, refl, sym, ap, ◌∙◌}
use native.Mathlib.Omega.{arith}
use Rattle.setting.proofs.setting.Goals as goal

-- past the check: what the reading guarantees
read : (c : goal.After-struct_known-2-1) →
    Guaranteed c.args.image.now c.read_2-r.result
read c =
    let e = c.read_2-r.ensures in
    rw e (guaranteed c.args.image.now (rw e at c.if-r-ne0.false))

pub returns-then-r-ne0 : goal.returns-then-r-ne0
returns-then-r-ne0 c =
    let a = c.args in
    let h = rw c.read_2-r.ensures at c.if-r-ne0.true in
    rw ((setting_unread a.image.now a.offset a.size h).1, unread_place a.image.now a.offset a.size h) (refl, (refl, refl))

pub overflow_add-end : goal.overflow_add-end
overflow_add-end c = omega (arith, read c)

pub slice_bounds-in_region-end : goal.slice_bounds-in_region-end
slice_bounds-in_region-end c = omega (arith, read c)

pub returns : goal.returns
returns c =
    let a = c.args in
    let xs = a.image.now in
    let r = c.read_2-r.result in
    let e : r.c + r.z - r.c ≡ r.z = omega arith in
    let ok : (reading2 xs).number ≡ 0 = rw c.read_2-r.ensures at c.if-r-ne0.false in
    let is = c.read_2-r.ensures in (
      rw e at c.in_region.ensures.0
          ∙ ap (λ (q : Reading). region_part (take q.z (drop q.c xs)) a.offset a.size) is
          ∙ region_part_lem xs a.offset a.size ok,
      (
        c.in_region.ensures.1.0,
        rw e at c.in_region.ensures.1.1
            ∙ ap (λ (q : Reading). region_place (take q.z (drop q.c xs)) a.offset a.size + (q.c + a.image.ref_ptr.1)) is
            ∙ sym (add_assoc (region_place (take (reading2 xs).z (drop (reading2 xs).c xs)) a.offset a.size) (reading2 xs).c a.image.ref_ptr.1)
            ∙ ap (λ (v : ℕ). v + a.image.ref_ptr.1) (region_place_lem xs a.offset a.size ok),
      ),
    )
