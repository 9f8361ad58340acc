use Rattle.setting.specs.FindingLaws.{found_refused, found_accepted}
use Rattle.setting.specs.SettingLaws.{setting_passed}
use Rattle.reading_rules.specs.Edition.{guaranteed}
use native.Mathlib.Omega.{arith}
use Rattle.setting.proofs.find.Goals as goal

pub returns-then-number-ne0 : goal.returns-then-number-ne0
returns-then-number-ne0 c =
    let a = c.args in
    let e = c.setting_number-number.ensures in
    rw (found_refused a.image.now a.offset a.size (rw e at c.if-number-ne0.true), ← e)

pub overflow_add-result : goal.overflow_add-result
overflow_add-result c =
    let a = c.args in
    let p = setting_passed a.image.now a.offset a.size (rw c.setting_number-number.ensures at c.if-number-ne0.false) in
    let g = guaranteed a.image.now p.0 in
    rw c.read_2-r.ensures (record { fits = omega (arith, g.region_within, g.length_most, p.1.1.1) })

pub returns : goal.returns
returns c =
    let a = c.args in
    let e = c.setting_number-number.ensures in
    rw (found_accepted a.image.now a.offset a.size (rw e at c.if-number-ne0.false), ← e, c.read_2-r.ensures)
