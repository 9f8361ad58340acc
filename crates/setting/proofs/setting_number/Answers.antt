use Rattle.std.specs.Prelude.{not}
use Rattle.setting.specs.SettingLaws.{setting_unread, setting_refused, setting_accepted}
use Rattle.answers.specs.declared.Reading.{Reading}
use Rattle.facts.specs.FactLaws.{granted, refuted}
use mathlib.Core.Path.{sym, ap, ◌∙◌}
use Rattle.setting.proofs.setting_number.Goals as goal

pub returns-then-r-ne0 : goal.returns-then-r-ne0
returns-then-r-ne0 c =
    let a = c.args in
    let e = c.read_2-r.ensures in
    ap (λ (r : Reading). r.number) e ∙ sym (setting_unread a.image.now a.offset a.size (rw e at c.if-r-ne0.true)).0

pub returns-then-not-setting_fits : goal.returns-then-not-setting_fits
returns-then-not-setting_fits c =
    let a = c.args in
    let e = c.read_2-r.ensures in
    sym (setting_refused a.image.now a.offset a.size (rw e at c.if-r-ne0.false) (rw e at (refuted c.setting_fits.ensures (ap not c.if-not-setting_fits.true)))).0

pub returns : goal.returns
returns c =
    let a = c.args in
    let e = c.read_2-r.ensures in
    sym (setting_accepted a.image.now a.offset a.size (rw e at c.if-r-ne0.false) (rw e at (granted c.setting_fits.ensures (ap not c.if-not-setting_fits.false)))).0
