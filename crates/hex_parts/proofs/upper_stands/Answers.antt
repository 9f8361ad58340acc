use Rattle.std.specs.Prelude.{not}
use Rattle.std.proofs.Common.{ap}
use mathlib.Core.Path.{sym, ◌∙◌}
use Rattle.facts.specs.FactLaws.{granted, refuted}
use Rattle.hex_parts.specs.DecodedLaws.{upper_high, upper_low, upper_record, upper_told}
use Rattle.hex_parts.proofs.upper_stands.Goals as goal

pub returns-then-byte_at-a : goal.returns-then-byte_at-a
returns-then-byte_at-a c =
    let a = c.args in
    let r = c.byte_at.ensures in
    record { says = λ h. let e = upper_high a.text.now a.at a.a c.requires.1 h in c.if-byte_at-a.true (r ∙ e) }

pub returns-then-byte_at-a-2 : goal.returns-then-byte_at-a-2
returns-then-byte_at-a-2 c =
    let a = c.args in
    let r = c.byte_at-2.ensures in
    record { says = λ h. let e = upper_low a.text.now a.at a.a c.requires.1 h in c.if-byte_at-a-2.true (r ∙ e) }

pub returns-then-not-line_stands : goal.returns-then-not-line_stands
returns-then-not-line_stands c =
    let a = c.args in
    record {
      says = λ h. refuted c.line_stands.ensures (ap not c.if-not-line_stands.true)
          (upper_record a.text.now a.at a.a c.requires.1 h);
    }

pub returns : goal.returns
returns c =
    let a = c.args in
    let high = sym c.byte_at.ensures ∙ c.if-byte_at-a.false in
    let low = sym c.byte_at-2.ensures ∙ c.if-byte_at-a-2.false in
    record { says = upper_told a.text.now a.at a.a high low (granted c.line_stands.ensures (ap not c.if-not-line_stands.false)) }
