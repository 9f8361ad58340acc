use Rattle.std.specs.Prelude.{not}
use Rattle.std.proofs.Common.{ap}
use Rattle.facts.specs.FactLaws.{granted, refuted}
use Rattle.hex_text.specs.Hex.{end_line}
use Rattle.hex_judge.specs.Stands.{bytes_at}
use Rattle.hex_parts.specs.Told.{text_split, text_joined}
use Rattle.hex_parts.proofs.text_stands.Goals as goal

pub returns-then-not-parts_stand : goal.returns-then-not-parts_stand
returns-then-not-parts_stand c =
    let a = c.args in
    record {
      says = λ h. refuted c.parts_stand.ensures (ap not c.if-not-parts_stand.true)
          (text_split a.text.now a.base a.n c.requires h).0;
    }

pub returns-then-not-line_stands : goal.returns-then-not-line_stands
unfolding end_line bytes_at
returns-then-not-line_stands c =
    let a = c.args in
    record {
      says = λ h. refuted c.line_stands.ensures (ap not c.if-not-line_stands.true)
          (text_split a.text.now a.base a.n c.requires h).1;
    }

pub returns : goal.returns
unfolding end_line bytes_at
returns c =
    let a = c.args in
    record {
      says = text_joined a.text.now a.base a.n c.requires
          (granted c.parts_stand.ensures (ap not c.if-not-parts_stand.false))
          (granted c.line_stands.ensures (ap not c.if-not-line_stands.false));
    }
