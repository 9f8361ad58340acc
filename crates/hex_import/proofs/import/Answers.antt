use Rattle.std.specs.Prelude.{not}
use Rattle.std.proofs.Common.{inl, inr, refl, ap}
use Rattle.facts.specs.FactLaws.{granted, refuted}
use Rattle.hex_parts.specs.Decoded.{decoded_all}
use Rattle.hex_parts.specs.DecodedLaws.{length_all}
use Rattle.hex_import.specs.ImportLaws.{too_short, no_length, not_legal, not_standing, sized, text_of}
use Rattle.hex_import.proofs.import.Goals as goal

pub returns-then-text-lt44 : goal.returns-then-text-lt44
returns-then-text-lt44 c =
    inr (inr (record { nobody = too_short c.if-text-lt44.true; answer = c.refused.ensures; out = refl }))

pub returns-in_default : goal.returns-in_default
returns-in_default c =
    let none = rw c.base_of-base.ensures at c.in_default.ensures in
    inr (inr (record { nobody = no_length none; answer = c.refused-in_default.ensures; out = refl }))

pub returns-then-not-legal : goal.returns-then-not-legal
returns-then-not-legal c =
    let eb = c.base_of-base.ensures in
    let has = rw eb at c.in-Some.ensures in
    inr (inr (record {
      nobody = not_legal has (rw eb at (refuted c.legal.ensures (ap not c.if-not-legal.true)));
      answer = c.refused-then-not-legal.ensures;
      out = refl;
    }))

pub text_stands-requires : goal.text_stands-requires
text_stands-requires c = sized c.in-Some.ensures (granted c.legal.ensures (ap not c.if-not-legal.false))

pub returns-then-not-text_stands : goal.returns-then-not-text_stands
returns-then-not-text_stands c =
    let eb = c.base_of-base.ensures in
    let has = rw eb at c.in-Some.ensures in
    inr (inr (record {
      nobody = not_standing has (rw eb at (refuted c.text_stands.ensures (ap not c.if-not-text_stands.true)));
      answer = c.refused-then-not-text_stands.ensures;
      out = refl;
    }))

pub returns-then-out-n : goal.returns-then-out-n
returns-then-out-n c =
    let text = c.args.text.now in
    let base = c.base_of-base.result in
    let n = c.in-Some.n in
    inr (inl (record {
      base = base;
      bytes = decoded_all text base n;
      whose = text_of (sized c.in-Some.ensures (granted c.legal.ensures (ap not c.if-not-legal.false)))
          (granted c.text_stands.ensures (ap not c.if-not-text_stands.false));
      short = rw (length_all text base n) c.if-out-n.true;
      answer = c.refused-then-out-n.ensures;
      out = refl;
    }))

pub put_all-requires : goal.put_all-requires
put_all-requires c = (sized c.in-Some.ensures (granted c.legal.ensures (ap not c.if-not-legal.false)), c.if-out-n.false)

pub returns : goal.returns
returns c =
    let text = c.args.text.now in
    let base = c.base_of-base.result in
    let n = c.in-Some.n in
    inl (record {
      base = base;
      bytes = decoded_all text base n;
      whose = text_of (sized c.in-Some.ensures (granted c.legal.ensures (ap not c.if-not-legal.false)))
          (granted c.text_stands.ensures (ap not c.if-not-text_stands.false));
      room = rw (length_all text base n) c.if-out-n.false;
      answer = rw (length_all text base n);
      out = c.put_all.ensures;
    })
