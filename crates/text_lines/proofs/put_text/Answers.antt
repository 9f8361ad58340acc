use Rattle.std.proofs.Common.{◌≡◌, ◌+◌, ◌-◌, length, refl, sym, ◌∙◌, arith, append_assoc, drop-drop}
use Rattle.std.proofs.lemmas.List.Edits.{sets-eq}
use Rattle.text_lines.proofs.put_text.Goals as goal

pub returns : goal.returns
returns c =
    let a = c.args in
    let text = a.text.now in
    let e : a.at + length text - a.at ≡ length text = omega arith in
    record {
      bytes = rw (e, c.copy_from_slice.ensures.after, drop-drop)
          (sym (sets-eq text a.out.now a.at (omega arith) ∙ append_assoc _ text _));
      after = refl;
    }
