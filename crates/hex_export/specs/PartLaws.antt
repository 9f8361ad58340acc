-- Writing part after part, and the whole text.
-- Assumes nothing.
use Rattle.std.specs.Prelude.{ℕ, suc, ◌+◌, ◌-◌, ◌*◌, ◌/◌, ◌%◌, ◌≤◌, ◌<◌, List, [], ◌++◌, ◌≡◌, refl, length, take, drop}
use Rattle.std.proofs.Common.{append_assoc, append-nil, sym, ap, ◌∙◌, arith, length-append, length-drop, take_all}
use Rattle.std.proofs.Math.Decide.{dec_le}
use Rattle.std.proofs.lemmas.List.Edits.{sets-eq}
use Rattle.text_lines.specs.Lines.{Wrote}
use Rattle.text_lines.specs.LineLaws.{wrote_then, wrote_none}
use Rattle.hex_text.specs.Hex.{upper_line, part, parts, exported, end_line, over}
use Rattle.hex_text.specs.Sizes.{up_to, text_length, part_length, part_begins}
use Rattle.hex_text.specs.Sizes.{part_ends, length_upper, length_exported, length_parts, all_parts_lem}
use Rattle.hex_export.specs.Export.{Roomy}

-- as many bytes as there are, and at most 16
pub take_part : (bytes : List ℕ) (i : ℕ) → take (part_length (length bytes) i) (drop i bytes) ≡ take 16 (drop i bytes)
take_part bytes i =
    elim (dec_le 16 (length bytes - i)) [
      | yes h ↦ let e : part_length (length bytes) i ≡ 16 = omega arith in rw e
      | no h ↦
          let e : part_length (length bytes) i ≡ length (drop i bytes) = omega (arith, length-drop i bytes) in
          take_all (part_length (length bytes) i) (drop i bytes) (omega arith)
          ∙ sym (take_all 16 (drop i bytes) (omega (arith, length-drop i bytes)))
    ]

-- the buffer held l when the upper bits of the base were written, `from` being the place after them, and holds m with the parts before
-- byte i
pub record Parts (base : ℕ) (bytes l m : List ℕ) (from at i : ℕ) : Type 0 where
  pub lines : List ℕ
  pub wrote : Wrote l m from lines at
  pub is : upper_line base ++ lines ≡ parts base bytes (i / 16)
  pub sixteen : i % 16 ≡ 0
  pub near : i < length bytes + 16

pub parts_none : (base : ℕ) (bytes l : List ℕ) (from : ℕ) → Parts base bytes l l from from 0
unfolding parts
parts_none base bytes l from =
    record { lines = []; wrote = wrote_none l from; is = append-nil (upper_line base); sixteen = refl; near = omega arith }

pub parts_next : {base : ℕ} {bytes l m n : List ℕ} {from at i r : ℕ} → i < length bytes → Parts base bytes l m from at i
    → Wrote m n at (part base i (take 16 (drop i bytes))) r → Parts base bytes l n from r (i + 16)
unfolding parts
parts_next {base} {bytes} {i = i} h p w =
    let next = part base i (take 16 (drop i bytes)) in
    let sixteen = p.sixteen in
    let k : (i + 16) / 16 ≡ suc (i / 16) = omega arith in
    let e : 16 * (i / 16) ≡ i = omega arith in
    record {
      lines = p.lines ++ next;
      wrote = wrote_then p.lines next p.wrote w;
      is = sym (append_assoc (upper_line base) p.lines next) ∙ rw (p.is, k, e);
      sixteen = omega arith;
      near = omega arith;
    }

-- the place, and the room for the next part
pub parts_room : {base : ℕ} {bytes l m : List ℕ} {from at i : ℕ} {room : ℕ} → base % 4096 ≡ 0 → i < length bytes → from ≡ 16
    → text_length base (length bytes) ≤ room → Parts base bytes l m from at i
    → at + length (part base i (take 16 (drop i bytes))) ≤ room
parts_room {base} {bytes} {at = at} {i = i} even h start fits p =
    let even16 : base % 16 ≡ 0 = omega arith in
    let long : length (upper_line base ++ p.lines) ≡ up_to base i = ap length p.is ∙ part_begins base bytes i even16 p.sixteen h in
    let here : at ≡ up_to base i = omega (arith, p.wrote.after, long, length-append (upper_line base) p.lines, length_upper base) in
    rw here (omega (arith, part_ends base bytes i even16 p.sixteen h))

-- all parts
pub parts_all : {base : ℕ} {bytes k l m : List ℕ} {from at i : ℕ} → length bytes ≤ i → Wrote k l 0 (upper_line base) from
    → Parts base bytes l m from at i → Wrote k m 0 (parts base bytes ((length bytes + 15) / 16)) at
parts_all {base} {bytes} {k} {m = m} {at = at} {i = i} h w p =
    let e : upper_line base ++ p.lines ≡ parts base bytes ((length bytes + 15) / 16) =
    p.is ∙ ap (parts base bytes) (all_parts_lem (length bytes) i p.sixteen h p.near) in
    rw e at (wrote_then (upper_line base) p.lines w p.wrote)

-- the place of the end's line
pub end_room : {bytes : List ℕ} {base : ℕ} {l m : List ℕ} {at : ℕ} → Roomy bytes base l
    → Wrote l m 0 (parts base bytes ((length bytes + 15) / 16)) at → at + 12 ≤ length l
end_room {bytes} {base} {at = at} r w =
    let k = (length bytes + 15) / 16 in
    let e : 16 * k - (16 * k - length bytes) ≡ length bytes = omega arith in
    let even16 : base % 16 ≡ 0 = omega (arith, r.even) in
    let long : length (parts base bytes k) ≡ up_to base (length bytes) =
    length_parts base bytes k even16 (omega arith) ∙ ap (λ (m : ℕ). up_to base m) e in
    let here : at ≡ up_to base (length bytes) = w.after ∙ rw long (omega arith) in
    rw here r.room

-- a text from the start on stands over the first bytes
pub wrote_over : {l m text : List ℕ} {r : ℕ} → length text ≤ length l → Wrote l m 0 text r → m ≡ over text l
wrote_over {l} {m} {text} h w =
    let z : 0 + length text ≡ length text = omega arith in
    w.bytes ∙ sets-eq text l 0 (omega arith) ∙ rw z

pub text_over : {bytes : List ℕ} {base : ℕ} {l m n : List ℕ} {at r : ℕ} → Roomy bytes base l
    → Wrote l m 0 (parts base bytes ((length bytes + 15) / 16)) at → Wrote m n at end_line r → n ≡ over (exported base bytes) l
unfolding exported
text_over {bytes} {base} r w f =
    let even16 : base % 16 ≡ 0 = omega (arith, r.even) in
    wrote_over (rw (length_exported base bytes even16) r.room) (wrote_then (parts base bytes ((length bytes + 15) / 16)) end_line w f)
