-- What the promise of `report` says: the bytes of the buffer, the length rule, the document's sample.
-- Assumes nothing.
use Rattle.std.specs.Prelude.{ℕ, ◌+◌, ◌≤◌, ◌<◌, false, List, [], ◌∷◌, ◌++◌, ◌≡◌, refl, length, get_or, take, drop}
use Rattle.std.proofs.Common.{sym, ap, ◌∙◌, arith, zero-add, take_at, take_all, length-take-le, get_or-append-add, get_or-drop}
use Rattle.std.proofs.Math.Decide.{dec_le}
use Rattle.std.proofs.lemmas.List.Edits.{sets-eq}
use Rattle.std.proofs.Math.Seq.{length-sets}
use Rattle.facts.specs.Fact.{test}
use Rattle.text_lines.specs.Text.{ascii, digits, decimal, hex_digit, hex_digits}
use Rattle.facts.specs.Rules.{run}
use Rattle.reading_rules.specs.Reading.{rules, reading, Read}
use Rattle.reading_rules.specs.Guarantee.{shared}
use Rattle.answers.specs.declared.Audited.{Audited}
use Rattle.audit.specs.Audit.{refused_audit}
use Rattle.audit.specs.AuditLaws.{audit_unread, audit_unpaired}
use Rattle.text_answer.specs.Told.{refusal, place_line, place_lines, verdict, report_text}
use Rattle.text_output.specs.Output.{taken, output, Reported}
use Rattle.text_output.specs.Taken.{text_refused, taken_whole, taken_none}

-- ---- the buffer

module _ {vendor shipped l m : List ℕ} {r : ℕ} (p : Reported vendor shipped l m r) where
  fits : length (output vendor shipped) ≤ length l
  fits = omega (arith, p.count, p.room, ap length p.bytes, length-sets l 0 (output vendor shipped))

  whole : m ≡ output vendor shipped ++ drop r l
  whole = p.bytes ∙ sets-eq (output vendor shipped) l 0 (omega (arith, fits)) ∙ rw (zero-add, ← p.count)

  -- the first r bytes are the output
  pub printed : take r m ≡ output vendor shipped
  printed = ap (λ (b : List ℕ). take r b) whole ∙ take_at (output vendor shipped) (drop r l) r (sym p.count)

  -- and every other byte is what it was
  pub kept : (i : ℕ) → get_or m (r + i) 0 ≡ get_or l (r + i) 0
  kept i =
      ap (λ (b : List ℕ). get_or b (r + i) 0) whole
      ∙ ap (λ (k : ℕ). get_or (output vendor shipped ++ drop r l) (k + i) 0) p.count
      ∙ get_or-append-add (output vendor shipped) (drop r l) i 0
      ∙ get_or-drop r l i 0

-- any two outcomes that the promise admits are one
pub one_report : {vendor shipped l m n : List ℕ} {r s : ℕ} → Reported vendor shipped l m r → Reported vendor shipped l n s
    → (m ≡ n) × (r ≡ s)
one_report p q = (p.bytes ∙ sym q.bytes, p.count ∙ sym q.count)

-- ---- the length rule

empty_read : (reading []).number ≡ 1
unfolding reading rules run test
empty_read = refl

-- the first file's own refusal goes before
pub vendor_first : (vendor shipped : List ℕ) → (Read (taken vendor) → ⊥)
    → output vendor shipped ≡ refusal (reading (taken vendor)).number
unfolding output
vendor_first vendor shipped h =
    let e = ap (λ (a : Audited). a.number) (audit_unread (taken vendor) (taken shipped) 256 h) in
    text_refused (taken vendor) (taken shipped) (λ z. h (sym e ∙ z)) ∙ ap refusal e

vendor_none : (vendor shipped : List ℕ) → taken vendor ≡ [] → output vendor shipped ≡ ascii "refused 1\n"
unfolding digits decimal test
vendor_none vendor shipped e =
    let one : (reading (taken vendor)).number ≡ 1 = rw e empty_read in
    vendor_first vendor shipped (λ z. omega arith) ∙ ap refusal one

shipped_none : (vendor shipped : List ℕ) → Read (taken vendor) → taken shipped ≡ []
    → output vendor shipped ≡ ascii "refused 19\n"
unfolding output digits decimal test
shipped_none vendor shipped ok e =
    let g = shared (taken vendor) ok in
    let n =
    ap (λ (a : Audited). a.number)
    (audit_unpaired (taken vendor) (taken shipped) 256 ok (λ l. omega (arith, g.length_least, ap length e))) in
    text_refused (taken vendor) (taken shipped) (λ z. omega arith) ∙ ap refusal n

-- "28,672 bytes each at most (longer: 1 for the first": whatever the files hold
pub vendor_longer : (vendor shipped : List ℕ) → 28672 < length vendor → output vendor shipped ≡ ascii "refused 1\n"
vendor_longer vendor shipped h = vendor_none vendor shipped (taken_none vendor h)

-- "19 for the second"
pub shipped_longer : (vendor shipped : List ℕ) → Read (taken vendor) → 28672 < length shipped
    → output vendor shipped ≡ ascii "refused 19\n"
shipped_longer vendor shipped ok h = shipped_none vendor shipped ok (taken_none shipped h)

-- "A file that can't be opened counts as empty."
pub vendor_empty : (shipped : List ℕ) → output [] shipped ≡ ascii "refused 1\n"
vendor_empty shipped = vendor_none [] shipped (taken_whole [] (omega arith))

pub shipped_empty : (vendor : List ℕ) → Read (taken vendor) → output vendor [] ≡ ascii "refused 19\n"
shipped_empty vendor ok = shipped_none vendor [] ok (taken_whole [] (omega arith))

-- 28,673 bytes of a file are enough to read
pub enough : (xs : List ℕ) → taken (take 28673 xs) ≡ taken xs
enough xs =
    elim (dec_le (length xs) 28672) [
      | yes h ↦ ap taken (take_all 28673 xs (omega arith))
      | no h ↦ taken_none (take 28673 xs) (rw (length-take-le 28673 xs (omega arith)) (omega arith)) ∙ sym (taken_none xs (omega arith))
    ]

-- ---- the document's sample

abbrev pub sampled : Audited
sampled = record { number = 0; index = 0; base = 0x00100000; settings = 1; strays = 1; bits = 1; explained = false }

pub sample : report_text sampled (4136 ∷ (5000 + 16777216) ∷ []) ≡ ascii "base 00100000\nsettings 1\nstrays 1\nbits 1\nS 4136\nX 5000\nverdict unexplained\n"
unfolding test digits decimal hex_digit hex_digits place_line place_lines verdict report_text
sample = refl

pub sample_refused : (index : ℕ) (listed : List ℕ) → report_text (refused_audit 19 index) listed ≡ ascii "refused 19\n"
unfolding test digits decimal report_text
sample_refused index listed = refl
