-- Document 01, "The audit".
-- Assumes nothing.
use Rattle.std.specs.Prelude.{ℕ, ◌+◌, ◌/◌, Bool, false, cond, List, ◌≡◌, length}
use Rattle.std.proofs.Common.{sym, ◌∙◌}
use Rattle.std.proofs.Math.Decide.{ℕ_discrete}
use Rattle.std.proofs.lemmas.List.Edits.{sets}
use Rattle.facts.specs.Fact.{Fact, ◌≤?◌, ◌≡?◌, deny, ◌and◌, test}
use Rattle.facts.specs.Rules.{answer, rule}
use Rattle.words.specs.Le.{le}
use Rattle.words.specs.Put.{put_all}
use Rattle.header.specs.Base.{legal_base}
use Rattle.answers.specs.declared.Reading.{Reading}
use Rattle.reading_rules.specs.Reading.{parted, edition1, reading}
use Rattle.answers.specs.After.{after_reading, unless_refused}
use Rattle.move_image.specs.Moving.{move_to}
use Rattle.answers.specs.declared.Audited.{Audited}
use Rattle.audit_places.specs.Writing.{Writing}
use Rattle.audit_count.specs.declared.Counts.{Counts}
use Rattle.audit_count.specs.Differences.{differences, settings, strays, bits, entries}

-- the shipped file's base: what it has where the vendor's base word stands
abbrev pub shipped_base : List ℕ → List ℕ → ℕ
shipped_base xs ys = le 4 ys ((reading xs).H + 28)

-- what the shipped file is compared with: the vendor image, moved to that base; one of edition 1 as it is (request #109)
unfoldable pub reference : List ℕ → List ℕ → List ℕ
reference xs ys = cond (test (edition1 (reading xs))) xs (move_to xs (reading xs) (shipped_base xs ys))

-- the reading by which settings are told from strays: an edition 1 image has no settings part that is known
unfoldable pub told_by : List ℕ → Reading
told_by xs = cond (test (edition1 (reading xs))) (parted (reading xs) 0 0) (reading xs)

-- every position where the shipped file differs from it
unfoldable pub differing : List ℕ → List ℕ → List ℕ
differing xs ys = differences (reference xs ys) ys 0 (length xs)

-- a refusal other than 20: its number and index, all else zero
abbrev pub refused_audit : ℕ → ℕ → Audited
refused_audit number index =
    record { number = number; index = index; base = 0; settings = 0; strays = 0; bits = 0; explained = false }

-- an answer that carries counts
abbrev pub carried : ℕ → ℕ → Counts → Bool → Audited
carried number base t explained =
    record { number = number; index = 0; base = base; settings = t.settings; strays = t.strays; bits = t.bits; explained = explained }

-- 20 ROOM: as many places as differences; base and counts are told either way, and "explained" is said where there is room and no stray
unfoldable pub tally : List ℕ → List ℕ → ℕ → Audited
tally xs ys room =
    let r = told_by xs in
    let ks = differing xs ys in
    let fits = settings r ks + strays r ks ≤? room in
    record {
      number = cond (test fits) 0 20;
      index = 0;
      base = shipped_base xs ys;
      settings = settings r ks;
      strays = strays r ks;
      bits = bits (reference xs ys) ys r ks;
      explained = test (fits and strays r ks ≡? 0);
    }

-- the vendor's refusals, then 19 PAIR, two files of one length, then 18, a shipped base that is legal
unfoldable pub auditing : List ℕ → List ℕ → ℕ → Audited
auditing xs ys room =
    after_reading refused_audit (reading xs)
    (rule 19 (length ys ≡? length xs) (rule 18 (legal_base (length xs) (shipped_base xs ys)) (answer (tally xs ys room))))

-- the list afterwards: the entries from its start on, and what it held after them; what it held where the audit is refused
unfoldable pub listed : List ℕ → List ℕ → List ℕ → List ℕ
listed xs ys places =
    unless_refused (auditing xs ys (length places)).number (sets places 0 (entries (told_by xs) (differing xs ys))) places

-- the same of a list of bytes, in which four make a place
unfoldable pub listed_bytes : List ℕ → List ℕ → List ℕ → List ℕ
listed_bytes xs ys bytes =
    unless_refused (auditing xs ys (length bytes / 4)).number (put_all 4 bytes 0 (entries (told_by xs) (differing xs ys))) bytes

-- whether an answer is accepted and has anything to list
abbrev pub listing : Audited → Fact
listing a = a.number ≡? 0 and deny (a.settings ≡? 0 and a.strays ≡? 0)

-- the promise of `audit_in`, of a list that is written as w says and in which so many places go: the answer, and the list afterwards, the
-- entries from its start on and what it held after them, or what it held where the audit is refused
abbrev pub AuditsIn : {A : Type 0} → Writing A → ℕ → List ℕ → List ℕ → List A → Audited → List A → Type 0
AuditsIn w room xs ys places a l =
    (a ≡ auditing xs ys room) × (a.number ≡ 0 → l ≡ w.all places 0 (entries (told_by xs) (differing xs ys)))
    × ((a.number ≡ 0 → ⊥) → l ≡ places)

-- the promise of `audit`: the answer, and the list afterwards
abbrev pub Audits : List ℕ → List ℕ → List ℕ → Audited → List ℕ → Type 0
Audits xs ys places a l = (a ≡ auditing xs ys (length places)) × (l ≡ listed xs ys places)

-- the promise of `audit_bytes`
abbrev pub AuditsBytes : List ℕ → List ℕ → List ℕ → Audited → List ℕ → Type 0
AuditsBytes xs ys bytes a l = (a ≡ auditing xs ys (length bytes / 4)) × (l ≡ listed_bytes xs ys bytes)

-- any two outcomes that they admit are the same
pub one_audit_in : {A : Type 0} (w : Writing A) (room : ℕ) (xs ys : List ℕ) (places : List A) (a b : Audited) (l m : List A)
    → AuditsIn w room xs ys places a l → AuditsIn w room xs ys places b m → (a ≡ b) × (l ≡ m)
one_audit_in w room xs ys places a b l m (p, f, g) (q, h, k) =
    let e : b ≡ a = q ∙ sym p in (
      sym e,
      elim (ℕ_discrete a.number 0) [
        | yes z ↦ f z ∙ sym (h (rw e z))
        | no n ↦ g n ∙ sym (k (rw e n))
      ],
    )

pub one_audit : (xs ys places : List ℕ) (a b : Audited) (l m : List ℕ) → Audits xs ys places a l → Audits xs ys places b m
    → (a ≡ b) × (l ≡ m)
one_audit xs ys places a b l m (p, q) (s, t) = (p ∙ sym s, q ∙ sym t)

pub one_audit_bytes : (xs ys bytes : List ℕ) (a b : Audited) (l m : List ℕ) → AuditsBytes xs ys bytes a l → AuditsBytes xs ys bytes b m
    → (a ≡ b) × (l ≡ m)
one_audit_bytes xs ys bytes a b l m (p, q) (s, t) = (p ∙ sym s, q ∙ sym t)
