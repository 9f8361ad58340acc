-- Request #102 and the sheets written before it, which have zeros in bytes 14 and 15: rule 15 takes them as before, an image without an
-- extended number answers them as before, and one with another number than 0 refuses them with 16.
-- Assumes nothing.
use Rattle.std.specs.Prelude.{ℕ, ◌+◌, ◌*◌, ◌<◌, List, ◌≡◌, length}
use Rattle.std.proofs.Common.{sym, ap, ◌∙◌}
use Rattle.facts.specs.Fact.{Fact, Holds, ◌≤?◌, ◌≡?◌, ◌and◌, every}
use Rattle.facts.specs.FactLaws.{passes, fails, same_test}
use Rattle.facts.specs.Rules.{Rules, answer, rule, run}
use Rattle.words.specs.Le.{le}
use Rattle.header.specs.HeaderLaws.{extended_none}
use Rattle.header.specs.Base.{legal_base}
use Rattle.answers.specs.declared.Identity.{Identity}
use Rattle.answers.specs.declared.Reading.{Reading}
use Rattle.reading_rules.specs.Reading.{identity_at, reading2, Read2}
use Rattle.reading_rules.specs.Edition.{guaranteed}
use Rattle.answers.specs.declared.Moved.{Moved}
use Rattle.move_answer.specs.MoveAnswer.{refused_move, accepted_move}
use Rattle.sheet.specs.Sheet.{sheet_identity, count, contents_fit, bodies_fit, sheet_fits, same_identity, field_fits}
use Rattle.owners.specs.Owners.{owners_fit, fields_owned}
use Rattle.release.specs.Release.{releasing}
use Rattle.release_judge.specs.Judged.{name_rules, release_rules}
use Rattle.release.specs.ReleaseLaws.{release_judged}

-- bytes 14 and 15 are zero
abbrev pub Older : List ℕ → Type 0
Older s = le 2 s 14 ≡ 0

-- ---- the rules before the request: 15 wants the two bytes clear, 16 compares image identity and revision

abbrev pub older_contents : List ℕ → Fact
older_contents s = 16 ≤? length s and length s ≤? 65535 and count s ≤? 256 and le 2 s 14 ≡? 0 and 16 + 8 * count s ≤? length s

abbrev pub older_same : Identity → Identity → Fact
older_same a b = a.image ≡? b.image and a.revision ≡? b.revision

abbrev pub older_rules : Reading → ℕ → List ℕ → ℕ → List ℕ → ℕ → Rules Moved
older_rules r size s base o owner =
    rule 15 (older_contents s and bodies_fit s)
    (rule 23 (owners_fit o owner r.z)
    (rule 16 (older_same (sheet_identity s) r.identity)
    (rule 17 (every (count s) (field_fits s r.z))
    (rule 24 (fields_owned s o owner)
    (rule 18 (legal_base size base)
    (answer (accepted_move r base)))))))

-- a sheet that passed 15 before passes it now
pub older_contents_lem : (s : List ℕ) → Holds (older_contents s) → Holds (contents_fit s)
older_contents_lem s h = (h.0, (h.1.0, (h.1.1.0, h.1.1.1.1)))

-- an image below header revision 6 has no extended number
pub below_six : (xs : List ℕ) → Read2 xs → le 1 xs ((reading2 xs).H + 11) < 6 → (reading2 xs).identity.extended ≡ 0
unfolding identity_at
below_six xs ok below = ap (λ (i : Identity). i.extended) (guaranteed xs ok).identity_is ∙ extended_none xs (reading2 xs).H below

-- an older sheet is answered as before where the image's extended number is 0
pub older_as_before : (xs s : List ℕ) (base : ℕ) (o : List ℕ) (owner : ℕ) → Read2 xs → Older s
    → (reading2 xs).identity.extended ≡ 0
    → releasing xs s base o owner ≡ run refused_move (older_rules (reading2 xs) (length xs) s base o owner)
unfolding run release_rules name_rules
older_as_before xs s base o owner ok old none =
    let i = (reading2 xs).identity in
    release_judged xs s base o owner ok
    ∙ rw (
      same_test (sheet_fits s) (older_contents s and bodies_fit s)
          (λ h. ((h.0.0, (h.0.1.0, (h.0.1.1.0, (old, h.0.1.1.1)))), h.1)) (λ h. (older_contents_lem s h.0, h.1)),
      same_test (same_identity (sheet_identity s) i) (older_same (sheet_identity s) i) (λ h. (h.0, h.1.0))
          (λ h. (h.0, (h.1, old ∙ sym none))),
    )

-- and refused with 16, once it passes 15 and the list is good, where it is another
pub older_refused : (xs s : List ℕ) (base : ℕ) (o : List ℕ) (owner : ℕ) → Read2 xs → Older s → Holds (sheet_fits s)
    → Holds (owners_fit o owner (reading2 xs).z)
    → ((reading2 xs).identity.extended ≡ 0 → ⊥)
    → releasing xs s base o owner ≡ refused_move 16 0
unfolding run release_rules name_rules
older_refused xs s base o owner ok old fits good other =
    release_judged xs s base o owner ok
    ∙ rw (
      passes (sheet_fits s) fits,
      passes (owners_fit o owner (reading2 xs).z) good,
      fails (same_identity (sheet_identity s) (reading2 xs).identity) (λ h. other (sym h.1.1 ∙ old)),
    )
