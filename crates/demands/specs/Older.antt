-- Request #109: what is said of edition 1 images, over the outcomes that the promises of the calls admit. Demand 3 for them is
-- `Demand3Older` in `Demands`; `OlderHolds` proves what stands here.
-- Assumes nothing.
use Rattle.std.specs.Prelude.{ℕ, ◌+◌, ◌<◌, cond, List, [], ◌≡◌, length, get_or}
use Rattle.std.specs.Borrow.{Bor}
use Rattle.facts.specs.Fact.{◌≤?◌, ◌≡?◌, ◌and◌, test}
use Rattle.facts.specs.Rules.{answer, rule, run}
use Rattle.words.specs.Le.{le}
use Rattle.header.specs.Base.{legal_base}
use Rattle.answers.specs.declared.Reading.{Reading}
use Rattle.reading_rules.specs.Reading.{parted, reading, Reads, Older}
use Rattle.answers.specs.declared.Moved.{Moved}
use Rattle.move_answer.specs.MoveAnswer.{refused_move}
use Rattle.release.specs.Release.{Releases}
use Rattle.setting.specs.Setting.{Stands, HandsBack, NumberOf}
use Rattle.answers.specs.declared.Listed.{Listed}
use Rattle.contents.specs.Listing.{refused_list, Lists}
use Rattle.answers.specs.declared.Audited.{Audited}
use Rattle.audit_count.specs.Differences.{differences}
use Rattle.audit.specs.Audit.{refused_audit, auditing}

-- ---- 28 READ-ONLY: what needs an edition 2 image refuses one of edition 1, whatever else is wrong, and changes nothing; the empty part of a
-- lookup stands at the image's start

abbrev pub ReadOnly : Type 0
ReadOnly =
    ((xs s : List ℕ) (base : ℕ) (o : List ℕ) (owner : ℕ) (r : Moved) (ys : List ℕ) → Older xs → Releases xs s base o owner r ys
    → (r ≡ refused_move 28 0) × (ys ≡ xs))
    × ((xs : List ℕ) (offset size k : ℕ) → Older xs → NumberOf xs offset size k → k ≡ 28)
    × ((image : Bor (List ℕ)) (offset size : ℕ) (r : Bor (List ℕ)) → Older image.now → HandsBack image offset size r
    → (r.now ≡ []) × Stands image 0 r)
    × ((xs bytes : List ℕ) (a : Listed) (l : List ℕ) → Older xs → Lists xs bytes a l → (a ≡ refused_list 28 0) × (l ≡ bytes))

-- ---- no byte from H+32 on is judged: an image of the same length that agrees below reads alike, but for c and z, which are given as they
-- stand

abbrev pub Unjudged : Type 0
Unjudged =
    (xs ys : List ℕ) (r s : Reading) → Older xs → length ys ≡ length xs
    → ((k : ℕ) → k < r.H + 32 → get_or xs k 0 ≡ get_or ys k 0) → Reads xs r → Reads ys s
    → s ≡ parted r (le 4 ys (r.H + 36)) (le 4 ys (r.H + 40))

-- ---- and the audit looks at c and z no more than at any other byte: its answer goes by H, the two files and the room alone

unfoldable pub plain_tally : ℕ → List ℕ → List ℕ → ℕ → Audited
plain_tally H xs ys room =
    let n = length (differences xs ys 0 (length xs)) in
    record {
      number = cond (test (n ≤? room)) 0 20;
      index = 0;
      base = le 4 ys (H + 28);
      settings = 0;
      strays = n;
      bits = 0;
      explained = test (n ≤? room and n ≡? 0);
    }

unfoldable pub plain_audit : ℕ → List ℕ → List ℕ → ℕ → Audited
plain_audit H xs ys room =
    run refused_audit
    (rule 19 (length ys ≡? length xs) (rule 18 (legal_base (length xs) (le 4 ys (H + 28))) (answer (plain_tally H xs ys room))))

abbrev pub Plain : Type 0
Plain = (xs ys : List ℕ) (room : ℕ) → Older xs → auditing xs ys room ≡ plain_audit (reading xs).H xs ys room
