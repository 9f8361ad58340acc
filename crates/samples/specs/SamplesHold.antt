-- Every row of the sample table is right, by one test that is computed.
-- Assumes nothing.
use Rattle.std.specs.Prelude.{ℕ, zero, suc, ◌+◌, ◌-◌, ◌%◌, ◌^◌, ◌≤◌, ◌<◌, Bool, true, false, cond, ◌&&◌, List, [], ◌∷◌, ◌≡◌, refl, ltb, ℤ, pos, negsuc, nat_abs, length, get_or}
use Rattle.std.proofs.Common.{ap, ◌∙◌, arith, ltb-true}
use Rattle.std.proofs.Math.Decide.{dec_lt}
use Rattle.std.proofs.Math.ListN.{get_or-eq_default}
use Rattle.std.specs.Int.Signed.{lt_z}
use Rattle.facts.specs.Fact.{Fact, ◌≤?◌, ◌≡?◌, deny, ◌and◌, every, all_below, test, Holds}
use Rattle.facts.specs.FactLaws.{holds, passes, fails}
use Rattle.facts.specs.Rules.{run}
use Rattle.facts.specs.RulesLaws.{and_left, and_right}
use Rattle.words.specs.Le.{le, Bytes}
use Rattle.words.specs.Put.{digit}
use Rattle.words.specs.Number.{number}
use Rattle.header.specs.Base.{legal_base}
use Rattle.table.specs.Entry.{refused_place, place_of}
use Rattle.answers.specs.declared.Reading.{Reading}
use Rattle.reading_rules.specs.Reading.{rebased, refusal, reading2}
use Rattle.moves.specs.Moves.{difference}
use Rattle.move_answer.specs.MoveAnswer.{refused_move, accepted_move}
use Rattle.sheet_bodies.specs.Small.{sample}
use Rattle.sheet.specs.Sheet.{Sound, sheet_identity, count, offset, size, body_at, contents_fit, bodies_fit, sheet_fits, same_identity, field_fits}
use Rattle.owners.specs.Owners.{owners_fit, owned, fields_owned}
use Rattle.release_judge.specs.Judged.{name_rules, release_rules}
use Rattle.release.specs.ReleaseLaws.{release_judged, release_accepted, release_goes}
use Rattle.release.specs.Releasable.{Releasable}
use Rattle.release_laws.specs.Theorems.{released_entry, released_word}
use Rattle.samples.specs.Samples.{Claim, Each, Row, distance_of, foreign, illegal, legal, makes, moves, owns, points, refuses, rows, sets, sheet, unsound}

-- 1 for a number below 0
abbrev sign : ℤ → ℕ
sign z = cond (lt_z z (pos 0)) 1 0

-- a number whose sign says so is below 0
below : (z : ℤ) → sign z ≡ 1 → z ≡ negsuc (nat_abs z - 1)
below (pos n) e = absurd (none (ltb n 0) refl e)
  where
    none : (b : Bool) → ltb n 0 ≡ b → ◌≡◌ {A = ℕ} (cond b 1 0) 1 → ⊥
    none true f g = omega (arith, ltb-true n 0 f)
    none false f g = omega arith
below (negsuc n) e = let s : n ≡ suc n - 1 = omega arith in ap negsuc s

-- the check by which a row is computed
abbrev pub check : Row → Fact
check (points size entry place) = (place_of size entry).number ≡? 0 and (place_of size entry).at ≡? place
check (refuses size entry number) = (place_of size entry).number ≡? number and (place_of size entry).at ≡? 0
check (legal size base) = legal_base size base
check (illegal size base) = deny (legal_base size base)
check (moves old new by down) = difference old new 4 ≡? by and sign (distance_of old new) ≡? 1 and nat_abs (distance_of old new) ≡? down
check (makes k old new word moved) = (word + difference old new k) % 256 ^ k ≡? moved
check (sets s l w z at first second) =
    contents_fit s
    and bodies_fit s
    and every (count s) (field_fits s z)
    and 1 ≤? count s
    and offset s 0 ≡? at
    and size s 0 ≡? 2
    and get_or s (body_at s 0) 0 ≡? first
    and get_or s (body_at s 0 + 1) 0 ≡? second
    and every (length s) (λ i. get_or s i 0 ≤? 255)
    and owners_fit l w z
    and fields_owned s l w
check (owns s z at first second) =
    contents_fit s
    and bodies_fit s
    and every (count s) (field_fits s z)
    and count s ≡? 1
    and offset s 0 ≡? at
    and size s 0 ≡? 2
    and get_or s (body_at s 0) 0 ≡? first
    and get_or s (body_at s 0 + 1) 0 ≡? second
    and every (length s) (λ i. get_or s i 0 ≤? 255)
check (foreign s l w z) = sheet_fits s and every (count s) (field_fits s z) and owners_fit l w z and deny (fields_owned s l w)
check (unsound s) = contents_fit s and deny (bodies_fit s)

-- a list that is good for a region is so for a longer one
wider : (l : List ℕ) (w z more : ℕ) → z ≤ more → Holds (owners_fit l w z) → Holds (owners_fit l w more)
wider l w z more h (good, known) =
    ((good.0, (good.1.0, λ i k. let f = good.1.1 i k in (f.0, (f.1.0, (omega (arith, f.1.1.0), f.1.1.1))))), known)

-- a list of bytes
bytes_so : (s : List ℕ) → Holds (every (length s) (λ i. get_or s i 0 ≤? 255)) → Bytes s
unfolding Bytes
bytes_so s h k =
    elim (dec_lt k (length s)) [
      | yes l ↦ omega (arith, h k l)
      | no l ↦
          let past : length s ≤ k = omega arith in
          rw (get_or-eq_default s 0 past) (omega arith)
    ]

-- a row that computes is right
right : (row : Row) → Holds (check row) → Claim row
unfolding run release_rules name_rules
right (points size entry place) h = h
right (refuses size entry number) h = h
right (legal size base) h = h
right (illegal size base) h = h
right (moves old new by down) (by-is, (low, far)) = (
  by-is,
  λ xs s o owner goes base.
      release_accepted xs s new o owner goes
      ∙ ap (λ (b : ℕ). accepted_move (rebased (refusal 0 0) b) new) base
      ∙ ap (λ (z : ℤ). record { number = 0; index = 0; distance = z })
      (below (distance_of old new) low ∙ ap (λ (k : ℕ). negsuc (k - 1)) far),
)
right (makes k old new word moved) h = λ xs s o owner bx bs goes base j n width is.
    rw width at (released_word xs s new o owner (release_goes xs s new o owner goes) bx bs j n)
    ∙ ap (λ (v : ℕ). (v + difference (reading2 xs).base new k) % 256 ^ k) is
    ∙ ap (λ (o : ℕ). (word + difference o new k) % 256 ^ k) base
    ∙ h
right (sets s l w z at first second) (contents, (bodies, (fields, (one, (place, (two, (a, (b, (bytes, (good, own)))))))))) =
    λ xs base bx ok names room legal.
    let sound : Sound s (reading2 xs).z =
    record { contents = contents; bodies = bodies; fields = λ i h. ((fields i h).0, omega (arith, (fields i h).1)) } in
    let goes : Releasable xs s base l w =
    record {
      fits = record { read = ok; sound = sound; names = names };
      good = wider l w z (reading2 xs).z room good;
      own = own;
      legal = legal;
    } in
    let byte = released_entry xs s base l w (release_goes xs s base l w goes) bx (bytes_so s bytes) 0 in
    let e : (reading2 xs).c + offset s 0 + 0 ≡ (reading2 xs).c + offset s 0 = omega arith in
    let f : body_at s 0 + 0 ≡ body_at s 0 = omega arith in (
      release_accepted xs s base l w goes,
      rw (← place) (rw (e, f) at (byte 0 one (omega arith)) ∙ a),
      rw (← place) (byte 1 one (omega arith) ∙ b),
    )
right (owns s z at first second) (contents, (bodies, (fields, (one, (place, (two, (a, (b, bytes)))))))) =
    λ xs base l w bx ok names room legal good own_IsFirst own-second.
    let sound : Sound s (reading2 xs).z =
    record { contents = contents; bodies = bodies; fields = λ i h. ((fields i h).0, omega (arith, (fields i h).1)) } in
    let goes : Releasable xs s base l w =
    record {
      fits = record { read = ok; sound = sound; names = names };
      good = good;
      own = λ i h j k. mine l w own_IsFirst own-second i (omega arith) j k;
      legal = legal;
    } in
    let byte = released_entry xs s base l w (release_goes xs s base l w goes) bx (bytes_so s bytes) 0 in
    let e : (reading2 xs).c + offset s 0 + 0 ≡ (reading2 xs).c + offset s 0 = omega arith in
    let f : body_at s 0 + 0 ≡ body_at s 0 = omega arith in (
      release_accepted xs s base l w goes,
      rw (← place) (rw (e, f) at (byte 0 (omega arith) (omega arith)) ∙ a),
      rw (← place) (byte 1 (omega arith) (omega arith) ∙ b),
    )
  where
    mine : (l : List ℕ) (w : ℕ) → Holds (owned l w at) → Holds (owned l w (at + 1)) → (i : ℕ) → i < 1 → (j : ℕ) → j < size s i
        → Holds (owned l w (offset s i + j))
    mine l w p q zero h zero k = let e : offset s 0 + 0 ≡ at = omega arith in rw e p
    mine l w p q zero h (suc zero) k = let e : offset s 0 + 1 ≡ at + 1 = omega arith in rw e q
    mine l w p q zero h (suc (suc j)) k = absurd (omega arith)
    mine l w p q (suc i) h j k = absurd (omega arith)
right (foreign s l w z) (fits, (fields, (good, none))) = λ xs base ok names room.
    release_judged xs s base l w ok ∙ refused (reading2 xs) (length xs) base names (wider l w z (reading2 xs).z room good)
    (λ i h. ((fields i h).0, omega (arith, (fields i h).1)))
  where
    refused : (r : Reading) (size base : ℕ) → Holds (same_identity (sheet_identity s) r.identity) → Holds (owners_fit l w r.z)
        → Holds (every (count s) (field_fits s r.z))
        → run refused_move (release_rules r size s base l w) ≡ refused_move 24 0
    refused r size base names good fields =
        rw (
          passes (sheet_fits s) fits,
          passes (owners_fit l w r.z) good,
          passes (same_identity (sheet_identity s) r.identity) names,
          passes (every (count s) (field_fits s r.z)) fields,
          fails (fields_owned s l w) none,
        )
right (unsound s) (contents, none) = λ xs base l w ok. release_judged xs s base l w ok ∙ refused (reading2 xs) (length xs) base l w
  where
    refused : (r : Reading) (size base : ℕ) (l : List ℕ) (w : ℕ) → run refused_move (release_rules r size s base l w) ≡ refused_move 15 0
    refused r size base l w = rw (fails (sheet_fits s) (λ h. none h.1))

-- one test for all of them
abbrev each : List Row → Bool
each [] = true
each (row ∷ rest) = test (check row) && each rest

all_right : (l : List Row) → each l ≡ true → Each l
all_right [] e = λ x. x
all_right (row ∷ rest) e =
    (right row (holds (check row) (and_left (test (check row)) (each rest) e)), all_right rest (and_right (test (check row)) (each rest) e))

-- the sample table
pub samples : Each rows
unfolding test all_below place_of difference le body_at
samples = all_right rows refl

-- an entry that is 2^24 back from the end has its place before the start of any shorter image
pub far_back : (size : ℕ) → size < 2 ^ 24 → place_of size 0xF0000000 ≡ refused_place 13
unfolding place_of test
far_back size h = rw (fails (2 ^ 24 ≤? size) (λ k. omega arith))

-- the sheet of the rows is the one that the small image takes
pub same_sheet : sheet ≡ sample
unfolding sample number digit
same_sheet = refl
