-- A year of releases and the check by a record, of what C calls; and that this speaks of something.
-- Assumes nothing.
use Rattle.std.specs.Prelude.{ℕ, ◌/◌, ◌≤◌, cond, List, [], ◌∷◌, ◌≡◌, refl, eqb, length}
use Rattle.std.proofs.Common.{inl, inr, sym, ap, ◌∙◌, arith}
use Rattle.words.specs.Number.{zeros}
use Rattle.answers.specs.declared.Moved.{Moved}
use Rattle.audit.specs.Audit.{auditing, listed_bytes}
use Rattle.demands.specs.Calls.{Call, answer_to, after}
use Rattle.year.specs.Year.{Plays, accepted}
use Rattle.year.specs.YearHolds.{year}
use Rattle.year.specs.YearMet.{maker, calls, answered, x₅, plays}
use Rattle.year.specs.AsReleased.{MovedAlone}
use Rattle.year.specs.AsReleasedHolds.{as_released}
use Rattle.c_answers.specs.Answers.{move_fields}
use Rattle.c_answers.specs.Answers as c
use Rattle.c_answers.specs.AnswerLaws.{roomy}
use Rattle.pajurenda_claims.specs.OutcomesHold.{release_outcome, audit_outcome}
use Rattle.pajurenda_claims.specs.Steps.{PlaysC, taken, YearC, AsReleasedC}

-- the same calls by the library's own release, with answers of these numbers
plays_of : (xs : List ℕ) (cs : List Call) (rs zs : List ℕ) → PlaysC xs cs rs zs
    → (ms : List Moved) × Plays xs cs ms zs × (accepted cs ms ≡ taken cs rs)
unfolding PlaysC Plays accepted taken
plays_of xs [] [] zs e = ([], e, refl)
plays_of xs [] (r ∷ rs) zs e = absurd e
plays_of xs (d ∷ cs) [] zs e = absurd e
plays_of xs (d ∷ cs) (r ∷ rs) zs (A, ys, a, room, call, more) =
    let (ms, rest, same) = plays_of ys cs rs zs more in
    let m = answer_to xs d in
    let e : r ≡ m.number = call.0 ∙ roomy 3 A m.number 100 room in (
      m ∷ ms,
      (ys, (refl, call.1.0 ∙ roomy 3 A (after xs d) xs room), rest),
      ap (λ (l : List Call). cond (eqb m.number 0) (d ∷ l) l) same
          ∙ ap (λ (k : ℕ). cond (eqb k 0) (d ∷ taken cs rs) (taken cs rs)) (sym e),
    )

pub year_C : YearC
year_C xs cs rs zs bx ok bs made bytes A r l a call room fits =
    let (ms, by-release, same) = plays_of xs cs rs zs made in
    let q = auditing xs zs (length bytes / 4) in
    let list = call.1.0 ∙ roomy 7 A (listed_bytes xs zs bytes) bytes room in (
      q,
      (call.0 ∙ roomy 7 A q.number 100 room, call.1.1),
      rw same at (year.1 xs cs ms zs bytes q l bx ok bs by-release (refl, list) (rw same fits)),
    )

pub as_released_C : AsReleasedC
as_released_C xs cs rs zs bx ok bs made e base o owner B ws b be none moving ys bytes A l a call =
    let (ms, by-release, same) = plays_of xs cs rs zs made in
    elim (release_outcome zs e base o owner B 0 ws b moving) [
      | inl short ↦ absurd (omega (arith, short.0.0))
      | inr (m, told, released) ↦
          elim (audit_outcome ws ys bytes A 0 l a call) [
            | inl short ↦ absurd (omega (arith, short.0.0))
            | inr (q, answer, audits) ↦
                let alone : MovedAlone zs ws =
                record {
                  sheet = e;
                  base = base;
                  list = o;
                  owner = owner;
                  answer = m;
                  bytes = be;
                  empty = none;
                  released = released;
                  taken = sym told.0;
                } in
                let both = as_released.1 xs cs ms zs bx ok bs by-release ws ys bytes q l (inr alone) audits (sym answer.0) in
                (q, answer, rw same at both.0)
          ]
    ]

-- ---- whatever the library's own releases do, C calls with room for 24 bytes do

unfoldable pub numbers : List Moved → List ℕ
numbers [] = []
numbers (m ∷ ms) = m.number ∷ numbers ms

long : 24 ≤ length (zeros 24)
unfolding zeros
long = omega arith

plays_to : (xs : List ℕ) (cs : List Call) (ms : List Moved) (zs : List ℕ) → Plays xs cs ms zs → PlaysC xs cs (numbers ms) zs
unfolding PlaysC Plays numbers
plays_to xs [] [] zs e = e
plays_to xs [] (m ∷ ms) zs e = absurd e
plays_to xs (d ∷ cs) [] zs e = absurd e
plays_to xs (d ∷ cs) (m ∷ ms) zs (ys, (answer, image), more) = (
  zeros 24,
  ys,
  c.answered (zeros 24) (move_fields (answer_to xs d)),
  long,
  (
    ap (λ (q : Moved). q.number) answer ∙ sym (roomy 3 (zeros 24) (answer_to xs d).number 100 long),
    (image ∙ sym (roomy 3 (zeros 24) (after xs d) xs long), refl),
  ),
  plays_to ys cs ms zs more,
)

-- so the five releases of the small image are such calls
pub played_C : PlaysC maker calls (numbers answered) x₅
played_C = plays_to maker calls answered x₅ plays

pub results : numbers answered ≡ 0 ∷ 0 ∷ 24 ∷ 0 ∷ 18 ∷ []
unfolding numbers answered
results = refl
