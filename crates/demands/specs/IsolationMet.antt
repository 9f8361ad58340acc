-- The isolation theorem speaks of something: a sequence of releases of the small image, computed. Owner 1 sets its bytes and keeps the
-- base, owner 2 sets its own and moves, owner 1 tries owner 2's bytes and is refused with 24, then sets its own again.
-- Assumes nothing.
use Prim.{tt}
use Rattle.std.specs.Prelude.{ℕ, ◌+◌, List, [], ◌∷◌, ◌++◌, ◌≡◌, refl, negsuc, length, get_or}
use Rattle.std.proofs.Common.{sym, ap, ◌∙◌, arith}
use Rattle.facts.specs.Fact.{test, all_below, Holds}
use Rattle.facts.specs.FactLaws.{holds}
use Rattle.facts.specs.Rules.{run}
use Rattle.words.specs.Le.{le, Bytes}
use Rattle.words.specs.Put.{digit}
use Rattle.words.specs.Number.{number, zeros}
use Rattle.answers.specs.declared.Reading.{Reading}
use Rattle.reading_rules.specs.Reading.{rebased, reading2}
use Rattle.answers.specs.After.{after_reading}
use Rattle.reading_rules.specs.Small.{small, setting_bytes, small_reads_2}
use Rattle.answers.specs.declared.Moved.{Moved}
use Rattle.move_answer.specs.MoveAnswer.{refused_move}
use Rattle.sheet.specs.Sheet.{body_at}
use Rattle.sheet_bodies.specs.Small.{sample}
use Rattle.owners.specs.Owners.{owned}
use Rattle.release.specs.Release.{releasing, released_image}
use Rattle.release_judge.specs.Judged.{name_rules, release_rules}
use Rattle.release.specs.ReleaseLaws.{release_kept}
use Rattle.release_laws.specs.Small.{two}
use Rattle.release_laws.specs.Theorems.{released_reads, length_released, bytes_released}
use Rattle.demands.specs.Met.{bytes_so, maker_bytes, sample_bytes}
use Rattle.demands.specs.Calls.{Call, after_all, SheetBytes}
use Rattle.demands.specs.Isolation.{OneList, answers_but, without, Keeps, Isolated}
use Rattle.demands.specs.IsolationHolds.{isolation, theirs}

-- a sheet for bytes 42 and 43, which are owner 2's
unfoldable pub second : List ℕ
second =
    number 8 0x31302D5441455254
    ++ (number 4 0x01020304 ++ (number 2 1 ++ (number 2 0 ++ (number 4 42 ++ (number 2 2 ++ (number 2 24 ++ (7 ∷ 8 ∷ [])))))))

second_bytes : Bytes second
unfolding second number digit
second_bytes = bytes_so second refl

abbrev maker : List ℕ
maker = small 0xFFF80000 0xFFF80040 (setting_bytes 0 1)

abbrev read_of : Reading
read_of = reading2 maker

pub calls : List Call
calls =
    record { sheet = sample; base = 0xFFF80000; list = two; owner = 1 }
    ∷ record { sheet = second; base = 0x00100000; list = two; owner = 2 }
    ∷ record { sheet = second; base = 0x00100000; list = two; owner = 1 }
    ∷ record { sheet = sample; base = 0x00100000; list = two; owner = 1 }
    ∷ []

-- the image after each
pub x₁ : List ℕ
x₁ = released_image maker sample 0xFFF80000 two 1

pub x₂ : List ℕ
x₂ = released_image x₁ second 0x00100000 two 2

pub x₃ : List ℕ
x₃ = released_image x₂ second 0x00100000 two 1

long : length maker ≡ 360
unfolding small number zeros
long = refl

-- an answer goes by the reading and the length alone
by_reading : (xs s : List ℕ) (base w : ℕ) (r : Reading) → reading2 xs ≡ r → length xs ≡ 360
    → releasing xs s base two w ≡ after_reading refused_move r (release_rules r 360 s base two w)
unfolding releasing
by_reading xs s base w r e l = rw (e, l)

first : (releasing maker sample 0xFFF80000 two 1).number ≡ 0
unfolding after_reading run release_rules name_rules test all_below le sample number digit body_at
first = ap (λ (m : Moved). m.number) (by_reading maker sample 0xFFF80000 1 _ small_reads_2 long)

bytes₁ : Bytes x₁
unfolding x₁
bytes₁ = bytes_released maker sample 0xFFF80000 two 1 first maker_bytes sample_bytes

reads₁ : reading2 x₁ ≡ rebased read_of 0xFFF80000
unfolding x₁
reads₁ = released_reads maker sample 0xFFF80000 two 1 first maker_bytes sample_bytes

long₁ : length x₁ ≡ 360
unfolding x₁
long₁ = length_released maker sample 0xFFF80000 two 1 first maker_bytes sample_bytes ∙ long

-- owner 2 is accepted, and moves down by 4,293,394,432
pub moved : releasing x₁ second 0x00100000 two 2 ≡ record { number = 0; index = 0; distance = negsuc 4293394431 }
unfolding after_reading run release_rules name_rules test all_below le second number digit body_at
moved =
    by_reading x₁ second 0x00100000 2 _ (reads₁ ∙ ap (λ (r : Reading). rebased r 0xFFF80000) small_reads_2) long₁

bytes₂ : Bytes x₂
unfolding x₂
bytes₂ = bytes_released x₁ second 0x00100000 two 2 (ap (λ (m : Moved). m.number) moved) bytes₁ second_bytes

reads₂ : reading2 x₂ ≡ rebased read_of 0x00100000
unfolding x₂
reads₂ =
    released_reads x₁ second 0x00100000 two 2 (ap (λ (m : Moved). m.number) moved) bytes₁ second_bytes
    ∙ ap (λ (r : Reading). rebased r 0x00100000) reads₁

long₂ : length x₂ ≡ 360
unfolding x₂
long₂ = length_released x₁ second 0x00100000 two 2 (ap (λ (m : Moved). m.number) moved) bytes₁ second_bytes ∙ long₁

-- owner 1 is refused owner 2's bytes
pub refused : releasing x₂ second 0x00100000 two 1 ≡ refused_move 24 0
unfolding after_reading run release_rules name_rules test all_below le second number digit body_at
refused =
    by_reading x₂ second 0x00100000 1 _ (reads₂ ∙ ap (λ (r : Reading). rebased r 0x00100000) small_reads_2) long₂

unaccepted : (releasing x₂ second 0x00100000 two 1).number ≡ 0 → ⊥
unaccepted z = let k : ◌≡◌ {A = ℕ} 24 0 = sym (ap (λ (m : Moved). m.number) refused) ∙ z in omega arith

base₃ : (reading2 x₃).base ≡ 0x00100000
unfolding x₃
base₃ =
    ap (λ (l : List ℕ). (reading2 l).base) (release_kept x₂ second 0x00100000 two 1 unaccepted) ∙ ap (λ (r : Reading). r.base) reads₂

-- and takes its own again
pub again : (releasing x₃ sample 0x00100000 two 1).number ≡ 0
unfolding x₃ after_reading run release_rules name_rules test all_below le sample number digit body_at
again =
    ap (λ (l : List ℕ). (releasing l sample 0x00100000 two 1).number) (release_kept x₂ second 0x00100000 two 1 unaccepted)
    ∙ ap (λ (m : Moved). m.number)
    (by_reading x₂ sample 0x00100000 1 _ (reads₂ ∙ ap (λ (r : Reading). rebased r 0x00100000) small_reads_2) long₂)

-- owner 1 keeps the base throughout
pub keeps : Keeps 1 maker calls
unfolding Keeps calls x₁ x₂ x₃
keeps = (
  (λ own ok. sym (ap (λ (r : Reading). r.base) small_reads_2)),
  ((λ own. absurd (omega arith)), ((λ own ok. absurd (unaccepted ok)), ((λ own ok. sym base₃), tt))),
)

sheets : SheetBytes calls
unfolding SheetBytes calls
sheets = (sample_bytes, (second_bytes, (second_bytes, (sample_bytes, tt))))

one_list : OneList two calls
unfolding OneList calls
one_list = (refl, (refl, (refl, (refl, tt))))

-- so owner 2's bytes and its answer are as if owner 1 had sent nothing
pub apart : Isolated maker two 1 calls
apart = isolation maker two 1 calls maker_bytes sheets one_list keeps

-- region byte 42 is owner 2's, and is so too
second_owned : Holds (owned two 2 42)
unfolding test all_below le number digit
second_owned = holds (owned two 2 42) refl

pub second_kept : get_or (after_all maker calls) (read_of.c + 42) 0 ≡ get_or (after_all maker (without 1 calls)) (read_of.c + 42) 0
second_kept = theirs maker two 1 2 calls (λ e. omega arith) maker_bytes sheets one_list keeps 42 second_owned

pub only_answer : answers_but 1 maker calls ≡ record { number = 0; index = 0; distance = negsuc 4293394431 } ∷ []
unfolding answers_but calls x₁
only_answer = ap (λ (m : Moved). m ∷ []) moved
