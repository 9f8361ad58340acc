-- The two steps of a release: which comes first makes no difference.
-- Assumes nothing.
use Rattle.std.specs.Prelude.{◌≡◌, refl, List, ◌⊎◌, ℕ, zero, suc, ◌+◌, ◌-◌, ◌%◌, ◌^◌, ◌≤◌, ◌<◌, length, get_or}
use Rattle.std.proofs.Common.{sym, ap, ◌∙◌, inl, inr, arith}
use Rattle.facts.specs.Fact.{Holds}
use Rattle.words.specs.Le.{le, Bytes, Alike}
use Rattle.words.specs.LeLaws.{le_cong}
use Rattle.header.specs.Base.{legal_base}
use Rattle.answers.specs.declared.Reading.{Reading}
use Rattle.reading_rules.specs.Words.{met}
use Rattle.reading_rules.specs.Reading.{reading2, Read2}
use Rattle.reading_rules.specs.Edition.{guaranteed}
use Rattle.reading_rules.specs.WordsLaws.{words_outside}
use Rattle.moves.specs.Moves.{Words, difference}
use Rattle.moves.specs.MovesLaws.{by_words}
use Rattle.move_image.specs.Moving.{moved_words, moved_image}
use Rattle.sheet_bodies.specs.Set.{set_image, Fits}
use Rattle.release_steps.specs.MoveStep.{unmoved_byte, moved_number, length_after, bytes_after, moved_reads}
use Rattle.release_steps.specs.SetStep.{kept_outside, length_after_set, bytes_after_set, set_reads, words_stay, read_after, fits_alike, same_byte}

-- no byte of a word of a move lies in the settings part
pub word_kept : (xs ys s : List ℕ) → Read2 xs → Fits ys s → (reading2 ys).c ≡ (reading2 xs).c
    → (reading2 ys).z ≡ (reading2 xs).z
    → (j : ℕ) → j < (moved_words xs).count → Alike (set_image ys s) ys ((moved_words xs).at j) ((moved_words xs).width j)
word_kept xs ys s fine ok c z j h = go (words_outside xs (reading2 xs) (guaranteed xs fine) j h)
  where
    w : ℕ
    w = (moved_words xs).at j

    m : ℕ
    m = (moved_words xs).width j

    go : (w + m ≤ (reading2 xs).c) ⊎ ((reading2 xs).c + (reading2 xs).z ≤ w) → Alike (set_image ys s) ys w m
    go (inl a) = record { same = λ k l. kept_outside ys s ok (w + k) (inl (omega arith)) }
    go (inr a) = record { same = λ k l. kept_outside ys s ok (w + k) (inr (omega arith)) }

-- an image that was moved takes the sheet that it took before
pub fits_moved : (xs s : List ℕ) (base : ℕ) → Bytes xs → Fits xs s → Holds (legal_base (length xs) base) → Fits (moved_image xs base) s
fits_moved xs s base bx ok legal =
    let reads = moved_reads xs bx ok.read base legal in
    fits_alike xs s ok (moved_image xs base) (ap (λ (r : Reading). r.number) reads ∙ ok.read) (ap (λ (r : Reading). r.identity) reads)
    (ap (λ (r : Reading). r.z) reads)

-- setting after moving is moving after setting
pub commute : (xs s : List ℕ) (base : ℕ) → Bytes xs → Bytes s → Fits xs s → Holds (legal_base (length xs) base)
    → set_image (moved_image xs base) s ≡ moved_image (set_image xs s) base
commute xs s base bx bs ok legal =
    let r = reading2 xs in
    let ms = moved_image xs base in
    let ys = set_image xs s in
    let fine = ok.read in
    let fine' = read_after xs s ok in
    let legal' : Holds (legal_base (length ys) base) = rw (length_after_set xs s ok) legal in
    let ok' = fits_moved xs s base bx ok legal in
    let bm = bytes_after xs bx fine base legal in
    let by = bytes_after_set xs s ok bx bs in
    let reads = moved_reads xs bx fine base legal in
    let c : (reading2 ms).c ≡ r.c = ap (λ (r : Reading). r.c) reads in
    let z : (reading2 ms).z ≡ r.z = ap (λ (r : Reading). r.z) reads in
    let long =
    length_after_set ms s ok' ∙ length_after xs bx fine base legal ∙ sym (length_after_set xs s ok) ∙ sym
    (length_after ys by fine' base legal') in
    let same : met ys (reading2 ys) ≡ met xs (reading2 xs) = words_stay xs s ok in
    by_words (set_image ms s) (moved_image ys base) (moved_words xs) long (bytes_after_set ms s ok' bm bs)
    (bytes_after ys by fine' base legal')
    (λ k out.
    same_byte xs ms s ok ok' c k (λ beside. unmoved_byte xs bx fine base legal k out)
    ∙ sym (unmoved_byte ys by fine' base legal' k (rw same out)))
    (λ j h.
    let w = (moved_words xs).at j in
    let m = (moved_words xs).width j in
    let d = difference r.base base m in
    let there : le m (moved_image ys base) w ≡ (le m ys w + d) % 256 ^ m =
    rw (same, set_reads xs s ok) at (moved_number ys by fine' base legal' j (rw same h)) in
    le_cong m (set_image ms s) ms w (word_kept xs ms s fine ok' c z j h)
    ∙ moved_number xs bx fine base legal j h
    ∙ ap (λ (v : ℕ). (v + d) % 256 ^ m) (sym (le_cong m ys xs w (word_kept xs xs s fine ok refl refl j h)))
    ∙ sym there)
