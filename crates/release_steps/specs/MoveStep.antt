-- Demand 2 for a move: what changes and what doesn't, that the moved image reads, and that moves add up, where the image reads and the
-- new base is legal.
-- Assumes nothing.
use Rattle.std.specs.Prelude.{◌≡◌, refl, ◌⊎◌, ℕ, zero, suc, ◌+◌, ◌%◌, ◌^◌, ◌≤◌, ◌<◌, ℤ, length, get_or}
use Rattle.std.proofs.Math.Path.{sym, ap}
use Rattle.std.proofs.Common.{◌∙◌, inl, inr, arith}
use mathlib.Core.List.{List}
use Rattle.facts.specs.Fact.{Holds}
use Rattle.words.specs.Le.{le, Bytes}
use Rattle.header.specs.Base.{legal_base}
use Rattle.items.specs.declared.Item.{Item}
use Rattle.items.specs.Items.{words_in, listed}
use Rattle.answers.specs.declared.Reading.{Reading}
use Rattle.reading_rules.specs.Reading.{rebased, reading2, Read2}
use Rattle.reading_rules.specs.Guarantee.{Guaranteed}
use Rattle.reading_rules.specs.Edition.{guaranteed}
use Rattle.reading_rules.specs.Words.{met, words_of}
use Rattle.reading_rules.specs.WordsLaws.{spread, widths, base_word}
use Rattle.reading_rules.specs.FrameBut.{words_but}
use Rattle.reading_rules.specs.Edition.{frame_but}
use Rattle.moves.specs.Moves.{difference, moved, Beside}
use Rattle.moves.specs.MovesLaws.{length_moved, bytes_moved, moved_beside, moved_word, moved_twice, moved_none, difference_sum, difference_none}
use Rattle.move_image.specs.Moving.{moved_words, move_to, moved_image}
use Rattle.move_answer.specs.MoveAnswer.{Magnitude}
use Rattle.move_image.specs.MovingLaws.{moved_alike}

-- the words stand where they stood whatever the base
words_rebased : (xs : List ℕ) (r : Reading) (w : ℕ) → met xs (rebased r w) ≡ met xs r
unfolding met
words_rebased xs r w = refl

-- a base is a number of each word's width
wide : (n w : ℕ) → n < 256 ^ 4 → (w ≡ 4) ⊎ (w ≡ 8) → n < 256 ^ w
wide n w h (inl e) = rw e h
wide n w h (inr e) = rw e (omega arith)

module _ (xs : List ℕ) (bytes : Bytes xs) (ok : Read2 xs) where
  old_small : (reading2 xs).base < 256 ^ 4
  old_small = omega (arith, guaranteed xs ok)

  module _ (base : ℕ) (legal : Holds (legal_base (length xs) base)) where
    -- a byte outside the words of a move keeps its value
    pub unmoved_byte : (k : ℕ) → Beside (moved_words xs) (moved_words xs).count k → get_or (moved_image xs base) k 0 ≡ get_or xs k 0
    unfolding move_to moved_image
    unmoved_byte k out = moved_beside xs (moved_words xs) (difference (reading2 xs).base base) (moved_words xs).count k out

    -- each of these words holds old plus difference modulo its width
    pub moved_number : (j : ℕ) → j < (moved_words xs).count
        → le ((moved_words xs).width j) (moved_image xs base) ((moved_words xs).at j)
        ≡ (le ((moved_words xs).width j) xs ((moved_words xs).at j) + difference (reading2 xs).base base ((moved_words xs).width j))
        % 256 ^ (moved_words xs).width j
    unfolding move_to moved_image
    moved_number j h =
        moved_word xs (moved_words xs) (spread xs (reading2 xs) (guaranteed xs ok)) (difference (reading2 xs).base base)
        (moved_words xs).count j (omega arith) h

    -- the base word then holds the new base
    new_base : le 4 (moved_image xs base) ((reading2 xs).H + 28) ≡ base
    unfolding difference
    new_base =
        let (at, width, some) = base_word xs (reading2 xs) (guaranteed xs ok) in
        let number : le 4 (moved_image xs base) ((reading2 xs).H + 28)
        ≡ (le 4 xs ((reading2 xs).H + 28) + difference (reading2 xs).base base 4) % 256 ^ 4 = rw (at, width) at (moved_number 0 some) in
        omega (arith, number, (guaranteed xs ok).base_is, guaranteed xs ok, old_small)

    pub length_after : length (moved_image xs base) ≡ length xs
    unfolding move_to moved_image
    length_after = length_moved xs (moved_words xs) (difference (reading2 xs).base base) (moved_words xs).count

    pub bytes_after : Bytes (moved_image xs base)
    unfolding move_to moved_image
    bytes_after = bytes_moved xs (moved_words xs) (difference (reading2 xs).base base) (moved_words xs).count bytes

    -- the moved image reads, with the new base and all else the same
    pub moved_reads : reading2 (moved_image xs base) ≡ rebased (reading2 xs) base
    unfolding move_to moved_image
    moved_reads =
        frame_but xs (moved_image xs base) ok
        (moved_alike xs (reading2 xs) (guaranteed xs ok) (difference (reading2 xs).base base))
        (rw (new_base, length_after) legal)
        ∙ ap (λ (w : ℕ). rebased (reading2 xs) w) new_base

    -- and has the same words
    pub moved_words_lem : met (moved_image xs base) (reading2 xs) ≡ met xs (reading2 xs)
    unfolding move_to moved_image
    moved_words_lem =
        let g = guaranteed xs ok in
        sym
        (words_but xs (moved_image xs base) (reading2 xs) g (moved_alike xs (reading2 xs) g (difference (reading2 xs).base base)))

    -- a move to another base changes the image
    pub moved_changes : (base ≡ (reading2 xs).base → ⊥) → moved_image xs base ≡ xs → ⊥
    moved_changes other e = other (sym (ap (λ (r : Reading). r.base) moved_reads) ∙ ap (λ (l : List ℕ). (reading2 l).base) e)

    -- moving twice is moving once to the last base
    pub moved_on : (next : ℕ) → Holds (legal_base (length xs) next) → moved_image (moved_image xs base) next ≡ moved_image xs next
    unfolding move_to moved_image
    moved_on next fits =
        let r = reading2 xs in
        let ys = moved_image xs base in
        let ws = moved_words xs in
        let g = guaranteed xs ok in
        let small : base < 256 ^ 4 = omega (arith, g, legal) in
        let same : met ys (rebased r base) ≡ met xs r = words_rebased ys r base ∙ moved_words_lem in
        ap (λ (s : Reading). move_to ys s next) moved_reads
        ∙ ap (λ (l : List Item). moved ys (listed (words_in l)) (difference base next)) same
        ∙ moved_twice xs ws (difference r.base base) (difference base next) (difference r.base next) (spread xs r g) bytes
        (λ j h. difference_sum (ws.width j) r.base base next (wide r.base (ws.width j) old_small (widths xs r g j h))
        (wide base (ws.width j) small (widths xs r g j h)))

  -- moving to the present base changes nothing
  pub moved_nowhere : moved_image xs (reading2 xs).base ≡ xs
  unfolding move_to moved_image
  moved_nowhere =
      let r = reading2 xs in
      let g = guaranteed xs ok in
      moved_none xs (moved_words xs) (difference r.base r.base) (spread xs r g) bytes
      (λ j h. difference_none ((moved_words xs).width j) r.base (wide r.base ((moved_words xs).width j) old_small (widths xs r g j h)))

  -- moving there and back restores the image
  pub there_and_back : (base : ℕ) → Holds (legal_base (length xs) base) → moved_image (moved_image xs base) (reading2 xs).base ≡ xs
  there_and_back base legal = moved_on base legal (reading2 xs).base (guaranteed xs ok).legal ∙ moved_nowhere
