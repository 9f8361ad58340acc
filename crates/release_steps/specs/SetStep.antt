-- Demand 2 for a sheet: what changes and what doesn't, that the image afterwards reads as before, and that setting twice is setting once,
-- where the sheet fits the image.
-- Assumes nothing.
use Rattle.std.specs.Prelude.{◌≡◌, List, ◌⊎◌, ℕ, ◌+◌, ◌-◌, ◌≤◌, ◌<◌, length}
use Rattle.std.proofs.Common.{sym, ap, ◌∙◌, inl, inr, arith, ext_get_or}
use Rattle.std.proofs.Math.ListN.{get_or}
use Rattle.words.specs.Le.{le, Bytes}
use Rattle.words.specs.LeLaws.{le_cong}
use Rattle.answers.specs.declared.Reading.{Reading}
use Rattle.reading_rules.specs.Reading.{rebased, reading2, Read2}
use Rattle.reading_rules.specs.Edition.{guaranteed}
use Rattle.reading_rules.specs.Words.{met}
use Rattle.reading_rules.specs.FrameBut.{AlikeBut}
use Rattle.reading_rules.specs.Edition.{frame_but}
use Rattle.reading_rules.specs.Settings.{OutsideSettings}
use Rattle.moves.specs.Moves.{Beside}
use Rattle.moves.specs.MovesLaws.{find}
use Rattle.move_image.specs.MovingLaws.{same_words}
use Rattle.sheet.specs.Sheet.{count, offset, size, body_at}
use Rattle.sheet_bodies.specs.Set.{fields_of, set_image, Fits}
use Rattle.sheet_bodies.specs.SetLaws.{length_set_by, set_outside, set_beside, set_in}
use Rattle.release_steps.specs.Within.{Within}

module _ (xs s : List ℕ) (ok : Fits xs s) where
  -- a byte outside the sheet's own entries keeps its value
  pub unset_byte : (k : ℕ) → Beside (fields_of (reading2 xs) s) (count s) k → get_or (set_image xs s) k 0 ≡ get_or xs k 0
  unfolding set_image
  unset_byte k out = set_beside xs (reading2 xs) s (guaranteed xs ok.read) ok.sound k out

  -- each byte of an entry is its body's
  pub set_byte : (i j : ℕ) → i < count s → j < size s i
      → get_or (set_image xs s) ((reading2 xs).c + offset s i + j) 0 ≡ get_or s (body_at s i + j) 0
  unfolding set_image
  set_byte i j hi hj = set_in xs (reading2 xs) s (guaranteed xs ok.read) ok.sound i j hi hj

  -- the same, by the byte's own place
  pub set_at : (k i : ℕ) → i < count s → (reading2 xs).c + offset s i ≤ k → k < (reading2 xs).c + offset s i + size s i
      → get_or (set_image xs s) k 0 ≡ get_or s (body_at s i + (k - ((reading2 xs).c + offset s i))) 0
  set_at k i h low high =
      let j = k - ((reading2 xs).c + offset s i) in
      let e : (reading2 xs).c + offset s i + j ≡ k = omega arith in
      rw e at (set_byte i j h (omega arith))

  -- a byte outside the settings part keeps its value
  pub kept_outside : (k : ℕ) → OutsideSettings (reading2 xs) k → get_or (set_image xs s) k 0 ≡ get_or xs k 0
  unfolding set_image
  kept_outside k out = set_outside xs (reading2 xs) s (guaranteed xs ok.read) ok.sound k out

  pub length_after_set : length (set_image xs s) ≡ length xs
  unfolding set_image
  length_after_set = length_set_by xs (reading2 xs) s (guaranteed xs ok.read) ok.sound

  pub bytes_after_set : Bytes xs → Bytes s → Bytes (set_image xs s)
  unfolding Bytes
  bytes_after_set bx bs k = go (find (fields_of (reading2 xs) s) (count s) k)
    where
      go : Within (reading2 xs) s k ⊎ Beside (fields_of (reading2 xs) s) (count s) k → get_or (set_image xs s) k 0 < 256
      go (inl (i, h, low, high)) = rw (set_at k i h low high) (bs (body_at s i + (k - ((reading2 xs).c + offset s i))))
      go (inr out) = rw (unset_byte k out) (bx k)

  -- the base word is below the region
  base_kept : le 4 (set_image xs s) ((reading2 xs).H + 28) ≡ (reading2 xs).base
  base_kept =
      let g = guaranteed xs ok.read in
      le_cong 4 (set_image xs s) xs ((reading2 xs).H + 28)
      (record { same = λ j h. kept_outside ((reading2 xs).H + 28 + j) (inl (omega (arith, g))) })
      ∙ sym g.base_is

  -- nothing but settings is another
  pub set_alike : AlikeBut xs (set_image xs s) (reading2 xs)
  set_alike = record { long = sym length_after_set; same = λ k out far. sym (kept_outside k far) }

  -- the image afterwards reads as it did
  pub set_reads : reading2 (set_image xs s) ≡ reading2 xs
  set_reads =
      frame_but xs (set_image xs s) ok.read set_alike (rw (base_kept, length_after_set) (guaranteed xs ok.read).legal)
      ∙ ap (λ (w : ℕ). rebased (reading2 xs) w) base_kept

  -- and has the same words
  pub words_stay : met (set_image xs s) (reading2 (set_image xs s)) ≡ met xs (reading2 xs)
  words_stay = same_words xs (set_image xs s) ok.read set_alike set_reads

  pub read_after : Read2 (set_image xs s)
  read_after = ap (λ (r : Reading). r.number) set_reads ∙ ok.read

  -- a sheet without entries changes nothing
  pub set_empty : count s ≡ 0 → set_image xs s ≡ xs
  set_empty none = ext_get_or 0 (set_image xs s) xs length_after_set (λ k h. unset_byte k (λ i l. absurd (omega arith)))

  -- the sheet fits each image of this identity with a region of this size
  pub fits_alike : (ys : List ℕ) → Read2 ys → (reading2 ys).identity ≡ (reading2 xs).identity → (reading2 ys).z ≡ (reading2 xs).z
      → Fits ys s
  fits_alike ys fine who long = record { read = fine; sound = rw long ok.sound; names = rw who ok.names }

  -- so the same sheet fits again
  pub fits_again : Fits (set_image xs s) s
  fits_again =
      fits_alike (set_image xs s) read_after (ap (λ (r : Reading). r.identity) set_reads)
      (ap (λ (r : Reading). r.z) set_reads)

-- two images with one region that the sheet fits agree afterwards where they agreed, and in its entries
pub same_byte : (xs ys s : List ℕ) → Fits xs s → Fits ys s → (reading2 ys).c ≡ (reading2 xs).c → (k : ℕ)
    → (Beside (fields_of (reading2 xs) s) (count s) k → get_or ys k 0 ≡ get_or xs k 0)
    → get_or (set_image ys s) k 0 ≡ get_or (set_image xs s) k 0
same_byte xs ys s ok fine at k same = go (find (fields_of (reading2 xs) s) (count s) k)
  where
    go : Within (reading2 xs) s k ⊎ Beside (fields_of (reading2 xs) s) (count s) k
        → get_or (set_image ys s) k 0 ≡ get_or (set_image xs s) k 0
    go (inl (i, h, low, high)) = rw at at (set_at ys s fine k i h (rw at low) (rw at high)) ∙ sym (set_at xs s ok k i h low high)
    go (inr out) = unset_byte ys s fine k (rw at out) ∙ same out ∙ sym (unset_byte xs s ok k out)

module _ (xs s : List ℕ) (ok : Fits xs s) where
  -- setting twice is setting once
  pub set_twice : set_image (set_image xs s) s ≡ set_image xs s
  set_twice =
      let ys = set_image xs s in
      ext_get_or 0 (set_image ys s) ys (length_after_set ys s (fits_again xs s ok))
      (λ k h. same_byte xs ys s ok (fits_again xs s ok) (ap (λ (r : Reading). r.c) (set_reads xs s ok)) k (unset_byte xs s ok k))
