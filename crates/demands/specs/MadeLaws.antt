-- Whatever a chain of accepted releases makes is explained by its last base.
-- Assumes nothing.
use Rattle.std.specs.Prelude.{◌≡◌, refl, List, ◌⊎◌, ℕ, ◌+◌, ◌-◌, ◌%◌, ◌^◌, ◌≤◌, ◌<◌, length, get_or}
use Rattle.std.proofs.Common.{sym, ap, ◌∙◌, inl, inr, arith}
use Rattle.facts.specs.Fact.{Holds}
use Rattle.words.specs.Le.{le, Bytes, Alike}
use Rattle.words.specs.LeLaws.{le_cong}
use Rattle.words.specs.PutLaws.{le_one}
use Rattle.header.specs.Base.{legal_base}
use Rattle.answers.specs.declared.Reading.{Reading}
use Rattle.reading_rules.specs.Words.{met}
use Rattle.reading_rules.specs.Reading.{rebased, reading2, Read2}
use Rattle.reading_rules.specs.Edition.{guaranteed}
use Rattle.reading_rules.specs.WordsLaws.{words_outside}
use Rattle.reading_rules.specs.FrameBut.{AlikeBut}
use Rattle.reading_rules.specs.Edition.{frame_but}
use Rattle.reading_rules.specs.Settings.{OutsideSettings}
use Rattle.moves.specs.Moves.{difference, Beside}
use Rattle.moves.specs.MovesLaws.{find}
use Rattle.move_image.specs.Moving.{moved_words, moved_image}
use Rattle.move_image.specs.MovingLaws.{same_words}
use Rattle.sheet_bodies.specs.Set.{set_image, Fits}
use Rattle.release_steps.specs.MoveStep.{unmoved_byte, moved_number, length_after, bytes_after, moved_reads, moved_on, moved_nowhere}
use Rattle.release_steps.specs.SetStep.{kept_outside, length_after_set, bytes_after_set}
use Rattle.release.specs.Release.{releasing, released_image}
use Rattle.release_laws.specs.Theorems.{released_fits, released_legal, set_then_moved, bytes_released}
use Rattle.demands.specs.Explains.{Explains}
use Rattle.demands.specs.Made.{Made, start, then}

-- ---- two images that agree outside the settings part

module _ (ys zs : List ℕ) (fine : Read2 ys) (long : length zs ≡ length ys)
    (same : (k : ℕ) → OutsideSettings (reading2 ys) k → get_or zs k 0 ≡ get_or ys k 0) where
  base_alike : le 4 zs ((reading2 ys).H + 28) ≡ (reading2 ys).base
  base_alike =
      let g = guaranteed ys fine in
      le_cong 4 zs ys ((reading2 ys).H + 28) (record { same = λ j h. same ((reading2 ys).H + 28 + j) (inl (omega (arith, g))) }) ∙ sym
      g.base_is

  but_alike : AlikeBut ys zs (reading2 ys)
  but_alike = record { long = sym long; same = λ k words out. sym (same k out) }

  -- they read alike
  reads_alike : reading2 zs ≡ reading2 ys
  reads_alike =
      frame_but ys zs fine but_alike (rw (base_alike, long) (guaranteed ys fine).legal)
      ∙ ap (λ (w : ℕ). rebased (reading2 ys) w) base_alike

  -- no byte of a word of a move lies in the settings part
  word_alike : (j : ℕ) → j < (moved_words ys).count → Alike zs ys ((moved_words ys).at j) ((moved_words ys).width j)
  word_alike j h = go (words_outside ys (reading2 ys) (guaranteed ys fine) j h)
    where
      w : ℕ
      w = (moved_words ys).at j

      m : ℕ
      m = (moved_words ys).width j

      go : (w + m ≤ (reading2 ys).c) ⊎ ((reading2 ys).c + (reading2 ys).z ≤ w) → Alike zs ys w m
      go (inl a) = record { same = λ k l. same (w + k) (inl (omega arith)) }
      go (inr a) = record { same = λ k l. same (w + k) (inr (omega arith)) }

  -- so they agree there after a move to one base
  moves_alike : Bytes ys → Bytes zs → (next : ℕ) → Holds (legal_base (length ys) next) → (k : ℕ) → OutsideSettings (reading2 ys) k
      → get_or (moved_image zs next) k 0 ≡ get_or (moved_image ys next) k 0
  moves_alike by bz next legal k out = go (find (moved_words ys) (moved_words ys).count k)
    where
      words : met zs (reading2 zs) ≡ met ys (reading2 ys)
      words = same_words ys zs fine but_alike reads_alike

      fine' : Read2 zs
      fine' = ap (λ (s : Reading). s.number) reads_alike ∙ fine

      legal' : Holds (legal_base (length zs) next)
      legal' = rw long legal

      number : (j : ℕ) → j < (moved_words ys).count
          → le ((moved_words ys).width j) (moved_image zs next) ((moved_words ys).at j)
          ≡ le ((moved_words ys).width j) (moved_image ys next) ((moved_words ys).at j)
      number j h =
          let w = (moved_words ys).at j in
          let m = (moved_words ys).width j in
          let d = difference (reading2 ys).base next m in
          let there : le m (moved_image zs next) w ≡ (le m zs w + d) % 256 ^ m =
          rw (words, reads_alike) at (moved_number zs bz fine' next legal' j (rw words h)) in
          there ∙ ap (λ (v : ℕ). (v + d) % 256 ^ m) (le_cong m zs ys w (word_alike j h)) ∙ sym (moved_number ys by fine next legal j h)

      go : ((j : ℕ) × (j < (moved_words ys).count) × ((moved_words ys).at j ≤ k) × (k < (moved_words ys).at j + (moved_words ys).width j)) ⊎ Beside
          (moved_words ys) (moved_words ys).count k
          → get_or (moved_image zs next) k 0 ≡ get_or (moved_image ys next) k 0
      go (inl (j, h, low, high)) =
          let w = (moved_words ys).at j in
          let e : w + (k - w) ≡ k = omega arith in
          rw e at ((le_one ((moved_words ys).width j) (moved_image zs next) (moved_image ys next) w (bytes_after zs bz fine' next legal')
          (bytes_after ys by fine next legal) (number j h)).same (k - w) (omega arith))
      go (inr beside) =
          unmoved_byte zs bz fine' next legal' k (rw words beside) ∙ same k out ∙ sym (unmoved_byte ys by fine next legal k beside)

-- ---- what explains an image

module _ (xs : List ℕ) (ok : Read2 xs) (bytes : Bytes xs) where
  module _ (zs : List ℕ) (base : ℕ) (bz : Bytes zs) (e : Explains xs zs base) where
    reads : reading2 (moved_image xs base) ≡ rebased (reading2 xs) base
    reads = moved_reads xs bytes ok base e.legal

    fine : Read2 (moved_image xs base)
    fine = ap (λ (r : Reading). r.number) reads ∙ ok

    long : length zs ≡ length (moved_image xs base)
    long = e.long ∙ sym (length_after xs bytes ok base e.legal)

    same : (k : ℕ) → OutsideSettings (reading2 (moved_image xs base)) k → get_or zs k 0 ≡ get_or (moved_image xs base) k 0
    same = rw reads e.same

    -- the image reads as the vendor image does, but for the base
    pub explained_reads : reading2 zs ≡ rebased (reading2 xs) base
    explained_reads = reads_alike (moved_image xs base) zs fine long same ∙ reads

    -- an image that was explained is so after a move, by the new base
    explains_moved : (next : ℕ) → Holds (legal_base (length zs) next) → Explains xs (moved_image zs next) next
    explains_moved next goes =
        let read : Read2 zs = ap (λ (r : Reading). r.number) explained_reads ∙ ok in
        let fine-base : Holds (legal_base (length xs) next) = rw e.long at goes in
        let fine-base' : Holds (legal_base (length (moved_image xs base)) next) = rw (length_after xs bytes ok base e.legal) fine-base in
        record {
          legal = fine-base;
          long = length_after zs bz read next goes ∙ e.long;
          same = λ k out.
              moves_alike (moved_image xs base) zs fine long same (bytes_after xs bytes ok base e.legal) bz next fine-base' k
              (rw reads out)
              ∙ ap (λ (l : List ℕ). get_or l k 0) (moved_on xs bytes ok base e.legal next fine-base);
        }

    -- and once a sheet's bytes are set, by the same base
    explains_set : (s : List ℕ) → Fits zs s → Explains xs (set_image zs s) base
    explains_set s fit =
        record {
          legal = e.legal;
          long = length_after_set zs s fit ∙ e.long;
          same = λ k out. kept_outside zs s fit k (rw explained_reads out) ∙ e.same k out;
        }

  -- so it is after a release, by the new base
  pub explains_released : (zs : List ℕ) (base : ℕ) → Bytes zs → Explains xs zs base → (s : List ℕ) (next : ℕ) (o : List ℕ) (owner : ℕ)
      → Bytes s → (releasing zs s next o owner).number ≡ 0
      → Explains xs (released_image zs s next o owner) next
  explains_released zs base bz e s next o owner bs goes =
      let fit = released_fits zs s next o owner goes in
      rw (set_then_moved zs s next o owner goes)
      (explains_moved (set_image zs s) base (bytes_after_set zs s fit bz bs) (explains_set zs base bz e s fit) next
      (rw (length_after_set zs s fit) (released_legal zs s next o owner goes)))

  -- the vendor image is explained by its own base
  pub explains_start : Explains xs xs (reading2 xs).base
  explains_start =
      record {
        legal =
            (guaranteed xs ok).legal;
        long = refl;
        same = λ k out. ap (λ (l : List ℕ). get_or l k 0) (sym (moved_nowhere xs bytes ok));
      }

-- all of it is explained by that base
pub made_explains : (xs : List ℕ) → Read2 xs → Bytes xs → {zs : List ℕ} {base : ℕ} → Made xs zs base
    → Bytes zs × Explains xs zs base
made_explains xs ok bytes start = (bytes, explains_start xs ok bytes)
made_explains xs ok bytes (then {zs} {base} m s next o owner bs goes) =
    let (bz, e) = made_explains xs ok bytes m in
    (bytes_released zs s next o owner goes bz bs, explains_released xs ok bytes zs base bz e s next o owner bs goes)
