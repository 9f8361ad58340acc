-- Where the shipped file is compared with the vendor image as it is.
-- Assumes nothing.
use Rattle.std.specs.Prelude.{◌≡◌, List, ◌⊎◌, ℕ, ◌+◌, ◌-◌, ◌^◌, ◌≤◌, ◌<◌, length}
use Rattle.std.proofs.Common.{sym, ap, ◌∙◌, inl, inr, arith}
use Rattle.std.proofs.Math.Decide.{ℕ_discrete}
use Rattle.words.specs.Le.{Bytes}
use Rattle.answers.specs.declared.Reading.{Reading}
use Rattle.reading_rules.specs.Reading.{parted, reading}
use Rattle.reading_rules.specs.Guarantee.{Later, Guaranteed, guaranteed}
use Rattle.moves.specs.Moves.{difference}
use Rattle.moves.specs.MovesLaws.{moved_none, difference_none}
use Rattle.reading_rules.specs.Words.{words_of}
use Rattle.reading_rules.specs.WordsLaws.{widths, spread}
use Rattle.move_image.specs.Moving.{move_to}
use Rattle.audit_places.specs.Writing.{Writing}
use Rattle.audit_count.specs.declared.Counts.{Counts}
use Rattle.audit_count.specs.Differences.{differences, entries, counts_of}
use Rattle.audit.specs.Audit.{shipped_base, reference, told_by, differing}
use Rattle.audit.specs.AuditLaws.{Paired, later_told, later_reference, older_told, older_reference}
use Rattle.piece_stretch.specs.Stretch.{after}
use Rattle.piece_stretch.specs.StretchLaws.{after_none}
use Rattle.piece_count.specs.Counting.{between, Adds}
use Rattle.piece_count.specs.CountingLaws.{adds_all}
use Rattle.piece_list.specs.Filling.{Lists, lists_all}

module _ (xs ys : List ℕ) where
  -- moved to its own base an image is what it was
  pub own_reference : Bytes xs → Later xs → (reading xs).base ≡ shipped_base xs ys → reference xs ys ≡ xs
  unfolding move_to
  own_reference bytes later e =
      let r = reading xs in
      let g = guaranteed xs later in
      later_reference xs ys later
      ∙ rw (← e)
      (moved_none xs (words_of xs r) (difference r.base r.base) (spread xs r g) bytes
      (λ j h. difference_none ((words_of xs r).width j) r.base (wide (widths xs r g j h) (omega (arith, g)))))
    where
      wide : {w : ℕ} → (w ≡ 4) ⊎ (w ≡ 8) → (reading xs).base < 256 ^ 4 → (reading xs).base < 256 ^ w
      wide (inl e) h = rw e h
      wide (inr e) h = rw e (omega arith)

module _ (xs ys : List ℕ) (r : Reading) (base : ℕ) (pair : Paired xs ys r base) where
  -- the reading by which settings are told
  pub pair_told : (q : Reading) → (r.component ≡ 0 → q ≡ parted r 0 0) → ((r.component ≡ 0 → ⊥) → q ≡ r) → q ≡ told_by xs
  pair_told q old new =
      elim (ℕ_discrete r.component 0) [
        | yes e ↦ old e ∙ (ap (λ (s : Reading). parted s 0 0) pair.0 ∙ sym (older_told xs ys (pair.1, rw pair.0 at e)))
        | no e ↦
            let one : 1 ≤ r.component = omega (arith, e) in
            new e ∙ (pair.0 ∙ sym (later_told xs ys (pair.1, rw pair.0 at one)))
      ]

  -- its settings part ends at a small number
  pub told_small : (q : Reading) → (r.component ≡ 0 → q ≡ parted r 0 0) → ((r.component ≡ 0 → ⊥) → q ≡ r) → q.c + q.z < 2 ^ 32
  told_small q old new =
      elim (ℕ_discrete r.component 0) [
        | yes e ↦ rw (old e) (omega arith)
        | no e ↦
            let one : 1 ≤ r.component = omega (arith, e) in
            let g : Guaranteed xs r = rw pair.0 (guaranteed xs (pair.1, rw pair.0 at one)) in
            rw (new e) (omega (arith, g))
      ]

  -- of edition 1, or at its own base, the vendor image is compared with as it is
  module _ (bytes : Bytes xs) (is : (r.component ≡ 0) ⊎ (r.base ≡ base)) where
    pub pair_plain : reference xs ys ≡ xs
    pair_plain =
        elim (ℕ_discrete r.component 0) [
          | yes e ↦ older_reference xs ys (pair.1, rw pair.0 at e)
          | no e ↦
              let one : 1 ≤ r.component = omega (arith, e) in
              elim is [
                | inl z ↦ absurd (e z)
                | inr z ↦ own_reference xs ys bytes (pair.1, rw pair.0 at one) (rw (pair.0, pair.3) at z)
              ]
        ]

    whole : length ys - 0 ≡ length ys
    whole = omega arith

    plain_differing : differences xs ys 0 (length ys) ≡ differing xs ys
    unfolding differing
    plain_differing = rw (pair_plain, pair.2)

    -- what is counted and listed of it, by the reading q
    module _ (q : Reading) (by-it : q ≡ told_by xs) where
      pub plain_counted : (t u : Counts) → t ≡ record { settings = 0; strays = 0; bits = 0 } → Adds (after 0 xs) ys q 0 (length ys) t u
          → u ≡ counts_of (reference xs ys) ys (told_by xs)
      plain_counted t u start a =
          adds_all xs ys q t u start (rw (after_none xs) at a) ∙ rw (by-it, pair_plain)

      pub plain_listed : {A : Type 0} (w : Writing A) (l m : List A) (j : ℕ) → Lists w (after 0 xs) ys q 0 (length ys) l 0 m j
          → m ≡ w.all l 0 (entries (told_by xs) (differing xs ys))
      plain_listed w l m j a = lists_all w xs ys q l m j (rw (after_none xs) at a) ∙ rw (by-it, plain_differing)

    pub plain_room : (room : ℕ) → length (differing xs ys) ≤ room → 0 + length (between (after 0 xs) ys 0 (length ys)) ≤ room
    plain_room room h = rw (after_none xs, whole, plain_differing) (omega arith)
