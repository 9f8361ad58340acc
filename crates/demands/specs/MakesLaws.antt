-- What explains a file is made by one release.
-- Assumes nothing.
use Rattle.std.specs.Prelude.{ℕ, ◌+◌, ◌-◌, ◌^◌, ◌≤◌, ◌<◌, List, [], ◌≡◌, refl, take, drop, length, get_or}
use Rattle.std.proofs.Common.{inl, inr, sym, ◌∙◌, length-drop, ext_get_or, get_or-take, get_or-drop, length-take-le, ap, arith}
use Rattle.std.proofs.Math.Decide.{dec_lt}
use Rattle.std.proofs.Math.ListN.{get_or-eq_default}
use Rattle.facts.specs.Fact.{Holds}
use Rattle.words.specs.Le.{Bytes}
use Rattle.words.specs.LeLaws.{le_lt}
use Rattle.header.specs.HeaderLaws.{extended_small}
use Rattle.answers.specs.declared.Identity.{Identity}
use Rattle.answers.specs.declared.Reading.{Reading}
use Rattle.reading_rules.specs.Reading.{identity_at, rebased, reading2, Read2}
use Rattle.reading_rules.specs.Edition.{guaranteed}
use Rattle.reading_rules.specs.Settings.{settings_at, settings_size, OutsideSettings}
use Rattle.move_image.specs.Moving.{moved_image}
use Rattle.sheet.specs.Sheet.{offset, body_at, Sound}
use Rattle.sheet_bodies.specs.Set.{set_image, Fits}
use Rattle.owners.specs.Owners.{list_fits, fields_owned}
use Rattle.release_steps.specs.MoveStep.{length_after, moved_reads}
use Rattle.release_steps.specs.SetStep.{length_after_set, kept_outside, set_byte, set_empty}
use Rattle.release_steps.specs.TwoSteps.{fits_moved}
use Rattle.release.specs.ReleaseLaws.{release_goes}
use Rattle.release_laws.specs.Theorems.{moved_then_set}
use Rattle.demands.specs.Explains.{Explains}
use Rattle.demands.specs.Lists.{all_to_1, all_good, all_owned, empty_good}
use Rattle.demands.specs.Sheets.{whole, whole_names, whole_count, whole_byte, whole_offset, whole_size, whole_sound, whole_bytes, bare, bare_names, bare_count, bare_sound, bare_bytes}
use Rattle.demands.specs.Makes.{Makes}

module _ (xs ys : List ℕ) (bx : Bytes xs) (by : Bytes ys) (ok : Read2 xs) (base : ℕ) (e : Explains xs ys base) where
  abbrev ms : List ℕ
  ms = moved_image xs base

  reads : reading2 ms ≡ rebased (reading2 xs) base
  reads = moved_reads xs bx ok base e.legal

  fine : Read2 ms
  fine = ap (λ (r : Reading). r.number) reads ∙ ok

  long : length ys ≡ length ms
  long = e.long ∙ sym (length_after xs bx ok base e.legal)

  image : (reading2 xs).identity.image < 256 ^ 8
  unfolding identity_at
  image =
      let i = ap (λ (k : Identity). k.image) (guaranteed xs ok).identity_is in
      omega (arith, le_lt 8 xs ((reading2 xs).H + 16) bx)

  revision : (reading2 xs).identity.revision < 256 ^ 4
  unfolding identity_at
  revision =
      let i = ap (λ (k : Identity). k.revision) (guaranteed xs ok).identity_is in
      omega (arith, le_lt 4 xs ((reading2 xs).H + 12) bx)

  extended : (reading2 xs).identity.extended < 256 ^ 2
  unfolding identity_at
  extended =
      let i = ap (λ (k : Identity). k.extended) (guaranteed xs ok).identity_is in
      omega (arith, extended_small xs (reading2 xs).H bx)

  -- where setting the bytes of a sheet that fits in the moved image makes ys, the release with it does
  made_by : (s o : List ℕ) → Bytes s → Fits xs s → Holds (list_fits o (reading2 xs).z) → Holds (fields_owned s o 1) → set_image ms s ≡ ys
      → Makes xs ys base s o 1
  made_by s o bs fit good own is =
      let ok' = release_goes xs s base o 1 (record { fits = fit; good = (good, inl refl); own = own; legal = e.legal }) in
      record { bytes = bs; goes = ok'; is = moved_then_set xs s base o 1 ok' bx bs ∙ is }

  -- the shipped file's own settings part
  abbrev part : List ℕ
  part = take (settings_size (reading2 xs)) (drop (settings_at (reading2 xs)) ys)

  part_long : length part ≡ settings_size (reading2 xs)
  part_long =
      length-take-le (settings_size (reading2 xs)) (drop (settings_at (reading2 xs)) ys)
      (rw length-drop (omega (arith, guaranteed xs ok, e.long)))

  part_byte : (j : ℕ) → j < settings_size (reading2 xs) → get_or part j 0 ≡ get_or ys (settings_at (reading2 xs) + j) 0
  part_byte j h =
      get_or-take (settings_size (reading2 xs)) (drop (settings_at (reading2 xs)) ys) j 0 h
      ∙ get_or-drop (settings_at (reading2 xs)) ys j 0

  part_bytes : Bytes part
  unfolding Bytes
  part_bytes k =
      elim (dec_lt k (settings_size (reading2 xs))) [
        | yes h ↦ rw (part_byte k h) (by (settings_at (reading2 xs) + k))
        | no h ↦
            let past : length part ≤ k = omega (arith, part_long) in
            rw (get_or-eq_default part 0 past) (omega arith)
      ]

  -- ---- settings to set: one entry

  module _ (some : 32 < (reading2 xs).z) where
    abbrev s : List ℕ
    s = whole (reading2 xs).identity part

    sound : Sound s (reading2 xs).z
    sound = whole_sound (reading2 xs).identity part image revision extended (reading2 xs).z some (omega (arith, guaranteed xs ok)) part_long

    fit : Fits xs s
    fit = record { read = ok; sound = sound; names = whole_names (reading2 xs).identity part image revision extended }

    most : (reading2 xs).z ≤ 65536
    most = omega (arith, guaranteed xs ok)

    good : Holds (list_fits (all_to_1 (reading2 xs).z) (reading2 xs).z)
    good = all_good (reading2 xs).z some most

    -- its one entry lies in the settings part, and all of that is owner 1's
    own : Holds (fields_owned s (all_to_1 (reading2 xs).z) 1)
    own i h j l =
        let f = sound.fields i h in
        all_owned (reading2 xs).z some most (offset s i + j) (omega arith) (omega arith)

    after : Fits ms s
    after = fits_moved xs s base bx fit e.legal

    outside : (k : ℕ) → OutsideSettings (reading2 xs) k → get_or (set_image ms s) k 0 ≡ get_or ys k 0
    outside k out = kept_outside ms s after k (rw reads out) ∙ sym (e.same k out)

    inside : (j : ℕ) → j < settings_size (reading2 xs)
        → get_or (set_image ms s) (settings_at (reading2 xs) + j) 0 ≡ get_or ys (settings_at (reading2 xs) + j) 0
    unfolding body_at
    inside j h =
        let n = whole_count (reading2 xs).identity part image revision extended in
        let at = whole_offset (reading2 xs).identity part image revision extended (reading2 xs).z some most part_long in
        let wide = whole_size (reading2 xs).identity part image revision extended (reading2 xs).z some most part_long in
        let set : get_or (set_image ms s) ((reading2 ms).c + offset s 0 + j) 0 ≡ get_or s (body_at s 0 + j) 0 =
        set_byte ms s after 0 j (omega arith) (omega arith) in
        let from : body_at s 0 + j ≡ 24 + j = omega arith in
        let region : (reading2 ms).c ≡ (reading2 xs).c = ap (λ (r : Reading). r.c) reads in
        let to : (reading2 ms).c + offset s 0 + j ≡ settings_at (reading2 xs) + j = omega arith in
        rw to at set ∙ rw from (whole_byte (reading2 xs).identity part image revision extended j) ∙ part_byte j h

    one_sheet : Makes xs ys base s (all_to_1 (reading2 xs).z) 1
    one_sheet =
        made_by s (all_to_1 (reading2 xs).z) (whole_bytes (reading2 xs).identity part part_bytes) fit good own
        (ext_get_or 0 (set_image ms s) ys (length_after_set ms s after ∙ sym long) (λ k h. byte k))
      where
        byte : (k : ℕ) → get_or (set_image ms s) k 0 ≡ get_or ys k 0
        byte k =
            elim (dec_lt k (settings_at (reading2 xs))) [
              | yes low ↦ outside k (inl low)
              | no low ↦
                  elim (dec_lt k ((reading2 xs).c + (reading2 xs).z)) [
                    | no high ↦ outside k (inr (omega arith))
                    | yes high ↦
                        let j = k - (settings_at (reading2 xs)) in
                        let at : settings_at (reading2 xs) + j ≡ k = omega arith in
                        rw at at (inside j (omega arith))
                  ]
            ]

  -- ---- none to set: no entry

  module _ (none : (reading2 xs).z ≤ 32) where
    abbrev empty : List ℕ
    empty = bare (reading2 xs).identity []

    fitting : Fits xs empty
    fitting =
        record {
          read = ok;
          sound = bare_sound (reading2 xs).identity [] image revision extended (reading2 xs).z;
          names = bare_names (reading2 xs).identity [] image revision extended;
        }

    none_owned : Holds (fields_owned empty [] 1)
    none_owned i h = absurd (omega (arith, bare_count (reading2 xs).identity [] image revision extended))

    no_sheet : Makes xs ys base empty [] 1
    no_sheet =
        made_by empty [] (bare_bytes (reading2 xs).identity []) fitting (empty_good (reading2 xs).z) none_owned
        (set_empty ms empty (fits_moved xs empty base bx fitting e.legal) (bare_count (reading2 xs).identity [] image revision extended)
        ∙ ext_get_or 0 ms ys (sym long) (λ k h. sym (e.same k (either k))))
      where
        either : (k : ℕ) → OutsideSettings (reading2 xs) k
        either k = elim (dec_lt k (settings_at (reading2 xs))) [ yes h ↦ inl h | no h ↦ inr (omega arith) ]

  -- what is explained can be made
  pub explains_made : (s : List ℕ) × (o : List ℕ) × Makes xs ys base s o 1
  explains_made =
      elim (dec_lt 32 (reading2 xs).z) [
        | yes h ↦ (s h, all_to_1 (reading2 xs).z, one_sheet h)
        | no h ↦ (empty (omega arith), [], no_sheet (omega arith))
      ]
