-- The frame law: two images of one length that agree on every byte which the reading looks at, other than the base word, and whose base
-- words are both legal or both not, have the same reading but for the base; but for c and z too where they are of edition 1.
-- Assumes nothing.
use Rattle.std.specs.Prelude.{ℕ, ◌+◌, ◌-◌, ◌*◌, ◌≤◌, ◌<◌, List, ◌≡◌, ◌⊎◌, length, get_or}
use Rattle.std.proofs.Math.Path.{refl}
use Rattle.std.proofs.Common.{sym, ap, ◌∙◌, inl, inr, arith}
use Rattle.words.specs.Round.{round8, round4}
use Rattle.facts.specs.Fact.{test, Holds, ◌≡?◌}
use Rattle.facts.specs.FactLaws.{passes}
use Rattle.facts.specs.Rules.{Rules, run}
use Rattle.facts.specs.RulesLaws.{Same, Passed, run_same}
use Rattle.words.specs.Le.{le, Alike}
use Rattle.words.specs.LeLaws.{alike_in, le_in}
use Rattle.volume.specs.Volume.{length_fits, volume_fits, extension_fits, file_fits, section_fits}
use Rattle.volume.specs.VolumeLaws.{volume_looks, extension_looks, file_looks, section_looks}
use Rattle.header.specs.Header.{older, has_extended, header_fits, size_fits, component, extended_number, component_fits}
use Rattle.header.specs.HeaderLaws.{header_looks, size_looks, component_looks, extended_number_looks}
use Rattle.header.specs.Base.{legal_base}
use Rattle.table.specs.Table.{extended, extended_fits, patch_fits}
use Rattle.table.specs.TableLaws.{extended_looks, extended_fits_looks, patch_looks}
use Rattle.table.specs.PassesLaws.{unrefused_cong, clear_cong}
use Rattle.region.specs.Region.{region_fits, marks_fit}
use Rattle.region.specs.RegionLaws.{region_looks, marks_looks}
use Rattle.inside_walk.specs.Whole.{walked}
use Rattle.inside_judge.specs.RulesLaws.{patches_cong}
use Rattle.answers.specs.declared.Reading.{Reading}
use Rattle.reading_rules.specs.Reading.{refusal, identity_at, accepted, older_accepted, rebased, parted, reading}
use Rattle.reading_rules.specs.Stages.{from_modules, from_entries, from_region, from_patch, from_table, from_component, from_older, from_edition, from_header, from_section, from_file, from_extension, from_volume, stages, by_stages}

-- s is r but for the base, and for c and z, which an edition 1 reading doesn't judge
abbrev pub Rebased : Reading → Reading → Type 0
Rebased r s = s ≡ parted (rebased r s.base) s.c s.z

-- the same rules on a and b, with such answers
abbrev Together : Rules Reading → Rules Reading → Type 0
Together s t = Same Rebased s t

-- ---- a and b agree on each byte that the reading of a looks at, from each stage on: a later stage looks only where the rules before it
-- are passed

module _ (a b : List ℕ) where
  -- the entries; the header's revision, revision and identity; the extended number, where the header has one; and what the walk over the
  -- modules meets
  abbrev pub AlikeEntries : ℕ → ℕ → ℕ → Type 0
  AlikeEntries H t n =
      Alike a b t (4 * n)
      × Alike a b (H + 11) 13
      × (Holds (has_extended (le 1 a (H + 11))) → Alike a b (H + 76) 2)
      × (walked a (le 8 a 32) (H - 28) ≡ walked b (le 8 b 32) (H - 28))

  -- c and z; the two marks
  abbrev pub AlikeRegion : ℕ → ℕ → ℕ → Type 0
  AlikeRegion H t n =
      let c = le 4 a (H + 36) in
      let z = le 4 a (H + 40) in
      Alike a b (H + 36) 8
      × (Holds (region_fits a (t + 4 * n) c z) → Alike a b (c + 6) 2 × (Holds (marks_fit a c (component a H)) → AlikeEntries H t n))

  -- `FSPP`, its revision and n
  abbrev pub AlikePatch : ℕ → ℕ → ℕ → Type 0
  AlikePatch H p end =
      (p + 12 ≤ end → Alike a b p 4 × Alike a b (p + 6) 1 × Alike a b (p + 8) 4)
      × (Holds (patch_fits a p end) → AlikeRegion H (p + 12) (le 4 a (p + 8)))

  -- `FSPE`, where it would stand, and its length
  abbrev pub AlikeTable : ℕ → ℕ → ℕ → Type 0
  AlikeTable H p end =
      (p + 4 ≤ end → Alike a b p 4)
      × (Holds (extended a p end)
      → (p + 8 ≤ end → Alike a b (p + 4) 4) × (Holds (extended_fits a p end) → AlikePatch H (round4 (p + le 4 a (p + 4))) end))
      × ((Holds (extended a p end) → ⊥) → AlikePatch H p end)

  -- the component; the base words are both legal or both not
  abbrev pub AlikeComponent : ℕ → ℕ → ℕ → Type 0
  AlikeComponent H p end =
      Alike a b (H + 34) 2
      × (Holds (component_fits (component a H))
      → (test (legal_base (length a) (le 4 a (H + 28))) ≡ test (legal_base (length b) (le 4 b (H + 28))))
      × (Holds (legal_base (length a) (le 4 a (H + 28))) → AlikeTable H p end))

  -- of an edition 1 image: the base words are both legal or both not; revision byte, revision and identity
  abbrev pub AlikeOlder : ℕ → Type 0
  AlikeOlder H =
      (test (legal_base (length a) (le 4 a (H + 28))) ≡ test (legal_base (length b) (le 4 b (H + 28))))
      × Alike a b (H + 11) 13

  -- `FSPH`, L and the revision byte; the image size; then as the edition has it
  abbrev pub AlikeHeader : ℕ → ℕ → Type 0
  AlikeHeader f size =
      let H = f + 28 in
      (Alike a b H 8 × Alike a b (H + 11) 1)
      × (Holds (header_fits a H size)
      → Alike a b (H + 24) 4
      × (Holds (size_fits a H)
      → (Holds (older a H) → AlikeOlder H)
      × ((Holds (older a H) → ⊥) → AlikeComponent H (round4 (H + le 4 a (H + 4))) (f + 24 + size))))

  -- the section's size and type, and the revision byte of the header in it
  abbrev pub AlikeSection : ℕ → ℕ → Type 0
  AlikeSection f s = (Alike a b (f + 24) 4 × Alike a b (f + 39) 1) × (Holds (section_fits a f s) → AlikeHeader f (le 3 a (f + 24)))

  -- the file's header, but for the bytes at f+17 and f+23
  abbrev pub AlikeFile : ℕ → ℕ → Type 0
  AlikeFile v f = (Alike a b f 17 × Alike a b (f + 18) 5) × (Holds (file_fits a v f) → AlikeSection f (le 3 a (f + 20)))

  -- the extension's length
  abbrev pub AlikeExtension : ℕ → ℕ → ℕ → Type 0
  AlikeExtension h v x =
      (x ≡ 0 → AlikeFile v (round8 h))
      × ((x ≡ 0 → ⊥) → Alike a b (x + 16) 4 × (Holds (extension_fits a h v x) → AlikeFile v (round8 (x + le 4 a (x + 16)))))

  -- V, the signature, h and x at 32..53, and the volume's header
  abbrev pub AlikeVolume : Type 0
  AlikeVolume =
      let h = le 2 a 48 in
      let v = le 8 a 32 in
      (Alike a b 32 22 × Alike a b 0 h) × (Holds (volume_fits a h v) → AlikeExtension h v (le 2 a 52))

  -- all of it
  abbrev pub AlikeImage : Type 0
  AlikeImage = (length a ≡ length b) × (Holds (length_fits a) → AlikeVolume)

-- ---- stage by stage, the rules go together

module _ (a b : List ℕ) (long : length a ≡ length b) where
  entries : (H t n c z : ℕ) → component a H ≡ component b H → AlikeEntries a b H t n
      → Together (from_entries a H t n c z) (from_entries b H t n c z)
  unfolding from_entries from_modules accepted identity_at
  entries H t n c z comp (table, names, far, modules) =
      let patches = patches_cong a b t n long table in
      let image : le 8 a (H + 16) ≡ le 8 b (H + 16) = le_in names 8 (H + 16) (omega arith) (omega arith) in
      let revision : le 4 a (H + 12) ≡ le 4 b (H + 12) = le_in names 4 (H + 12) (omega arith) (omega arith) in
      let extended : extended_number a H ≡ extended_number b H =
      extended_number_looks a b H (alike_in names (H + 11) 1 (omega arith) (omega arith)) far in (
        refl,
        refl,
        unrefused_cong a b t n long table 12,
        (
          refl,
          refl,
          unrefused_cong a b t n long table 22,
          (
            refl,
            refl,
            unrefused_cong a b t n long table 13,
            (
              refl,
              refl,
              clear_cong a b t n long table (t + 4 * n) c z,
              (
                refl,
                rw modules,
                λ h. (refl, rw (modules, patches), λ k. (refl, rw modules, λ l. rw (comp, image, revision, extended))),
              ),
            ),
          ),
        ),
      )

  region : (H t n : ℕ) → component a H ≡ component b H → AlikeRegion a b H t n → Together (from_region a H t n) (from_region b H t n)
  unfolding from_region
  region H t n comp (fields, rest) =
      let c = le 4 a (H + 36) in
      let z = le 4 a (H + 40) in
      rw (← le_in fields 4 (H + 36) (omega arith) (omega arith), ← le_in fields 4 (H + 40) (omega arith) (omega arith)) (
        refl,
        region_looks a b (t + 4 * n) c z long,
        λ h. (refl, rw (← comp) (marks_looks a b c (component a H) (rest h).0), λ k. entries H t n c z comp ((rest h).1 k)),
      )

  patch : (H p end : ℕ) → component a H ≡ component b H → AlikePatch a b H p end → Together (from_patch a H p end) (from_patch b H p end)
  unfolding from_patch
  patch H p end comp (fields, rest) = (
    refl,
    patch_looks a b p end fields,
    λ h. rw (← le_in (fields h.0).2 4 (p + 8) (omega arith) (omega arith))
        (region H (p + 12) (le 4 a (p + 8)) comp (rest h)),
  )

  table : (H p end : ℕ) → component a H ≡ component b H → AlikeTable a b H p end → Together (from_table a H p end) (from_table b H p end)
  unfolding from_table
  table H p end comp (mark, there, none) = (
    extended_looks a b p end mark,
    (λ h. (
      refl,
      extended_fits_looks a b p end (there h).0,
      λ k. rw (← le_in ((there h).0 k.0) 4 (p + 4) (omega arith) (omega arith))
          (patch H (round4 (p + le 4 a (p + 4))) end comp ((there h).1 k)),
    )),
    λ h. patch H p end comp (none h),
  )

  component_on : (H p end : ℕ) → AlikeComponent a b H p end → Together (from_component a H p end) (from_component b H p end)
  unfolding from_component
  component_on H p end (kind, rest) =
      let comp = component_looks a b H kind in
      (refl, rw comp, λ h. (refl, (rest h).0, λ k. table H p end comp ((rest h).1 k)))

  older_on : (H : ℕ) → Holds (older a H) → AlikeOlder a b H → Together (from_older a H) (from_older b H)
  unfolding from_older older_accepted identity_at
  older_on H old (legal, names) =
      let image : le 8 a (H + 16) ≡ le 8 b (H + 16) = le_in names 8 (H + 16) (omega arith) (omega arith) in
      let revision : le 4 a (H + 12) ≡ le 4 b (H + 12) = le_in names 4 (H + 12) (omega arith) (omega arith) in
      let extended : extended_number a H ≡ extended_number b H =
      extended_number_looks a b H (alike_in names (H + 11) 1 (omega arith) (omega arith)) (λ six. absurd (omega (arith, old, six))) in
      (refl, legal, λ h. rw (image, revision, extended))

  header : (f size : ℕ) → AlikeHeader a b f size → Together (from_header a f size) (from_header b f size)
  unfolding from_header from_edition
  header f size ((head, revision), rest) =
      let H = f + 28 in (
        refl,
        header_looks a b H size head revision,
        λ h. (
          refl,
          size_looks a b H long (rest h).0,
          λ k. (
            rw (le_in revision 1 (H + 11) (omega arith) (omega arith)),
            (λ old. older_on H old (((rest h).1 k).0 old)),
            λ new. rw (← le_in head 4 (H + 4) (omega arith) (omega arith))
                (component_on H (round4 (H + le 4 a (H + 4))) (f + 24 + size) (((rest h).1 k).1 new)),
          ),
        ),
      )

  section : (f s : ℕ) → AlikeSection a b f s → Together (from_section a f s) (from_section b f s)
  unfolding from_section
  section f s ((head, revision), rest) = (
    refl,
    section_looks a b f s head revision,
    λ h. rw (← le_in head 3 (f + 24) (omega arith) (omega arith))
        (header f (le 3 a (f + 24)) (rest h)),
  )

  file : (v f : ℕ) → AlikeFile a b v f → Together (from_file a v f) (from_file b v f)
  unfolding from_file
  file v f ((low, high), rest) = (
    refl,
    file_looks a b v f low high,
    λ h. rw (← le_in high 3 (f + 20) (omega arith) (omega arith))
        (section f (le 3 a (f + 20)) (rest h)),
  )

  extension : (h v x : ℕ) → AlikeExtension a b h v x → Together (from_extension a h v x) (from_extension b h v x)
  unfolding from_extension
  extension h v x (none, some) = (
    refl,
    (λ e. file v (round8 h) (none e)),
    λ e. (
      refl,
      extension_looks a b h v x (some e).0,
      λ k. rw (← le_in (some e).0 4 (x + 16) (omega arith) (omega arith)) (file v (round8 (x + le 4 a (x + 16))) ((some e).1 k)),
    ),
  )

  volume : AlikeVolume a b → Together (from_volume a) (from_volume b)
  unfolding from_volume
  volume ((fields, head), rest) =
      let h = le 2 a 48 in
      let v = le 8 a 32 in
      let x = le 2 a 52 in
      rw (
        ← le_in fields 2 48 (omega arith) (omega arith),
        ← le_in fields 8 32 (omega arith) (omega arith),
        ← le_in fields 2 52
            (omega arith) (omega arith),
      )
      (refl, volume_looks a b h v long (alike_in fields 40 4 (omega arith) (omega arith)) head, λ k. extension h v x (rest k))

  image : (Holds (length_fits a) → AlikeVolume a b) → Together (stages a) (stages b)
  unfolding stages
  image rest = (refl, rw long, λ h. volume (rest h))

-- the frame law
pub frame : (a b : List ℕ) → AlikeImage a b → Rebased (reading a) (reading b)
frame a b (long, rest) =
    rw (by_stages a, by_stages b) (run_same refusal Rebased (λ k i. refl) (stages a) (stages b) (image a b long rest))
