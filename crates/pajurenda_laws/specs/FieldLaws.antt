-- Each field of an answer is a number of 64 bits and each entry of an audit's list one of 32, so a reader of the buffers gets the number
-- itself.
-- Assumes nothing.
use Prim.{Unit, tt}
use Rattle.std.specs.Prelude.{ℕ, zero, suc, ◌+◌, ◌-◌, ◌*◌, ◌^◌, ◌≤◌, ◌<◌, Bool, true, false, cond, List, [], ◌∷◌, ◌≡◌, pos, negsuc, ◌-ℤ◌, ltb, length, get_or}
use Rattle.std.proofs.Common.{inl, inr, ap, arith}
use Rattle.std.proofs.Math.Decide.{ℕ_discrete}
use Rattle.facts.specs.Rules.{run}
use Rattle.facts.specs.RulesLaws.{by_test}
use Rattle.words.specs.Le.{le, Bytes}
use Rattle.words.specs.LeLaws.{le_lt}
use Rattle.header.specs.Header.{extended_number}
use Rattle.header.specs.HeaderLaws.{extended_small}
use Rattle.answers.specs.declared.Identity.{Identity}
use Rattle.answers.specs.declared.Reading.{Reading}
use Rattle.reading_rules.specs.Reading.{identity_at, reading, Read, reading2}
use Rattle.reading_rules.specs.Guarantee.{shared, bare, guaranteed}
use Rattle.reading_rules.specs.Edition as edition
use Rattle.reading_rules.specs.Numbers.{Numbered}
use Rattle.reading_rules.specs.NumbersLaws.{numbered, after_every, index_small, refused_is}
use Rattle.answers.specs.declared.Moved.{Moved}
use Rattle.move_answer.specs.MoveAnswer.{refused_move}
use Rattle.sheet.specs.declared.SheetReading.{SheetReading}
use Rattle.sheet.specs.Sheet.{sheet_fits}
use Rattle.sheet.specs.ReadSheet.{sheet_reading}
use Rattle.setting.specs.Setting.{setting_number}
use Rattle.setting.specs.SettingLaws.{setting_passed}
use Rattle.setting.specs.Theorems.{lookup_numbered}
use Rattle.reading_rules.specs.Numbers.{OwnLookup}
use Rattle.release.specs.Release.{releasing}
use Rattle.release_judge.specs.Judged.{name_rules, release_rules}
use Rattle.release_laws.specs.Theorems.{release_numbered}
use Rattle.reading_rules.specs.Numbers.{OwnRelease}
use Rattle.audit_count.specs.Differences.{differences, setting, settings, strays, flips, bits}
use Rattle.audit_count.specs.DifferenceLaws.{counts, few}
use Rattle.audit_count.specs.FlipLaws.{flips_most}
use Rattle.answers.specs.declared.Audited.{Audited}
use Rattle.audit.specs.Audit.{reference, told_by, differing, refused_audit, tally, auditing}
use Rattle.audit.specs.AuditLaws.{audit_numbered}
use Rattle.reading_rules.specs.Numbers.{OwnAudit}
use Rattle.answers.specs.declared.Listed.{Listed}
use Rattle.contents.specs.Listing.{refused_list, contents}
use Rattle.contents.specs.ListingLaws.{counts_few}
use Rattle.contents.specs.Theorems.{listing_numbered}
use Rattle.reading_rules.specs.Numbers.{OwnList}
use Rattle.c_answers.specs.Answers.{twos, read_fields, move_fields, sheet_fields, setting_fields, audit_fields, list_fields}
use Rattle.setting.specs.Finding.{finding}
use Rattle.setting.specs.FindingLaws.{found_refused, found_accepted}

-- each is a number of 64 bits
abbrev pub Small : List ℕ → Type 0
Small [] = Unit {0}
Small (x ∷ l) = (x < 2 ^ 64) × Small l

pub small_at : (l : List ℕ) → Small l → (j : ℕ) → get_or l j 0 < 2 ^ 64
small_at [] h j = omega arith
small_at (x ∷ l) (h, t) zero = h
small_at (x ∷ l) (h, t) (suc j) = small_at l t j

-- a number of a call, and an index
number_small : (xs : List ℕ) (own : ℕ → Type 0) (number index : ℕ) → ((k : ℕ) → own k → k ≤ 28) → Numbered xs own number index
    → number < 2 ^ 64
number_small xs own number index most h =
    elim h.known [
      | inl (inl l) ↦ omega arith
      | inl (inr (inl l)) ↦ omega arith
      | inl (inr (inr l)) ↦ omega (arith, l.1)
      | inr o ↦ omega (arith, most number o)
    ]

-- ---- a reading

read_refused : (xs : List ℕ) → Bytes xs → (Read xs → ⊥) → Small (read_fields (reading xs))
read_refused xs b h =
    let small = number_small xs _ _ _ (λ k o. absurd o) (numbered xs) in
    let at = index_small xs _ _ _ b (numbered xs) in
    rw (refused_is xs h) (
      small,
      (
        omega arith,
        (
          omega arith,
          (
            omega arith,
            (
              omega arith,
              (
                omega arith,
                (omega arith, (omega arith, (omega arith, (omega arith, (omega arith, (omega arith, tt)))))),
              ),
            ),
          ),
        ),
      ),
    )

-- of either edition, where component, n and E are small
fields_small : (xs : List ℕ) → Bytes xs → Read xs → (reading xs).component < 2 ^ 64 → (reading xs).n < 2 ^ 64 → (reading xs).E < 2 ^ 64
    → Small (read_fields (reading xs))
unfolding identity_at
fields_small xs b ok component n E =
    let g = shared xs ok in
    let at = index_small xs _ _ _ b (numbered xs) in
    let image : (reading xs).identity.image ≡ le 8 xs ((reading xs).H + 16) = ap (λ (i : Identity). i.image) g.identity_is in
    let revision : (reading xs).identity.revision ≡ le 4 xs ((reading xs).H + 12) = ap (λ (i : Identity). i.revision) g.identity_is in
    let extended : (reading xs).identity.extended ≡ extended_number xs (reading xs).H =
    ap (λ (i : Identity). i.extended) g.identity_is in (
      omega arith,
      (
        omega arith,
        (
          omega (arith, g.header_within, g.length_most),
          (
            component,
            (
              omega (arith, le_lt 8 xs ((reading xs).H + 16) b),
              (
                omega (arith, le_lt 4 xs ((reading xs).H + 12) b),
                (
                  omega (arith, g.legal),
                  (
                    omega (arith, g.c_is, le_lt 4 xs ((reading xs).H + 36) b),
                    (
                      omega (arith, g.z_is, le_lt 4 xs ((reading xs).H + 40) b),
                      (n, (E, (omega (arith, extended_small xs (reading xs).H b), tt))),
                    ),
                  ),
                ),
              ),
            ),
          ),
        ),
      ),
    )

read_accepted : (xs : List ℕ) → Bytes xs → Read xs → Small (read_fields (reading xs))
read_accepted xs b ok =
    elim (ℕ_discrete (reading xs).component 0) [
      | yes none ↦ let (c, n, E) = bare xs ok none in fields_small xs b ok (omega arith) (omega arith) (omega arith)
      | no some ↦
          let g = guaranteed xs (ok, omega (arith, some)) in fields_small xs b ok (omega (arith, g)) (omega (arith, g)) (omega (arith, g))
    ]

pub read_small : (xs : List ℕ) → Bytes xs → Small (read_fields (reading xs))
read_small xs b = elim (ℕ_discrete (reading xs).number 0) [ yes ok ↦ read_accepted xs b ok | no h ↦ read_refused xs b h ]

-- ---- a release

twos_small : (a b : ℕ) → a < 2 ^ 64 → twos (pos a -ℤ pos b) < 2 ^ 64
unfolding twos
twos_small a zero h = omega arith
twos_small a (suc b) h = go (ltb a (suc b))
  where
    go : (t : Bool) → twos (cond t (negsuc (suc b - suc a)) (pos (a - suc b))) < 2 ^ 64
    go true = omega arith
    go false = omega arith

pub release_small : (xs s : List ℕ) (base : ℕ) (o : List ℕ) (owner : ℕ) → Bytes xs → Small (move_fields (releasing xs s base o owner))
unfolding releasing release_rules name_rules twos
release_small xs s base o owner b =
    let numbers = release_numbered xs s base o owner in
    let far : twos (releasing xs s base o owner).distance < 2 ^ 64 =
    after_every refused_move (λ (m : Moved). twos m.distance < 2 ^ 64) (reading2 xs) _ (λ h. omega arith)
    (λ ok. (
      (λ h. omega arith),
      λ h. (
        (λ h. omega arith),
        λ h. (
          (λ h. omega arith),
          λ h. (
            (λ h. omega arith),
            λ h. ((λ h. omega arith), λ h. ((λ h. omega arith), λ legal. twos_small base (reading2 xs).base (omega (arith, legal)))),
          ),
        ),
      ),
    )) in
    (number_small xs OwnRelease _ _ own_most numbers, (omega (arith, index_small xs OwnRelease _ _ b numbers), (far, tt)))
  where
    own_most : (k : ℕ) → OwnRelease k → k ≤ 28
    own_most k (inl h) = omega arith
    own_most k (inr (inl h)) = omega arith
    own_most k (inr (inr h)) = omega arith

-- ---- a sheet by itself

pub sheet_small : (s : List ℕ) → Bytes s → Small (sheet_fields (sheet_reading s))
unfolding sheet_reading run
sheet_small s b =
    by_test (λ (r : SheetReading). Small (sheet_fields r)) (sheet_fits s) _ _
    (λ h. (
      omega arith,
      (omega (arith, le_lt 2 s 12 b), (omega (arith, le_lt 8 s 0 b), (omega (arith, le_lt 4 s 8 b), (omega (arith, le_lt 2 s 14 b), tt)))),
    ))
    (λ h. (omega arith, (omega arith, (omega arith, (omega arith, (omega arith, tt))))))

-- ---- a lookup

pub find_small : (xs : List ℕ) (offset size : ℕ) → Small (setting_fields (finding xs offset size))
find_small xs offset size =
    elim (ℕ_discrete (setting_number xs offset size) 0) [
      | yes e ↦
          let (ok, fits) = setting_passed xs offset size e in
          let g = edition.guaranteed xs ok in
          rw (found_accepted xs offset size e) (small, (omega (arith, g, fits), (omega (arith, g, fits), tt)))
      | no h ↦ rw (found_refused xs offset size h) (small, (omega arith, (omega arith, tt)))
    ]
  where
    own_most : (k : ℕ) → OwnLookup k → k ≤ 28
    own_most k (inl h) = omega arith
    own_most k (inr h) = omega arith

    small : setting_number xs offset size < 2 ^ 64
    small = number_small xs OwnLookup _ _ own_most (lookup_numbered xs offset size)

-- ---- an audit

bits_most : (ref ys : List ℕ) (r : Reading) (ks : List ℕ) → bits ref ys r ks ≤ 8 * length ks
unfolding bits
bits_most ref ys r [] = omega arith
bits_most ref ys r (k ∷ ks) =
    by_test (λ (m : ℕ). m + bits ref ys r ks ≤ 8 * suc (length ks)) (setting r k) (flips 8 (get_or ys k 0) (get_or ref k 0)) 0
    (λ h. omega (arith, bits_most ref ys r ks, flips_most 8 (get_or ys k 0) (get_or ref k 0))) (λ h. omega (arith, bits_most ref ys r ks))

-- base and counts
abbrev Counted : Audited → Type 0
Counted a = (a.base < 2 ^ 64) × (a.settings < 2 ^ 64) × (a.strays < 2 ^ 64) × (a.bits < 2 ^ 64)

counted : (xs ys : List ℕ) (room : ℕ) → Counted (auditing xs ys room)
unfolding auditing tally differing
counted xs ys room =
    after_every refused_audit Counted (reading xs) _ (λ h. (omega arith, omega arith, omega arith, omega arith))
    (λ ok. (
      (λ h. (omega arith, omega arith, omega arith, omega arith)),
      λ pair. (
        (λ h. (omega arith, omega arith, omega arith, omega arith)),
        λ legal.
            let g = shared xs ok in
            let r = told_by xs in
            let ref = reference xs ys in
            let ks = differences ref ys 0 (length xs) in
            let most : length ks ≤ length xs = few ref ys 0 (length xs) in
            let sum : settings r ks + strays r ks ≡ length ks = counts r ks in (
              omega (arith, legal),
              omega (arith, g.length_most),
              omega (arith, g.length_most),
              omega
                  (arith, g.length_most, bits_most ref ys r ks),
            ),
      ),
    ))

pub audit_small : (xs ys : List ℕ) (room : ℕ) → Bytes xs → Small (audit_fields (auditing xs ys room))
audit_small xs ys room b =
    let numbers = audit_numbered xs ys room in
    let (base, settings, strays, bits) = counted xs ys room in (
      number_small xs OwnAudit _ _ (λ k o. omega arith) numbers,
      (
        omega (arith, index_small xs OwnAudit _ _ b numbers),
        (
          base,
          (settings, (strays, (bits, (one (auditing xs ys room).explained, tt)))),
        ),
      ),
    )
  where
    one : (e : Bool) → cond e 1 0 < 2 ^ 64
    one true = omega arith
    one false = omega arith

-- ---- what an image holds

abbrev Tallied : Listed → Type 0
Tallied a = (a.modules < 2 ^ 64) × (a.words < 2 ^ 64) × (a.entries < 2 ^ 64)

tallied : (xs : List ℕ) (room : ℕ) → Bytes xs → Tallied (contents xs room)
unfolding contents
tallied xs room b =
    after_every refused_list Tallied (reading2 xs) _ (λ h. (omega arith, omega arith, omega arith))
    (λ ok. let (m, w, e) = counts_few xs b ok in (omega (arith, m), omega (arith, w), omega (arith, e)))

pub contents_small : (xs : List ℕ) (room : ℕ) → Bytes xs → Small (list_fields (contents xs room))
contents_small xs room b =
    let numbers = listing_numbered xs room in
    let (modules, words, entries) = tallied xs room b in (
      number_small xs OwnList _ _ own_most numbers,
      (omega (arith, index_small xs OwnList _ _ b numbers), (modules, (words, (entries, tt)))),
    )
  where
    own_most : (k : ℕ) → OwnList k → k ≤ 28
    own_most k (inl h) = omega arith
    own_most k (inr h) = omega arith
