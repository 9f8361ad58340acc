-- What an audit leaves in its list, of places and of bytes: entry by entry, and what it held after them.
-- Assumes nothing.
use Rattle.std.specs.Prelude.{◌≡◌, drop, refl, List, [], ◌∷◌, ◌++◌, ℕ, zero, suc, ◌+◌, ◌-◌, ◌*◌, ◌/◌, ◌^◌, ◌≤◌, ◌<◌, length, get_or}
use Rattle.std.proofs.Common.{◌∙◌, get_or-append-add, get_or-drop, arith, mod-eq_of_lt}
use Rattle.std.proofs.Math.Decide.{ℕ_discrete}
use Rattle.std.proofs.Math.ListN.{get_or-append}
use Rattle.std.proofs.lemmas.List.Edits.{sets}
use Rattle.std.proofs.Math.Seq.{sets-eq, length-sets}
use Rattle.facts.specs.RulesLaws.{by_test}
use Rattle.words.specs.Le.{le}
use Rattle.words.specs.Put.{put_all}
use Rattle.words.specs.PutLaws.{length_put_all, put_all_above, le_put_all}
use Rattle.answers.specs.declared.Reading.{Reading}
use Rattle.reading_rules.specs.Guarantee.{shared}
use Rattle.answers.specs.AfterLaws.{changed_so, kept_so}
use Rattle.audit_count.specs.Differences.{agrees, differences, setting, entry, entries}
use Rattle.audit_count.specs.DifferenceLaws.{length_entries}
use Rattle.audit.specs.Audit.{reference, told_by, differing, auditing, listed, listed_bytes}
use Rattle.audit.specs.AuditLaws.{audit_accepted, fits}

module _ (r : Reading) where
  getD_entries : (ks : List ℕ) (i : ℕ) → i < length ks → get_or (entries r ks) i 0 ≡ entry r (get_or ks i 0)
  unfolding entries
  getD_entries [] i h = absurd (omega arith)
  getD_entries (k ∷ ks) zero h = refl
  getD_entries (k ∷ ks) (suc i) h = getD_entries ks i (omega arith)

  -- an entry goes into four bytes
  entries_small : (ref ys : List ℕ) (k n : ℕ) → k + n ≤ 16777216 → (i : ℕ) → get_or (entries r (differences ref ys k n)) i 0 < 2 ^ 32
  unfolding differences entries entry
  entries_small ref ys k zero h i = omega arith
  entries_small ref ys k (suc n) h i =
      let rest = entries_small ref ys (suc k) n (omega arith) in
      by_test (λ (l : List ℕ). get_or (entries r l) i 0 < 2 ^ 32) (agrees ref ys k) (differences ref ys (suc k) n)
      (k ∷ differences ref ys (suc k) n)
      (λ e. rest i) (λ e. first i rest)
    where
      first : (j : ℕ) → ((j : ℕ) → get_or (entries r (differences ref ys (suc k) n)) j 0 < 2 ^ 32)
          → get_or (entries r (k ∷ differences ref ys (suc k) n)) j 0 < 2 ^ 32
      first zero rest = by_test (λ (v : ℕ). v < 2 ^ 32) (setting r k) k (k + 16777216) (λ s. omega arith) (λ s. omega arith)
      first (suc j) rest = rest j

-- ---- a list of places

module _ (xs ys places : List ℕ) where
  -- it is as long as it was
  pub length_listed : length (listed xs ys places) ≡ length places
  unfolding listed
  length_listed =
      let number = (auditing xs ys (length places)).number in
      let es = entries (told_by xs) (differing xs ys) in
      elim (ℕ_discrete number 0) [
        | yes e ↦ rw (changed_so number (sets places 0 es) places e) (length-sets places 0 es)
        | no e ↦ rw (kept_so number (sets places 0 es) places e)
      ]

  module _ (ok : (auditing xs ys (length places)).number ≡ 0) where
    stored : listed xs ys places ≡ entries (told_by xs) (differing xs ys) ++ drop (length (differing xs ys)) places
    unfolding listed
    stored =
        let es = entries (told_by xs) (differing xs ys) in
        let e : length es ≡ length (differing xs ys) = length_entries (told_by xs) (differing xs ys) in
        let z : 0 + length es ≡ length (differing xs ys) = omega arith in
        let room = fits xs ys (length places) ok in
        changed_so (auditing xs ys (length places)).number (sets places 0 es) places ok
        ∙ sets-eq es places 0 (omega arith)
        ∙ rw z

    -- the place of the i-th difference holds its entry
    pub place_is : (i : ℕ) → i < length (differing xs ys) → get_or (listed xs ys places) i 0 ≡ entry (told_by xs) (get_or (differing xs ys) i 0)
    place_is i h =
        rw stored (get_or-append (entries (told_by xs) (differing xs ys)) (drop (length (differing xs ys)) places) 0 i
        (rw length_entries h)
        ∙ getD_entries (told_by xs) (differing xs ys) i h)

    -- what stands after the last entry stays
    pub place_kept : (i : ℕ) → length (differing xs ys) ≤ i → get_or (listed xs ys places) i 0 ≡ get_or places i 0
    place_kept i h =
        let n = length (differing xs ys) in
        let e : n + (i - n) ≡ i = omega arith in
        rw stored (rw (length_entries, e) at (get_or-append-add (entries (told_by xs) (differing xs ys)) (drop n places) (i - n) 0)
        ∙ get_or-drop n places (i - n) 0 ∙ rw e)

-- ---- a list of bytes

module _ (xs ys bytes : List ℕ) where
  pub length_listed_bytes : length (listed_bytes xs ys bytes) ≡ length bytes
  unfolding listed_bytes
  length_listed_bytes =
      let number = (auditing xs ys (length bytes / 4)).number in
      let es = entries (told_by xs) (differing xs ys) in
      elim (ℕ_discrete number 0) [
        | yes e ↦ rw (changed_so number (put_all 4 bytes 0 es) bytes e) (length_put_all 4 bytes 0 es)
        | no e ↦ rw (kept_so number (put_all 4 bytes 0 es) bytes e)
      ]

  module _ (ok : (auditing xs ys (length bytes / 4)).number ≡ 0) where
    -- the four bytes of the i-th difference hold its entry
    pub bytes_are : (i : ℕ) → i < length (differing xs ys)
        → le 4 (listed_bytes xs ys bytes) (4 * i) ≡ entry (told_by xs) (get_or (differing xs ys) i 0)
    unfolding listed_bytes differing
    bytes_are i h =
        let es = entries (told_by xs) (differing xs ys) in
        let n = length_entries (told_by xs) (differing xs ys) in
        let room = fits xs ys (length bytes / 4) ok in
        let z : 0 + 4 * i ≡ 4 * i = omega arith in
        rw (changed_so (auditing xs ys (length bytes / 4)).number (put_all 4 bytes 0 es) bytes ok)
        (rw z at (le_put_all 4 bytes 0 es i (omega arith) (omega arith))
        ∙ mod-eq_of_lt (entries_small (told_by xs) (reference xs ys) ys 0 (length xs)
        (omega (arith, shared xs (audit_accepted xs ys (length bytes / 4) ok).read)) i)
        ∙ getD_entries (told_by xs) (differing xs ys) i h)

    -- bytes after the last entry stay, those after the last whole place among them
    pub byte_kept : (i : ℕ) → 4 * length (differing xs ys) ≤ i → get_or (listed_bytes xs ys bytes) i 0 ≡ get_or bytes i 0
    unfolding listed_bytes
    byte_kept i h =
        let es = entries (told_by xs) (differing xs ys) in
        let n = length_entries (told_by xs) (differing xs ys) in
        rw (changed_so (auditing xs ys (length bytes / 4)).number (put_all 4 bytes 0 es) bytes ok)
        (put_all_above 4 bytes 0 es i (omega arith))
