-- Which positions an audit finds, what it counts, and demand 3: what "explained" says. All of it is said of the answer that the promises of
-- `audit` and `audit_bytes` cite, with room for n entries.
-- Assumes nothing.
use Rattle.std.specs.Prelude.{◌≡◌, true, false, length, get_or, take, drop, refl, List, [], ◌∷◌, ℕ, zero, suc, ◌+◌, ◌-◌, ◌≤◌, ◌<◌}
use Rattle.std.proofs.Common.{ap, sym, ◌∙◌, inl, inr, length-take, length-drop, ext_get_or, get_or-take, get_or-drop, arith}
use Rattle.std.proofs.Math.Decide.{dec_lt, ℕ_discrete}
use Rattle.std.proofs.Math.ListN.{get_or-eq_default}
use Rattle.facts.specs.Fact.{Fact, Holds, ◌≤?◌, ◌≡?◌, ◌and◌, test}
use Rattle.facts.specs.FactLaws.{passes, fails, holds}
use Rattle.facts.specs.RulesLaws.{by_test}
use Rattle.words.specs.Le.{le, Bytes}
use Rattle.words.specs.LeLaws.{le_cong}
use Rattle.header.specs.Base.{legal_base}
use Rattle.answers.specs.declared.Reading.{Reading}
use Rattle.reading_rules.specs.Reading.{reading2, Read2, Read}
use Rattle.reading_rules.specs.Edition.{guaranteed}
use Rattle.move_image.specs.Moving.{moved_image}
use Rattle.release_steps.specs.MoveStep.{length_after, moved_reads}
use Rattle.sheet_bodies.specs.PartLaws.{length_joined, joined_low, joined_mid, joined_high}
use Rattle.sheet_bodies.specs.Set.{joined}
use Rattle.answers.specs.declared.Audited.{Audited}
use Rattle.reading_rules.specs.Settings.{settings_at, settings_size, OutsideSettings}
use Rattle.audit_count.specs.Differences.{agrees, differences, setting, settings, strays, bits}
use Rattle.audit_count.specs.DifferenceLaws.{counts}
use Rattle.audit.specs.Audit.{shipped_base, reference, told_by, differing, tally, auditing}
use Rattle.audit.specs.AuditLaws.{audit_told}
use Rattle.demands.specs.Editions.{read_too, told_two, shipped_two, reference_two}
use Rattle.demands.specs.Explains.{Turns, Explains}

-- ---- the differing positions

-- each element rises over those before it
abbrev Ascends : List ℕ → Type 0
Ascends l = (i j : ℕ) → i < j → j < length l → get_or l i 0 < get_or l j 0

-- each element is one of the n positions from k on, and ys differs there from ref
abbrev DiffersAt : List ℕ → List ℕ → ℕ → ℕ → List ℕ → Type 0
DiffersAt ref ys k n l = (i : ℕ) → i < length l → (k ≤ get_or l i 0) × (get_or l i 0 < k + n) × (Holds (agrees ref ys (get_or l i 0)) → ⊥)

-- p is an element
abbrev Has : ℕ → List ℕ → Type 0
Has p l = (i : ℕ) × (i < length l) × (get_or l i 0 ≡ p)

module _ (ref ys : List ℕ) where
  stands_more : (k n : ℕ) (l : List ℕ) → DiffersAt ref ys (suc k) n l → DiffersAt ref ys k (suc n) l
  stands_more k n l s i h = let t = s i h in (omega arith, omega arith, t.2)

  stands_cons : (k n : ℕ) (l : List ℕ) → (Holds (agrees ref ys k) → ⊥) → DiffersAt ref ys (suc k) n l → DiffersAt ref ys k (suc n) (k ∷ l)
  stands_cons k n l e s zero h = (omega arith, omega arith, e)
  stands_cons k n l e s (suc i) h = stands_more k n l s i (omega arith)

  stands : (k n : ℕ) → DiffersAt ref ys k n (differences ref ys k n)
  unfolding differences
  stands k zero = λ i h. absurd (omega arith)
  stands k (suc n) =
      let l = differences ref ys (suc k) n in
      by_test (λ (m : List ℕ). DiffersAt ref ys k (suc n) m) (agrees ref ys k) l (k ∷ l)
      (λ e. stands_more k n l (stands (suc k) n)) (λ e. stands_cons k n l e (stands (suc k) n))

  rising_cons : (k n : ℕ) (l : List ℕ) → DiffersAt ref ys (suc k) n l → Ascends l → Ascends (k ∷ l)
  rising_cons k n l s r i zero h g = absurd (omega arith)
  rising_cons k n l s r zero (suc j) h g = let t = s j (omega arith) in omega arith
  rising_cons k n l s r (suc i) (suc j) h g = r i j (omega arith) (omega arith)

  rising : (k n : ℕ) → Ascends (differences ref ys k n)
  unfolding differences
  rising k zero = λ i j h g. absurd (omega arith)
  rising k (suc n) =
      let l = differences ref ys (suc k) n in
      by_test (λ (m : List ℕ). Ascends m) (agrees ref ys k) l (k ∷ l) (λ e. rising (suc k) n)
      (λ e. rising_cons k n l (stands (suc k) n) (rising (suc k) n))

  has_cons : (k p : ℕ) (l : List ℕ) → Has p l → Has p (k ∷ l)
  has_cons k p l (i, h, e) = (suc i, omega arith, e)

  has : (k n p : ℕ) → k ≤ p → p < k + n → (Holds (agrees ref ys p) → ⊥) → Has p (differences ref ys k n)
  unfolding differences
  has k zero p low high differs = absurd (omega arith)
  has k (suc n) p low high differs =
      let l = differences ref ys (suc k) n in
      elim (ℕ_discrete k p) [
        | yes e ↦
            by_test (λ (m : List ℕ). Has p m) (agrees ref ys k) l (k ∷ l)
            (λ h. absurd (differs (rw e at h))) (λ h. (0, omega arith, e))
        | no e ↦
            by_test (λ (m : List ℕ). Has p m) (agrees ref ys k) l (k ∷ l)
            (λ h. has (suc k) n p (omega arith) (omega arith) differs)
            (λ h. has_cons k p l (has (suc k) n p (omega arith) (omega arith) differs))
      ]

module _ (xs ys : List ℕ) where
  -- each differing position stands once, in order
  pub ascending : (i j : ℕ) → i < j → j < length (differing xs ys) → get_or (differing xs ys) i 0 < get_or (differing xs ys) j 0
  unfolding differing
  ascending = rising (reference xs ys) ys 0 (length xs)

  -- what stands there is a differing position
  pub differs_at : (i : ℕ) → i < length (differing xs ys)
      → (get_or (differing xs ys) i 0 < length xs) × (get_or ys (get_or (differing xs ys) i 0) 0 ≡ get_or (reference xs ys)
      (get_or (differing xs ys) i 0) 0 → ⊥)
  unfolding differing
  differs_at i h = let t = stands (reference xs ys) ys 0 (length xs) i h in (omega arith, t.2)

  -- and each differing position stands there
  pub all_listed : (k : ℕ) → k < length xs → (get_or ys k 0 ≡ get_or (reference xs ys) k 0 → ⊥)
      → (i : ℕ) × (i < length (differing xs ys)) × (get_or (differing xs ys) i 0 ≡ k)
  unfolding differing
  all_listed k h differs = has (reference xs ys) ys 0 (length xs) k (omega arith) (omega arith) differs

-- ---- what is counted of them

module _ (r : Reading) where
  -- where there are no strays each position is a setting
  no_strays : (ks : List ℕ) → strays r ks ≡ 0 → (i : ℕ) → i < length ks → Holds (setting r (get_or ks i 0))
  unfolding strays
  no_strays [] z i h = absurd (omega arith)
  no_strays (k ∷ ks) z zero h =
      by_test (λ (s : ℕ). s + strays r ks ≡ 0 → Holds (setting r k)) (setting r k) 0 1 (λ e z. e) (λ e z. absurd (omega arith)) z
  no_strays (k ∷ ks) z (suc i) h = no_strays ks (omega arith) i (omega arith)

  -- where each is a setting there are no strays
  strays_none : (ks : List ℕ) → ((i : ℕ) → i < length ks → Holds (setting r (get_or ks i 0))) → strays r ks ≡ 0
  unfolding strays
  strays_none [] s = refl
  strays_none (k ∷ ks) s =
      let rest = strays_none ks (λ i h. s (suc i) (omega arith)) in
      rw (passes (setting r k) (s 0 (omega arith))) (omega arith)

-- there is room for every difference, and there are no strays besides
abbrev fitting : List ℕ → List ℕ → ℕ → Fact
fitting xs ys room = settings (told_by xs) (differing xs ys) + strays (told_by xs) (differing xs ys) ≤? room

abbrev clean : List ℕ → List ℕ → ℕ → Fact
clean xs ys room = fitting xs ys room and strays (told_by xs) (differing xs ys) ≡? 0

module _ (xs ys : List ℕ) (n : ℕ) (ok : Read xs) (long : length ys ≡ length xs)
    (legal : Holds (legal_base (length xs) (shipped_base xs ys))) where
  told : auditing xs ys n ≡ tally xs ys n
  told = audit_told xs ys n ok long legal

  -- what it counts, whether there is room or not
  pub told_always : ((auditing xs ys n).base ≡ shipped_base xs ys) × ((auditing xs ys n).settings ≡ settings (told_by xs) (differing xs ys))
      × ((auditing xs ys n).strays ≡ strays (told_by xs) (differing xs ys)) ×
      ((auditing xs ys n).bits ≡ bits (reference xs ys) ys (told_by xs) (differing xs ys))
  unfolding tally
  told_always = (
    ap (λ (a : Audited). a.base) told,
    ap (λ (a : Audited). a.settings) told,
    ap (λ (a : Audited). a.strays) told,
    ap
        (λ (a : Audited). a.bits) told,
  )

  module _ (room : length (differing xs ys) ≤ n) where
    fits : Holds (fitting xs ys n)
    fits = rw counts room

    -- the number of an audit with room
    pub told_number : (auditing xs ys n).number ≡ 0
    unfolding tally
    told_number = ap (λ (a : Audited). a.number) told ∙ rw (passes (fitting xs ys n) fits)

    -- it says "explained" exactly where there are no strays
    says_explained : (auditing xs ys n).explained ≡ test (clean xs ys n)
    unfolding tally
    says_explained = ap (λ (a : Audited). a.explained) told

    pub explained_strays : (auditing xs ys n).explained ≡ true → strays (told_by xs) (differing xs ys) ≡ 0
    explained_strays e = (holds (clean xs ys n) (sym says_explained ∙ e)).1

    pub strays_explained : strays (told_by xs) (differing xs ys) ≡ 0 → (auditing xs ys n).explained ≡ true
    strays_explained z = says_explained ∙ passes (clean xs ys n) (fits, z)

  -- the answer of an audit without: 20, never explained
  pub told_short : n < length (differing xs ys) → ((auditing xs ys n).number ≡ 20) × ((auditing xs ys n).explained ≡ false)
  unfolding tally
  told_short short =
      let p = fitting xs ys n in
      let over : Holds p → ⊥ = λ h. omega (arith, counts (told_by xs) (differing xs ys)) in (
        ap (λ (a : Audited). a.number) told ∙ rw (fails p over),
        ap (λ (a : Audited). a.explained) told ∙ fails (clean xs ys n) (λ h. over h.0),
      )

-- ---- demand 3

module _ (xs ys : List ℕ) (bytes : Bytes xs) (ok : Read2 xs) where
  -- after a move the base word holds the new base
  new_base : (base : ℕ) → Holds (legal_base (length xs) base) → le 4 (moved_image xs base) ((reading2 xs).H + 28) ≡ base
  new_base base legal =
      let reads = moved_reads xs bytes ok base legal in
      let read : Read2 (moved_image xs base) = ap (λ (r : Reading). r.number) reads ∙ ok in
      sym (rw reads at (guaranteed (moved_image xs base) read).base_is)

  -- so a pair is explained by no base but the shipped one
  pub explains_base : (base : ℕ) → Explains xs ys base → base ≡ shipped_base xs ys
  explains_base base ex =
      let at = (reading2 xs).H + 28 in
      sym (shipped_two xs ys ok ∙ le_cong 4 ys (moved_image xs base) at (record { same = λ j h. ex.same (at + j) (inl (omega (arith, guaranteed xs ok))) })
      ∙ new_base base ex.legal)

  region : (base : ℕ) → Holds (legal_base (length xs) base)
      → settings_at (reading2 xs) + settings_size (reading2 xs) ≤ length (moved_image xs base)
  region base legal = rw (length_after xs bytes ok base legal) (omega (arith, guaranteed xs ok))

  -- what bytes a legal base and setting bytes leave
  pub turns_explains : (base : ℕ) (part : List ℕ) → Turns xs ys base part → Explains xs ys base
  turns_explains base part t =
      let from = settings_at (reading2 xs) in
      let size = settings_size (reading2 xs) in
      let fits = region base t.legal in
      record {
        legal = t.legal;
        long = ap length t.is ∙ length_joined (moved_image xs base) from size part fits t.long ∙ length_after xs bytes ok base
            t.legal;
        same = λ k out. ap (λ (l : List ℕ). get_or l k 0) t.is ∙ outside k out;
      }
    where
      outside : (k : ℕ) → OutsideSettings (reading2 xs) k
          → get_or (joined (moved_image xs base) (settings_at (reading2 xs)) (settings_size (reading2 xs)) part) k 0
          ≡ get_or (moved_image xs base) k 0
      outside k (inl h) =
          joined_low (moved_image xs base) (settings_at (reading2 xs)) (settings_size (reading2 xs)) part (region base t.legal) t.long k h
      outside k (inr h) =
          joined_high (moved_image xs base) (settings_at (reading2 xs)) (settings_size (reading2 xs)) part (region base t.legal) t.long k
          (omega (arith, guaranteed xs ok))

  -- and the setting bytes that do it are the shipped file's own
  pub explains_turns : (base : ℕ) → Explains xs ys base
      → Turns xs ys base (take (settings_size (reading2 xs)) (drop (settings_at (reading2 xs)) ys))
  explains_turns base ex =
      record {
        legal = ex.legal;
        long = own;
        is = ext_get_or 0 ys all (ex.long ∙ sym (length_after xs bytes ok base ex.legal) ∙ sym
            (length_joined (moved_image xs base) from size part (region base ex.legal) own)) byte;
      }
    where
      from : ℕ
      from = settings_at (reading2 xs)

      size : ℕ
      size = settings_size (reading2 xs)

      part : List ℕ
      part = take size (drop from ys)

      all : List ℕ
      all = joined (moved_image xs base) from size part

      own : length part ≡ size
      own = simp (length-take, length-drop) (omega (arith, guaranteed xs ok, ex.long))

      byte : (k : ℕ) → k < length ys → get_or ys k 0 ≡ get_or all k 0
      byte k h =
          let m = moved_image xs base in
          let inside = region base ex.legal in
          elim (dec_lt k from) [
            | yes low ↦ ex.same k (inl low) ∙ sym (joined_low m from size part inside own k low)
            | no low ↦
                elim (dec_lt k (from + size)) [
                  | no high ↦ ex.same k (inr (omega (arith, guaranteed xs ok))) ∙ sym
                      (joined_high m from size part inside own k (omega arith))
                  | yes high ↦
                      let j = k - from in
                      let e : from + j ≡ k = omega arith in
                      let hj : j < size = omega arith in
                      rw e at (sym (joined_mid m from size part inside own j hj ∙ get_or-take size (drop from ys) j 0 hj
                      ∙ get_or-drop from ys j 0))
                ]
          ]

  module _ (n : ℕ) (long : length ys ≡ length xs) (legal : Holds (legal_base (length xs) (shipped_base xs ys)))
      (room : length (differing xs ys) ≤ n) where
    reference_is : reference xs ys ≡ moved_image xs (shipped_base xs ys)
    reference_is = reference_two xs ys ok

    -- "explained" shows that the shipped file is the vendor image moved to its own base, but for setting bytes
    pub explained_shows : (auditing xs ys n).explained ≡ true → Explains xs ys (shipped_base xs ys)
    explained_shows e = record { legal = legal; long = long; same = byte }
      where
        none : strays (reading2 xs) (differing xs ys) ≡ 0
        none = rw (told_two xs ys ok) at (explained_strays xs ys n (read_too xs ys ok) long legal room e)

        never : (k : ℕ) → OutsideSettings (reading2 xs) k → Holds (setting (reading2 xs) k) → ⊥
        never k (inl h) s = omega arith
        never k (inr h) s = omega arith

        found : (k : ℕ) → (i : ℕ) × (i < length (differing xs ys)) × (get_or (differing xs ys) i 0 ≡ k) → Holds (setting (reading2 xs) k)
        found k (i, h, f) = rw f at (no_strays (reading2 xs) (differing xs ys) none i h)

        byte : (k : ℕ) → OutsideSettings (reading2 xs) k
            → get_or ys k 0 ≡ get_or (moved_image xs (shipped_base xs ys)) k 0
        byte k out =
            elim (dec_lt k (length xs)) [
              | no h ↦
                  let here : length ys ≤ k = omega arith in
                  let there : length (moved_image xs (shipped_base xs ys)) ≤ k =
                  omega (arith, length_after xs bytes ok (shipped_base xs ys) legal) in
                  get_or-eq_default ys 0 here ∙ sym (get_or-eq_default (moved_image xs (shipped_base xs ys)) 0 there)
              | yes h ↦
                  elim (ℕ_discrete (get_or ys k 0) (get_or (reference xs ys) k 0)) [
                    | yes f ↦ f ∙ ap (λ (l : List ℕ). get_or l k 0) reference_is
                    | no f ↦ absurd (never k out (found k (all_listed xs ys k h f)))
                  ]
            ]

    -- and where some legal base explains the pair the audit says so, with that base
    pub explains_told : (base : ℕ) → Explains xs ys base → (base ≡ shipped_base xs ys) × ((auditing xs ys n).explained ≡ true)
    explains_told base ex =
        (explains_base base ex, strays_explained xs ys n (read_too xs ys ok) long legal room (rw (told_two xs ys ok) (strays_none (reading2 xs) (differing xs ys) each)))
      where
        same : (k : ℕ) → OutsideSettings (reading2 xs) k → get_or ys k 0 ≡ get_or (reference xs ys) k 0
        same k out =
            ex.same k out ∙ ap (λ (b : ℕ). get_or (moved_image xs b) k 0) (explains_base base ex) ∙ ap (λ (l : List ℕ). get_or l k 0)
            (sym reference_is)

        each : (i : ℕ) → i < length (differing xs ys) → Holds (setting (reading2 xs) (get_or (differing xs ys) i 0))
        each i h =
            let k = get_or (differing xs ys) i 0 in
            let differs : get_or ys k 0 ≡ get_or (reference xs ys) k 0 → ⊥ = (differs_at xs ys i h).1 in
            elim (dec_lt k (settings_at (reading2 xs))) [
              | yes low ↦ absurd (differs (same k (inl low)))
              | no low ↦
                  elim (dec_lt k ((reading2 xs).c + (reading2 xs).z)) [
                    | yes high ↦ (omega arith, omega arith)
                    | no high ↦ absurd (differs (same k (inr (omega arith))))
                  ]
            ]

    -- "explained" exactly where some legal base and some setting bytes turn the vendor image into the shipped one, and the base is then
    -- the answer's
    pub turned : ((auditing xs ys n).explained ≡ true → (base : ℕ) × (part : List ℕ) × Turns xs ys base part)
        × ((base : ℕ) (part : List ℕ) → Turns xs ys base part → ((auditing xs ys n).explained ≡ true) ×
        ((auditing xs ys n).base ≡ base))
    turned = (shown, told_so)
      where
        shown : (auditing xs ys n).explained ≡ true → (base : ℕ) × (part : List ℕ) × Turns xs ys base part
        shown e = (
          shipped_base xs ys,
          take (settings_size (reading2 xs)) (drop (settings_at (reading2 xs)) ys),
          explains_turns (shipped_base xs ys)
              (explained_shows e),
        )

        told_so : (base : ℕ) (part : List ℕ) → Turns xs ys base part
            → ((auditing xs ys n).explained ≡ true) × ((auditing xs ys n).base ≡ base)
        told_so base part t =
            let x = explains_told base (turns_explains base part t) in
            (x.1, (told_always xs ys n (read_too xs ys ok) long legal).0 ∙ sym x.0)
