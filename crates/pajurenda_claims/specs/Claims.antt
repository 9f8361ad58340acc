-- Requests #110, #111 and #114: their claims, of what C calls. Each call gives 100 and changes no byte, or has an answer q, which its
-- buffer then holds, for which the claims hold. `ClaimsHold` proves them.
-- Assumes nothing.
use Rattle.std.specs.Prelude.{ℕ, ◌+◌, ◌*◌, ◌/◌, ◌≤◌, ◌<◌, true, List, ◌⊎◌, ◌≡◌, length, get_or, take}
use Rattle.facts.specs.Fact.{Holds}
use Rattle.words.specs.Le.{le, Bytes}
use Rattle.words.specs.Put.{put_all}
use Rattle.answers.specs.declared.Audited.{Audited}
use Rattle.reading_rules.specs.Reading.{reading2}
use Rattle.sheet.specs.Sheet.{sheet_identity, sheet_fits}
use Rattle.sheet.specs.ByteAt.{byte_at}
use Rattle.audit_count.specs.Differences.{setting}
use Rattle.audit.specs.Audit.{told_by, differing, auditing, listed_bytes}
use Rattle.mend_laws.specs.Cleared.{settings_only, cleared}
use Rattle.fold_pile.specs.Pile.{sheets, pile_identity, pile_number}
use Rattle.fold_sheet.specs.Folded.{onto}
use Rattle.fold.specs.declared.Folded.{Folded}
use Rattle.fold.specs.Fold.{pile_sets}
use Rattle.fold_laws.specs.Alone.{alone}
use Rattle.fold_release.specs.Each.{released_each, EachAccepted}
use Rattle.map_ranges.specs.Ranges.{ranges}
use Rattle.map_free.specs.Free.{Free, memory_map}
use Rattle.map_list.specs.declared.Mapped.{Mapped}
use Rattle.map_place.specs.declared.Placed.{Placed}
use Rattle.map_laws.specs.Claims.{nth, IsMap, Lies, Asked, Best}
use Rattle.demands.specs.Makes.{Makes}
use Rattle.c_answers.specs.Answers.{answered, audit_fields}
use Rattle.pajurenda.specs.Promises.{ReleaseCall, AuditCall}
use Rattle.pajurenda_laws.specs.Demand.{NoRoom}
use Rattle.pajurenda_mend.specs.Promises.{MendCall}
use Rattle.pajurenda_fold.specs.Promises.{fold_fields, FoldCall}
use Rattle.pajurenda_map.specs.Promises.{MapCall, PlaceCall}
use Rattle.pajurenda_claims.specs.Outcomes.{AuditAnswer, FoldAnswer, MapAnswer, PlaceAnswer}

-- ---- #110: `pajurenda_mend` of the file ys, whose list was `bytes`, answered q and left the file zs and the list l

pub record MendedRight (xs ys bytes : List ℕ) (q : Audited) (zs l : List ℕ) : Type 0 where
  -- refused, it changes no byte
  pub refused : (q.number ≡ 0 → ⊥) → (zs ≡ ys) × (l ≡ bytes)
  -- accepted, its answer and its list are the audit's of the file as it came
  pub audited : q.number ≡ 0 → (q ≡ auditing xs ys (length bytes / 4)) × (l ≡ listed_bytes xs ys bytes)
  -- afterwards `pajurenda_audit`, with room for its answer and for the settings, says "explained" with the same base, settings and bits,
  -- and lists exactly the settings that were listed before
  pub explained : q.number ≡ 0 → (more B : List ℕ) (s : ℕ) (k b : List ℕ) → AuditCall xs zs more B s k b → 56 ≤ length B
      → q.settings ≤ length more / 4
      → (s ≡ 0) × (b ≡ answered B (audit_fields (cleared q))) × (k ≡ put_all 4 more 0 (settings_only (told_by xs) (differing xs ys)))
  -- on an explained file no byte changes
  pub kept : q.explained ≡ true → zs ≡ ys
  -- mending twice is mending once
  pub twice : q.number ≡ 0 → (more B : List ℕ) (s : ℕ) (ws k b : List ℕ) → MendCall xs zs more B s ws k b → ws ≡ zs
  -- every byte of the settings part is kept
  pub settings : (k : ℕ) → Holds (setting (reading2 xs) k) → get_or zs k 0 ≡ get_or ys k 0
  -- one release makes the mended file
  pub released : q.number ≡ 0 → (s : List ℕ) × (o : List ℕ) × Makes xs zs q.base s o 1

abbrev pub MendC : Type 0
MendC =
    (xs ys bytes A : List ℕ) (r : ℕ) (zs l a : List ℕ) → Bytes xs → Bytes ys → MendCall xs ys bytes A r zs l a
    → (NoRoom r A a × (zs ≡ ys) × (l ≡ bytes)) ⊎ ((q : Audited) × AuditAnswer q r A a × MendedRight xs ys bytes q zs l)

-- ---- #114: `pajurenda_fold` of the pile p, whose output was l, answered q and left m

pub record FoldedRight (p l : List ℕ) (q : Folded) (m : List ℕ) : Type 0 where
  pub refused : (q.number ≡ 0 → ⊥) → m ≡ l
  -- what an accepted one leaves at the output's start passes 15, sets what the pile sets and nothing else, and has the pile's identity
  pub form : q.number ≡ 0 → Holds (sheet_fits (take q.size m))
  pub sets : q.number ≡ 0 → (k : ℕ) → byte_at (take q.size m) k ≡ pile_sets p k
  pub names : q.number ≡ 0 → sheet_identity (take q.size m) ≡ pile_identity p
  -- folded alone, into any output with room for it, it gives itself again
  pub again : q.number ≡ 0 → (o B : List ℕ) (s : ℕ) (n b : List ℕ) → FoldCall (alone (take q.size m)) o B s n b → 24 ≤ length B
      → q.size ≤ length o → (s ≡ 0) × (n ≡ onto (take q.size m) o) × (b ≡ answered B (fold_fields q))
  -- `pajurenda_release` with it does what releases one by one do, where each of the pile is accepted for one owner
  pub once : q.number ≡ 0 → (xs : List ℕ) (base : ℕ) (o : List ℕ) (owner : ℕ) → Bytes xs → EachAccepted xs (sheets p) base o owner
      → (B : List ℕ) (s : ℕ) (ys b : List ℕ) → ReleaseCall xs (take q.size m) base o owner B s ys b → 24 ≤ length B
      → (s ≡ 0) × (ys ≡ released_each xs (sheets p) base o owner)

abbrev pub FoldC : Type 0
FoldC =
    (p l A : List ℕ) (r : ℕ) (m a : List ℕ) → Bytes p → FoldCall p l A r m a
    → (NoRoom r A a × (m ≡ l)) ⊎ ((q : Folded) × FoldAnswer q r A a × FoldedRight p l q m)

-- two piles of one identity that set the same give the same, result, output and answer
abbrev pub FoldSameC : Type 0
FoldSameC =
    (p q l A : List ℕ) (r s : ℕ) (m n a b : List ℕ) → pile_number p ≡ 0 → pile_number q ≡ 0 → pile_identity p ≡ pile_identity q
    → ((k : ℕ) → pile_sets p k ≡ pile_sets q k) → FoldCall p l A r m a → FoldCall q l A s n b → (r ≡ s) × (m ≡ n) × (a ≡ b)

-- ---- #111: `pajurenda_map` of the list xs, whose buffer was `out`, answered q and left m

pub record MappedRight (xs out : List ℕ) (q : Mapped) (m : List ℕ) : Type 0 where
  pub refused : (q.number ≡ 0 → ⊥) → (m ≡ out) × (q.count ≡ 0)
  -- accepted, its runs are the map of the free bytes, at most 128
  pub is_map : q.number ≡ 0 → IsMap (Free (ranges xs)) (memory_map (ranges xs))
  pub counted : q.number ≡ 0 → (q.count ≡ length (memory_map (ranges xs))) × (q.count ≤ 128)
  -- each stands in the 16 bytes from 16 i on, and bytes after them are kept
  pub stands : q.number ≡ 0 → (i : ℕ) → i < q.count
      → (le 8 m (16 * i) ≡ (nth (memory_map (ranges xs)) i).first) × (le 8 m (16 * i + 8) ≡ (nth (memory_map (ranges xs)) i).last)
  pub kept : q.number ≡ 0 → (i : ℕ) → 16 * q.count ≤ i → get_or m i 0 ≡ get_or out i 0

abbrev pub MapC : Type 0
MapC =
    (xs out A : List ℕ) (r : ℕ) (m a : List ℕ) → MapCall xs out A r m a
    → (NoRoom r A a × (m ≡ out)) ⊎ ((q : Mapped) × MapAnswer q r A a × MappedRight xs out q m)

-- `pajurenda_lowest_base` for an image of this size answered q: an accepted base is the lowest that will do; where 30 to 36 don't refuse,
-- 37 is the answer exactly where none will
pub record PlacedRight (xs : List ℕ) (size : ℕ) (q : Placed) : Type 0 where
  pub best : q.number ≡ 0 → Best xs size q.base
  pub nowhere : Asked xs size → q.number ≡ 37 → (b : ℕ) → Lies (Free (ranges xs)) size b → ⊥
  pub only : Asked xs size → ((b : ℕ) → Lies (Free (ranges xs)) size b → ⊥) → q.number ≡ 37

abbrev pub PlaceC : Type 0
PlaceC =
    (xs : List ℕ) (size : ℕ) (A : List ℕ) (r : ℕ) (a : List ℕ) → PlaceCall xs size A r a
    → NoRoom r A a ⊎ ((q : Placed) × PlaceAnswer q r A a × PlacedRight xs size q)
