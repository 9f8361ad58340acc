-- What the promises of the C calls say of the buffers, byte by byte and field by field, and that each admits one outcome only.
-- Assumes nothing.
use Rattle.std.specs.Prelude.{ℕ, ◌+◌, ◌*◌, ◌≤◌, ◌<◌, List, ◌≡◌, length, get_or}
use Rattle.std.proofs.Common.{sym, ◌∙◌, arith, mod-eq_of_lt}
use Rattle.words.specs.Le.{le}
use Rattle.words.specs.Put.{put_all}
use Rattle.words.specs.PutLaws.{put_all_above, le_put_all}
use Rattle.c_answers.specs.Answers.{answered}
use Rattle.c_answers.specs.AnswerLaws.{roomy, short}
use Rattle.pajurenda.specs.Promises.{ReadCall, ReleaseCall, SheetCall, SettingCall, AuditCall, ContentsCall, HandoffCall, HandoffsCall}
use Rattle.pajurenda_laws.specs.FieldLaws.{Small, small_at}
use Rattle.pajurenda.specs.Promises.{StationCall, StationResetCall}

-- ---- the answer's buffer

module _ (A fields : List ℕ) where
  -- with room, field j is read at 8j; the fields of each call are `Small` (`FieldLaws`)
  pub field_is : 8 * length fields ≤ length A → Small fields → (j : ℕ) → j < length fields
      → le 8 (answered A fields) (8 * j) ≡ get_or fields j 0
  field_is room small j h =
      let z : 0 + 8 * j ≡ 8 * j = omega arith in
      rw (roomy (length fields) A (put_all 8 A 0 fields) A room)
      (rw z at (le_put_all 8 A 0 fields j (omega arith) h) ∙ mod-eq_of_lt (small_at fields small j))

  -- and bytes after the last field are kept
  pub answer_kept : 8 * length fields ≤ length A → (i : ℕ) → 8 * length fields ≤ i → get_or (answered A fields) i 0 ≡ get_or A i 0
  answer_kept room i h = rw (roomy (length fields) A (put_all 8 A 0 fields) A room) (put_all_above 8 A 0 fields i (omega arith))

  -- without room every byte is
  pub answer_short : length A < 8 * length fields → answered A fields ≡ A
  answer_short h = short (length fields) A (put_all 8 A 0 fields) A h

-- ---- any two outcomes that a promise admits are the same

pub one_read_call : (xs A : List ℕ) (r s : ℕ) (a b : List ℕ) → ReadCall xs A r a → ReadCall xs A s b → (r ≡ s) × (a ≡ b)
one_read_call xs A r s a b (e, f) (g, h) = (e ∙ sym g, f ∙ sym h)

pub one_release_call : (xs sheet o A : List ℕ) (base owner r s : ℕ) (a b m n : List ℕ) → ReleaseCall xs sheet base o owner A r m a
    → ReleaseCall xs sheet base o owner A s n b → (r ≡ s) × (m ≡ n) × (a ≡ b)
one_release_call xs sheet o A base owner r s a b m n (e, (f, g)) (h, (k, l)) = (e ∙ sym h, f ∙ sym k, g ∙ sym l)

pub one_sheet_call : (sheet A : List ℕ) (r s : ℕ) (a b : List ℕ) → SheetCall sheet A r a → SheetCall sheet A s b → (r ≡ s) × (a ≡ b)
one_sheet_call sheet A r s a b (e, f) (g, h) = (e ∙ sym g, f ∙ sym h)

pub one_setting_call : (xs A : List ℕ) (offset size r s : ℕ) (a b : List ℕ) → SettingCall xs offset size A r a
    → SettingCall xs offset size A s b → (r ≡ s) × (a ≡ b)
one_setting_call xs A offset size r s a b (e, f) (g, h) = (e ∙ sym g, f ∙ sym h)

pub one_audit_call : (xs ys bytes A : List ℕ) (r s : ℕ) (a b l m : List ℕ) → AuditCall xs ys bytes A r l a → AuditCall xs ys bytes A s m b
    → (r ≡ s) × (l ≡ m) × (a ≡ b)
one_audit_call xs ys bytes A r s a b l m (e, (f, g)) (h, (k, n)) = (e ∙ sym h, f ∙ sym k, g ∙ sym n)

pub one_contents_call : (xs bytes A : List ℕ) (r s : ℕ) (a b l m : List ℕ) → ContentsCall xs bytes A r l a → ContentsCall xs bytes A s m b
    → (r ≡ s) × (l ≡ m) × (a ≡ b)
one_contents_call xs bytes A r s a b l m (e, (f, g)) (h, (k, n)) = (e ∙ sym h, f ∙ sym k, g ∙ sym n)

pub one_handoff_call : (xs A : List ℕ) (at r s : ℕ) (a b : List ℕ) → HandoffCall xs at A r a → HandoffCall xs at A s b → (r ≡ s) × (a ≡ b)
one_handoff_call xs A at r s a b (e, f) (g, h) = (e ∙ sym g, f ∙ sym h)

pub one_handoffs_call : (xs A : List ℕ) (r s : ℕ) (a b : List ℕ) → HandoffsCall xs A r a → HandoffsCall xs A s b → (r ≡ s) × (a ≡ b)
one_handoffs_call xs A r s a b (e, f) (g, h) = (e ∙ sym g, f ∙ sym h)

-- ---- request #108, the station

pub one_station_call : (xs : List ℕ) (call n r s : ℕ) (a b : List ℕ) → StationCall xs call n r a → StationCall xs call n s b
    → (r ≡ s) × (a ≡ b)
one_station_call xs call n r s a b (e, f) (g, h) = (e ∙ sym g, f ∙ sym h)

pub one_station_reset_call : (xs : List ℕ) (r s : ℕ) (a b : List ℕ) → StationResetCall xs r a → StationResetCall xs s b → (r ≡ s) × (a ≡ b)
one_station_reset_call xs r s a b (e, f) (g, h) = (e ∙ sym g, f ∙ sym h)
