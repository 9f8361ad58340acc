-- Which bytes at which base a text is of: at most one.
-- Assumes nothing.
use Rattle.std.specs.Prelude.{ℕ, ◌+◌, ◌*◌, ◌/◌, ◌%◌, ◌^◌, ◌≤◌, ◌<◌, List, ◌++◌, ◌≡◌, length, drop}
use Rattle.std.proofs.Math.Bool.{false}
use Rattle.std.proofs.Common.{inl, inr, sym, ap, ◌∙◌, arith}
use Rattle.std.proofs.Math.Decide.{dec_lt}
use Rattle.std.proofs.Math.ListN.{take}
use Rattle.facts.specs.Fact.{Holds, test}
use Rattle.facts.specs.FactLaws.{fails}
use Rattle.header.specs.Base.{legal_base}
use Rattle.hex_text.specs.Hex.{Exportable, exported, turns, upper_line, data_line, end_line, part, parts}
use Rattle.hex_text.specs.Sizes.{up_to, text_length, length_exported, longer, no_shorter, part_stays}
use Rattle.hex_text.specs.Splits.{part_of_parts}
use Rattle.hex_judge.specs.Stands.{stands}
use Rattle.hex_judge.specs.StandsLaws.{stands_split, stands_self, stands_whole, line_parts, Front, front_parts, byte_read}
use Rattle.hex_parts.specs.Decoded.{decoded_all, Sized}
use Rattle.hex_parts.specs.DecodedLaws.{upper_high, upper_low, part_there, decoded_exported, length_all, bytes_all}
use Rattle.hex_import.specs.declared.Imported.{Imported}
use Rattle.hex_import.specs.Import.{TextOf, Imports}
use Rattle.hex_import.specs.Found.{base_of, Has}

-- ---- the base

first_place_lem : (base : ℕ) → up_to base (16 * 0) ≡ 16
first_place_lem base = omega arith

four_bytes : (base x : ℕ) → base < 2 ^ 32 → x ≡ base % 65536
    → (base / 16777216 * 256 + base / 65536 % 256) * 65536 + (x / 256 * 256 + x % 256) ≡ base
four_bytes base x h e = omega arith

module _ (base : ℕ) (bytes : List ℕ) (good : Exportable base bytes) where
  abbrev text : List ℕ
  text = exported base bytes

  abbrev count : ℕ
  count = (length bytes + 15) / 16

  even16 : base % 16 ≡ 0
  even16 = omega (arith, good.legal.0)

  small : base < 2 ^ 32
  small = omega (arith, good.legal.1, good.fits.0)

  all : Holds (stands text 0 (parts base bytes count))
  unfolding exported
  all = (stands_split text 0 (parts base bytes count) end_line (stands_self text)).0

  upper : Holds (stands text 0 (upper_line base))
  unfolding parts
  upper =
      let p = part_of_parts base bytes count 0 (omega (arith, good.fits.0)) in
      (stands_split text 0 (upper_line base) (part base 0 (take 16 (drop 0 bytes)) ++ p.rest) (rw p.is at all)).0

  first : Front text 16 0 ((base + 0) % 65536) (length (take 16 (drop 0 bytes)))
  unfolding data_line
  first =
      let bs = take 16 (drop 0 bytes) in
      let p = part_there text base bytes count good.bytes even16 all 0 (omega (arith, good.fits.0)) (omega (arith, good.fits.0)) in
      let q = rw (first_place_lem base) at p in
      let e : test (turns base 0) ≡ false = fails (turns base 0) (λ h. omega (arith, h.0)) in
      front_parts text 16 0 ((base + 0) % 65536) (length bs)
      (line_parts text 16 0 ((base + 0) % 65536) bs (rw (part_stays base 0 bs e) at q)).0

  pub base_read : base_of (exported base bytes) ≡ base
  unfolding base_of
  base_read =
      let x = (base + 0) % 65536 in
      rw (
        upper_high text 0 base small upper,
        upper_low text 0 base small upper,
        byte_read text 19 (x / 256) (omega arith) first.high,
        byte_read text 21 (x % 256) (omega arith) first.low,
      )
      (four_bytes base x small (omega arith))

  pub length_read : length (exported base bytes) ≡ text_length base (length bytes)
  length_read = length_exported base bytes even16

  pub bytes_back : decoded_all (exported base bytes) base (length bytes) ≡ bytes
  bytes_back = decoded_exported base bytes good.bytes even16

-- ---- the length

absurd_less : (x y : ℕ) → x < y → x ≡ y → ⊥
absurd_less x y h e = omega arith

pub one_length : (base m n : ℕ) → text_length base m ≡ text_length base n → m ≡ n
one_length base m n e =
    elim (dec_lt m n) [
      | yes h ↦ absurd (absurd_less (up_to base m) (up_to base n) (longer base m n h) (plus (up_to base m) (up_to base n) e))
      | no h ↦ elim (dec_lt n m) [
        | yes l ↦ absurd (absurd_less (up_to base n) (up_to base m) (longer base n m l) (sym (plus (up_to base m) (up_to base n) e)))
        | no l ↦ omega (arith, h, l)
      ]
    ]
  where
    plus : (x y : ℕ) → x + 12 ≡ y + 12 → x ≡ y
    plus x y e = omega arith

-- ---- what a text is of

module _ {text : List ℕ} {base : ℕ} {bytes : List ℕ} (t : TextOf text base bytes) where
  pub its_base : base_of text ≡ base
  its_base = ap base_of t.is ∙ base_read base bytes t.good

  pub its_length : length text ≡ text_length base (length bytes)
  its_length = ap length t.is ∙ length_read base bytes t.good

  pub its_bytes : decoded_all text base (length bytes) ≡ bytes
  its_bytes = ap (λ (s : List ℕ). decoded_all s base (length bytes)) t.is ∙ bytes_back base bytes t.good

-- one base, and one list of bytes
pub one_base : {text : List ℕ} {a b : ℕ} {xs ys : List ℕ} → TextOf text a xs → TextOf text b ys → a ≡ b
one_base s t = sym (its_base s) ∙ its_base t

pub one_bytes : {text : List ℕ} {a b : ℕ} {xs ys : List ℕ} → TextOf text a xs → TextOf text b ys → xs ≡ ys
one_bytes {text} {a} {b} {xs} {ys} s t =
    let e : a ≡ b = one_base s t in
    let n : length xs ≡ length ys = one_length b (length xs) (length ys) (rw e at (sym (its_length s)) ∙ its_length t) in
    sym (its_bytes s) ∙ rw (e, n) (its_bytes t)

-- ---- the cases of an import

long_enough : (base n : ℕ) → 72 ≤ n → 44 ≤ text_length base n
long_enough base n h = omega arith

pub too_short : {text : List ℕ} → length text < 44 → (base : ℕ) (bytes : List ℕ) → TextOf text base bytes → ⊥
too_short {text} h base bytes t =
    under (length text) (text_length base (length bytes)) h (its_length t) (long_enough base (length bytes) t.good.fits.0)
  where
    under : (x y : ℕ) → x < 44 → x ≡ y → 44 ≤ y → ⊥
    under x y h e l = omega arith

its_size : {text : List ℕ} {base : ℕ} {bytes : List ℕ} → TextOf text base bytes → Has (length text) (base_of text) (length bytes)
its_size t = record { least = t.good.fits.0; most = t.good.fits.1; is = rw (its_base t) (its_length t) }

pub no_length : {text : List ℕ} → ((m : ℕ) → Has (length text) (base_of text) m → ⊥) → (base : ℕ) (bytes : List ℕ) → TextOf text base bytes
    → ⊥
no_length none base bytes t = none (length bytes) (its_size t)

module _ {text : List ℕ} {n : ℕ} (f : Has (length text) (base_of text) n) where
  its_count : (base : ℕ) (bytes : List ℕ) → TextOf text base bytes → length bytes ≡ n
  its_count base bytes t = one_length base (length bytes) n (sym (its_length t) ∙ rw (its_base t) at f.is)

  pub not_legal : (Holds (legal_base n (base_of text)) → ⊥) → (base : ℕ) (bytes : List ℕ) → TextOf text base bytes → ⊥
  not_legal no-base base bytes t =
      no-base (rw (its_base t, ← its_count base bytes t) t.good.legal)

  pub not_standing : (Holds (stands text 0 (exported (base_of text) (decoded_all text (base_of text) n))) → ⊥)
      → (base : ℕ) (bytes : List ℕ) → TextOf text base bytes → ⊥
  not_standing no_text base bytes t =
      let e : decoded_all text base n ≡ bytes = rw (its_count base bytes t) at (its_bytes t) in
      no_text (rw (its_base t, e, ← t.is) (stands_self text))

pub sized : {text : List ℕ} {base n : ℕ} → Has (length text) base n → Holds (legal_base n base) → Sized text base n
sized f legal = record { least = f.least; most = f.most; even = legal.0; ends = legal.1; long = f.is }

-- what stands is the text of the bytes read
pub text_of : {text : List ℕ} {base n : ℕ} → Sized text base n → Holds (stands text 0 (exported base (decoded_all text base n)))
    → TextOf text base (decoded_all text base n)
text_of {text} {base} {n} z h =
    let D = decoded_all text base n in
    let e = length_all text base n in
    let even : base % 16 ≡ 0 = omega (arith, z.even) in
    let long : length text ≡ length (exported base D) = z.long ∙ sym (length_exported base D even ∙ ap (λ (k : ℕ). text_length base k) e) in
    record {
      good = record {
        bytes = bytes_all text base n;
        fits = rw e (z.least, z.most);
        legal = rw e (z.even, z.ends);
      };
      is = stands_whole text (exported base D) h long;
    }

-- ---- the promise admits one outcome

clash : (x y z : ℕ) → x ≡ y → x ≤ z → z < y → ⊥
clash x y z e h l = omega arith

pub one_import : (text l : List ℕ) (r s : Imported) (m n : List ℕ) → Imports text l r m → Imports text l s n → (r ≡ s) × (m ≡ n)
one_import text l r s m n (inl a) (inl b) =
    let e = one_base a.whose b.whose in
    let f = one_bytes a.whose b.whose in
    (a.answer ∙ rw (e, f) (sym b.answer), a.out ∙ rw f (sym b.out))
one_import text l r s m n (inl a) (inr (inl b)) =
    absurd (clash (length a.bytes) (length b.bytes) (length l) (ap length (one_bytes a.whose b.whose)) a.room b.short)
one_import text l r s m n (inl a) (inr (inr b)) = absurd (b.nobody a.base a.bytes a.whose)
one_import text l r s m n (inr (inl a)) (inl b) =
    absurd (clash (length b.bytes) (length a.bytes) (length l) (ap length (one_bytes b.whose a.whose)) b.room a.short)
one_import text l r s m n (inr (inl a)) (inr (inl b)) = (a.answer ∙ sym b.answer, a.out ∙ sym b.out)
one_import text l r s m n (inr (inl a)) (inr (inr b)) = absurd (b.nobody a.base a.bytes a.whose)
one_import text l r s m n (inr (inr a)) (inl b) = absurd (a.nobody b.base b.bytes b.whose)
one_import text l r s m n (inr (inr a)) (inr (inl b)) = absurd (a.nobody b.base b.bytes b.whose)
one_import text l r s m n (inr (inr a)) (inr (inr b)) = (a.answer ∙ sym b.answer, a.out ∙ sym b.out)

-- ---- the length, by halving

-- whoever has a text of this size lies from low to below high
pub record Halves (size base low high : ℕ) : Type 0 where
  pub least : 72 ≤ low
  pub order : low < high
  pub most : high ≤ 16777217
  pub within : (m : ℕ) → Has size base m → (low ≤ m) × (m < high)

pub halves_all : (size base : ℕ) → Halves size base 72 16777217
halves_all size base = record { least = omega arith; order = omega arith; most = omega arith; within = λ m h. (h.least, omega (arith, h.most)) }

shorter : (base m n size : ℕ) → size ≡ text_length base m → text_length base n ≤ size → m < n → ⊥
shorter base m n size e h l = under (up_to base m) (up_to base n) (longer base m n l) e h
  where
    under : (x y : ℕ) → x < y → size ≡ x + 12 → y + 12 ≤ size → ⊥
    under x y l e h = omega arith

no_longer : (base m n size : ℕ) → size ≡ text_length base m → size < text_length base n → n ≤ m → ⊥
no_longer base m n size e h l = over_it (up_to base m) (up_to base n) (no_shorter base n m l) e h
  where
    over_it : (x y : ℕ) → y ≤ x → size ≡ x + 12 → size < y + 12 → ⊥
    over_it x y l e h = omega arith

module _ {size base low high : ℕ} (p : Halves size base low high) (mid : ℕ) (h : low < mid) (l : mid < high) where
  pub halve_low : text_length base mid ≤ size → Halves size base mid high
  halve_low fits =
      record {
        least = omega (arith, p.least, h);
        order = l;
        most = p.most;
        within = λ m h.
            (elim (dec_lt m mid) [ yes u ↦ absurd (shorter base m mid size h.is fits u) | no u ↦ omega (arith, u) ], (p.within m h).1);
      }

  pub halve_high : size < text_length base mid → Halves size base low mid
  halve_high past =
      record {
        least = p.least;
        order = h;
        most = omega (arith, p.most, l);
        within = λ m h.
            ((p.within m h).0, elim (dec_lt m mid) [ yes u ↦ u | no u ↦ absurd (no_longer base m mid size h.is past (omega (arith, u))) ]);
      }

pub halved_none : {size base low high : ℕ} → Halves size base low high → high ≤ low + 1 → (text_length base low ≡ size → ⊥)
    → (m : ℕ) → Has size base m → ⊥
halved_none {low = low} p end other m h =
    let w = p.within m h in
    let is : m ≡ low = omega (arith, w.0, w.1, end) in
    other (sym (rw is at h.is))

pub halved : {size base low high : ℕ} → Halves size base low high → text_length base low ≡ size → Has size base low
halved p is = record { least = p.least; most = omega (arith, p.order, p.most); is = sym is }
