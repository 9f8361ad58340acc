-- Which bytes a module is read from: its headers, but for the image base.
-- Assumes nothing.
use Rattle.std.specs.Prelude.{ℕ, ◌+◌, ◌-◌, ◌*◌, ◌≤◌, ◌<◌, Bool, true, false, List, ◌≡◌, eqb}
use Rattle.std.proofs.Math.Bool.{cond}
use Rattle.std.proofs.Math.Path.{refl, sym, subst}
use Rattle.std.proofs.Common.{◌∙◌, arith, le-ltb}
use Rattle.std.proofs.Math.Decide.{dec_lt}
use Rattle.facts.specs.Fact.{◌≡?◌, Holds, test}
use Rattle.facts.specs.FactLaws.{passes, fails}
use Rattle.facts.specs.RulesLaws.{by_test}
use Rattle.words.specs.Le.{le, Alike}
use Rattle.words.specs.LeLaws.{le_in, alike_in}
use Rattle.inside_rows.specs.declared.Module.{Module}
use Rattle.inside_rows.specs.Rows.{no_module, bad_module, rows_fit, judged, bad_kind, pe_kind, module_number}
use Rattle.inside_rows.specs.RowsLaws.{rows_fit_cong}
use Rattle.inside_modules.specs.Modules.{counted, kind_fits, pe_module, from_kind}
use Rattle.inside_modules.specs.Modules.{room_fits, from_optional, pe_fits, from_pe, dos_fits, pe_of, te_fits, te_module, te_of, module_of}

-- a and b agree on the headers of m: a PE32 module's first, what stands before the image base, and what stands after it
pub record Seen (a b : List ℕ) (m : Module) : Type 0 where
  pub dos : module_number m.kind ≡ pe_kind → Alike a b m.lo 64
  pub before : Alike a b m.pe (m.base - m.pe)
  pub after : Alike a b (m.base + m.width) (m.table + 40 * m.rows - (m.base + m.width))

module _ (a b : List ℕ) (lo hi : ℕ) where
  -- a module that isn't broken is r, where b has its headers too
  abbrev Is : Module → Module → Type 0
  Is r m = (module_number m.kind ≡ bad_kind → ⊥) → Seen a b m → m ≡ r

  bad : (r : Module) → Is r bad_module
  bad r ok seen = absurd (ok refl)

  -- ---- PE32

  counted_cong : (count at : ℕ) → (5 < count → le 4 a at ≡ le 4 b at) → counted a count at ≡ counted b count at
  counted_cong count at same =
      elim (dec_lt 5 count) [
        | yes l ↦ rw (same l)
        | no l ↦ let e = le-ltb 5 count (omega arith) in rw e
      ]

  module _ (opt soh rows fixed at w : ℕ) where
    abbrev made : List ℕ → Module
    made xs = pe_module xs lo hi opt soh rows fixed at w

    abbrev kind_of : List ℕ → Module
    kind_of xs = from_kind xs lo hi opt soh rows fixed at w

    -- what isn't broken is the module itself
    kind_shape : (module_number (kind_of a).kind ≡ bad_kind → ⊥)
        → (module_number (kind_of a).kind ≡ pe_kind) × ((kind_of a).lo ≡ lo) × ((kind_of a).pe ≡ opt - 24) × ((kind_of a).base ≡ opt + at)
    unfolding from_kind judged
    kind_shape =
        by_test Shape (kind_fits a opt soh fixed) _ _
        (λ h. by_test Shape (rows_fit a (made a)) _ _ (λ f ok. (refl, refl, refl, refl)) (λ f ok. absurd (ok refl)))
        (λ h ok. absurd (ok refl))
      where
        Shape : Module → Type 0
        Shape m = (module_number m.kind ≡ bad_kind → ⊥) → (module_number m.kind ≡ pe_kind) × (m.lo ≡ lo) × (m.pe ≡ opt - 24) × (m.base ≡ opt + at)

    kind_cong : at + w + 4 ≤ fixed → Is (kind_of b) (kind_of a)
    unfolding from_kind judged
    kind_cong head =
        by_test (Is (kind_of b)) (kind_fits a opt soh fixed) _ _
        (λ h. by_test (Is (kind_of b)) (rows_fit a (made a)) _ _ (λ f ok seen. same h f seen.after) (λ f. bad (kind_of b)))
        (λ h. bad (kind_of b))
      where
        same : Holds (kind_fits a opt soh fixed) → Holds (rows_fit a (made a))
            → Alike a b (opt + at + w) (opt + soh + 40 * rows - (opt + at + w))
            → made a ≡ cond (test (kind_fits b opt soh fixed)) (cond (test (rows_fit b (made b))) (made b) bad_module) bad_module
        same fits held after =
            let count : le 4 a (opt + (fixed - 4)) ≡ le 4 b (opt + (fixed - 4)) =
            le_in after 4 (opt + (fixed - 4)) (omega arith) (omega (arith, fits.0)) in
            let fits' : Holds (kind_fits b opt soh fixed) = rw count at fits in
            let dir = counted_cong (le 4 a (opt + (fixed - 4))) (opt + fixed + 40)
            (λ l. le_in after 4 (opt + fixed + 40) (omega arith) (omega (arith, fits.1))) in
            let size = counted_cong (le 4 a (opt + (fixed - 4))) (opt + fixed + 44)
            (λ l. le_in after 4 (opt + fixed + 44) (omega arith) (omega (arith, fits.1))) in
            let table = alike_in after (opt + soh) (40 * rows) (omega (arith, fits.0)) (omega (arith, fits.0)) in
            let held' = rows_fit_cong a b (made a) table held in
            rw (passes (kind_fits b opt soh fixed) fits', passes (rows_fit b (made b)) held', dir, size, count)

  optional_shape : (opt soh rows : ℕ) → let m = from_optional a lo hi opt soh rows in
      (module_number m.kind ≡ bad_kind → ⊥) → (module_number m.kind ≡ pe_kind) × (m.lo ≡ lo) × (m.pe ≡ opt - 24) × (opt + 24 ≤ m.base)
  unfolding from_optional
  optional_shape opt soh rows =
      by_test Shape (room_fits hi opt soh rows) _ _
      (λ h. by_test Shape (le 2 a opt ≡? 0x10B) _ _ (λ e ok. kind 96 28 4 (omega arith) ok)
      (λ e. by_test Shape (le 2 a opt ≡? 0x20B) _ _ (λ f ok. kind 112 24 8 (omega arith) ok) (λ f ok. absurd (ok refl))))
      (λ h ok. absurd (ok refl))
    where
      Shape : Module → Type 0
      Shape m = (module_number m.kind ≡ bad_kind → ⊥) → (module_number m.kind ≡ pe_kind) × (m.lo ≡ lo) × (m.pe ≡ opt - 24) × (opt + 24 ≤ m.base)

      kind : (fixed at w : ℕ) → 24 ≤ at → Shape (from_kind a lo hi opt soh rows fixed at w)
      kind fixed at w h ok = let (k, l, p, e) = kind_shape opt soh rows fixed at w ok in (k, l, p, omega arith)

  optional_cong : (opt soh rows : ℕ) → 24 ≤ opt → Is (from_optional b lo hi opt soh rows) (from_optional a lo hi opt soh rows)
  unfolding from_optional
  optional_cong opt soh rows up =
      by_test (Is (from_optional b lo hi opt soh rows)) (room_fits hi opt soh rows) _ _
      (λ h. by_test (Is (from_optional b lo hi opt soh rows)) (le 2 a opt ≡? 0x10B) _ _
      (λ e ok seen.
      let mark : le 2 b opt ≡ 0x10B = sym (looks 96 28 4 (omega arith) ok seen) ∙ e in
      rw (passes (room_fits hi opt soh rows) h, passes (le 2 b opt ≡? 0x10B) mark) (kind_cong opt soh rows 96 28 4 (omega arith) ok seen))
      (λ e. by_test (Is (from_optional b lo hi opt soh rows)) (le 2 a opt ≡? 0x20B) _ _
      (λ f ok seen.
      let mark : le 2 b opt ≡ 0x20B = sym (looks 112 24 8 (omega arith) ok seen) ∙ f in
      rw (
        passes (room_fits hi opt soh rows) h,
        fails (le 2 b opt ≡? 0x10B) (λ z. omega arith),
        passes (le 2 b opt ≡? 0x20B) mark,
      ) (kind_cong opt soh rows 112 24 8 (omega arith) ok seen))
      (λ f. bad (from_optional b lo hi opt soh rows))))
      (λ h. bad (from_optional b lo hi opt soh rows))
    where
      looks : (fixed at w : ℕ) → 24 ≤ at → (module_number (from_kind a lo hi opt soh rows fixed at w).kind ≡ bad_kind → ⊥)
          → Seen a b (from_kind a lo hi opt soh rows fixed at w) → le 2 a opt ≡ le 2 b opt
      looks fixed at w h ok seen =
          let (k, l, p, e) = kind_shape opt soh rows fixed at w ok in
          le_in seen.before 2 opt (omega arith) (omega arith)

  pe_shape : (pe : ℕ) → let m = from_pe a lo hi pe in (module_number m.kind ≡ bad_kind → ⊥) → (module_number m.kind ≡ pe_kind) × (m.lo ≡ lo)
  unfolding from_pe
  pe_shape pe =
      by_test (λ (m : Module). (module_number m.kind ≡ bad_kind → ⊥) → (module_number m.kind ≡ pe_kind) × (m.lo ≡ lo)) (pe_fits a hi pe) _ _
      (λ h ok. let (k, l, p, e) = optional_shape (pe + 24) (le 2 a (pe + 20)) (le 2 a (pe + 6)) ok in (k, l)) (λ h ok. absurd (ok refl))

  pe_cong : (pe : ℕ) → Is (from_pe b lo hi pe) (from_pe a lo hi pe)
  unfolding from_pe
  pe_cong pe =
      by_test (Is (from_pe b lo hi pe)) (pe_fits a hi pe) _ _
      (λ h ok seen.
      let (k, l, p, e) = optional_shape (pe + 24) (le 2 a (pe + 20)) (le 2 a (pe + 6)) ok in
      let mark : le 4 a pe ≡ le 4 b pe = le_in seen.before 4 pe (omega arith) (omega arith) in
      let soh : le 2 a (pe + 20) ≡ le 2 b (pe + 20) = le_in seen.before 2 (pe + 20) (omega arith) (omega arith) in
      let rows : le 2 a (pe + 6) ≡ le 2 b (pe + 6) = le_in seen.before 2 (pe + 6) (omega arith) (omega arith) in
      let fits : Holds (pe_fits b hi pe) = rw mark at h in
      rw (passes (pe_fits b hi pe) fits, ← soh, ← rows) (optional_cong (pe + 24) (le 2 a (pe + 20)) (le 2 a (pe + 6)) (omega arith) ok seen))
      (λ h. bad (from_pe b lo hi pe))

  dos_cong : Is (pe_of b lo hi) (pe_of a lo hi)
  unfolding pe_of
  dos_cong =
      by_test (Is (pe_of b lo hi)) (dos_fits a lo hi) _ _
      (λ h ok seen.
      let (k, l) = pe_shape (lo + le 4 a (lo + 60)) ok in
      let dos = seen.dos k in
      let mark : le 2 a lo ≡ le 2 b lo = le_in dos 2 lo (omega arith) (omega arith) in
      let next : le 4 a (lo + 60) ≡ le 4 b (lo + 60) = le_in dos 4 (lo + 60) (omega arith) (omega arith) in
      let fits : Holds (dos_fits b lo hi) = rw mark at h in
      rw (passes (dos_fits b lo hi) fits, ← next) (pe_cong (lo + le 4 a (lo + 60)) ok seen))
      (λ h. bad (pe_of b lo hi))

  -- ---- TE

  te_cong : Is (te_of b lo hi) (te_of a lo hi)
  unfolding te_of judged
  te_cong =
      by_test (Is (te_of b lo hi)) (te_fits a lo hi) _ _
      (λ h. by_test (Is (te_of b lo hi)) (rows_fit a (te_module a lo hi)) _ _
      (λ f ok seen. same h f seen.before seen.after) (λ f. bad (te_of b lo hi)))
      (λ h. bad (te_of b lo hi))
    where
      same : Holds (te_fits a lo hi) → Holds (rows_fit a (te_module a lo hi)) → Alike a b lo (lo + 16 - lo)
          → Alike a b (lo + 16 + 8) (lo + 40 + 40 * le 1 a (lo + 4) - (lo + 16 + 8))
          → te_module a lo hi
          ≡ cond (test (te_fits b lo hi)) (cond (test (rows_fit b (te_module b lo hi))) (te_module b lo hi) bad_module) bad_module
      same fits held before after =
          let mark : le 2 a lo ≡ le 2 b lo = le_in before 2 lo (omega arith) (omega arith) in
          let rows : le 1 a (lo + 4) ≡ le 1 b (lo + 4) = le_in before 1 (lo + 4) (omega arith) (omega arith) in
          let cut : le 2 a (lo + 6) ≡ le 2 b (lo + 6) = le_in before 2 (lo + 6) (omega arith) (omega arith) in
          let dir : le 4 a (lo + 24) ≡ le 4 b (lo + 24) = le_in after 4 (lo + 24) (omega arith) (omega arith) in
          let size : le 4 a (lo + 28) ≡ le 4 b (lo + 28) = le_in after 4 (lo + 28) (omega arith) (omega arith) in
          let fits' : Holds (te_fits b lo hi) = rw (mark, rows) at fits in
          let is : te_module a lo hi ≡ te_module b lo hi = rw (rows, cut, dir, size) in
          let table = alike_in after (lo + 40) (40 * le 1 a (lo + 4)) (omega arith) (omega arith) in
          let held' : Holds (rows_fit b (te_module b lo hi)) =
          subst (λ (m : Module). Holds (rows_fit b m)) is (rows_fit_cong a b (te_module a lo hi) table held) in
          rw (passes (te_fits b lo hi) fits', passes (rows_fit b (te_module b lo hi)) held') is

-- images that agree on the headers of a module that isn't broken have the same one there
pub module_cong : (a b : List ℕ) (t lo hi : ℕ) → let m = module_of a t lo hi in
    (module_number m.kind ≡ bad_kind → ⊥) → Seen a b m → m ≡ module_of b t lo hi
unfolding module_of
module_cong a b t lo hi = go (eqb t 0x10) (eqb t 0x12)
  where
    go : (s r : Bool) → let m = cond s (pe_of a lo hi) (cond r (te_of a lo hi) no_module) in
        (module_number m.kind ≡ bad_kind → ⊥) → Seen a b m → m ≡ cond s (pe_of b lo hi) (cond r (te_of b lo hi) no_module)
    go true r = dos_cong a b lo hi
    go false true = te_cong a b lo hi
    go false false = λ ok seen. refl
