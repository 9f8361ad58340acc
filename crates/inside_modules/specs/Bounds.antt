-- Which bytes a module has, whatever the image holds.
-- Assumes nothing.
use Rattle.std.specs.Prelude.{ℕ, ◌+◌, ◌*◌, ◌≤◌, ◌<◌, List, ◌⊎◌, ◌≡◌, refl, eqb}
use Rattle.std.proofs.Math.Logic.{inl, inr}
use Rattle.std.proofs.Common.{arith}
use Rattle.facts.specs.Fact.{◌≡?◌}
use Rattle.facts.specs.RulesLaws.{by_test, by_cond}
use Rattle.words.specs.Le.{le}
use Rattle.inside_rows.specs.declared.Module.{Module}
use Rattle.inside_rows.specs.Rows.{no_module, bad_module, rows_fit, judged, pe_kind, te_kind, module_number}
use Rattle.inside_modules.specs.Modules.{kind_fits, pe_module, from_kind}
use Rattle.inside_modules.specs.Modules.{room_fits, from_optional, pe_fits, from_pe, dos_fits, pe_of, te_fits, te_module, te_of, module_of}

-- no module, and so no items
abbrev pub Empty : Module → Type 0
Empty m = (m ≡ no_module) ⊎ (m ≡ bad_module)

-- it lies at lo..hi-1, its headers in their order
pub record Lies (lo hi : ℕ) (m : Module) : Type 0 where
  pub low : m.lo ≡ lo
  pub high : m.hi ≡ hi
  pub pe_up : m.lo ≤ m.pe
  pub base_up : m.pe ≤ m.base
  pub base_within : m.base + m.width ≤ m.table
  -- there are bytes before the image base, and after it
  pub some_before : m.pe < m.base
  pub some_after : m.base + m.width < m.table
  pub rows_within : m.table + 40 * m.rows ≤ m.hi
  pub width : (m.width ≡ 4) ⊎ (m.width ≡ 8)
  pub kind : (module_number m.kind ≡ pe_kind) ⊎ (module_number m.kind ≡ te_kind)

bad_empty : Empty bad_module
bad_empty = inr refl

module _ (xs : List ℕ) (lo hi : ℕ) where
  -- either of the two
  abbrev Bounded : Module → Type 0
  Bounded m = Empty m ⊎ Lies lo hi m

  judged_lies : (m : Module) → Lies lo hi m → Bounded (judged xs m)
  unfolding judged
  judged_lies m lies = by_test Bounded (rows_fit xs m) _ _ (λ h. inr lies) (λ h. inl bad_empty)

  kind_lies : (opt soh rows fixed b w : ℕ) → lo + 24 ≤ opt → opt + soh + 40 * rows ≤ hi → b + w < fixed → (w ≡ 4) ⊎ (w ≡ 8)
      → Bounded (from_kind xs lo hi opt soh rows fixed b w)
  unfolding from_kind
  kind_lies opt soh rows fixed b w up room head width =
      by_test Bounded (kind_fits xs opt soh fixed) _ _
      (λ h. judged_lies (pe_module xs lo hi opt soh rows fixed b w)
      (record {
        low = refl;
        high = refl;
        pe_up = omega arith;
        base_up = omega arith;
        base_within = omega (arith, h.0);
        some_before = omega arith;
        some_after = omega (arith, h.0);
        rows_within = room;
        width = width;
        kind = inl refl;
      }))
      (λ h. inl bad_empty)

  optional_lies : (opt soh rows : ℕ) → lo + 24 ≤ opt → Bounded (from_optional xs lo hi opt soh rows)
  unfolding from_optional
  optional_lies opt soh rows up =
      by_test Bounded (room_fits hi opt soh rows) _ _
      (λ h. by_test Bounded (le 2 xs opt ≡? 0x10B) _ _
      (λ e. kind_lies opt soh rows 96 28 4 up h.1 (omega arith) (inl refl))
      (λ e. by_test Bounded (le 2 xs opt ≡? 0x20B) _ _
      (λ f. kind_lies opt soh rows 112 24 8 up h.1 (omega arith) (inr refl)) (λ f. inl bad_empty)))
      (λ h. inl bad_empty)

  pe_lies : (pe : ℕ) → lo ≤ pe → Bounded (from_pe xs lo hi pe)
  unfolding from_pe
  pe_lies pe up =
      by_test Bounded (pe_fits xs hi pe) _ _
      (λ h. optional_lies (pe + 24) (le 2 xs (pe + 20)) (le 2 xs (pe + 6)) (omega arith)) (λ h. inl bad_empty)

  dos_lies : Bounded (pe_of xs lo hi)
  unfolding pe_of
  dos_lies = by_test Bounded (dos_fits xs lo hi) _ _ (λ h. pe_lies (lo + le 4 xs (lo + 60)) (omega arith)) (λ h. inl bad_empty)

  te_lies : Bounded (te_of xs lo hi)
  unfolding te_of
  te_lies =
      by_test Bounded (te_fits xs lo hi) _ _
      (λ h. judged_lies (te_module xs lo hi)
      (record {
        low = refl;
        high = refl;
        pe_up = omega arith;
        base_up = omega arith;
        base_within = omega arith;
        some_before = omega arith;
        some_after = omega arith;
        rows_within = h.1.1;
        width = inr refl;
        kind = inr refl;
      }))
      (λ h. inl bad_empty)

  -- every module that is read
  pub module_lies : (t : ℕ) → Empty (module_of xs t lo hi) ⊎ Lies lo hi (module_of xs t lo hi)
  unfolding module_of
  module_lies t =
      by_cond Bounded (eqb t 0x10) _ _ (λ e. dos_lies) (λ e. by_cond Bounded (eqb t 0x12) _ _ (λ f. te_lies) (λ f. inl (inl refl)))
