-- Every module that is read lies within its bounds, so that no sum over its numbers runs over.
-- Assumes nothing.
use Rattle.std.specs.Prelude.{ℕ, ◌+◌, ◌-◌, ◌*◌, ◌^◌, ◌≤◌, ◌<◌, Bool, true, false, cond, List, ◌≡◌, refl, ltb, eqb, length}
use Rattle.std.proofs.Common.{inl, arith}
use Rattle.std.proofs.Math.Logic.{inr}
use Rattle.facts.specs.Fact.{Fact, ◌≡?◌, Holds, test}
use Rattle.facts.specs.RulesLaws.{by_test, by_cond}
use Rattle.words.specs.Le.{le, Bytes}
use Rattle.words.specs.LeLaws.{le_lt}
use Rattle.inside_rows.specs.declared.Module.{Module}
use Rattle.inside_rows.specs.Rows.{no_module, bad_module, rows_fit, judged}
use Rattle.inside_modules.specs.Modules.{counted, kind_fits, pe_module, from_kind}
use Rattle.inside_modules.specs.ModulesFit.{Fits}
use Rattle.inside_modules.specs.Modules.{room_fits, from_optional, pe_fits, from_pe, dos_fits, pe_of, te_fits, te_module, te_of, module_of}

module _ (xs : List ℕ) (bytes : Bytes xs) (long : length xs ≤ 16777216) where
  bad_fits : Fits xs bad_module
  bad_fits =
      record {
        long = long;
        within = omega arith;
        pe_up = omega arith;
        base_up = omega arith;
        base_within = omega arith;
        rows_within = omega arith;
        dos = λ k. absurd (omega arith);
        stripped_small = omega arith;
        dir_small = omega arith;
        size_small = omega arith;
        headed = inl refl;
      }

  pub no_fits : Fits xs no_module
  no_fits =
      record {
        long = long;
        within = omega arith;
        pe_up = omega arith;
        base_up = omega arith;
        base_within = omega arith;
        rows_within = omega arith;
        dos = λ k. absurd (omega arith);
        stripped_small = omega arith;
        dir_small = omega arith;
        size_small = omega arith;
        headed = inl refl;
      }

  judged_fits : (m : Module) → Fits xs m → Fits xs (judged xs m)
  unfolding judged
  judged_fits m fits = by_test (Fits xs) (rows_fit xs m) _ _ (λ h. fits) (λ h. bad_fits)

  small : (at : ℕ) → le 4 xs at < 4294967296
  small at = omega (arith, le_lt 4 xs at bytes)

  counted_small : (count at : ℕ) → counted xs count at < 4294967296
  counted_small count at = by_cond (λ (n : ℕ). n < 4294967296) (ltb 5 count) _ _ (λ h. small at) (λ h. omega arith)

  kind_fits_lem : (lo hi opt soh rows fixed b w : ℕ) → hi ≤ length xs → lo + 64 ≤ hi → lo + 24 ≤ opt → opt + soh + 40 * rows ≤ hi
      → b + w ≤ fixed → Fits xs (from_kind xs lo hi opt soh rows fixed b w)
  unfolding from_kind
  kind_fits_lem lo hi opt soh rows fixed b w within dos up room head =
      by_test (Fits xs) (kind_fits xs opt soh fixed) _ _
      (λ h. judged_fits (pe_module xs lo hi opt soh rows fixed b w)
      (record {
        long = long;
        within = within;
        pe_up = omega arith;
        base_up = omega arith;
        base_within = omega (arith, h.0);
        rows_within = room;
        dos = λ k. dos;
        stripped_small = omega arith;
        dir_small = counted_small (le 4 xs (opt + (fixed - 4))) (opt + fixed + 40);
        size_small = counted_small (le 4 xs (opt + (fixed - 4))) (opt + fixed + 44);
        headed = inr (inl refl);
      }))
      (λ h. bad_fits)

  optional_fits : (lo hi opt soh rows : ℕ) → hi ≤ length xs → lo + 64 ≤ hi → lo + 24 ≤ opt → Fits xs (from_optional xs lo hi opt soh rows)
  unfolding from_optional
  optional_fits lo hi opt soh rows within dos up =
      by_test (Fits xs) (room_fits hi opt soh rows) _ _
      (λ h. by_test (Fits xs) (le 2 xs opt ≡? 0x10B) _ _
      (λ e. kind_fits_lem lo hi opt soh rows 96 28 4 within dos up h.1 (omega arith))
      (λ e. by_test (Fits xs) (le 2 xs opt ≡? 0x20B) _ _
      (λ f. kind_fits_lem lo hi opt soh rows 112 24 8 within dos up h.1 (omega arith)) (λ f. bad_fits)))
      (λ h. bad_fits)

  pe_fits_lem : (lo hi pe : ℕ) → hi ≤ length xs → lo + 64 ≤ hi → lo ≤ pe → Fits xs (from_pe xs lo hi pe)
  unfolding from_pe
  pe_fits_lem lo hi pe within dos up =
      by_test (Fits xs) (pe_fits xs hi pe) _ _
      (λ h. optional_fits lo hi (pe + 24) (le 2 xs (pe + 20)) (le 2 xs (pe + 6)) within dos (omega arith)) (λ h. bad_fits)

  dos_fits_lem : (lo hi : ℕ) → hi ≤ length xs → Fits xs (pe_of xs lo hi)
  unfolding pe_of
  dos_fits_lem lo hi within =
      by_test (Fits xs) (dos_fits xs lo hi) _ _ (λ h. pe_fits_lem lo hi (lo + le 4 xs (lo + 60)) within h.0 (omega arith)) (λ h. bad_fits)

  te_fits_lem : (lo hi : ℕ) → hi ≤ length xs → Fits xs (te_of xs lo hi)
  unfolding te_of
  te_fits_lem lo hi within =
      by_test (Fits xs) (te_fits xs lo hi) _ _
      (λ h. judged_fits (te_module xs lo hi)
      (record {
        long = long;
        within = within;
        pe_up = omega arith;
        base_up = omega arith;
        base_within = omega arith;
        rows_within = h.1.1;
        dos = λ k. absurd (omega arith);
        stripped_small = omega (arith, le_lt 2 xs (lo + 6) bytes);
        dir_small = small (lo + 24);
        size_small = small (lo + 28);
        headed = inr (inr refl);
      }))
      (λ h. bad_fits)

  pub module_fits : (t lo hi : ℕ) → hi ≤ length xs → Fits xs (module_of xs t lo hi)
  unfolding module_of
  module_fits t lo hi within =
      by_cond (Fits xs) (eqb t 0x10) _ _ (λ e. dos_fits_lem lo hi within)
      (λ e. by_cond (Fits xs) (eqb t 0x12) _ _ (λ f. te_fits_lem lo hi within) (λ f. no_fits))
