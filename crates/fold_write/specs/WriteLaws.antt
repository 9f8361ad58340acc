-- The walks that write go on as the folded sheet is defined.
-- Assumes nothing.
use Rattle.std.specs.Prelude.{ℕ, ◌+◌, ◌≤◌, ◌<◌, List, ◌≡◌, length}
use Rattle.std.proofs.Math.Path.{refl}
use Rattle.std.proofs.Common.{ap, ◌∙◌, arith}
use Rattle.fold_cells.specs.Cells.{last, Unset, Shows, Bounded}
use Rattle.fold_tally.specs.declared.Tally.{Tally}
use Rattle.fold_tally.specs.Tally.{tally_to, through, Small}
use Rattle.fold_tally.specs.TallyLaws.{gap_tally, through_tally, tally_small, small_up}
use Rattle.fold_sheet.specs.Placing.{out_to, placed_cells, Safe, Room}
use Rattle.fold_sheet.specs.WindowLaws.{gap_out, cells_out, safe_at}
use Rattle.fold_write.specs.Write.{AllSafe, Gap}

module _ (m : ℕ) (f : ℕ → ℕ) (xs : List ℕ) where
  -- t and ys are the count and the buffer before position k
  pub record Now (k : ℕ) (t : Tally) (ys : List ℕ) : Type 0 where
    pub count : t ≡ tally_to f k
    pub out : ys ≡ out_to m f k xs

  pub now_start : (t : Tally) → t ≡ record { run = 0; runs = 0; bytes = 0 } → Now 0 t xs
  unfolding tally_to out_to
  now_start t e = record { count = e; out = refl }

  pub now_gap : (at base : ℕ) (t r : Tally) (ys zs : List ℕ) → Now at t ys → Unset f at base → Gap m at base t ys r zs → Now base r zs
  now_gap at base t r ys zs n u g =
      record {
        count = gap_tally f at base t r u n.count (g.count, g.still);
        out = gap_out m f xs at base zs u (λ h. g.more h ∙ rw (n.count, n.out)) (λ h. g.same h ∙ n.out);
      }

  pub now_cells : (base : ℕ) (t r : Tally) (cs ys zs : List ℕ) → Now base t ys → Shows cs base f → r ≡ through cs (length cs) t
      → zs ≡ placed_cells m base cs (length cs) t ys → Now (base + length cs) r zs
  now_cells base t r cs ys zs n s e d =
      record {
        count = e ∙ ap (through cs (length cs)) n.count ∙ through_tally f cs base (length cs) s (omega arith);
        out = d ∙ rw (n.count, n.out) (cells_out m f xs cs base (length cs) s (omega arith));
      }

  module _ (b : Bounded f) (n : ℕ) (room : Room m f n) where
    pub safe_gap : (at base : ℕ) (t : Tally) (ys : List ℕ) → Now at t ys → Unset f at base → at < base → Safe n m at 0 t
    safe_gap at base t ys w u h = rw w.count (rw (u.none at (omega arith) h) at (safe_at f b m n room at))

    pub all_safe : (base : ℕ) (t : Tally) (cs ys : List ℕ) → Now base t ys → Shows cs base f → base ≤ last → length cs ≤ 65536
        → AllSafe n m base cs t
    all_safe base t cs ys w s low long =
        rw w.count
        (record {
          safe = λ i h. rw (s.cell i h, through_tally f cs base i s (omega arith)) (safe_at f b m n room (base + i));
          small = small_up (tally_small f base) 1099511627776 (omega arith);
          low = low;
          long = long;
        })

  pub now_small : (k : ℕ) (t : Tally) (ys : List ℕ) → Now k t ys → k ≤ 4295098367 → Small t 1099511627776
  now_small k t ys w h = rw w.count (small_up (tally_small f k) 1099511627776 (omega arith))
