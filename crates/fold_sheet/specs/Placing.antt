-- How the folded sheet is written, position by position.
-- Assumes nothing.
use Rattle.std.specs.Prelude.{ℕ, zero, suc, ◌+◌, ◌-◌, ◌*◌, ◌≤◌, ◌<◌, List, ◌≡◌, length, get_or, set}
use Rattle.words.specs.Put.{put}
use Rattle.answers.specs.declared.Identity.{Identity}
use Rattle.fold_tally.specs.declared.Tally.{Tally}
use Rattle.fold_tally.specs.Tally.{tally_to, tally_of, through, stepped}
use Rattle.fold_sheet.specs.Folded.{size_of}

unfoldable pub put_header : List ℕ → Identity → ℕ → List ℕ
put_header xs i m = put 2 (put 2 (put 4 (put 8 xs 0 i.image) 8 i.revision) 12 m) 14 i.extended

unfoldable pub put_entry : List ℕ → ℕ → ℕ → ℕ → ℕ → List ℕ
put_entry xs at start size body = put 2 (put 2 (put 4 xs at start) (at + 4) size) (at + 6) body

-- at position k, where c is set, after a run of so many
abbrev pub placed : ℕ → ℕ → Tally → ℕ → ℕ → List ℕ → List ℕ
placed m k t zero zero xs = xs
placed m k t zero (suc r) xs = put_entry xs (16 + 8 * t.runs) (k - t.run) t.run (16 + 8 * m + (t.bytes - t.run))
placed m k t (suc b) r xs = set xs (16 + 8 * m + t.bytes) b

-- all before position k
unfoldable pub out_to : ℕ → (ℕ → ℕ) → ℕ → List ℕ → List ℕ
out_to m f zero xs = xs
out_to m f (suc k) xs = placed m k (tally_to f k) (f k) (tally_to f k).run (out_to m f k xs)

-- the same through i cells, the first of which stands for the position `base`
unfoldable pub placed_cells : ℕ → ℕ → List ℕ → ℕ → Tally → List ℕ → List ℕ
placed_cells m base ys zero t xs = xs
placed_cells m base ys (suc i) t xs =
    placed m (base + i) (through ys i t) (get_or ys i 0) (through ys i t).run (placed_cells m base ys i t xs)

-- what is written at position k has its place in n bytes, and its numbers fit
pub record Safe (n m k c : ℕ) (t : Tally) : Type 0 where
  pub cell : c ≤ 256
  pub size : 16 + 8 * m + t.bytes ≤ 65535
  pub run_k : t.run ≤ k
  pub run_bytes : t.run ≤ t.bytes
  pub runs : t.runs ≤ 256
  pub some : (c ≡ 0 → ⊥) → 16 + 8 * m + t.bytes < n
  pub ends : c ≡ 0 → (t.run ≡ 0 → ⊥) → (16 + 8 * t.runs + 8 ≤ n) × (k - t.run < 4294967296)

-- the sheet has room in n bytes
pub record Room (m : ℕ) (f : ℕ → ℕ) (n : ℕ) : Type 0 where
  pub count : m ≡ (tally_of f).runs
  pub few : m ≤ 256
  pub short : size_of f ≤ 65535
  pub fits : size_of f ≤ n
