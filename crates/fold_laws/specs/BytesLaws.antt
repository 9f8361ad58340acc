-- The folded sheet is bytes.
-- Assumes nothing.
use Prim.Native.Nat.{ℕ, zero, suc, ◌+◌, ◌-◌, ◌*◌, ◌≤◌, ◌<◌}
use Rattle.std.specs.Prelude.{List, [], ◌∷◌, ◌++◌}
use Rattle.std.proofs.Common.{arith}
use Rattle.words.specs.Le.{Bytes}
use Rattle.words.specs.Number.{number}
use Rattle.words.specs.NumberLaws.{bytes_append, bytes_number}
use Rattle.answers.specs.declared.Identity.{Identity}
use Rattle.fold_cells.specs.Cells.{last, Bounded}
use Rattle.fold_tally.specs.declared.Tally.{Tally}
use Rattle.fold_tally.specs.Tally.{tally_to, tally_of}
use Rattle.fold_sheet.specs.Folded.{header, entry, ending, entries_to, body, bodies_to, sheet_of}

bytes_none : Bytes []
unfolding Bytes
bytes_none = λ i. omega arith

bytes_entry : (start size at : ℕ) → Bytes (entry start size at)
unfolding entry
bytes_entry start size at =
    bytes_append (number 4 start) (number 2 size ++ number 2 at) (bytes_number 4 start)
    (bytes_append (number 2 size) (number 2 at) (bytes_number 2 size) (bytes_number 2 at))

bytes_ending : (m k : ℕ) (t : Tally) (c r : ℕ) → Bytes (ending m k t c r)
bytes_ending m k t zero zero = bytes_none
bytes_ending m k t zero (suc r) = bytes_entry (k - t.run) t.run (16 + 8 * m + (t.bytes - t.run))
bytes_ending m k t (suc b) r = bytes_none

bytes_body : (c : ℕ) → c ≤ 256 → Bytes (body c)
unfolding Bytes
bytes_body zero h i = omega arith
bytes_body (suc b) h zero = h
bytes_body (suc b) h (suc i) = omega arith

module _ (i : Identity) (f : ℕ → ℕ) (bounded : Bounded f) where
  bytes_entries : (m k : ℕ) → Bytes (entries_to m f k)
  unfolding entries_to
  bytes_entries m zero = bytes_none
  bytes_entries m (suc k) =
      bytes_append (entries_to m f k) (ending m k (tally_to f k) (f k) (tally_to f k).run) (bytes_entries m k)
      (bytes_ending m k (tally_to f k) (f k) (tally_to f k).run)

  bytes_bodies : (k : ℕ) → Bytes (bodies_to f k)
  unfolding bodies_to
  bytes_bodies zero = bytes_none
  bytes_bodies (suc k) = bytes_append (bodies_to f k) (body (f k)) (bytes_bodies k) (bytes_body (f k) (bounded.small k))

  bytes_header : (m : ℕ) → Bytes (header i m)
  unfolding header
  bytes_header m =
      bytes_append (number 8 i.image) (number 4 i.revision ++ (number 2 m ++ number 2 i.extended)) (bytes_number 8 i.image)
      (bytes_append (number 4 i.revision) (number 2 m ++ number 2 i.extended) (bytes_number 4 i.revision)
      (bytes_append (number 2 m) (number 2 i.extended) (bytes_number 2 m) (bytes_number 2 i.extended)))

  pub sheet_bytes : Bytes (sheet_of i f)
  unfolding sheet_of
  sheet_bytes =
      let m = (tally_of f).runs in
      bytes_append (header i m) (entries_to m f last ++ bodies_to f last) (bytes_header m)
      (bytes_append (entries_to m f last) (bodies_to f last) (bytes_entries m last) (bytes_bodies last))
