-- Document 02, #114: the folded sheet, the one sheet of what is set: an entry for each run, ascending, and their bodies in order. f is what is
-- set at each position: 0 is nothing, and b + 1 the byte b; m is the number of runs.
-- Assumes nothing.
use Rattle.std.specs.Prelude.{ℕ, zero, suc, ◌+◌, ◌-◌, ◌*◌, List, [], ◌∷◌, ◌++◌, length, drop}
use Rattle.words.specs.Number.{number}
use Rattle.answers.specs.declared.Identity.{Identity}
use Rattle.fold_cells.specs.Cells.{last}
use Rattle.fold_tally.specs.declared.Tally.{Tally}
use Rattle.fold_tally.specs.Tally.{tally_to, tally_of}

-- the 16 bytes before the entries
unfoldable pub header : Identity → ℕ → List ℕ
header i m = number 8 i.image ++ (number 4 i.revision ++ (number 2 m ++ number 2 i.extended))

-- an entry: where the run starts, how long it is, and where its body stands
unfoldable pub entry : ℕ → ℕ → ℕ → List ℕ
entry start size body = number 4 start ++ (number 2 size ++ number 2 body)

-- at position k, where c is set, after a run of so many: the entry of the run, if it ends here
abbrev pub ending : ℕ → ℕ → Tally → ℕ → ℕ → List ℕ
ending m k t zero zero = []
ending m k t zero (suc r) = entry (k - t.run) t.run (16 + 8 * m + (t.bytes - t.run))
ending m k t (suc b) r = []

-- the entries of the runs that have ended before position k
unfoldable pub entries_to : ℕ → (ℕ → ℕ) → ℕ → List ℕ
entries_to m f zero = []
entries_to m f (suc k) = entries_to m f k ++ ending m k (tally_to f k) (f k) (tally_to f k).run

-- the byte that is set, if one is
abbrev pub body : ℕ → List ℕ
body zero = []
body (suc b) = b ∷ []

-- the bytes set before position k
unfoldable pub bodies_to : (ℕ → ℕ) → ℕ → List ℕ
bodies_to f zero = []
bodies_to f (suc k) = bodies_to f k ++ body (f k)

-- the sheet
unfoldable pub sheet_of : Identity → (ℕ → ℕ) → List ℕ
sheet_of i f =
    let m = (tally_of f).runs in
    header i m ++ (entries_to m f last ++ bodies_to f last)

-- how long it is
unfoldable pub size_of : (ℕ → ℕ) → ℕ
size_of f = 16 + 8 * (tally_of f).runs + (tally_of f).bytes

-- xs with s at its start
abbrev pub onto : List ℕ → List ℕ → List ℕ
onto s xs = s ++ drop (length s) xs
