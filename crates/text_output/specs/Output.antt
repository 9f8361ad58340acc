-- Document 01, "The audit": what the program prints of two files.
-- Assumes nothing.
use Rattle.std.specs.Prelude.{ℕ, ◌≤◌, cond, List, [], ◌≡◌, length}
use Rattle.std.proofs.lemmas.List.Edits.{sets}
use Rattle.facts.specs.Fact.{◌≤?◌, test}
use Rattle.audit_count.specs.Differences.{entries}
use Rattle.audit.specs.Audit.{told_by, differing, auditing}
use Rattle.text_answer.specs.Told.{report_text}

-- what is printed of a vendor image and a shipped file
unfoldable pub audit_text : List ℕ → List ℕ → List ℕ
audit_text xs ys = report_text (auditing xs ys 256) (entries (told_by xs) (differing xs ys))

-- "28,672 bytes each at most": a longer file counts as empty, which gives 1 for the first and 19 for the second
unfoldable pub taken : List ℕ → List ℕ
taken xs = cond (test (length xs ≤? 28672)) xs []

-- the whole output for the two files
unfoldable pub output : List ℕ → List ℕ → List ℕ
output vendor shipped = audit_text (taken vendor) (taken shipped)

-- what `report` promises: the buffer held l and holds m, and r bytes of it are the output; it always has room
pub record Reported (vendor shipped l m : List ℕ) (r : ℕ) : Type 0 where
  pub bytes : m ≡ sets l 0 (output vendor shipped)
  pub count : r ≡ length (output vendor shipped)
  pub room : r ≤ length m
