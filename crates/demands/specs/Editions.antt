-- Request #109, of an image that reads as edition 2: it reads, the audit tells its settings by its own reading, and compares with it moved;
-- and that the reading for such images is one.
-- Assumes nothing.
use Rattle.std.specs.Prelude.{ℕ, ◌+◌, List, ◌≡◌}
use Rattle.std.proofs.Common.{sym, ◌∙◌, ap}
use Rattle.words.specs.Le.{le}
use Rattle.answers.specs.declared.Reading.{Reading}
use Rattle.reading_rules.specs.Reading.{Read, reading2, Read2, Reads2}
use Rattle.reading_rules.specs.Edition.{later_of, same_reading}
use Rattle.move_image.specs.Moving.{move_to, moved_image}
use Rattle.audit.specs.Audit.{shipped_base, reference, told_by}
use Rattle.audit.specs.AuditLaws.{later_told, later_reference}

module _ (xs ys : List ℕ) (ok : Read2 xs) where
  pub read_too : Read xs
  read_too = (later_of xs ok).0

  pub told_two : told_by xs ≡ reading2 xs
  told_two = later_told xs ys (later_of xs ok) ∙ sym (same_reading xs ok)

  pub shipped_two : shipped_base xs ys ≡ le 4 ys ((reading2 xs).H + 28)
  shipped_two = ap (λ (r : Reading). le 4 ys (r.H + 28)) (sym (same_reading xs ok))

  pub reference_two : reference xs ys ≡ moved_image xs (shipped_base xs ys)
  unfolding moved_image
  reference_two =
      later_reference xs ys (later_of xs ok) ∙ ap (λ (r : Reading). move_to xs r (shipped_base xs ys)) (sym (same_reading xs ok))

-- any two answers that the promise of `read_2` admits are the same
pub one_reading_2 : (xs : List ℕ) (r s : Reading) → Reads2 xs r → Reads2 xs s → r ≡ s
one_reading_2 xs r s a b = a ∙ sym b
