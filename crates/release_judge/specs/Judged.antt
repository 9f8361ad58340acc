-- Document 02, #105 and #106: the rules of a release after those of the reading, in their order. r is the reading of an image of this size.
-- Assumes nothing.
use Rattle.std.specs.Prelude.{ℕ, List}
use Rattle.facts.specs.Fact.{every}
use Rattle.facts.specs.Rules.{Rules, answer, rule}
use Rattle.header.specs.Base.{legal_base}
use Rattle.answers.specs.declared.Reading.{Reading}
use Rattle.answers.specs.declared.Moved.{Moved}
use Rattle.move_answer.specs.MoveAnswer.{accepted_move}
use Rattle.sheet.specs.Sheet.{sheet_identity, count, sheet_fits, same_identity, field_fits}
use Rattle.owners.specs.Owners.{owners_fit, fields_owned}

-- 16 and 17 of the sheet, 24 of its bytes' owner, then 18 NEWBASE: the new base is legal; r is the reading of an image of this size
unfoldable pub name_rules : Reading → ℕ → List ℕ → ℕ → List ℕ → ℕ → Rules Moved
name_rules r size s base o owner =
    rule 16 (same_identity (sheet_identity s) r.identity)
    (rule 17 (every (count s) (field_fits s r.z))
    (rule 24 (fields_owned s o owner)
    (rule 18 (legal_base size base)
    (answer (accepted_move r base)))))

-- 15 of the sheet and 23 of the list and the caller before them
unfoldable pub release_rules : Reading → ℕ → List ℕ → ℕ → List ℕ → ℕ → Rules Moved
release_rules r size s base o owner = rule 15 (sheet_fits s) (rule 23 (owners_fit o owner r.z) (name_rules r size s base o owner))
