-- The answer of a step over hand-off blocks as C sees it, a field each: number, next cursor, place, type, length, kind and the kind's own
-- four.
-- Assumes nothing.
use Rattle.std.specs.Prelude.{ℕ, List, [], ◌∷◌}
use Rattle.handoff_step.specs.declared.Kind.{Kind}
use Rattle.handoff_step.specs.declared.Kind.TheVariants.{Nothing, Unknown, Handoff, Resource, Guid, End}
use Rattle.handoff_step.specs.declared.Stepped.{Stepped}
use Rattle.handoff_list.specs.declared.Counted.{Counted}
use Rattle.c_answers.specs.declared.KindFields.{KindFields}

abbrev fields : ℕ → ℕ → ℕ → ℕ → ℕ → KindFields
fields kind a b c d = record { kind = kind; a = a; b = b; c = c; d = d }

-- a kind by its number, with its data: a resource's type, attributes, start and length; where a GUID block's data stands and its length
abbrev pub kind_fields : Kind → KindFields
kind_fields Nothing = fields 0 0 0 0 0
kind_fields Handoff = fields 1 0 0 0 0
kind_fields (Resource code attributes start size) = fields 2 code attributes start size
kind_fields (Guid place size) = fields 3 place size 0 0
kind_fields Unknown = fields 4 0 0 0 0
kind_fields End = fields 5 0 0 0 0

abbrev pub step_fields : Stepped → List ℕ
step_fields s =
    let k = kind_fields s.block.kind in
    s.number ∷ s.next.at ∷ s.block.place ∷ s.block.code ∷ s.block.length ∷ k.kind ∷ k.a ∷ k.b ∷ k.c ∷ k.d ∷ []

-- the whole list: number, place, how many
abbrev pub count_fields : Counted → List ℕ
count_fields r = r.number ∷ r.at ∷ r.count ∷ []
