use Rattle.std.proofs.Common.{inl, inr, sym, ◌∙◌}
use Rattle.facts.specs.FactLaws.{passes, fails}
use Rattle.map_ranges.specs.RangesLaws.{is_range}
use Rattle.map_ranges.specs.Gathering.{none_here, some_here}
use Rattle.map_ranges.proofs.range_at.Goals as goal

pub returns-then-t-ne3 : goal.returns-then-t-ne3
returns-then-t-ne3 c = none_here _ _ (fails (is_range c.args.dump.now c.args.at) (λ h. c.if-t-ne3.true (c.requires.1 ∙ h.0)))

pub returns-then-code-ne-RESERVED : goal.returns-then-code-ne-RESERVED
returns-then-code-ne-RESERVED c =
    let is = c.le32-code.ensures.is in
    none_here _ _ (fails (is_range c.args.dump.now c.args.at)
    (λ h. elim h.1 [ inl x ↦ c.if-code-ne-MEMORY.true (is ∙ x) | inr x ↦ c.if-code-ne-RESERVED.true (is ∙ x) ]))

pub returns : goal.returns
returns c =
    let is = c.le32-code.ensures.is in
    some_here _ _ (passes (is_range c.args.dump.now c.args.at) (sym c.requires.1 ∙ c.if-t-ne3.false, elim c.else-code-ne-MEMORY.either [ inl x ↦ inr (sym is ∙ x.1) | inr x ↦ inl (sym is ∙ x) ])) is c.le64.ensures.is c.le64-2.ensures.is
