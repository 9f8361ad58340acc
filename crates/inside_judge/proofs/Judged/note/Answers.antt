use Rattle.inside_judge.specs.JudgesLaws.{ends_by_lem}
use Rattle.facts.specs.FactLaws.{is_test}
use mathlib.Core.Path.{◌∙◌}
use Rattle.inside_judge.proofs.Judged.note.Goals as goal
use Rattle.inside_judge.proofs.Judged.note.Goals.{then-self, else-self, then-self-2, else-self-2, then-self-3, else-self-3}

pub returns : goal.returns
returns c =
    record {
      whole = elim c.if-self.branch [
        | then-self w ↦ rw w.if-self.true (w.whole-is ∙ is_test w.is_sound-whole.ensures)
        | else-self w ↦ rw w.if-self.false (w.whole-is ∙ w.if-self.false)
      ];
      placed = elim c.if-self-2.branch [
        | then-self-2 w ↦ rw w.if-self-2.true (w.placed-is ∙ is_test w.is_placed-placed.ensures)
        | else-self-2 w ↦ rw w.if-self-2.false (w.placed-is ∙ w.if-self-2.false)
      ];
      known = elim c.if-self-3.branch [
        | then-self-3 w ↦ rw w.if-self-3.true (w.known-is ∙ is_test w.is_known-known.ensures)
        | else-self-3 w ↦ rw w.if-self-3.false (w.known-is ∙ w.if-self-3.false)
      ];
      higher = c.highest-top.ensures.0;
      own = ends_by_lem c.args.x c.highest-top.result c.highest-top.ensures.1;
      front = c.requires.1;
    }
