use Rattle.std.proofs.Common.{◌≡◌, [], sym, ◌∙◌, arith}
use Rattle.fold_pile.specs.Pile.{sheets}
use Rattle.fold_pile.specs.PileLaws.{pile_fitting, no_identity}
use Rattle.fold_pile.specs.SheetsLaws.{first_some}
use Rattle.fold_pile.proofs.Pile.known.Goals as goal
use Rattle.fold_pile.proofs.Pile.known.Goals.{in-Some, in-None}

pub invariant_of-result : goal.invariant_of-result
invariant_of-result c =
    let p = c.args.bytes.now in
    record {
      in_range = λ k. omega (arith, c.type_inv.bytes k);
      piled = pile_fitting p c.requires;
      named =
          elim c.match-next.branch [
            | in-Some w ↦
                let f = first_some _ _ _ (sym c.sheets_of.ensures ∙ w.in-Some.ensures.steps) in
                w.first-is ∙ rw (w.known.ensures, f.1) at w.identity-first.ensures
            | in-None w ↦
                let e : sheets p ≡ [] = sym c.sheets_of.ensures ∙ w.in-None.ensures.steps.0 in
                w.first-is ∙ sym (no_identity p (rw e at c.requires))
          ];
    }
