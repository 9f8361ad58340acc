use mathlib.Core.Bool.{false≢true}
use mathlib.Core.Path.{sym, ◌∙◌}
use Rattle.facts.specs.FactLaws.{holds, is_test}
use Rattle.table_order.specs.Ranks.{all_apart}
use Rattle.table_scans.proofs.surely_apart.Goals as goal

pub returns-then-n-le16 : goal.returns-then-n-le16
returns-then-n-le16 c = λ e. absurd (false≢true e)

pub returns : goal.returns
returns c = λ e.
    let a = c.args in
    holds (all_apart a.image.now a.t a.n) (sym (is_test c.all_apart.ensures) ∙ e)
