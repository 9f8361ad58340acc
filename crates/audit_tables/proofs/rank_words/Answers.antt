use Rattle.audit_tables.specs.AheadLaws.{all_ranked}
use Rattle.audit_tables.proofs.rank_words.Goals as goal

pub returns : goal.returns
returns c =
    let a = c.args in
    let ranked = c.rank in
    all_ranked a.image.now a.r a.list.now ranked.new.list ranked.result c.requires.0 ranked.ensures
