use Rattle.audit_tables.specs.AheadLaws.{known_rest}
use Rattle.audit_tables.proofs.current_words.Goals as goal

pub next_word-requires : goal.next_word-requires
next_word-requires c =
    let a = c.args in
    let known = c.requires.1 in
    (c.requires.0, known.ranked, known_rest a.image.now a.r a.at a.q known c.if-at-q.false)
