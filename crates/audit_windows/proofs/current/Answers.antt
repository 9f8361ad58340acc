use Rattle.audit_fill_window.specs.StandingLaws.{standing_window, next_here}
use borrow.Author.Rules.{rules}
use Rattle.audit_windows.proofs.current.Goals as goal

pub go_on-r-requires : goal.go_on-r-requires
go_on-r-requires c =
    let a = c.args in
    standing_window a.image.now a.v a.f a.at a.q a.marks.now c.requires.1 c.requires.0

pub returns-then-r : goal.returns-then-r
returns-then-r c =
    let a = c.args in
    let on = c.go_on-r.ensures in
    let s = on.stands a.image.now a.v a.f c.requires.0 c.requires.1 in
    let next = next_here a.image.now a.v a.f a.at c.go_on-r.result a.marks.now s c.if-r.true
    (on.past c.if-r.true) in
    record { standing = (s, next); marks_len_unchanged = search rules }

pub renew-requires : goal.renew-requires
renew-requires c =
    let a = c.args in
    let s = c.go_on-r.ensures.stands a.image.now a.v a.f c.requires.0 c.requires.1 in
    (c.requires.0, s, c.requires.2, c.if-r.false)
