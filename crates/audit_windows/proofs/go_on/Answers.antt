use Rattle.audit_fill_window.specs.StandingLaws.{went_on}
use Rattle.audit_windows.proofs.go_on.Goals as goal

pub returns : goal.returns
returns c =
    let a = c.args in
    let (on, most, past) = c.next_in-m.ensures in
    went_on a.marks.now a.at a.q c.next_in-m.result on past
