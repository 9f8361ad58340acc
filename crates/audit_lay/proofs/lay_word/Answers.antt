use Rattle.std.proofs.Common.{◌≡◌, ◌<◌, ⊎_elim, arith}
use Rattle.audit_lay.specs.LayLaws.{laid_whole}
use Rattle.audit_lay.proofs.lay_word.Goals as goal

pub returns-then-m-eq8 : goal.returns-then-m-eq8
returns-then-m-eq8 c =
    let a = c.args in
    let e : a.m ≡ 8 = c.if-m-eq8.true in
    rw (c.put64.ensures, e) (laid_whole a.from a.p 8 a.w a.window.now (omega arith) (omega arith))

pub overflow_cast-w : goal.overflow_cast-w
overflow_cast-w c =
    -- what hasn't 8 bytes has 4
    let narrow : c.args.m ≡ 4 = ⊎_elim (λ e. e) (λ e. absurd (c.if-m-eq8.false e)) c.requires.1 in
    let h : c.args.w < 4294967296 = rw narrow at c.requires.3 in
    record { fits = omega (arith, h) }

pub put32-requires : goal.put32-requires
put32-requires c =
    let narrow : c.args.m ≡ 4 = ⊎_elim (λ e. e) (λ e. absurd (c.if-m-eq8.false e)) c.requires.1 in
    omega (arith, narrow)

pub returns-then-i-m : goal.returns-then-i-m
returns-then-i-m c =
    let a = c.args in
    let e : a.m ≡ 4 = ⊎_elim (λ e. e) (λ e. absurd (c.if-m-eq8.false e)) c.requires.1 in
    rw (c.put32.ensures, e) (laid_whole a.from a.p 4 a.w a.window.now (omega arith) (omega (arith, e)))

pub lay_part-requires : goal.lay_part-requires
lay_part-requires c = let pre = c.requires in (pre.0, ⊎_elim (λ e. omega arith) (λ e. omega arith) pre.1, pre.2)
