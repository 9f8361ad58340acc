use Rattle.std.proofs.Common.{◌≡◌, refl, ⊎_elim, arith}
use Rattle.move_modules.proofs.moved_word.Goals as goal

pub returns-then-m-eq4 : goal.returns-then-m-eq4
returns-then-m-eq4 c = rw (c.if-m-eq4.true, ← c.le32.ensures.is) refl

pub le64-requires : goal.le64-requires
le64-requires c =
    -- what hasn't 4 bytes has 8
    let wide : c.args.m ≡ 8 = ⊎_elim (λ e. absurd (c.if-m-eq4.false e)) (λ e. e) c.requires.1 in
    omega (arith, wide)

pub returns : goal.returns
returns c =
    let wide : c.args.m ≡ 8 = ⊎_elim (λ e. absurd (c.if-m-eq4.false e)) (λ e. e) c.requires.1 in
    rw (wide, ← c.le64.ensures.is) refl
