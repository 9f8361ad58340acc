use mathlib.Core.Path.{refl}
use native.Mathlib.Omega.{arith}
use Rattle.inside_judge.proofs.Judged.astray.Goals as goal

pub returns-then-n-eq0 : goal.returns-then-n-eq0
returns-then-n-eq0 c = record { none = λ e. refl; some = λ e. absurd (e c.if-n-eq0.true) }

pub returns : goal.returns
returns c =
    record {
      none = λ e. absurd (c.if-n-eq0.false e);
      some = λ e. record {
        whole = refl;
        placed = refl;
        known = refl;
        higher = omega arith;
        own = omega arith;
        front = omega arith;
      };
    }
