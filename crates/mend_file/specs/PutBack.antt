-- Document 02, #110: stray bytes put back.
-- Assumes nothing.
use Rattle.std.specs.Prelude.{ℕ, cond, List, [], ◌∷◌, length, get_or, set}
use Rattle.facts.specs.Fact.{test}
use Rattle.answers.specs.declared.Reading.{Reading}
use Rattle.audit_count.specs.Differences.{differences, setting}

-- ys with each stray among the positions ks set to the reference's byte
unfoldable pub put_back : List ℕ → Reading → List ℕ → List ℕ → List ℕ
put_back ref r ys [] = ys
put_back ref r ys (k ∷ ks) = cond (test (setting r k)) (put_back ref r ys ks) (set (put_back ref r ys ks) k (get_or ref k 0))

-- ys with every stray put back
unfoldable pub restored : List ℕ → Reading → List ℕ → List ℕ
restored ref r ys = put_back ref r ys (differences ref ys 0 (length ys))
