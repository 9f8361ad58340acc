use Rattle.std.proofs.Common.{ℕ, List, ◌++◌, ◌∙◌, drop, arith}
use Rattle.fold_words.specs.Words.{Keeps}
use Rattle.fold_words.specs.WordsLaws.{keeps_front}
use Rattle.fold_runs.proofs.settle.Goals as goal

pub returns-then-r-le512 : goal.returns-then-r-le512
returns-then-r-le512 c =
    let P = c.requires in
    let xs = c.args.words.now in
    let n = c.args.g.n in
    let O : Keeps xs (c.order.new.words ++ drop n xs) = keeps_front xs c.order.new.words n (omega (arith, P.few, P.long)) c.order.ensures in
    let zs : List ℕ = c.order.new.words ++ drop n xs in
    let J = keeps_front zs c.join-r.new.words n (omega (arith, O.long, P.few, P.long)) c.join-r.ensures.lower_bound.2 in
    (record { few = omega arith; some = omega arith; runs = omega arith; met = P.met; long = J.long ∙ O.long ∙ P.long; seats = c.join-r.ensures.seats_len }, omega arith, record { long = J.long ∙ O.long; sound = λ f s. J.sound f (O.sound f s) })

pub returns : goal.returns
returns c =
    let P = c.requires in
    let xs = c.args.words.now in
    let n = c.args.g.n in
    let O : Keeps xs (c.order.new.words ++ drop n xs) = keeps_front xs c.order.new.words n (omega (arith, P.few, P.long)) c.order.ensures in
    let zs : List ℕ = c.order.new.words ++ drop n xs in
    let J = keeps_front zs c.join-r.new.words n (omega (arith, O.long, P.few, P.long)) c.join-r.ensures.lower_bound.2 in
    (record { few = omega arith; some = omega arith; runs = omega arith; met = P.met; long = J.long ∙ O.long ∙ P.long; seats = c.join-r.ensures.seats_len }, omega arith, record { long = J.long ∙ O.long; sound = λ f s. J.sound f (O.sound f s) })
