-- `sound_log::log::approved_count` meets its contract: the chain counts over the list, the clause by places. Assumes nothing.
use Rattle.std.proofs.Common.{◌≡◌, ◌∙◌, arith, count_by, eqb, get_or, length, take, []}
use Rattle.std.proofs.lemmas.Grind.{common_steps}
use Rattle.sound_log.proofs.Tallied.{count_by-take}
use Rattle.sound_log.proofs.log.approved_count.Goals as goal

pub returns : goal.returns
returns c =
    let all = c.args.decided.now in
    let counted : c.count.result ≡ count_by (λ row. eqb (get_or row 0 0) 1) (take (length all) all) = grind (arith, common_steps) in
    counted ∙ count_by-take _ all [] (length all) (omega arith)
