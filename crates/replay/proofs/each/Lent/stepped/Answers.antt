-- `replay::each::Lent::stepped` meets its contract: a command is done, and told.
use Rattle.std.proofs.Common.{refl}
use Rattle.commands.specs.Answers.{meant}
use Rattle.lines.specs.Replies.{told}
use Rattle.replay.proofs.Running.{further, went_on}
use Rattle.replay.proofs.each.Lent.stepped.Goals as goal

pub returns-in-Ok-Some : goal.returns-in-Ok-Some
returns-in-Ok-Some c =
    let r = rw c.in-Ok-Some.field-0-is at c.in-Ok-Some.ensures in
    record {
      keeps = record { book = refl; keys = refl; texts = refl };
      row = c.answer_line.ensures.row;
      goes = λ t₀ out₀ g. rw c.counted.ensures (went_on c.args.input.now (meant c.in-Ok-Some.command) (told c.act-answer.result) r.means c.act-answer.ensures c.answer_line.ensures t₀ out₀ g).0;
      onward = further c.args.input.now c.args.at _ _ r.means;
    }
