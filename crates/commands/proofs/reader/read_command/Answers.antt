-- `commands::reader::read_command` meets its promise where a command is read: what is read ends within the input, and so lies its text.
use Rattle.std.proofs.Common.{sym, ◌∙◌}
use Rattle.commands.specs.Answers.{meant}
use Rattle.commands.proofs.Outer.{command_whole}
use Rattle.commands.proofs.Progress.{progress}
use Rattle.commands.proofs.Texts.{placed}
use Rattle.commands.proofs.reader.read_command.Goals as goal

pub returns : goal.returns
returns c =
    let e =
    command_whole c.args.input.now c.args.at c.in_ok-tag.tag c.in_ok-value.value.now _ (meant c.in_ok-command.command) _
    c.in_ok-tag.ensures (sym c.is_due.ensures ∙ c.if-not-is_due.false) c.in_ok-value.ensures c.in_ok-command.ensures.0 in
    record { means = e; within = (progress _ _ _ _ e).1; placed = placed _ _ _ _ e }
