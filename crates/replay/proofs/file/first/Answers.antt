-- `replay::file::first` meets its contract.
use Rattle.std.proofs.Common.{rules, sym, ◌∙◌}
use Rattle.replay.proofs.Running.{begun, never_begun}
use Rattle.replay.proofs.file.first.Goals as goal

pub returns-then-too_long : goal.returns-then-too_long
returns-then-too_long c = never_begun _ _ _ _ (search rules) (sym c.too_long.ensures ∙ c.if-too_long.true) c.stopped_line.ensures

pub returns : goal.returns
returns c = begun _ _ _ (search rules) (sym c.too_long.ensures ∙ c.if-too_long.false)
