-- `rows::compare::alike` meets its contract: the goals that the search leaves. Assumes nothing.
use Rattle.std.proofs.Common.{sym, ◌∙◌}
use Rattle.rows.proofs.Keys.{last_tells}
use Rattle.rows.proofs.compare.alike.Goals as goal

pub returns-then-starts_with : goal.returns-then-starts_with
returns-then-starts_with c = last_tells _ _ 31 c.told-a c.told-b (sym c.starts_with.ensures.value ∙ c.if-starts_with.true)
