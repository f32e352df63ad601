-- `rows::search::find`. The loop's invariant: the key is in no row passed. Assumes nothing.
use Rattle.rows.specs.Finds.{Missing}
use Rattle.rows.proofs.search.find.Given as goal

abbrev pub invariant-loop-at : goal.invariant-loop-at
invariant-loop-at l = Missing l.at l.keys l.key
