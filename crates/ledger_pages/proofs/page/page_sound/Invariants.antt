-- The loop of `ledger_pages::page::page_sound`: the first k places of the row's front hold the first k entries. Assumes nothing.
use Rattle.std.proofs.Common.{◌≡◌, map, take}
use Rattle.machine.specs.Reads.{entries}
use Rattle.machine.specs.Types.{Ledger}
use Rattle.tables.specs.Lent.{lent}
use Rattle.tables.specs.Tables.{Stands}
use Rattle.ledger_pages.proofs.page.page_sound.Given as goal

abbrev pub invariant-loop-k : goal.invariant-loop-k
invariant-loop-k g l = (L : Ledger) → Stands (lent l.sound) L → take l.k l.row-items ≡ take l.k (map g.P.Place.of_entry (entries L l.from l.limit))
