-- What is left of `ledger_pages::page::entry_at`: the cells are those of the rows of the slot's request. Assumes nothing.
use Rattle.ledger_pages.proofs.Slots.{slot_read}
use Rattle.ledger_pages.proofs.page.entry_at.Goals as goal

pub returns : goal.returns
returns c = slot_read
