-- `ledger::opening::open` meets its contract. Assumes nothing.
use Rattle.std.proofs.Common.{rules}
use Rattle.ledger.proofs.Opened.{opens}
use Rattle.ledger.proofs.opening.open.Goals as goal

pub returns : goal.returns
returns c =
    opens _ (record { book_long = search rules; keys_long = search rules; texts_long = search rules }) c.clear.ensures c.clear-2.ensures c.clear-3.ensures
