-- `Fit` by groups, each decided by one function, in the words of `Fit`, over the book and the keys alone. For the contracts of what `fit` calls. Assumes nothing.
use Rattle.std.specs.Prelude.{◌≡◌, ℕ, get_or, length, List, []}
use Rattle.rows.specs.Apart.{Distinct}
use Rattle.tables.specs.Fit.{AllAskedFit, AllDecidedFit, AllRevokedFit, HeadFits, HoldersFit, Lived, LogFits, Registered, Waits}
use Rattle.tables.specs.Parts.{agents, approvers, asked, decided, held, holders, key_count, log, log_count, made, request_count, revoked, text_used}
use Rattle.tables.specs.Tables.{Tables, tables}

-- tables of which only the book and the keys are looked at
abbrev pub lent : List (List ℕ) → List (List ℕ) → Tables
lent book keys = tables book keys []

-- what the first tests leave: the lengths, and counts within the rooms
pub record Ready (book keys : List (List ℕ)) : Type 0 where
  pub book_long : length book ≡ 1089
  pub keys_long : length keys ≡ 576
  pub head : HeadFits (get_or book 0 [])

-- each row by itself, and the log with the approvals
pub record RowsFit (book keys : List (List ℕ)) : Type 0 where
  pub holders_fit : HoldersFit (key_count (lent book keys)) (made (lent book keys)) (request_count (lent book keys)) (holders (lent book keys))
  pub revoked_fit : AllRevokedFit (made (lent book keys)) (revoked (lent book keys))
  pub asked_fit : AllAskedFit (request_count (lent book keys)) (made (lent book keys)) (text_used (lent book keys)) (asked (lent book keys))
  pub decided_fit : AllDecidedFit (request_count (lent book keys)) (made (lent book keys)) (asked (lent book keys)) (decided (lent book keys)) (approvers (lent book keys))
  pub log_fits : LogFits (log_count (lent book keys)) (request_count (lent book keys)) (log (lent book keys)) (decided (lent book keys))

-- what rows say of one another
pub record TiesFit (book keys : List (List ℕ)) : Type 0 where
  pub distinct : Distinct (key_count (lent book keys)) (held (lent book keys))
  pub registered : Registered (key_count (lent book keys)) (made (lent book keys)) (holders (lent book keys)) (revoked (lent book keys))
  pub lived : Lived (key_count (lent book keys)) (request_count (lent book keys)) (holders (lent book keys)) (held (lent book keys)) (asked (lent book keys)) (agents (lent book keys))
  pub waits : Waits (key_count (lent book keys)) (request_count (lent book keys)) (holders (lent book keys)) (asked (lent book keys)) (decided (lent book keys))
