-- What the check of lent tables answers: the same loans as sound ones, or Damaged where they hold no sound ledger. Assumes nothing.
use Rattle.std.specs.Prelude.{◌≡◌, ℕ, List, Result, Ok, Err}
use Rattle.std.specs.Borrow.{Bor}
use Rattle.records.specs.declared.refusal.Refusal.{Refusal}
use Rattle.records.specs.declared.refusal.Refusal.TheVariants.{Damaged}
use Rattle.tables.specs.Tables.{Standing, tables}
use Rattle.tables.specs.declared.Sound.{Sound}

abbrev pub Checks : Bor (List (List ℕ)) → Bor (List (List ℕ)) → Bor (List ℕ) → Result Sound Refusal → Type 0
Checks book keys texts (Ok sound) = (sound.book ≡ book) × (sound.keys ≡ keys) × (sound.texts ≡ texts)
Checks book keys texts (Err why) = (why ≡ Damaged) × (Standing (tables book.now keys.now texts.now) → ⊥)
