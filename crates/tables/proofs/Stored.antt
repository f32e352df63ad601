-- What stores in the lent tables make of them: the regions before, as they are held, and the tables after, put together again. Assumes nothing.
use mathlib.Core.Path.{◌∙◌, ◌≡◌, ap}
use Prim.Native.Nat.{ℕ}
use mathlib.Core.List.{List}
use Rattle.machine.specs.Rooms.{text_room}
use Rattle.machine.specs.Tests.{asks}
use Rattle.machine.specs.Types.{Ledger}
use Rattle.rows.specs.Padded.{padded}
use Rattle.rows.specs.Regions.{Holds, flat}
use Rattle.tables.proofs.Laid.{book_held, book_lengths, key_lengths, keys_held, laid, sized}
use Rattle.tables.specs.Tables.{Sized, Stands, Tables, book_of, keys_of, tables, tables_of, words}

module _ {t : Tables} {L : Ledger} (st : Stands t L) where
  pub book_holds : Holds book_lengths t.book (book_of L)
  unfolding tables_of
  book_holds = rw st.laid (book_held L)

  pub keys_holds : Holds key_lengths t.keys (keys_of L)
  unfolding tables_of
  keys_holds = rw st.laid (keys_held L)

  pub texts_hold : t.texts ≡ padded text_room 0 (words (asks L))
  texts_hold = (laid L st.laid).texts_are

  pub lengths : Sized t
  lengths = sized L st.laid

pub stored : {b k : List (List ℕ)} {x : List ℕ} (M : Ledger) {rs qs : List (List (List ℕ))} → Holds book_lengths b rs → rs ≡ book_of M → Holds key_lengths k qs → qs ≡ keys_of M
    → x ≡ padded text_room 0 (words (asks M)) → tables b k x ≡ tables_of M
unfolding tables_of
stored M hb eb hk ek ex = let b = hb.is ∙ ap flat eb in let k = hk.is ∙ ap flat ek in λ i. record { book = b i; keys = k i; texts = ex i }
