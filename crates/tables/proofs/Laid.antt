-- Tables are the tables of a ledger exactly if each of their parts is the ledger's, padded. Assumes nothing.
use mathlib.Core.Path.{◌∙◌, ◌≡◌, ap, refl}
use Prim.Native.Nat.{suc, ℕ}
use lib.ListN.{get_or, length, take}
use mathlib.Core.List.{List, [], ◌∷◌, map}
use native.Mathlib.Omega.{arith}
use Rattle.machine.specs.Rooms.{key_room, log_room, registration_room, request_room, text_room}
use Rattle.machine.specs.Tests.{asks, regs}
use Rattle.machine.specs.Types.{Ledger}
use Rattle.rows.proofs.Padded.{length_padded}
use Rattle.rows.proofs.Regions.{holds, holds_long, region_is}
use Rattle.rows.specs.Padded.{padded}
use Rattle.rows.specs.Regions.{Holds, flat}
use Rattle.rows.specs.Zeros.{zero_key, zero_row}
use Rattle.tables.specs.Parts.{agents, approvers, asked, decided, held, holders, log, revoked}
use Rattle.tables.specs.Tables.{Sized, Tables, agent_of, asked_rows, book_of, decided_key, decided_row, decisions, head_row, holder_row, key_of, keys_of, log_row, revoked_row, tables_of, words}

abbrev pub book_lengths : List ℕ
book_lengths = 1 ∷ 64 ∷ 256 ∷ 256 ∷ 256 ∷ 256 ∷ []

abbrev pub key_lengths : List ℕ
key_lengths = 64 ∷ 256 ∷ 256 ∷ []

pub record Laid (t : Tables) (L : Ledger) : Type 0 where
  pub head_is : get_or t.book 0 [] ≡ head_row L
  pub holders_are : holders t ≡ padded key_room zero_row (map holder_row L.keys)
  pub asked_are : asked t ≡ padded request_room zero_row (asked_rows 0 (asks L))
  pub decided_are : decided t ≡ padded request_room zero_row (map decided_row (decisions L))
  pub revoked_are : revoked t ≡ padded registration_room zero_row (map revoked_row L.revoked)
  pub log_is : log t ≡ padded log_room zero_row (map log_row L.log)
  pub held_are : held t ≡ padded key_room zero_key (map key_of (regs L))
  pub agents_are : agents t ≡ padded request_room zero_key (map agent_of (asks L))
  pub approvers_are : approvers t ≡ padded request_room zero_key (map decided_key (decisions L))
  pub texts_are : t.texts ≡ padded text_room 0 (words (asks L))

-- ---- from the ledger to its parts
pub book_held : (L : Ledger) → Holds book_lengths (flat (book_of L)) (book_of L)
book_held L = record {
  is = refl;
  long = rw (
    length_padded key_room zero_row (map holder_row L.keys),
    length_padded request_room zero_row (asked_rows 0 (asks L)),
    length_padded request_room zero_row (map decided_row (decisions L)),
    length_padded registration_room zero_row (map revoked_row L.revoked),
    length_padded log_room zero_row (map log_row L.log),
  );
}

pub keys_held : (L : Ledger) → Holds key_lengths (flat (keys_of L)) (keys_of L)
keys_held L = record {
  is = refl;
  long = rw (
    length_padded key_room zero_key (map key_of (regs L)),
    length_padded request_room zero_key (map agent_of (asks L)),
    length_padded request_room zero_key (map decided_key (decisions L)),
  );
}

module _ {t : Tables} (L : Ledger) (e : t ≡ tables_of L) where
  book_is : t.book ≡ flat (book_of L)
  unfolding tables_of
  book_is = ap (λ (x : Tables). x.book) e

  keys_are : t.keys ≡ flat (keys_of L)
  unfolding tables_of
  keys_are = ap (λ (x : Tables). x.keys) e

  words_are : t.texts ≡ padded text_room 0 (words (asks L))
  unfolding tables_of
  words_are = ap (λ (x : Tables). x.texts) e

  pub laid : Laid t L
  laid =
      let b = book_held L in
      let k = keys_held L in
      record {
        head_is = ap (λ (l : List (List ℕ)). get_or l 0 []) book_is;
        holders_are = rw book_is (region_is b 1 (omega arith) 1 64 refl refl);
        asked_are = rw book_is (region_is b 2 (omega arith) 65 256 refl refl);
        decided_are = rw book_is (region_is b 3 (omega arith) 321 256 refl refl);
        revoked_are = rw book_is (region_is b 4 (omega arith) 577 256 refl refl);
        log_is = rw book_is (region_is b 5 (omega arith) 833 256 refl refl);
        held_are = rw keys_are (region_is k 0 (omega arith) 0 64 refl refl);
        agents_are = rw keys_are (region_is k 1 (omega arith) 64 256 refl refl);
        approvers_are = rw keys_are (region_is k 2 (omega arith) 320 256 refl refl);
        texts_are = words_are;
      }

  pub sized : Sized t
  sized = record {
    book_long = ap length book_is ∙ holds_long (book_held L);
    keys_long = ap length keys_are ∙ holds_long (keys_held L);
    texts_long = ap length words_are ∙ length_padded text_room 0 (words (asks L));
  }

-- ---- and back
first_row : (l : List (List ℕ)) (n : ℕ) → length l ≡ suc n → take 1 l ≡ get_or l 0 [] ∷ []
first_row [] n e = absurd (omega arith)
first_row (x ∷ l) n e = refl

pub laid_back : {t : Tables} {L : Ledger} → Sized t → Laid t L → t ≡ tables_of L
unfolding tables_of
laid_back {t} {L} s l =
    let head : take 1 t.book ≡ head_row L ∷ [] = first_row t.book 1088 s.book_long ∙ ap (λ (r : List ℕ). r ∷ []) l.head_is in
    let b : t.book ≡ flat (book_of L) =
    (holds book_lengths t.book s.book_long).is
    ∙ (λ i. flat (head i ∷ l.holders_are i ∷ l.asked_are i ∷ l.decided_are i ∷ l.revoked_are i ∷ l.log_is i ∷ [])) in
    let k : t.keys ≡ flat (keys_of L) = (holds key_lengths t.keys s.keys_long).is ∙ (λ i. flat (l.held_are i ∷ l.agents_are i ∷ l.approvers_are i ∷ [])) in
    λ i. record { book = b i; keys = k i; texts = l.texts_are i }
