-- What opening writes is the empty ledger of its owner, and what it refuses is tables of wrong lengths. Assumes nothing.
use mathlib.Core.Logic.{inl}
use mathlib.Core.Path.{◌∙◌, ◌≡◌, ap, refl, sym}
use Prim.Native.Nat.{ℕ}
use lib.ListN.{get_or, length, replicate, replicate-append-replicate, set}
use mathlib.Core.List.{List, [], ◌++◌, ◌∷◌, append-nil}
use Rattle.answers.specs.Does.{Opens}
use Rattle.machine.proofs.Keep.{sound_opened}
use Rattle.machine.specs.Machine.{opened}
use Rattle.rows.proofs.Padded.{none_padded}
use Rattle.rows.specs.Regions.{flat}
use Rattle.rows.specs.Zeros.{zero_key, zero_row}
use Rattle.std.proofs.Common.{Ok}
use Rattle.tables.specs.Parts.{owner}
use Rattle.tables.specs.Tables.{Sized, Tables, book_of, keys_of, tables, tables_of}

-- ---- cleared tables, put together from cleared regions
cleared_book : (owner : ℕ) → set (replicate 1089 zero_row) 0 (owner ∷ 0 ∷ 0 ∷ 0 ∷ 0 ∷ 0 ∷ []) ≡ flat (book_of (opened owner))
cleared_book owner =
    rw (none_padded 64 zero_row, none_padded 256 zero_row) (ap (λ (l : List (List ℕ)). (owner ∷ 0 ∷ 0 ∷ 0 ∷ 0 ∷ 0 ∷ []) ∷ l) rest)
  where
    rest : replicate 1088 zero_row ≡ replicate 64 zero_row ++ (replicate 256 zero_row ++ (replicate 256 zero_row ++ (replicate 256 zero_row ++ (replicate 256 zero_row ++ []))))
    rest = sym (
        ap (λ (l : List (List ℕ)). replicate 64 zero_row ++ (replicate 256 zero_row ++ (replicate 256 zero_row ++ (replicate 256 zero_row ++ l)))) (append-nil (replicate 256 zero_row))
        ∙ ap (λ (l : List (List ℕ)). replicate 64 zero_row ++ (replicate 256 zero_row ++ (replicate 256 zero_row ++ l))) (replicate-append-replicate 256 256 zero_row)
        ∙ ap (λ (l : List (List ℕ)). replicate 64 zero_row ++ (replicate 256 zero_row ++ l)) (replicate-append-replicate 256 512 zero_row)
        ∙ ap (λ (l : List (List ℕ)). replicate 64 zero_row ++ l) (replicate-append-replicate 256 768 zero_row)
        ∙ replicate-append-replicate 64 1024 zero_row
        )

cleared_keys : (owner : ℕ) → replicate 576 zero_key ≡ flat (keys_of (opened owner))
cleared_keys owner =
    rw (none_padded 64 zero_key, none_padded 256 zero_key) (sym (
    ap (λ (l : List (List ℕ)). replicate 64 zero_key ++ (replicate 256 zero_key ++ l)) (append-nil (replicate 256 zero_key))
    ∙ ap (λ (l : List (List ℕ)). replicate 64 zero_key ++ l) (replicate-append-replicate 256 256 zero_key)
    ∙ replicate-append-replicate 64 512 zero_key
    ))

pub cleared : (owner : ℕ) → tables (set (replicate 1089 zero_row) 0 (owner ∷ 0 ∷ 0 ∷ 0 ∷ 0 ∷ 0 ∷ [])) (replicate 576 zero_key) (replicate 32768 0) ≡ tables_of (opened owner)
unfolding tables_of
cleared owner =
    let b = cleared_book owner in
    let k = cleared_keys owner in
    let x = none_padded {A = ℕ} 32768 0 in
    λ i. record { book = b i; keys = k i; texts = sym x i }

-- ---- the two ways to meet the promise
pub opens : (owner : ℕ) {t : Tables} {b k : List (List ℕ)} {x : List ℕ} → Sized t → b ≡ replicate (length t.book) zero_row → k ≡ replicate (length t.keys) zero_key
    → x ≡ replicate (length t.texts) 0 → Opens owner t (tables (set b 0 (set (get_or b 0 []) 0 owner)) k x) (Ok tt)
opens owner {t} {b} {k} {x} s eb ek ex = record {
  opened_then = λ _. (refl, record { sound = sound_opened owner; laid = all_cleared ∙ cleared owner });
  unsized = λ n. absurd (n s);
  known = inl s;
}
  where
    book : b ≡ replicate 1089 zero_row
    book = eb ∙ ap (λ (n : ℕ). replicate n zero_row) s.book_long

    keys : k ≡ replicate 576 zero_key
    keys = ek ∙ ap (λ (n : ℕ). replicate n zero_key) s.keys_long

    texts : x ≡ replicate 32768 0
    texts = ex ∙ ap (λ (n : ℕ). replicate n 0) s.texts_long

    all_cleared : tables (set b 0 (set (get_or b 0 []) 0 owner)) k x ≡ tables (set (replicate 1089 zero_row) 0 (owner ∷ 0 ∷ 0 ∷ 0 ∷ 0 ∷ 0 ∷ [])) (replicate 576 zero_key) (replicate 32768 0)
    all_cleared = λ i. tables (set (book i) 0 (set (get_or (book i) 0 []) 0 owner)) (keys i) (texts i)
