-- What a page leaves in its lent row, by its answer; and its three forms tell the same: in a record of its own it is one in an empty row, and its numbers are those of its records. Assumes nothing.
use Rattle.std.proofs.Common.{Bool, cond, false, true, inl, inr, ◌∙◌, ◌≡◌, ap, refl, sym, ltb, drop, length, List, [], ◌++◌, ◌∷◌, map, suc, zero, ℕ, Ok}
use Rattle.std.specs.Prelude.{Result}
use Rattle.std.specs.Result.{IsErr, is_err}
use lib.ListN.{length-map}
use mathlib.Core.List.{map-append, map-id}
use Rattle.answers.proofs.Doing.{does_as}
use Rattle.answers.specs.Answers.{PageOut, apart, as_is, entry_row, no_entries, page_in, paged}
use Rattle.answers.specs.Calls.{page_call, page_in_call}
use Rattle.answers.specs.Does.{Does}
use Rattle.answers.specs.declared.Page.{Page}
use Rattle.machine.specs.Plan.{Outcome, did, outcome, refused}
use Rattle.machine.specs.Reads.{entries, page_into}
use Rattle.machine.specs.Rooms.{page_limit}
use Rattle.machine.specs.Types.{Ledger}
use Rattle.records.specs.declared.PageEntry.{PageEntry}
use Rattle.records.specs.declared.refusal.Refusal.{Refusal}
use Rattle.records.specs.declared.refusal.Refusal.TheVariants.{PageRoom}
use Rattle.tables.specs.Tables.{Stands, Tables}

-- ---- what a page leaves in the row
module _ {A : Type 0} (f : PageEntry → A) (rows : List A) where
  left_alone : (o : Outcome (List PageEntry)) (r : PageOut A) → r ≡ paged f rows o → IsErr r.answer → r.rows ≡ rows
  left_alone (refused e) r q h = ap (λ (x : PageOut A). x.rows) q
  left_alone (did es) r q h = let z = ap (λ (x : PageOut A). is_err x.answer) q in cc

  filled : (es : List PageEntry) (short : Bool) (r : PageOut A) {n : ℕ} → r ≡ paged f rows (cond short (refused PageRoom) (did es)) → r.answer ≡ Ok n
      → (n ≡ length es) × (r.rows ≡ map f es ++ drop (length es) rows)
  filled es true r q h = let z = ap (λ (x : PageOut A). x.answer) q in cc
  filled es false r {n} q h =
      let z = ap (λ (x : PageOut A). x.answer) q in
      let long : n ≡ length es = cc in
      (long, ap (λ (x : PageOut A). x.rows) q)

  module _ (from limit : ℕ) {t u : Tables} {r : PageOut A} (d : Does (page_call f rows from limit) t u r) where
    -- a refused page, nothing
    pub page_refused : IsErr r.answer → r.rows ≡ rows
    unfolding page_call
    page_refused h = elim d.known [
      | inl w ↦ left_alone (outcome (page_into w.ledger from limit (length rows))) r (d.sound w.ledger w.stands).0 h
      | inr n ↦ ap (λ (x : PageOut A). x.rows) (d.damaged n).0
    ]

    -- one that is not refused, the machine's entries
    pub page_filled : (L : Ledger) → Stands t L → {n : ℕ} → r.answer ≡ Ok n
        → (n ≡ length (entries L from limit)) × (r.rows ≡ map f (entries L from limit) ++ drop (length (entries L from limit)) rows)
    unfolding page_call
    page_filled L st h = filled (entries L from limit) (ltb (length rows) (length (entries L from limit))) r (d.sound L st).0 h

-- ---- a page in a record of its own
set_apart : (o : Outcome (List PageEntry)) → apart (page_in o) ≡ paged as_is no_entries o
set_apart (refused e) = refl
set_apart (did es) = ap (λ (l : List PageEntry). record { answer = Ok (length es); rows = l ++ drop (length es) no_entries }) (sym (map-id es))

-- so whatever holds of a page in a lent row holds of it
pub page_apart : (from limit : ℕ) {t u : Tables} {r : Result Page Refusal} → Does (page_in_call from limit) t u r → Does (page_call as_is no_entries from limit) t u (apart r)
unfolding page_call page_in_call
page_apart from limit d = does_as apart refl (λ L. set_apart (outcome (page_into L from limit page_limit))) (λ L. refl) d refl

-- ---- records and numbers
-- a page of records, with each as a row of numbers
abbrev pub as_numbers : PageOut PageEntry → PageOut (List ℕ)
as_numbers o = record { answer = o.answer; rows = map entry_row o.rows }

drop_rows : (n : ℕ) (page : List PageEntry) → drop n (map entry_row page) ≡ map entry_row (drop n page)
drop_rows zero page = refl
drop_rows (suc n) [] = refl
drop_rows (suc n) (e ∷ page) = drop_rows n page

pub numbers_of_entries : (page : List PageEntry) (o : Outcome (List PageEntry)) → paged entry_row (map entry_row page) o ≡ as_numbers (paged as_is page o)
numbers_of_entries page (refused e) = refl
numbers_of_entries page (did es) =
    let rows : map entry_row es ++ drop (length es) (map entry_row page) ≡ map entry_row (map as_is es ++ drop (length es) page) =
    rw map-id (ap (λ (r : List (List ℕ)). map entry_row es ++ r) (drop_rows (length es) page) ∙ sym (map-append entry_row es (drop (length es) page))) in
    ap (λ (r : List (List ℕ)). record { answer = Ok (length es); rows = r }) rows

-- so whatever holds of a page of numbers holds of a page of records: the walk by pages, for one
pub entries_are_numbers : (page : List PageEntry) (from limit : ℕ) {t u : Tables} {r : PageOut PageEntry}
    → Does (page_call as_is page from limit) t u r → Does (page_call entry_row (map entry_row page) from limit) t u (as_numbers r)
unfolding page_call
entries_are_numbers page from limit d =
    does_as as_numbers refl (λ L. sym (numbers_of_entries page (outcome (page_into L from limit (length page)))) ∙ rw length-map refl) (λ L. refl) d refl
