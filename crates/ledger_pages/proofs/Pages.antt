-- A page as code writes it: how many entries, what each place of a lent row gets, and the whole. Assumes nothing.
use mathlib.Core.Path.{◌∙◌, ◌≡◌, ap, sym}
use Prim.Native.Nat.{◌+◌, ◌-◌, ◌<◌, ◌≤◌, min, ℕ}
use borrow.Author.Tests.{le-ltb, lt-ltb}
use lib.ListN.{drop, length, length-drop, length-map, length-take, set, take}
use lib.Seq.{take-suc, take_all}
use mathlib.Core.List.{List, [], ◌++◌, ◌∷◌, map}
use native.Mathlib.Numerals.{add-one}
use native.Mathlib.Omega.{arith}
use Rattle.answers.specs.Answers.{paged}
use Rattle.ledger_pages.specs.Pages.{SlotEntry, size_of_page}
use Rattle.lists.proofs.Getting.{get_d_of_at}
use Rattle.lists.proofs.Maps.{at_map}
use Rattle.lists.proofs.Places.{at_below, at_drop, at_lt, at_take}
use Rattle.lists.specs.Places.{At}
use Rattle.machine.proofs.Pages.{page_entry, page_long, page_requests}
use Rattle.machine.proofs.Plans.{goes_on, stops}
use Rattle.machine.specs.Plan.{did, done, outcome, refused}
use Rattle.machine.specs.Reads.{entries, page, page_end, page_into}
use Rattle.machine.specs.Rooms.{largest, page_limit}
use Rattle.machine.specs.Types.{Ledger}
use Rattle.records.specs.declared.PageEntry.{PageEntry}
use Rattle.records.specs.declared.refusal.Refusal.TheVariants.{PageRoom}
use Rattle.std.proofs.Common.{Ok}
use Rattle.std.proofs.lemmas.List.{take_more_set}
use Rattle.tables.proofs.Laid.{laid}
use Rattle.tables.proofs.Rows.{log_count_is}
use Rattle.tables.specs.Parts.{log_count}
use Rattle.tables.specs.Tables.{Stands, Tables}

abbrev request_of_entry : PageEntry → ℕ
request_of_entry e = e.request_id.0

-- a page ends within the log
within : (m x from : ℕ) → min (min m x - from) (m - from) ≡ min m x - from
within m x from = omega arith

-- one more place of a row holds what the list has there
pub written_more : {A : Type 0} (row xs : List A) (k : ℕ) (v : A) → k < length row → At xs k v → take k row ≡ take k xs → take (k + 1) (set row k v) ≡ take (k + 1) xs
written_more {A = A} row xs k v h a q =
    take_more_set row k v h ∙ ap (λ (l : List A). l ++ v ∷ []) q
    ∙ sym (rw add-one (take-suc xs k v (at_lt a) ∙ ap (λ (x : A). take k xs ++ x ∷ []) (get_d_of_at v a)))

module _ {t : Tables} {L : Ledger} (st : Stands t L) (from limit : ℕ) where
  size_is : size_of_page (log_count t) from limit ≡ length (entries L from limit)
  size_is =
      ap (λ (c : ℕ). size_of_page c from limit) (log_count_is st.sound (laid L st.laid))
      ∙ sym (
      page_long L st.sound from limit
      ∙ length-take (page_end L from limit - from) (drop from L.log)
      ∙ ap (min (page_end L from limit - from)) (length-drop from L.log)
      ∙ within (length L.log) (min (from + min limit page_limit) largest) from
      )

  module _ (size : ℕ) (e : size ≡ size_of_page (log_count t) from limit) where
    -- a row of fewer places than the page has entries
    pub no_room : (room : ℕ) → room < size → outcome (page_into L from limit room) ≡ refused PageRoom
    no_room room h = stops PageRoom (done (entries L from limit)) (lt-ltb room (length (entries L from limit)) (omega (arith, size_is)))

    -- slot from + k is entry k
    pub entry_there : (k : ℕ) (x : PageEntry) → k < size → SlotEntry t (from + k) x → At (entries L from limit) k x
    entry_there k x h s =
        let (e, he) = at_below (entries L from limit) k (omega (arith, size_is)) in
        let (p, there, is) = page_entry L st.sound from limit he in
        let named : At (page L from limit) k e.request_id.0 = rw (page_requests L st.sound from limit) at (at_map request_of_entry he) in
        let slot = at_drop from L.log (at_take (page_end L from limit - from) (drop from L.log) named) in
        rw (s.shows st slot there ∙ sym is) he

    -- the whole page is written
    pub page_written : {A : Type 0} (f : PageEntry → A) (rows row : List A) (k : ℕ) → size ≤ length rows → length row ≡ size → k ≡ size → take k row ≡ take k (map f (entries L from limit))
        → record { answer = Ok size; rows = row ++ drop size rows } ≡ paged f rows (outcome (page_into L from limit (length rows)))
    page_written f rows row k room long all q =
        let es = entries L from limit in
        let count : size ≡ length es = omega (arith, size_is) in
        let whole : row ≡ map f es = sym (take_all k row (omega arith)) ∙ q ∙ take_all k (map f es) (omega (arith, length-map es f)) in
        let told : outcome (page_into L from limit (length rows)) ≡ did es = goes_on PageRoom (done es) (le-ltb (length rows) (length es) (omega arith)) in
        rw told (λ i. record { answer = Ok (count i); rows = whole i ++ drop (count i) rows })
