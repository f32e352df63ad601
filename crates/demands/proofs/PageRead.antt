-- What a page of records shows, by the public promise: record k is slot `start` + k and its request's proof, and records past the page are as they were lent, or empty. Assumes nothing.
use Rattle.std.proofs.Common.{inl, inr, ◌∙◌, ◌≡◌, ap, refl, subst, drop, length, List, ◌++◌, arith, ◌+◌, ◌<◌, ℕ, Ok}
use mathlib.Core.List.{map-id}
use mathlib.Core.Option.{some}
use lib.Seq.{drop-append_seam}
use Rattle.answers.proofs.Pages.{page_apart, page_filled}
use Rattle.answers.specs.Answers.{PageOut, as_is, no_entries}
use Rattle.answers.specs.Calls.{page_call, page_in_call}
use Rattle.answers.specs.Does.{Does}
use Rattle.answers.specs.declared.Page.{Page}
use Rattle.lists.proofs.Places.{at_append}
use Rattle.lists.specs.Places.{At}
use Rattle.machine.proofs.Pages.{page_entry}
use Rattle.machine.specs.Reads.{approval, entries, entry}
use Rattle.machine.specs.Told.{Texted}
use Rattle.machine.specs.Types.{Ledger}
use Rattle.records.specs.declared.ApprovalProof.{ApprovalProof}
use Rattle.records.specs.declared.PageEntry.{PageEntry}
use Rattle.tables.specs.Tables.{Stands, Tables}

module _ {t u : Tables} (L : Ledger) (st : Stands t L) (page : List PageEntry) (start limit : ℕ)
    {r : PageOut PageEntry} (d : Does (page_call as_is page start limit) t u r) {n : ℕ} (told : r.answer ≡ Ok n) where
  abbrev es : List PageEntry
  es = entries L start limit

  -- a page that is not refused is the machine's
  page_is : (n ≡ length es) × (r.rows ≡ es ++ drop (length es) page)
  page_is = let w = page_filled as_is page start limit d L st told in (w.0, w.1 ∙ rw map-id refl)

  pub record_read : {k : ℕ} {e : PageEntry} → k < n → At r.rows k e → (p : Texted ApprovalProof) × (approval L e.request_id.0 ≡ some p) × (e ≡ entry (start + k) p.is)
  record_read {k} {e} h a = elim (at_append es (drop (length es) page) (subst (λ (l : List PageEntry). At l k e) page_is.1 a)) [
    | inl b ↦ page_entry L st.sound start limit b
    | inr w ↦ absurd (omega (arith, page_is.0, w.1))
  ]

  pub past_the_page : drop n r.rows ≡ drop n page
  past_the_page = ap (λ (l : List PageEntry). drop n l) page_is.1 ∙ rw page_is.0 (drop-append_seam es (drop (length es) page))

-- ---- the same of a page in a record of its own
module _ {t u : Tables} (L : Ledger) (st : Stands t L) (start limit : ℕ) {p : Page} (d : Does (page_in_call start limit) t u (Ok p)) where
  pub own_record_read : {k : ℕ} {e : PageEntry} → k < p.count → At p.entries k e
      → (q : Texted ApprovalProof) × (approval L e.request_id.0 ≡ some q) × (e ≡ entry (start + k) q.is)
  own_record_read = record_read L st no_entries start limit (page_apart start limit d) refl

  pub empty_past_the_page : drop p.count p.entries ≡ drop p.count no_entries
  empty_past_the_page = past_the_page L st no_entries start limit (page_apart start limit d) refl
