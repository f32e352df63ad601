-- A page in a record of its own is the page of a row with nothing in it. Assumes nothing.
use mathlib.Core.Path.{◌≡◌, ap, refl, sym}
use mathlib.Core.List.{List, ◌++◌, map-id}
use lib.ListN.{drop, length, replicate}
use Prim.Native.Nat.{ℕ}
use Rattle.std.specs.Prelude.{Result, Ok, Err}
use Rattle.answers.proofs.Doing.{does_as}
use Rattle.answers.specs.Answers.{PageOut, as_is, empty_entry, no_entries, page_in, paged}
use Rattle.answers.specs.Calls.{page_call, page_in_call}
use Rattle.answers.specs.Does.{Does}
use Rattle.answers.specs.declared.Page.{Page}
use Rattle.machine.specs.Plan.{Outcome, did, outcome, refused}
use Rattle.machine.specs.Reads.{page_into}
use Rattle.machine.specs.Rooms.{page_limit}
use Rattle.records.specs.declared.PageEntry.{PageEntry}
use Rattle.records.specs.declared.refusal.Refusal.{Refusal}
use Rattle.tables.specs.Tables.{Tables}

-- the count and the row, in one record
abbrev pub together : Result ℕ Refusal → List PageEntry → Result Page Refusal
together (Ok n) rows = Ok (record { count = n; entries = rows })
together (Err e) rows = Err e

whole : (o : Outcome (List PageEntry)) → together (paged as_is no_entries o).answer (paged as_is no_entries o).rows ≡ page_in o
whole (refused e) = refl
whole (did es) = ap (λ (l : List PageEntry). Ok (record { count = length es; entries = l ++ drop (length es) no_entries })) (map-id es)

pub page_in_own : (from limit : ℕ) (nothing : PageEntry) → nothing ≡ empty_entry → {t u : Tables} {answer r : Result ℕ Refusal} {rows : List PageEntry}
    → Does (page_call as_is (replicate 100 nothing) from limit) t u (record { answer = answer; rows = rows }) → answer ≡ r → Does (page_in_call from limit) t u (together r rows)
unfolding page_call page_in_call
page_in_own from limit nothing is-empty {rows = rows} d was =
    does_as (λ (o : PageOut PageEntry). together o.answer o.rows) refl (λ L. rw is-empty (whole (outcome (page_into L from limit page_limit)))) (λ L. refl) d
    (ap (λ (a : Result ℕ Refusal). together a rows) (sym was))
