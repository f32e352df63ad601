-- Whether a request may be decided, from the rows that code reads. Assumes nothing.
use mathlib.Core.Path.{◌≡◌, refl}
use Prim.Native.Nat.{◌+◌, ◌<◌, ◌≤◌, ℕ}
use borrow.Author.Tests.{eq-eqb, ne_eqb}
use lib.Dec.{eqb}
use lib.ListN.{get_or}
use mathlib.Core.List.{[]}
use native.Mathlib.Omega.{arith}
use Rattle.std.proofs.Common.{Some, None, Ok, Err}
use Rattle.ledger_live.specs.Lives.{Lives}
use Rattle.ledger_requests.proofs.Cells.{asked_cell, count_is, holder_cell, logged_is}
use Rattle.ledger_requests.specs.Candidates.{MayDecide, Waits}
use Rattle.lists.proofs.Places.{at_below, at_lt, past_end}
use Rattle.lists.specs.Places.{At}
use Rattle.machine.proofs.Live.{some_pending}
use Rattle.machine.proofs.Look.{undecided}
use Rattle.machine.proofs.Pages.{log_has_room}
use Rattle.machine.specs.Tests.{approved, rejected}
use Rattle.machine.specs.Types.{Approved, Decision, Ledger, Rejected, Request, Undecided}
use Rattle.records.specs.declared.refusal.Refusal.TheVariants.{AgentRevoked, AlreadyApproved, AlreadyRejected, RequestNotFound}
use Rattle.tables.proofs.Indexed.{decided_index, text_inside}
use Rattle.tables.proofs.Laid.{laid}
use Rattle.tables.proofs.Once.{standing}
use Rattle.tables.proofs.Rows.{key_count_is}
use Rattle.tables.specs.Fit.{Fit}
use Rattle.tables.specs.Parts.{cell, request_count}
use Rattle.tables.specs.Tables.{Stands, Tables, decided_row}

-- ---- the mark in a decision's row
approved_mark : (d : Decision) → approved d ≡ eqb (get_or (decided_row d) 0 0) 1
approved_mark Undecided = refl
approved_mark (Approved j v) = refl
approved_mark (Rejected v) = refl

rejected_mark : (d : Decision) → rejected d ≡ eqb (get_or (decided_row d) 0 0) 2
rejected_mark Undecided = refl
rejected_mark (Approved j v) = refl
rejected_mark (Rejected v) = refl

module _ {t : Tables} {n : ℕ} where
  pub not_there : request_count t ≤ n → MayDecide t n (Err RequestNotFound)
  not_there h = record { decides = λ {L} st. rw (past_end L.requests n (rw (count_is st) at h)); waits = tt }

  module _ (here : n < request_count t) where
    there : {L : Ledger} → Stands t L → (r : Request) × At L.requests n r
    there {L} st = at_below L.requests n (rw (count_is st) at here)

    mark_is : {L : Ledger} → Stands t L → {r : Request} → At L.requests n r → get_or t.book (n + 321) [] ≡ decided_row r.decision
    mark_is st hr = decided_index st hr (n + 321) (omega arith)

    approved_is : {L : Ledger} → Stands t L → {r : Request} → At L.requests n r → approved r.decision ≡ eqb (cell (n + 321) 0 t.book) 1
    approved_is st {r} hr = rw (mark_is st hr) (approved_mark r.decision)

    rejected_is : {L : Ledger} → Stands t L → {r : Request} → At L.requests n r → rejected r.decision ≡ eqb (cell (n + 321) 0 t.book) 2
    rejected_is st {r} hr = rw (mark_is st hr) (rejected_mark r.decision)

    pub already_approved : cell (n + 321) 0 t.book ≡ 1 → MayDecide t n (Err AlreadyApproved)
    already_approved h = record { decides = λ st. let w = there st in rw (w.1.is, approved_is st w.1, eq-eqb _ 1 h); waits = tt }

    module _ (not_approved : cell (n + 321) 0 t.book ≡ 1 → ⊥) where
      pub already_rejected : cell (n + 321) 0 t.book ≡ 2 → MayDecide t n (Err AlreadyRejected)
      already_rejected h = record { decides = λ st. let w = there st in rw (w.1.is, approved_is st w.1, ne_eqb _ 1 not_approved, rejected_is st w.1, eq-eqb _ 2 h); waits = tt }

      module _ (not-rejected : cell (n + 321) 0 t.book ≡ 2 → ⊥) where
        pub agent_revoked : Lives t n None → MayDecide t n (Err AgentRevoked)
        agent_revoked l = record {
          decides = λ st. let w = there st in rw (w.1.is, approved_is st w.1, ne_eqb _ 1 not_approved, rejected_is st w.1, ne_eqb _ 2 not-rejected, l.lives st w.1);
          waits = tt;
        }

        fresh : {L : Ledger} → Stands t L → {r : Request} → At L.requests n r → r.decision ≡ Undecided
        fresh st {r} hr = undecided r.decision (rw (approved_is st hr) (ne_eqb _ 1 not_approved)) (rw (rejected_is st hr) (ne_eqb _ 2 not-rejected))

        waiting : {L : Ledger} → Stands t L → {i : ℕ} → Lives t n (Some i) → Waits t n i
        waiting {L} st l =
            let w = there st in
            let f = l.lives st w.1 in
            record {
              number = here;
              place = rw (key_count_is st.sound (laid L st.laid)) (at_lt f.1);
              pending = rw (holder_cell st f.1 4) (some_pending L st.sound w.1 (fresh st w.1) f.2);
              text = rw (asked_cell st w.1 2, asked_cell st w.1 3) (omega (arith, text_inside st w.1, st.sound.rooms.text));
              slot = rw (logged_is st) (log_has_room L st.sound w.1 (fresh st w.1));
            }

        pub may_be_decided : Fit t → {i : ℕ} → Lives t n (Some i) → MayDecide t n (Ok i)
        may_be_decided s l = record {
          decides = λ st.
              let w = there st in
              let f = l.lives st w.1 in
              (w.0, f.0, w.1, f.1, fresh st w.1, rw (w.1.is, approved_is st w.1, ne_eqb _ 1 not_approved, rejected_is st w.1, ne_eqb _ 2 not-rejected, f.2));
          waits = waiting (standing s).stands l;
        }
