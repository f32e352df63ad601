-- A request as code reads it: its status, its proof, its text, from the cells of its rows. Assumes nothing.
use mathlib.Core.Path.{◌∙◌, ◌≡◌, ap, sym}
use Rattle.std.specs.Prelude as Std
use Prim.Native.Nat.{◌+◌, ◌<◌, ◌≤◌, ℕ}
use lib.ListN.{get_or, get_elem?, length, take}
use mathlib.Core.List.{List, []}
use mathlib.Core.Option.{Option, none, some}
use native.Mathlib.Omega.{arith}
use Rattle.answers.specs.Texts.{extent, extent_by}
use Rattle.ledger_live.specs.Lives.{Lives, LivesAs}
use Rattle.ledger_reads.proofs.Decided.{approved_is, approved_marked, mark_small, rejected_marked, status_by_mark, status_marked, unapproved}
use Rattle.ledger_reads.specs.Read.{ApprovedAt}
use Rattle.lists.proofs.Places.{at_below, past_end}
use Rattle.lists.specs.Places.{At}
use Rattle.machine.specs.Plan.{did, outcome, refused}
use Rattle.machine.specs.Reads.{approval, proof_by, proof_in, read_status, status}
use Rattle.machine.specs.Tests.{Place, asks, live, used}
use Rattle.machine.specs.Told.{account, id_of_registration, id_of_request}
use Rattle.machine.specs.Types.{Bytes, Ledger, Request}
use Rattle.records.specs.declared.ApprovalProof.{ApprovalProof}
use Rattle.records.specs.declared.refusal.Refusal.TheVariants.{RequestNotFound}
use Rattle.records.specs.declared.status.RequestStatus.{RequestStatus}
use Rattle.tables.proofs.Indexed.{agent_index, approver_index, asked_index, decided_index, text_inside}
use Rattle.tables.proofs.Laid.{laid}
use Rattle.tables.proofs.Rows.{request_count_is}
use Rattle.tables.proofs.Stored.{lengths}
use Rattle.tables.specs.Parts.{cell, request_count}
use Rattle.tables.specs.Tables.{Stands, Tables, asked_row, decided_row}
use Rattle.records.specs.declared.status.RequestStatus.TheVariants as Status

-- an undecided request's status, by the key that it is live under
abbrev pub waiting : Std.Option ℕ → RequestStatus
waiting (Std.Some i) = Status.Pending
waiting Std.None = Status.Void

told_status : (L : Ledger) (o : Option Place) (l : Std.Option ℕ) → LivesAs L o l → status_marked o 0 ≡ waiting l
told_status L o (Std.Some i) w = ap (λ (o : Option Place). status_marked o 0) w.2
told_status L o Std.None w = ap (λ (o : Option Place). status_marked o 0) w

-- the proof of request n that these rows and keys hold
abbrev pub proof_in_rows : ℕ → List ℕ → List ℕ → List ℕ → List ℕ → ApprovalProof
proof_in_rows n asked agent decided approver = record {
  approval_index = get_or decided 1 0;
  request_id = id_of_request n;
  agent_account_id = account (get_or asked 0 0);
  agent_key = agent;
  agent_registration_id = id_of_registration (get_or asked 1 0);
  requested_at = record { height = get_or asked 4 0; timestamp_ns = get_or asked 5 0 };
  approver_account_id = account (get_or decided 2 0);
  approver_key = approver;
  approver_registration_id = id_of_registration (get_or decided 3 0);
  approved_at = record { height = get_or decided 4 0; timestamp_ns = get_or decided 5 0 };
}

module _ {t : Tables} {L : Ledger} (st : Stands t L) where
  count_is : request_count t ≡ length L.requests
  count_is = request_count_is st.sound (laid L st.laid)

module _ {t : Tables} {L : Ledger} (st : Stands t L) {n : ℕ} where
  -- ---- past the last
  nowhere : request_count t ≤ n → get_elem? L.requests n ≡ none
  nowhere h = past_end L.requests n (rw (count_is st) at h)

  pub no_status : request_count t ≤ n → status L n ≡ refused RequestNotFound
  no_status h = ap (λ (o : Option Request). outcome (read_status L n o)) (nowhere h)

  pub no_approval : request_count t ≤ n → approval L n ≡ none
  no_approval h = ap (proof_in n) (nowhere h)

  -- ---- one that is there
  module _ (h : n < request_count t) where
    pub here : (r : Request) × At L.requests n r
    here = at_below L.requests n (rw (count_is st) at h)

    asked_is : get_or t.book (n + 65) [] ≡ asked_row (used (take n (asks L))) here.0.asked
    asked_is = asked_index st here.1 (n + 65) (omega arith)

    decided_is : get_or t.book (n + 321) [] ≡ decided_row here.0.decision
    decided_is = decided_index st here.1 (n + 321) (omega arith)

    mark_is : cell (n + 321) 0 t.book ≡ get_or (decided_row here.0.decision) 0 0
    mark_is = ap (λ (row : List ℕ). get_or row 0 0) decided_is

    -- its status
    status_read : status L n ≡ did (status_marked (live L n here.0.asked) (cell (n + 321) 0 t.book))
    status_read =
        ap (λ (o : Option Request). outcome (read_status L n o)) here.1.is
        ∙ ap did (status_by_mark (live L n here.0.asked) here.0.decision ∙ ap (status_marked (live L n here.0.asked)) (sym mark_is))

    status_at : (m : ℕ) → cell (n + 321) 0 t.book ≡ m → status L n ≡ did (status_marked (live L n here.0.asked) m)
    status_at m e = status_read ∙ ap (λ (k : ℕ). did (status_marked (live L n here.0.asked) k)) e

    pub status_approved : cell (n + 321) 0 t.book ≡ 1 → status L n ≡ did Status.Approved
    status_approved e = status_at 1 e ∙ ap did (approved_marked (live L n here.0.asked))

    pub status_rejected : cell (n + 321) 0 t.book ≡ 2 → status L n ≡ did Status.Rejected
    status_rejected e = status_at 2 e ∙ ap did (rejected_marked (live L n here.0.asked))

    pub status_waiting : (cell (n + 321) 0 t.book ≡ 1 → ⊥) → (cell (n + 321) 0 t.book ≡ 2 → ⊥) → (l : Std.Option ℕ) → Lives t n l → status L n ≡ did (waiting l)
    status_waiting a b l w = status_at 0 (omega (arith, mark_is, mark_small here.0.decision)) ∙ ap did (told_status L _ l (w.lives st here.1))

    -- its proof
    pub not_approved : (cell (n + 321) 0 t.book ≡ 1 → ⊥) → approval L n ≡ none
    not_approved e = ap (proof_in n) here.1.is ∙ unapproved n here.0.asked here.0.decision (λ w. e (mark_is ∙ w))

    module _ (m : cell (n + 321) 0 t.book ≡ 1) where
      pub proof_read : approval L n ≡ some (record {
        is = proof_in_rows n (get_or t.book (n + 65) []) (get_or t.keys (n + 64) []) (get_or t.book (n + 321) []) (get_or t.keys (n + 320) []);
        text = here.0.asked.text;
      })
      proof_read =
          ap (proof_in n) here.1.is ∙ ap (proof_by n here.0.asked) (approved_is here.0.decision (sym mark_is ∙ m))
          ∙ rw (asked_is, decided_is, agent_index st here.1 (n + 64) (omega arith), approver_index st here.1 (n + 320) (omega arith))

      -- where its text lies
      pub extent_read : extent L n ≡ record { start = cell (n + 65) 2 t.book; len = cell (n + 65) 3 t.book }
      extent_read = ap (extent_by L n) proof_read ∙ rw asked_is

      pub text_ends : cell (n + 65) 2 t.book + cell (n + 65) 3 t.book ≤ length t.texts
      text_ends = rw asked_is (omega (arith, text_inside st here.1, st.sound.rooms.text, (lengths st).texts_long))

-- the same of a place that was found to be an approved request's
module _ {t : Tables} {L : Ledger} (st : Stands t L) {n i : ℕ} (f : ApprovedAt t n (Std.Some i)) where
  pub proof_found : (text : Bytes) × (approval L n ≡ some (record {
    is = proof_in_rows n (get_or t.book (i + 65) []) (get_or t.keys (i + 64) []) (get_or t.book (i + 321) []) (get_or t.keys (i + 320) []);
    text = text;
  }))
  proof_found = rw (← f.0) (_, proof_read st f.1 f.2)

  pub extent_found : extent L n ≡ record { start = cell (i + 65) 2 t.book; len = cell (i + 65) 3 t.book }
  extent_found = rw (← f.0) (extent_read st f.1 f.2)
