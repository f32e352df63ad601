-- Each way out of `reject_sound` past decidability, by what its tests read in the tables. Assumes nothing.
use mathlib.Core.Path.{◌∙◌, ◌≡◌, ap, refl, sym}
use Prim.Native.Nat.{◌+◌, ℕ}
use borrow.Author.Tests.{eq-eqb, ne_eqb}
use lib.Dec.{eqb}
use lib.ListN.{get_or, set}
use mathlib.Core.List.{List, []}
use native.Mathlib.Omega.{arith}
use Rattle.std.proofs.Common.{Result, Ok, Err}
use Rattle.answers.specs.Answers.{requested}
use Rattle.answers.specs.Calls.{reject_call}
use Rattle.answers.specs.Does.{Part}
use Rattle.ids.specs.declared.RequestId.{RequestId}
use Rattle.ledger_decisions.proofs.Laying.{book_laid, keys_laid, texts_laid}
use Rattle.ledger_decisions.proofs.Picked.{approver_of, candidate_of, does, not_authentic, not_decidable, refuses, verdict}
use Rattle.ledger_decisions.specs.Stores.{settled}
use Rattle.ledger_callers.specs.Authenticates.{Authenticates}
use Rattle.ledger_requests.proofs.Cells.{asked_cell, holder_cell}
use Rattle.ledger_requests.specs.Candidates.{MayDecide}
use Rattle.ledger_requests.specs.Recorded.{request_told}
use Rattle.machine.proofs.Keep.{sound_reject}
use Rattle.machine.specs.Machine.{Candidate, Did, did_reject, verdict_of}
use Rattle.machine.specs.Plan.{Plan, ◌>>◌, done, refuse◌if◌}
use Rattle.machine.specs.Tests.{Place}
use Rattle.machine.specs.Told.{Texted, made}
use Rattle.machine.specs.Types.{Decision, Ledger, Rejected}
use Rattle.records.specs.declared.ActionRequest.{ActionRequest}
use Rattle.records.specs.declared.BlockTime.{BlockTime}
use Rattle.records.specs.declared.Caller.{Caller}
use Rattle.records.specs.declared.role.Role.TheVariants.{Approver}
use Rattle.records.specs.declared.refusal.Refusal.{Refusal}
use Rattle.records.specs.declared.refusal.Refusal.TheVariants.{SelfApproval}
use Rattle.tables.proofs.Indexed.{agent_index, asked_index}
use Rattle.tables.proofs.Stored.{stored}
use Rattle.tables.specs.Parts.{cell}
use Rattle.tables.specs.Tables.{Tables, decided_row, tables}

module _ (c : Caller) (id : RequestId) (time : BlockTime) where
  -- the plan past decidability
  abbrev then_rejects : Ledger → Place → Candidate → Plan (Did (Texted ActionRequest))
  then_rejects L b x = do
    refuse SelfApproval if eqb c.signer.0 x.req.asked.account
    done (did_reject L c b id.0 x time)

  abbrev pub Rejects : Tables → Tables → Result ActionRequest Refusal → Type 0
  Rejects = Part (reject_call c id time)

  pub stranger : {t : Tables} {e : Refusal} → Authenticates t c Approver (Err e) → Rejects t t (Err e)
  unfolding reject_call
  stranger = not_authentic requested c id.0 then_rejects

  pub undecidable : {t : Tables} {b : ℕ} {e : Refusal} → Authenticates t c Approver (Ok b) → MayDecide t id.0 (Err e) → Rejects t t (Err e)
  unfolding reject_call
  undecidable = not_decidable requested c id.0 then_rejects

  module _ {t : Tables} {b i : ℕ} (a : Authenticates t c Approver (Ok b)) (d : MayDecide t id.0 (Ok i)) where
    pub self : c.signer.0 ≡ cell (id.0 + 65) 0 t.book → Rejects t t (Err SelfApproval)
    unfolding reject_call
    self h = refuses requested c id.0 then_rejects a d SelfApproval (λ L st w. rw (eq-eqb c.signer.0 w.req.asked.account (h ∙ asked_cell st w.req_at 0)))

    -- the decision that is stored and answered
    abbrev pub decision : Decision
    decision = Rejected (verdict c time (cell (b + 1) 2 t.book))

    pub rejects : {s k : List (List ℕ)} → (c.signer.0 ≡ cell (id.0 + 65) 0 t.book → ⊥)
        → s ≡ settled id.0 i (decided_row decision) t.book → k ≡ set t.keys (id.0 + 320) c.signer_key
        → Rejects t (tables s k t.texts) (Ok (request_told id (get_or t.book (id.0 + 65) []) (get_or t.keys (id.0 + 64) []) (made decision)))
    unfolding reject_call
    rejects h es ek = does requested c id.0 then_rejects a d (λ L good. sound_reject L good c id.0 time) (λ L st w.
        let by = approver_of w in
        let x = candidate_of w in
        let v : Decision = Rejected (verdict_of c by time) in
        let same : decision ≡ v = ap (λ (g : ℕ). Rejected (verdict c time g)) (holder_cell st w.approver_at 2) in
        let asked = asked_index st w.req_at (id.0 + 65) (omega arith) in
        let agent = agent_index st w.req_at (id.0 + 64) (omega arith) in (
          did_reject L c by id.0 x time,
          rw (ne_eqb c.signer.0 w.req.asked.account (λ e. h (e ∙ sym (asked_cell st w.req_at 0)))),
          (λ j. Ok (request_told id (asked j) (agent j) (made (same j)))),
          rw (es, ek, ap decided_row same) (stored (did_reject L c by id.0 x time).ledger (book_laid st w.req_at w.agent_at v) refl (keys_laid st w.req_at w.agent_at v) refl (texts_laid st w.req_at w.agent_at v)),
        ))
