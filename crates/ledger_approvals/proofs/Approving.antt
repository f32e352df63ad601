-- Each way out of `approve_sound` past decidability, by what its tests read in the tables. Assumes nothing.
use mathlib.Core.Path.{◌∙◌, ◌≡◌, ap, refl, sym}
use Prim.Native.Nat.{◌+◌, ◌-◌, ℕ}
use borrow.Author.Tests.{eq-eqb, ne_eqb}
use lib.Dec.{eqb}
use lib.Pointwise.{pointwise}
use lib.ListN.{drop, get_or, length, set, take}
use mathlib.Core.Bool.{Bool, false, not, true, ◌&&◌}
use mathlib.Core.List.{List, [], ◌∷◌}
use native.Mathlib.Omega.{arith}
use Rattle.std.proofs.Common.{Result, Ok, Err}
use Rattle.answers.specs.Answers.{proved}
use Rattle.answers.specs.Calls.{approve_call}
use Rattle.answers.specs.Does.{Part}
use Rattle.ids.specs.declared.RequestId.{RequestId}
use Rattle.ledger_decisions.proofs.Laying.{book_laid, head_kept, keys_laid, log_laid, texts_laid}
use Rattle.ledger_decisions.proofs.Picked.{approver_of, candidate_of, does, not_authentic, not_decidable, refuses, verdict}
use Rattle.ledger_approvals.specs.Recorded.{proof_told}
use Rattle.ledger_decisions.specs.Stores.{settled}
use Rattle.ledger_callers.specs.Authenticates.{Authenticates}
use Rattle.ledger_requests.proofs.Cells.{asked_cell, holder_cell, logged_is}
use Rattle.ledger_requests.specs.Candidates.{MayDecide}
use Rattle.lists.specs.Places.{At}
use Rattle.machine.proofs.Keep.{sound_approve}
use Rattle.machine.proofs.Pages.{log_has_room}
use Rattle.machine.specs.Machine.{Candidate, Did, decided, did_approve, verdict_of}
use Rattle.machine.specs.Plan.{Plan, ◌>>◌, done, refuse◌if◌}
use Rattle.machine.specs.Tests.{Place, asks, same, used}
use Rattle.machine.specs.Told.{Texted, approval_by}
use Rattle.machine.specs.Types.{Approved, Bytes, Decision, Ledger, Request, Verdict}
use Rattle.records.specs.declared.ApprovalProof.{ApprovalProof}
use Rattle.records.specs.declared.BlockTime.{BlockTime}
use Rattle.records.specs.declared.Caller.{Caller}
use Rattle.records.specs.declared.role.Role.TheVariants.{Approver}
use Rattle.records.specs.declared.refusal.Refusal.{Refusal}
use Rattle.records.specs.declared.refusal.Refusal.TheVariants.{ActionMismatch, SelfApproval}
use Rattle.tables.proofs.Indexed.{agent_index, asked_index, head_row_lem, text_index}
use Rattle.tables.proofs.Stored.{stored}
use Rattle.tables.specs.Parts.{cell, log_count}
use Rattle.tables.specs.Tables.{Stands, Tables, decided_row, head_row, log_row, tables}

-- the part of the text table that code compares
abbrev pub text_part : Tables → ℕ → List ℕ
text_part t n =
    let start = cell (n + 65) 2 t.book in
    take (start + cell (n + 65) 3 t.book - start) (drop start t.texts)

text_is : {t : Tables} {L : Ledger} (st : Stands t L) {n : ℕ} {r : Request} → At L.requests n r → text_part t n ≡ r.asked.text
text_is {L = L} st {n} {r} hr =
    let len : used (take n (asks L)) + length r.asked.text - used (take n (asks L)) ≡ length r.asked.text = omega arith in
    rw (asked_cell st hr 2, asked_cell st hr 3, len) (text_index st hr)

-- the machine's test of a text is the library's
same_is : (a b : Bytes) → same a b ≡ pointwise eqb a b
same_is [] [] = refl
same_is [] (y ∷ ys) = refl
same_is (x ∷ xs) [] = refl
same_is (x ∷ xs) (y ∷ ys) = ap (λ (r : Bool). eqb x y && r) (same_is xs ys)

module _ (c : Caller) (id : RequestId) (text : Bytes) (time : BlockTime) where
  -- the plan past decidability
  abbrev then_approves : Ledger → Place → Candidate → Plan (Did (Texted ApprovalProof))
  then_approves L b x = do
    refuse ActionMismatch if not (same x.req.asked.text text)
    refuse SelfApproval if eqb c.signer.0 x.req.asked.account
    done (did_approve L c b id.0 x time)

  abbrev pub Approves : Tables → Tables → Result ApprovalProof Refusal → Type 0
  Approves = Part (approve_call c id text time)

  pub stranger : {t : Tables} {e : Refusal} → Authenticates t c Approver (Err e) → Approves t t (Err e)
  unfolding approve_call
  stranger = not_authentic proved c id.0 then_approves

  pub undecidable : {t : Tables} {b : ℕ} {e : Refusal} → Authenticates t c Approver (Ok b) → MayDecide t id.0 (Err e) → Approves t t (Err e)
  unfolding approve_call
  undecidable = not_decidable proved c id.0 then_approves

  module _ {t : Tables} {b i : ℕ} (a : Authenticates t c Approver (Ok b)) (d : MayDecide t id.0 (Ok i)) where
    -- whether the text differs, as code tests it
    abbrev pub differs : Bool
    differs = not (pointwise eqb (text_part t id.0) text)

    tested : {L : Ledger} (st : Stands t L) {r : Request} → At L.requests id.0 r → not (same r.asked.text text) ≡ differs
    tested st {r} hr = ap not (same_is r.asked.text text ∙ ap (λ (l : Bytes). pointwise eqb l text) (sym (text_is st hr)))

    pub mismatch : true ≡ differs → Approves t t (Err ActionMismatch)
    unfolding approve_call
    mismatch h = refuses proved c id.0 then_approves a d ActionMismatch (λ L st w. rw (tested st w.req_at, ← h))

    module _ (read : false ≡ differs) where
      pub self : c.signer.0 ≡ cell (id.0 + 65) 0 t.book → Approves t t (Err SelfApproval)
      unfolding approve_call
      self h = refuses proved c id.0 then_approves a d SelfApproval (λ L st w.
          rw (tested st w.req_at, ← read, eq-eqb c.signer.0 w.req.asked.account (h ∙ asked_cell st w.req_at 0)))

      -- the approval that is stored and answered
      abbrev pub given : Verdict
      given = verdict c time (cell (b + 1) 2 t.book)

      pub approves : {s k : List (List ℕ)} → (c.signer.0 ≡ cell (id.0 + 65) 0 t.book → ⊥)
          → s ≡ settled id.0 i (decided_row (Approved (log_count t) given)) t.book → k ≡ set t.keys (id.0 + 320) c.signer_key
          → Approves t
          (tables (set (set s (log_count t + 833) (log_row id.0)) 0 (set (get_or t.book 0 []) 4 (log_count t + 1))) k t.texts)
          (Ok (proof_told id (get_or t.book (id.0 + 65) []) (get_or t.keys (id.0 + 64) []) (approval_by (log_count t) given)))
      unfolding approve_call
      approves {s} {k} h es ek = does proved c id.0 then_approves a d (λ L good. sound_approve L good c id.0 text time) (λ L st w.
          let by = approver_of w in
          let x = candidate_of w in
          let v : Decision = Approved (length L.log) (verdict_of c by time) in
          let slot = logged_is st in
          let same : given ≡ verdict_of c by time = ap (verdict c time) (holder_cell st w.approver_at 2) in
          let row : decided_row (Approved (log_count t) given) ≡ decided_row v = λ j. decided_row (Approved (slot j) (same j)) in
          let asked = asked_index st w.req_at (id.0 + 65) (omega arith) in
          let agent = agent_index st w.req_at (id.0 + 64) (omega arith) in
          let settled-book = book_laid st w.req_at w.agent_at v in
          let head : get_or t.book 0 [] ≡ head_row (decided L id.0 x v L.log) = head_row_lem st ∙ head_kept st w.req_at w.agent_at v in
          let logged = log_laid (decided L id.0 x v L.log) settled-book id.0 (length L.log) refl (log_has_room L st.sound w.req_at w.fresh) in (
            did_approve L c by id.0 x time,
            rw (tested st w.req_at, ← read, ne_eqb c.signer.0 w.req.asked.account (λ e. h (e ∙ sym (asked_cell st w.req_at 0)))),
            (λ j. Ok (proof_told id (asked j) (agent j) (approval_by (slot j) (same j)))),
            rw (es, ek, row, head) (stored (did_approve L c by id.0 x time).ledger logged refl (keys_laid st w.req_at w.agent_at v) refl (texts_laid st w.req_at w.agent_at v)),
          ))
