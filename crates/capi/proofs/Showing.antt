-- How the two reads into lent numbers meet their promises: the proof of a request with its text's place, and two revocations. For the proofs of `proof`. Assumes nothing.
use borrow.Rule.Slice.PartMut.{post_of}
use lib.ListN.{drop, length, length-drop, take}
use mathlib.Core.List.{List, [], ◌++◌}
use mathlib.Core.Path.{◌∙◌, ◌≡◌, ap}
use native.Mathlib.Omega.{arith}
use Prim.Native.Nat.{ℕ}
use Rattle.std.proofs.lemmas.List.{append-nil, drop_all}
use Rattle.std.specs.Prelude.{None, Ok, Option, Result, Some}
use Rattle.answers.proofs.Doing.{part_read}
use Rattle.answers.specs.Answers.{shown}
use Rattle.answers.specs.Calls.{approval_call}
use Rattle.answers.specs.Does.{Part}
use Rattle.answers.specs.Texts.{extent}
use Rattle.capi.specs.Entries.{proof_entry}
use Rattle.capi.specs.Outcomes.{ProofTold, RowTold, accepted, ended_cells, proof_told, revocations_told}
use Rattle.machine.specs.Reads.{approval}
use Rattle.machine.specs.Told.{id_of_request}
use Rattle.machine.specs.Types.{Bytes, Ledger}
use Rattle.records.specs.declared.ApprovalProof.{ApprovalProof}
use Rattle.records.specs.declared.BlockTime.{BlockTime}
use Rattle.records.specs.declared.ProofRevocations.{ProofRevocations}
use Rattle.records.specs.declared.refusal.Refusal.{Refusal}
use Rattle.tables.specs.Tables.{Stands, Tables}

-- what the ledger's part shows of sound tables, told
pub shows : (row : List ℕ) (a b : Bytes) (n : ℕ) {t : Tables} {v : Result (Option ApprovalProof) Refusal} {r : ProofTold} → Part (approval_call (id_of_request n)) t t v
    → ((L : Ledger) → Stands t L → r ≡ proof_told row a b (extent L n) v) → Part (proof_entry row a b n) t t r
unfolding approval_call
shows row a b n p h = part_read _ _ (λ L st. h L st ∙ ap (proof_told row a b (extent L n)) (p.does L st).0)

-- ---- two revocations, written to the halves of a row of six numbers
abbrev both : List ℕ → RowTold
both l = record { outcome = accepted 0; row = l }

module _ (row : List ℕ) (long : length row ≡ 6) where
  past : drop 3 (drop 3 row) ≡ []
  past = drop_all 3 (drop 3 row) (omega (arith, long, length-drop 3 row))

  pub halves : (p : ProofRevocations)
      → both (take 3 (ended_cells p.agent ++ post_of 0 3 row) ++ (ended_cells p.approver ++ post_of 3 3 (ended_cells p.agent ++ post_of 0 3 row))) ≡ revocations_told row (Ok p)
  halves p = ap both (go p.agent)
    where
      go : (a : Option BlockTime) → take 3 (ended_cells a ++ post_of 0 3 row) ++ (ended_cells p.approver ++ post_of 3 3 (ended_cells a ++ post_of 0 3 row)) ≡ ended_cells a ++ ended_cells p.approver
      go None = rw (past, append-nil (ended_cells p.approver))
      go (Some t) = rw (past, append-nil (ended_cells p.approver))
