-- A slot as code reads it: the request that it names, and the entry of that request's proof. Assumes nothing.
use mathlib.Core.Path.{◌∙◌, ◌≡◌, ap, sym}
use Prim.Native.Nat.{◌+◌, ◌<◌, ℕ}
use lib.ListN.{get_or}
use mathlib.Core.List.{List, []}
use native.Mathlib.Omega.{arith}
use Rattle.ledger_reads.proofs.Decided.{slot_marked}
use Rattle.ledger_reads.proofs.Requested.{proof_in_rows, proof_read}
use Rattle.ledger_pages.specs.Pages.{SlotEntry}
use Rattle.lists.proofs.Places.{at_below, at_lt}
use Rattle.machine.specs.Reads.{entry}
use Rattle.records.specs.declared.ApprovalProof.{ApprovalProof}
use Rattle.tables.proofs.Indexed.{decided_index, log_index}
use Rattle.tables.proofs.Laid.{laid}
use Rattle.tables.proofs.Once.{standing}
use Rattle.tables.proofs.Rows.{log_count_is, request_count_is}
use Rattle.tables.specs.Lent.{lent}
use Rattle.tables.specs.Parts.{cell, log_count, request_count}
use Rattle.tables.specs.Tables.{Tables}
use Rattle.tables.specs.declared.Sound.{Sound}

-- a slot names a request
pub slot_inside : (sound : Sound) (j : ℕ) → j < log_count (lent sound) → get_or (get_or sound.book.now (j + 833) []) 0 0 < request_count (lent sound)
slot_inside sound j h =
    let w = standing sound.fits in
    let st = w.stands in
    let (n, hn) = at_below w.ledger.log j (rw (log_count_is st.sound (laid w.ledger st.laid)) at h) in
    let o = st.sound.judged.logged hn in
    rw (log_index st hn (j + 833) (omega arith)) (omega (arith, at_lt o.1, request_count_is st.sound (laid w.ledger st.laid)))

-- the entry that the cells make is that of the request's proof
pub slot_read : {t : Tables} {j : ℕ}
    → SlotEntry t j (entry j (let n = cell (j + 833) 0 t.book in
    proof_in_rows n (get_or t.book (n + 65) []) (get_or t.keys (n + 64) []) (get_or t.book (n + 321) []) (get_or t.keys (n + 320) [])))
slot_read {t} {j} = record {
  shows = λ {L} {n} {p} st h e.
      let o = st.sound.judged.logged h in
      let inside : n < request_count t = omega (arith, at_lt o.1, request_count_is st.sound (laid L st.laid)) in
      let marked : cell (n + 321) 0 t.book ≡ 1 = ap (λ (row : List ℕ). get_or row 0 0) (decided_index st o.1 (n + 321) (omega arith)) ∙ slot_marked o.0.decision o.2 in
      let read = proof_read st inside marked in
      let same : p.is ≡ proof_in_rows n (get_or t.book (n + 65) []) (get_or t.keys (n + 64) []) (get_or t.book (n + 321) []) (get_or t.keys (n + 320) []) = cc in
      rw (log_index st h (j + 833) (omega arith)) (ap (λ (q : ApprovalProof). entry j q) (sym same));
}
