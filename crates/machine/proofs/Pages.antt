-- A page of a sound ledger has an entry for each of its slots, in order, and each entry is its request's proof; the log has room. Assumes nothing.
use mathlib.Core.Path.{◌∙◌, ◌≡◌, ap, refl, sym}
use Prim.Native.Nat.{◌+◌, ◌-◌, ◌<◌, ◌≤◌, suc, zero, ℕ}
use lib.ListN.{drop, get_elem?, length, length-map}
use mathlib.Core.List.{List, [], ◌∷◌, map}
use mathlib.Core.Option.{some}
use native.Mathlib.Nat.{add-suc, add-zero, suc-add}
use native.Mathlib.Omega.{arith}
use Rattle.lists.proofs.Places.{at_drop, at_head, at_nil, at_take, down, up}
use Rattle.lists.proofs.Tallies.{tally_le, tally_lt}
use Rattle.lists.specs.Places.{At, upto}
use Rattle.machine.proofs.Keep.{asked_of}
use Rattle.machine.specs.Reads.{approval, entries, entries_from, entry, page, page_end, proof_by, proof_in}
use Rattle.machine.specs.Rooms.{log_room}
use Rattle.machine.specs.Sound.{Sound, slot}
use Rattle.machine.specs.Tests.{approved}
use Rattle.machine.specs.Told.{Texted, proof_of}
use Rattle.machine.specs.Types.{Approved, Decision, Ledger, Rejected, Request, Undecided}
use Rattle.records.specs.declared.ApprovalProof.{ApprovalProof}
use Rattle.records.specs.declared.PageEntry.{PageEntry}

-- Approve needs no LogFull: while a request is undecided, the log is shorter than the requests
pub log_has_room : (L : Ledger) → Sound L → {n : ℕ} {r : Request} → At L.requests n r → r.decision ≡ Undecided → length L.log < log_room
log_has_room L s {r = r} h e =
    omega (arith, s.judged.log_length, tally_lt (λ (x : Request). approved x.decision) h (ap approved e), s.rooms.requests, length-map L.requests asked_of)

pub log_short : (L : Ledger) → Sound L → length L.log ≤ log_room
log_short L s = omega (arith, s.judged.log_length, tally_le (λ (x : Request). approved x.decision) L.requests, s.rooms.requests, length-map L.requests asked_of)

-- what is known of the proof of the request in slot j
pub record Proved (L : Ledger) (j n : ℕ) : Type 0 where
  pub is : Texted ApprovalProof
  pub there : approval L n ≡ some is
  pub index : is.is.approval_index ≡ j
  pub number : is.is.request_id.0 ≡ n

abbrev slot_of : PageEntry → ℕ
slot_of e = e.slot

abbrev request_of_entry : PageEntry → ℕ
request_of_entry e = e.request_id.0

module _ (L : Ledger) (s : Sound L) where
  pub proved : {j n : ℕ} → At L.log j n → Proved L j n
  proved {j} {n} h = let o = s.judged.logged h in go o.0 o.1.is o.0.decision refl o.2
    where
      go : (r : Request) → get_elem? L.requests n ≡ some r → (d : Decision) → r.decision ≡ d → slot d ≡ some j → Proved L j n
      go r e Undecided q k = let z : ◌≡◌ {A = ℕ} 0 1 = cc in absurd (omega arith)
      go r e (Approved i v) q k = record { is = proof_of n r.asked i v; there = ap (proof_in n) e ∙ ap (proof_by n r.asked) q; index = cc; number = refl }
      go r e (Rejected v) q k = let z : ◌≡◌ {A = ℕ} 0 1 = cc in absurd (omega arith)

-- ---- entries of requests that are in the log
abbrev Logged : Ledger → List ℕ → Type 0
Logged L ns = (i n : ℕ) → At ns i n → (j : ℕ) × At L.log j n

module _ (L : Ledger) (s : Sound L) where
  -- the first entry, and the rest
  first : (j n : ℕ) (ns : List ℕ) → Logged L (n ∷ ns) → (p : Texted ApprovalProof) × (entries_from L j (n ∷ ns) ≡ entry j p.is ∷ entries_from L (suc j) ns) × (approval L n ≡ some p) × (p.is.request_id.0 ≡ n)
  first j n ns h = let p = proved L s (h 0 n (record { is = refl })).1 in (p.is, rw p.there, p.there, p.number)

  later : (n : ℕ) (ns : List ℕ) → Logged L (n ∷ ns) → Logged L ns
  later n ns h i m a = h (suc i) m (up a)

  slots_from : (j : ℕ) (ns : List ℕ) → Logged L ns → map slot_of (entries_from L j ns) ≡ upto j (length ns)
  slots_from j [] h = refl
  slots_from j (n ∷ ns) h = let f = first j n ns h in ap (map slot_of) f.1 ∙ ap (λ (l : List ℕ). j ∷ l) (slots_from (suc j) ns (later n ns h))

  requests_from : (j : ℕ) (ns : List ℕ) → Logged L ns → map request_of_entry (entries_from L j ns) ≡ ns
  requests_from j [] h = refl
  requests_from j (n ∷ ns) h =
      let f = first j n ns h in
      ap (map request_of_entry) f.1 ∙ (λ i. f.3 i ∷ requests_from (suc j) ns (later n ns h) i)

  -- place k of the entries from slot j on is the proof of its request. Its steps stand apart, since antt reads a clause twice
  abbrev ProofAt : ℕ → ℕ → PageEntry → Type 0
  ProofAt j k e = (p : Texted ApprovalProof) × (approval L e.request_id.0 ≡ some p) × (e ≡ entry (j + k) p.is)

  here : (j n : ℕ) (ns : List ℕ) → Logged L (n ∷ ns) → {e : PageEntry} → At (entries_from L j (n ∷ ns)) 0 e → ProofAt j 0 e
  here j n ns h {e} a =
      let f = first j n ns h in
      let is : entry j f.0.is ≡ e = at_head (rw f.1 at a) in
      (f.0, rw (← is, f.3) f.2, rw add-zero (sym is))

  past : (j n : ℕ) (ns : List ℕ) → Logged L (n ∷ ns) → {k : ℕ} {e : PageEntry} → At (entries_from L j (n ∷ ns)) (suc k) e → At (entries_from L (suc j) ns) k e
  past j n ns h a = down (rw (first j n ns h).1 at a)

  carried : (j k : ℕ) (e : PageEntry) → ProofAt (suc j) k e → ProofAt j (suc k) e
  carried j k e p = rw (add-suc, ← suc-add) p

  proofs_from : (j : ℕ) (ns : List ℕ) → Logged L ns → {k : ℕ} {e : PageEntry} → At (entries_from L j ns) k e → ProofAt j k e
  proofs_from j [] h a = absurd (at_nil a)
  proofs_from j (n ∷ ns) h {k = zero} a = here j n ns h a
  proofs_from j (n ∷ ns) h {k = suc k} {e} a = carried j k e (proofs_from (suc j) ns (later n ns h) (past j n ns h a))

  -- ---- of a page
  on_page : (from limit : ℕ) → Logged L (page L from limit)
  on_page from limit i n a = (from + i, at_drop from L.log (at_take (page_end L from limit - from) (drop from L.log) a))

  pub page_slots : (from limit : ℕ) → map slot_of (entries L from limit) ≡ upto from (length (page L from limit))
  page_slots from limit = slots_from from (page L from limit) (on_page from limit)

  pub page_requests : (from limit : ℕ) → map request_of_entry (entries L from limit) ≡ page L from limit
  page_requests from limit = requests_from from (page L from limit) (on_page from limit)

  -- no slot is skipped
  pub page_long : (from limit : ℕ) → length (entries L from limit) ≡ length (page L from limit)
  page_long from limit = sym (length-map (entries L from limit) request_of_entry) ∙ ap length (page_requests from limit)

  -- the source's `page_entry`: place k of a page is slot from + k, and is the proof of the request there
  pub page_entry : (from limit : ℕ) {k : ℕ} {e : PageEntry} → At (entries L from limit) k e
      → (p : Texted ApprovalProof) × (approval L e.request_id.0 ≡ some p) × (e ≡ entry (from + k) p.is)
  page_entry from limit = proofs_from from (page L from limit) (on_page from limit)
