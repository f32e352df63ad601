-- Demand 3: open tables for an owner, make any calls without opening again, let nothing else write the tables: the accepted changes determine the tables, and what the public reads
-- answer is what they tell. Replaying them alone into other tables gives each the same answer and the same bytes. A walk by pages lists the log. Assumes nothing.
use Rattle.std.proofs.Common.{◌↔◌, ◌≢◌, ◌∙◌, ◌≡◌, ap, refl, subst, sym, ◌<◌, ◌≤◌, ℕ, drop, get_or, length, take, take_at, true, List, [], ◌++◌, ◌∷◌, map, Result, Ok}
use lib.ListN.{get_elem?, length-map}
use mathlib.Core.List.{map-append}
use mathlib.Core.Option.{Option, some}
use Rattle.std.proofs.lemmas.List.{nil_from_length}
use Rattle.answers.proofs.Pages.{page_filled}
use Rattle.answers.specs.Answers.{PageOut, entry_row, status_answer}
use Rattle.answers.specs.Calls.{page_call, revocations_call, status_call}
use Rattle.answers.specs.Does.{Does, Opens}
use Rattle.demands.proofs.Following.{Followed, follow, replay_heard}
use Rattle.demands.specs.Runs.{Calls, Heard, accepted_heards}
use Rattle.demands.specs.Walked.{Walked, a_page, not_yet}
use Rattle.history.proofs.Decisions.{not_by_its_agent, one_decision}
use Rattle.history.proofs.Final.{final_run, settled}
use Rattle.history.proofs.Pending.{history_pending}
use Rattle.history.proofs.Registrations.{history_revoked}
use Rattle.history.proofs.Replay.{replay}
use Rattle.history.proofs.Statuses.{history_log, history_status}
use Rattle.history.proofs.Walk.{walk_lists}
use Rattle.history.specs.History.{Event, accepted, answer_of, asker, decider, decides, log_told, pending_told, pick, revoked_told, status_told}
use Rattle.history.specs.Walks.{Lists, Walk, due, setting_out, walk}
use Rattle.ids.specs.declared.RegistrationId.{RegistrationId}
use Rattle.ids.specs.declared.RequestId.{RequestId}
use Rattle.lists.specs.Places.{At}
use Rattle.lists.specs.Tallies.{tally}
use Rattle.machine.specs.Machine.{opened, run}
use Rattle.machine.specs.Plan.{Outcome, did, refused}
use Rattle.machine.specs.Reads.{entries, page, revocation_by, status}
use Rattle.machine.specs.Types.{Change, Holder, Ledger}
use Rattle.records.specs.declared.BlockTime.{BlockTime}
use Rattle.records.specs.declared.ProofRevocations.{ProofRevocations}
use Rattle.records.specs.declared.refusal.Refusal.{Refusal}
use Rattle.records.specs.declared.status.RequestStatus.{RequestStatus}
use Rattle.tables.proofs.Laid.{laid}
use Rattle.tables.proofs.Rows.{holder_row_lem, log_count_is, log_row_lem}
use Rattle.tables.specs.Parts.{cell, holders, log, log_count}
use Rattle.tables.specs.Tables.{Sized, Stands, Tables, tables_of}

-- tables t were opened for the owner, and then the calls were made: the changes cs with the answers hs, accepted or refused, led to the tables u
module _ {owner : ℕ} {z t u : Tables} {r : Result (Unit {0}) Refusal} {cs : List Change} {hs : List Heard} (o : Opens owner z t r) (s : Sized z) (calls : Calls t cs hs u) where
  ran : Followed (opened owner) cs hs u
  ran = follow calls (opened owner) (o.opened_then s).1

  -- the tables are those of the machine's ledger after the accepted changes, and so determined by them
  pub tables_told : u ≡ tables_of (run (opened owner) (accepted (opened owner) cs))
  tables_told = ran.stands_then.laid ∙ ap tables_of (sym (replay (opened owner) cs).same_ledger)

  -- ---- what the public reads answer of u
  pub status_read : (n : RequestId) {v : Tables} {a : Result RequestStatus Refusal} → Does (status_call n) u v a
      → (x : RequestStatus) → (status_told (accepted (opened owner) cs) n.0 ≡ some x) ↔ (a ≡ Ok x)
  unfolding status_call
  status_read n {a = a} d x =
      let told = history_status owner cs n.0 in
      let said : a ≡ status_answer (status (run (opened owner) cs) n.0) = (d.sound _ ran.stands_then).0 in
      ((λ e. said ∙ is (status (run (opened owner) cs) n.0) (sym told ∙ e)), (λ e. told ∙ back (status (run (opened owner) cs) n.0) (sym said ∙ e)))
    where
      is : (o : Outcome RequestStatus) → answer_of o ≡ some x → status_answer o ≡ Ok x
      is (refused e) q = cc
      is (did y) q = let w : y ≡ x = cc in ap Ok w

      back : (o : Outcome RequestStatus) → status_answer o ≡ Ok x → answer_of o ≡ some x
      back (refused e) q = cc
      back (did y) q = let w : y ≡ x = cc in ap some w

  -- a registered key's pending count
  pub pending_read : {i : ℕ} {p : Holder} → At (run (opened owner) cs).keys i p → cell i 4 (holders u) ≡ pending_told (accepted (opened owner) cs) p.reg.key
  pending_read hp = ap (λ (row : List ℕ). get_or row 4 0) (holder_row_lem ran.stands_then.sound (laid _ ran.stands_then.laid) hp) ∙ sym (history_pending owner cs hp)

  -- log slots
  pub log_read : {j n : ℕ} → At (log_told (accepted (opened owner) cs)) j n → cell j 0 (log u) ≡ n
  log_read at = ap (λ (row : List ℕ). get_or row 0 0) (log_row_lem ran.stands_then.sound (laid _ ran.stands_then.laid) (rw (history_log owner cs) at at))

  pub log_read_long : log_count u ≡ length (log_told (accepted (opened owner) cs))
  log_read_long = log_count_is ran.stands_then.sound (laid _ ran.stands_then.laid) ∙ ap length (sym (history_log owner cs))

  -- revocations
  pub revocations_read : (a b : RegistrationId) {v : Tables} {q : Result ProofRevocations Refusal} → Does (revocations_call a b) u v q
      → q ≡ Ok (record { agent = revocation_by (get_elem? (revoked_told (accepted (opened owner) cs)) a.0); approver = revocation_by (get_elem? (revoked_told (accepted (opened owner) cs)) b.0) })
  unfolding revocations_call
  revocations_read a b d =
      (d.sound _ ran.stands_then).0
      ∙ ap (λ (l : List (Option BlockTime)). Ok (record { agent = revocation_by (get_elem? l a.0); approver = revocation_by (get_elem? l b.0) })) (sym (history_revoked owner cs))

  -- ---- no request has two decisions, nor one by its agent's account
  pub one_decision_each : (n : ℕ) → tally (decides n) (accepted (opened owner) cs) ≤ 1
  one_decision_each = one_decision owner cs

  pub decided_by_another : {i b n : ℕ} {c : Change} {x : Event ℕ} → At (accepted (opened owner) cs) i c
      → decider c ≡ some b → decides n c ≡ true → At (pick asker (accepted (opened owner) cs)) n x → b ≢ x.what
  decided_by_another = not_by_its_agent owner cs

  -- ---- Approved, Rejected and Void are final: what was read stays, whatever calls follow
  pub final_read : (n : RequestId) (x : RequestStatus) → settled x ≡ true → {a : Result RequestStatus Refusal} {v : Tables} → Does (status_call n) u v a → a ≡ Ok x
      → {w w' : Tables} {ds : List Change} {ks : List Heard} {b : Result RequestStatus Refusal} → Calls u ds ks w → Does (status_call n) w w' b → b ≡ Ok x
  unfolding status_call
  final_read n x fin d e {ds = ds} more again =
      let L = run (opened owner) cs in
      let st = ran.stands_then in
      let here : status L n.0 ≡ did x = was (status L n.0) (sym (d.sound L st).0 ∙ e) in
      let then = follow more L st in
      (again.sound (run L ds) then.stands_then).0 ∙ ap status_answer (final_run x fin L st.sound n.0 here ds)
    where
      was : (o : Outcome RequestStatus) → status_answer o ≡ Ok x → o ≡ did x
      was (refused e) q = cc
      was (did y) q = let w : y ≡ x = cc in ap did w

  -- ---- replay: the accepted changes alone, made on other tables opened for that owner
  pub replay_read : {z' t' u' : Tables} {r' : Result (Unit {0}) Refusal} {ks : List Heard}
      → Opens owner z' t' r' → Sized z' → Calls t' (accepted (opened owner) cs) ks u' → (u' ≡ u) × (ks ≡ accepted_heards (opened owner) cs)
  replay_read o' s' again =
      let f = follow again (opened owner) (o'.opened_then s').1 in
      (f.stands_then.laid ∙ sym tables_told, f.heard_then ∙ replay_heard (opened owner) cs)

-- ---- the walk
walk_more : (limit : ℕ) (w : Walk) (css : List (List Change)) (cs : List Change)
    → walk limit w (css ++ cs ∷ []) ≡ record { ledger = run (walk limit w css).ledger cs; listed = (walk limit w css).listed ++ due limit (walk limit w css) }
walk_more limit w [] cs = refl
walk_more limit w (ds ∷ css) cs = walk_more limit (record { ledger = run w.ledger ds; listed = w.listed ++ due limit w }) css cs

-- the rows of a page that was not refused
page_rows : (rows₀ : List (List ℕ)) (start limit k : ℕ) {t u : Tables} {out : PageOut (List ℕ)} → Does (page_call entry_row rows₀ start limit) t u out → (L : Ledger) → Stands t L → out.answer ≡ Ok k
    → (k ≡ length (entries L start limit)) × (take k out.rows ≡ map entry_row (entries L start limit))
page_rows rows₀ start limit k page L st answered =
    let es = entries L start limit in
    let was = page_filled entry_row rows₀ start limit page L st answered in
    let long : length (map entry_row es) ≡ k = length-map es entry_row ∙ sym was.0 in
    (was.0, ap (take k) was.1 ∙ take_at (map entry_row es) (drop (length es) rows₀) k long)

pub record Walking (limit : ℕ) (L : Ledger) (css : List (List Change)) (read : List (List ℕ)) (u : Tables) : Type 0 where
  pub stands_there : Stands u (walk limit (setting_out L) css).ledger
  pub read_so : read ≡ map entry_row (walk limit (setting_out L) css).listed

pub walking : {limit : ℕ} {t u : Tables} {read : List (List ℕ)} {css : List (List Change)} → Walked limit t read css u → (L : Ledger) → Stands t L → Walking limit L css read u
unfolding page_call
walking not_yet L st = record { stands_there = st; read_so = refl }
walking {limit} (a_page {read} {css} {w = end} {out = out} {k = k} {cs = cs} room before page answered calls) L st =
    let w = walking before L st in
    let here = walk limit (setting_out L) css in
    let p = page.sound here.ledger w.stands_there in
    let from-there : length read ≡ length here.listed = ap length w.read_so ∙ length-map here.listed entry_row in
    let was = page_rows room (length read) limit k page here.ledger w.stands_there answered in
    let f = follow calls here.ledger p.1 in
    let next = sym (walk_more limit (setting_out L) css cs) in
    record {
      stands_there = subst (λ (x : Walk). Stands end x.ledger) next f.stands_then;
      read_so =
          (λ i. w.read_so i ++ was.1 i) ∙ ap (λ (n : ℕ). map entry_row here.listed ++ map entry_row (entries here.ledger n limit)) from-there
          ∙ sym (map-append entry_row here.listed (due limit here)) ∙ ap (λ (x : Walk). map entry_row x.listed) next;
    }

-- A walk from slot 0, limit at least 1, up to the first empty page, has read the log as it then stands, each slot once
pub walk_reads : {limit : ℕ} {t u v : Tables} {read : List (List ℕ)} {css : List (List Change)} {out : PageOut (List ℕ)} (room : List (List ℕ))
    → 0 < limit → (L : Ledger) → Stands t L → Walked limit t read css u
    → Does (page_call entry_row room (length read) limit) u v out → out.answer ≡ Ok 0
    → Lists (walk limit (setting_out L) css) × Stands u (walk limit (setting_out L) css).ledger × (read ≡ map entry_row (walk limit (setting_out L) css).listed)
walk_reads {limit} {read = read} {css} {out} room some-limit L st walked page empty =
    let w = walking walked L st in
    let here = walk limit (setting_out L) css in
    let from-there : length read ≡ length here.listed = ap length w.read_so ∙ length-map here.listed entry_row in
    let was = page_rows room (length read) limit 0 page here.ledger w.stands_there empty in
    let none-due : due limit here ≡ [] = nil_from_length (due limit here) (sym (was.0 ∙ ap (λ (n : ℕ). length (entries here.ledger n limit)) from-there)) in
    (walk_lists limit some-limit L st.sound css none-due, w.stands_there, w.read_so)
