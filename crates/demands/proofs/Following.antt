-- Tables follow the machine: after any calls on tables that hold a sound ledger they hold the machine's, and the answers were the machine's. Assumes nothing.
use Rattle.std.proofs.Common.{◌∙◌, ◌≡◌, ap, refl, subst, sym, length, List, [], ◌++◌, ◌∷◌, Ok}
use Rattle.answers.specs.Answers.{as_is, entry_row, page_in, paged, proved, registered, requested, shown, status_answer}
use Rattle.answers.specs.Calls.{add_call, approval_call, approve_call, change_call, page_call, page_in_call, read_call, reject_call, request_call, revocations_call, revoke_call, status_call}
use Rattle.answers.specs.Does.{Does}
use Rattle.demands.specs.Runs.{adds, revokes, requests, approves, rejects, asks_entries, asks_record, asks_page, asks_proof, asks_revocations, asks_status}
use Rattle.demands.specs.Runs.{Calls, Heard, Made, accepted_heards, heard, heards, if_heard, none_yet, one_more, proved_as, registered_as, requested_as}
use Rattle.history.specs.History.{accepted, if_accepted}
use Rattle.machine.proofs.Keep.{left_giving}
use Rattle.machine.specs.Machine.{Did, Given, action, add_to, approve_in, giving, left, principal, proof, reject_in, request_in, revoke_in, run, step}
use Rattle.machine.specs.Plan.{Outcome, Plan, ◌>>=◌, did, outcome, refused}
use Rattle.machine.specs.Reads.{approval, page_into, revocations, status}
use Rattle.machine.specs.Rooms.{page_limit}
use Rattle.machine.specs.Types.{Change, Ledger, add, approve, reject, request, revoke}
use Rattle.tables.specs.Tables.{Stands, Tables}

-- ---- one call
pub record Followed (L : Ledger) (cs : List Change) (hs : List Heard) (u : Tables) : Type 0 where
  pub stands_then : Stands u (run L cs)
  pub heard_then : hs ≡ heards L cs

-- a change: the ledger after its own plan is the ledger after the step
module _ {A B : Type 0} (wrap : B → Heard) (tell : Outcome (Did A) → B) (give : A → Given) (own : Ledger → Plan (Did A)) (c : Change)
    (is-step : (L : Ledger) → step L c ≡ outcome (own L >>= giving give)) (is-heard : (L : Ledger) → heard L c ≡ wrap (tell (outcome (own L)))) where
  follow_change : {t u : Tables} {r : B} → Does (change_call tell own) t u r → (L : Ledger) → Stands t L → Followed L (c ∷ []) (wrap r ∷ []) u
  follow_change d L st =
      let w = d.sound L st in
      let same : left L (outcome (own L)) ≡ left L (step L c) = sym (ap (left L) (is-step L) ∙ left_giving L give (own L)) in
      record { stands_then = rw same at w.1; heard_then = ap (λ (h : Heard). h ∷ []) (ap wrap w.0 ∙ sym (is-heard L)) }

follow_read : {A : Type 0} (bad : A) (tell : Ledger → A) {t u : Tables} {r : A} → Does (read_call bad tell) t u r → (L : Ledger) → Stands t L → Followed L [] [] u
follow_read bad tell d L st = record { stands_then = (d.sound L st).1; heard_then = refl }

pub follow_one : {t u : Tables} {cs : List Change} {hs : List Heard} → Made t cs hs u → (L : Ledger) → Stands t L → Followed L cs hs u
unfolding add_call revoke_call request_call approve_call reject_call status_call approval_call revocations_call page_call page_in_call
follow_one (adds caller key who role d) L = follow_change registered_as registered principal (λ M. add_to M caller.0 key who.0 role) (add caller.0 key who.0 role) (λ M. refl) (λ M. refl) d L
follow_one (revokes caller key now d) L = follow_change registered_as registered principal (λ M. revoke_in M caller.0 key now) (revoke caller.0 key now) (λ M. refl) (λ M. refl) d L
follow_one (requests c text now d) L = follow_change requested_as requested action (λ M. request_in M c text now) (request c text now) (λ M. refl) (λ M. refl) d L
follow_one (approves c n text now d) L = follow_change proved_as proved proof (λ M. approve_in M c n.0 text now) (approve c n.0 text now) (λ M. refl) (λ M. refl) d L
follow_one (rejects c n now d) L = follow_change requested_as requested action (λ M. reject_in M c n.0 now) (reject c n.0 now) (λ M. refl) (λ M. refl) d L
follow_one (asks_status n d) L = follow_read _ (λ M. status_answer (status M n.0)) d L
follow_one (asks_proof n d) L = follow_read _ (λ M. shown (approval M n.0)) d L
follow_one (asks_revocations a b d) L = follow_read _ (λ M. Ok (revocations M a.0 b.0)) d L
follow_one (asks_entries page start limit d) L = follow_read _ (λ M. paged as_is page (outcome (page_into M start limit (length page)))) d L
follow_one (asks_page rows start limit d) L = follow_read _ (λ M. paged entry_row rows (outcome (page_into M start limit (length rows)))) d L
follow_one (asks_record start limit d) L = follow_read _ (λ M. page_in (outcome (page_into M start limit page_limit))) d L

-- ---- any calls
run_append : (L : Ledger) (cs ds : List Change) → run L (cs ++ ds) ≡ run (run L cs) ds
run_append L [] ds = refl
run_append L (c ∷ cs) ds = run_append (left L (step L c)) cs ds

heards_append : (L : Ledger) (cs ds : List Change) → heards L (cs ++ ds) ≡ heards L cs ++ heards (run L cs) ds
heards_append L [] ds = refl
heards_append L (c ∷ cs) ds = ap (λ (hs : List Heard). heard L c ∷ hs) (heards_append (left L (step L c)) cs ds)

pub follow : {t u : Tables} {cs : List Change} {hs : List Heard} → Calls t cs hs u → (L : Ledger) → Stands t L → Followed L cs hs u
follow none_yet L st = record { stands_then = st; heard_then = refl }
follow (one_more {cs} {ds} {hs} {ks} {v = v} a m) L st =
    let f = follow a L st in
    let g = follow_one m (run L cs) f.stands_then in
    record {
      stands_then = subst (λ (M : Ledger). Stands v M) (sym (run_append L cs ds)) g.stands_then;
      heard_then = (λ i. f.heard_then i ++ g.heard_then i) ∙ sym (heards_append L cs ds);
    }

-- ---- the accepted changes alone are answered as they were
pub replay_heard : (L : Ledger) (cs : List Change) → heards L (accepted L cs) ≡ accepted_heards L cs
replay_heard L [] = refl
replay_heard L (c ∷ cs) = go (step L c) refl (λ M. replay_heard M cs)
  where
    go : (o : Outcome (Did Given)) → step L c ≡ o → ((M : Ledger) → heards M (accepted M cs) ≡ accepted_heards M cs)
        → heards L (if_accepted c o ++ accepted (left L o) cs) ≡ if_heard (heard L c) o ++ accepted_heards (left L o) cs
    go (refused e) q ih = ih L
    go (did d) q ih = ap (λ (o : Outcome (Did Given)). heard L c ∷ heards (left L o) (accepted d.ledger cs)) q ∙ ap (λ (hs : List Heard). heard L c ∷ hs) (ih d.ledger)
