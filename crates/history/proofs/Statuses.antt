-- The history tells what the ledger holds. Assumes nothing.
use mathlib.Core.Logic.{inl, inr}
use mathlib.Core.Path.{◌∙◌, ◌≡◌, ap, refl, sym}
use Prim.Native.Nat.{suc, zero, ℕ}
use borrow.Author.Tests.{eqb-false, eqb-true}
use lib.Dec.{eqb, eqb-suc-suc, eqb-suc-zero, eqb-zero-suc}
use lib.Ieee.{fits}
use lib.ListN.{get_elem?, length, length-map, set}
use mathlib.Core.Bool.{Bool, ◌&&◌, ◌||◌, cond, false, not, true}
use mathlib.Core.List.{List, [], ◌++◌, ◌∷◌, append_assoc, append-nil, map}
use mathlib.Core.Option.{Option, none, some}
use native.Mathlib.Omega.{arith}
use Rattle.history.proofs.Induction.{from_opened}
use Rattle.history.specs.History.{Event, accepted, answer_of, any, approved_by, approves, askings, asks_by, event, fate, log_told, names, pick, rejects, revokes, status_told}
use Rattle.history.specs.Steps.{is_request}
use Rattle.lists.proofs.Maps.{at_map, at_unmap, map_snoc}
use Rattle.lists.proofs.Places.{at_below, at_head, at_lt, at_nil, at_none, at_one, at_set_other, at_set_same, at_snoc_two, down, get_elem?_old, length_snoc}
use Rattle.lists.specs.Places.{At}
use Rattle.machine.proofs.Bools.{and_false, and_true, or_false, or_true}
use Rattle.machine.proofs.Keep.{asked_of, asks_kept, reg_of, sound_opened, sound_run}
use Rattle.machine.proofs.Live.{live_or_over, over}
use Rattle.machine.proofs.Look.{Seen, same_refl, same_true, seen, undecided}
use Rattle.machine.specs.Examples.{key}
use Rattle.machine.specs.Machine.{add_to, approve_in, asked_by, decided, opened, plan, reject_in, request_in, revoke_in, run}
use Rattle.machine.specs.Plan.{Gives, outcome}
use Rattle.machine.specs.Reads.{read_status, status, status_by}
use Rattle.machine.specs.Sound.{Sound}
use Rattle.machine.specs.Tests.{Place, Ruling, approved, asks, decided_so, denying, granting, live, present, regs, rejected, same}
use Rattle.machine.specs.Types.{Approved, Asked, Bytes, Change, Decision, Ledger, Rejected, Request, Undecided, add, approve, reject, request, revoke}
use Rattle.records.specs.declared.BlockTime.{BlockTime}
use Rattle.records.specs.declared.Caller.{Caller}
use Rattle.records.specs.declared.role.Role.{Role}
use Rattle.records.specs.declared.status.RequestStatus.{RequestStatus}
use Rattle.records.specs.declared.status.RequestStatus.TheVariants as Status

-- ---- one more change
pub any_snoc : (p : Change → Bool) (h : List Change) (c : Change) → any p (h ++ c ∷ []) ≡ any p h || p c
any_snoc p [] c = or_false (p c)
any_snoc p (d ∷ h) c = ap (λ (b : Bool). p d || b) (any_snoc p h c) ∙ assoc (p d) (any p h) (p c)
  where
    assoc : (a b c : Bool) → (a || (b || c)) ≡ ((a || b) || c)
    assoc true b c = refl
    assoc false b c = refl

module _ {A : Type 0} where
  abbrev pub later : Change → Event A → Event A
  later c x = record { what = x.what; after = x.after ++ c ∷ [] }

  pub pick_snoc : (f : Change → Option A) (h : List Change) (c : Change) → pick f (h ++ c ∷ []) ≡ map (later c) (pick f h) ++ event (f c) []
  pick_snoc f [] c = append-nil (event (f c) [])
  pick_snoc f (d ∷ h) c = go (f d) (pick_snoc f h c)
    where
      go : (o : Option A) → pick f (h ++ c ∷ []) ≡ map (later c) (pick f h) ++ event (f c) []
          → event o (h ++ c ∷ []) ++ pick f (h ++ c ∷ []) ≡ map (later c) (event o h ++ pick f h) ++ event (f c) []
      go none e = e
      go (some a) e = ap (λ (l : List (Event A)). record { what = a; after = h ++ c ∷ [] } ∷ l) e

log_snoc : (h : List Change) (c : Change) → log_told (h ++ c ∷ []) ≡ log_told h ++ approved_by c
log_snoc [] c = append-nil (approved_by c)
log_snoc (d ∷ h) c = ap (λ (l : List ℕ). approved_by d ++ l) (log_snoc h c) ∙ sym (append_assoc (approved_by d) (log_told h) (approved_by c))

present_if : (t : BlockTime) (b : Bool) → present (cond b (some t) none) ≡ b
present_if t true = refl
present_if t false = refl

-- ---- what a place of a list says, if there is one
module _ {A : Type 0} (q : A → Bool) where
  abbrev pub says : Option A → Bool
  says none = false
  says (some x) = q x

  pub says_snoc : (l : List A) (x : A) (n : ℕ) → q x ≡ false → says (get_elem? (l ++ x ∷ []) n) ≡ says (get_elem? l n)
  says_snoc [] x zero e = e
  says_snoc [] x (suc n) e = refl
  says_snoc (y ∷ ys) x zero e = refl
  says_snoc (y ∷ ys) x (suc n) e = says_snoc ys x n e

  pub says_set : {l : List A} {i : ℕ} {x : A} (y : A) (n : ℕ) → At l i x → q x ≡ false → says (get_elem? (set l i y) n) ≡ says (get_elem? l n) || (q y && eqb i n)
  says_set {l = []} y n h e = absurd (at_nil h)
  says_set {l = z ∷ zs} {i = zero} y zero h e = sym (ap (λ (b : Bool). b || (q y && true)) (ap q (at_head h) ∙ e) ∙ and_true (q y))
  says_set {l = z ∷ zs} {i = zero} y (suc n) h e = rw (eqb-zero-suc, and_false) (sym (or_false (says (get_elem? zs n))))
  says_set {l = z ∷ zs} {i = suc i} y zero h e = rw (eqb-suc-zero, and_false) (sym (or_false (q z)))
  says_set {l = z ∷ zs} {i = suc i} y (suc n) h e = rw eqb-suc-suc (says_set {l = zs} y n (down h) e)

pub record Tells (h : List Change) (L : Ledger) : Type 0 where
  pub many : length (askings h) ≡ length (asks L)
  pub tale : {n : ℕ} {x : Event Bytes} {a : Asked} → At (askings h) n x → At (asks L) n a
      → (x.what ≡ a.key) × (any (revokes x.what) x.after ≡ over (get_elem? L.revoked a.number))
  pub marks : (k : Ruling) (n : ℕ) → any (names k n) h ≡ says (λ r. decided_so k r.decision) (get_elem? L.requests n)
  pub log : log_told h ≡ L.log

module _ {h : List Change} {L : Ledger} (s : Sound L) (t : Tells h L) where
  -- a request that was there before the change c
  old : (c : Change) {n : ℕ} {x : Event Bytes} {a : Asked} → At (map (later c) (askings h)) n x → At (asks L) n a
      → (x.what ≡ a.key) × (any (revokes x.what) x.after ≡ over (get_elem? L.revoked a.number) || revokes a.key c)
  old c hx ha =
      let o = at_unmap (later c) (askings h) hx in
      let k = t.tale o.1 ha in
      rw (← o.2) (k.0, any_snoc (revokes o.0.what) o.0.after c ∙ cc (k.0, k.1))

  -- a change that is no request
  tell_other : (c : Change) (L' : Ledger) → asks_by c ≡ none → asks L' ≡ asks L
      → ((n : ℕ) (a : Asked) → At (asks L) n a → over (get_elem? L'.revoked a.number) ≡ over (get_elem? L.revoked a.number) || revokes a.key c)
      → ((k : Ruling) (n : ℕ) → says (λ (r : Request). decided_so k r.decision) (get_elem? L'.requests n) ≡ says (λ (r : Request). decided_so k r.decision) (get_elem? L.requests n) || names k n c)
      → L'.log ≡ L.log ++ approved_by c → Tells (h ++ c ∷ []) L'
  tell_other c L' e same-asks ends mark logs =
      let all : askings (h ++ c ∷ []) ≡ map (later c) (askings h) = pick_snoc asks_by h c ∙ ap (λ (o : Option Bytes). map (later c) (askings h) ++ event o []) e ∙ append-nil _ in record {
        many = rw (all, same-asks, length-map) t.many;
        tale = λ hx ha. let b = rw same-asks at ha in let o = old c (rw all at hx) b in (o.0, o.1 ∙ sym (ends _ _ b));
        marks = λ k n. any_snoc (names k n) h c ∙ ap (λ (b : Bool). b || names k n c) (t.marks k n) ∙ sym (mark k n);
        log = log_snoc h c ∙ ap (λ (l : List ℕ). l ++ approved_by c) t.log ∙ sym logs;
      }

  tell_add : (caller : ℕ) (key : Bytes) (account : ℕ) (role : Role) → Gives (λ d. Tells (h ++ add caller key account role ∷ []) d.ledger) (add_to L caller key account role)
  tell_add caller key account role owner fresh room space =
      tell_other (add caller key account role) _ refl refl
      (λ n a ha. rw (get_elem?_old L.revoked (none ∷ []) a.number (s.roll.known ha)) (sym (or_false _)))
      (λ k n. sym (or_false _)) (sym (append-nil _))

  -- what a revocation ends: the requests of its key that were not over yet
  ends : (key : Bytes) (f : Place) → Seen key L.keys f → (now : BlockTime) (n : ℕ) (a : Asked) → At (asks L) n a → (o : Option BlockTime) × At L.revoked a.number o
      → over (get_elem? (set L.revoked f.is.reg.number (some now)) a.number) ≡ over (get_elem? L.revoked a.number) || same key a.key
  ends key f w now n a ha (o, ho) = go (eqb a.number g) refl o ho (same key a.key) refl
    where
      g : ℕ
      g = f.is.reg.number

      holder : At (regs L) f.at f.is.reg
      holder = at_map reg_of w.here

      go : (b : Bool) → eqb a.number g ≡ b → (o : Option BlockTime) → At L.revoked a.number o → (k : Bool) → same key a.key ≡ k
          → over (get_elem? (set L.revoked g (some now)) a.number) ≡ over (get_elem? L.revoked a.number) || k
      go true e o ho k q =
          let same_number = eqb-true a.number g e in
          let own = s.roll.own holder ha same_number in
          let k-true : k ≡ true = sym q ∙ ap (same key) (own.same_key ∙ w.key) ∙ same_refl key in
          rw (same_number, (at_set_same L.revoked g (some now) (at_lt (s.roll.in_force holder))).is, k-true) (sym (or_true (over (get_elem? L.revoked g))))
      go false e (some t) ho k q = rw ((at_set_other g (some now) (eqb-false a.number g e) ho).is, ho.is)
      go false e none ho true q =
          let o = s.roll.every ho in
          let own = s.roll.own o.2 ha (sym o.3) in
          let one = at_one holder o.2 (s.roll.distinct holder o.2 (w.key ∙ same_true key a.key q ∙ own.same_key)) in
          absurd (eqb-false a.number g e (cc o.3))
      go false e none ho false q = rw ((at_set_other g (some now) (eqb-false a.number g e) ho).is, ho.is)

  tell_revoke : (caller : ℕ) (key : Bytes) (now : BlockTime) → Gives (λ d. Tells (h ++ revoke caller key now ∷ []) d.ledger) (revoke_in L caller key now)
  tell_revoke caller key now owner f there =
      let w = seen key L.keys there in
      tell_other (revoke caller key now) _ refl refl
      (λ n a ha. ends key f w now n a ha (at_below L.revoked a.number (s.roll.known ha)) ∙ ap (λ (b : Bool). over (get_elem? L.revoked a.number) || b) (sym (present_if now (same key a.key))))
      (λ k n. sym (or_false _)) (sym (append-nil _))

  -- a decision d of request n, by a change that names it so
  tell_decided : (c : Change) (n : ℕ) (r : Request) (f : Place) (d : Decision) (log : List ℕ) → asks_by c ≡ none → ((key : Bytes) → revokes key c ≡ false)
      → get_elem? L.requests n ≡ some r → r.decision ≡ Undecided → ((k : Ruling) (m : ℕ) → names k m c ≡ decided_so k d && eqb n m) → log ≡ L.log ++ approved_by c
      → Tells (h ++ c ∷ []) (decided L n (record { req = r; agent = f }) d log)
  tell_decided c n r f d log ask rev there fresh mark logs =
      let hr : At L.requests n r = record { is = there } in
      tell_other c _ ask (asks_kept n d r L.requests hr)
      (λ m a ha. rw (rev a.key) (sym (or_false _)))
      (λ k m. rw (mark k m) (says_set (λ (x : Request). decided_so k x.decision) _ m hr (ap (decided_so k) fresh)))
      logs

  tell_approve : (c : Caller) (n : ℕ) (text : Bytes) (now : BlockTime) → Gives (λ d. Tells (h ++ approve c n text now ∷ []) d.ledger) (approve_in L c n text now)
  tell_approve c n text now direct b there role account r is_request not_approved not-rejected f is_live same_text not-self =
      tell_decided (approve c n text now) n r f _ _ refl (λ key. refl) is_request (undecided r.decision not_approved not-rejected) (λ k m. refl) refl

  tell_reject : (c : Caller) (n : ℕ) (now : BlockTime) → Gives (λ d. Tells (h ++ reject c n now ∷ []) d.ledger) (reject_in L c n now)
  tell_reject c n now direct b there role account r is_request not_approved not-rejected f is_live not-self =
      tell_decided (reject c n now) n r f _ _ refl (λ key. refl) is_request (undecided r.decision not_approved not-rejected) (λ k m. refl) (sym (append-nil _))

  tell_request : (c : Caller) (text : Bytes) (now : BlockTime) → Gives (λ d. Tells (h ++ request c text now ∷ []) d.ledger) (request_in L c text now)
  tell_request c text now direct f there role account some_text short few room fits =
      let q : Change = request c text now in
      let w = seen c.signer_key L.keys there in
      let new : Asked = asked_by c f text now in
      let l = map (later q) (askings h) in
      let even : length l ≡ length (asks L) = length-map (askings h) (later q) ∙ t.many in
      record {
        many = rw (pick_snoc asks_by h q, map_snoc asked_of) (length_snoc l _ ∙ ap suc even ∙ sym (length_snoc (asks L) _));
        tale = λ hx ha. elim (at_snoc_two l (asks L) _ _ even (rw (pick_snoc asks_by h q) at hx) (rw (map_snoc asked_of) at ha)) [
          | inl o ↦ let b = old q o.0 o.1 in (b.0, b.1 ∙ or_false _)
          | inr o ↦ rw (o.0, o.1) (refl, ap over (sym (s.roll.in_force (at_map reg_of w.here)).is))
        ];
        marks = λ k n. any_snoc (names k n) h q ∙ or_false _ ∙ t.marks k n ∙ sym (says_snoc (λ (x : Request). decided_so k x.decision) L.requests _ n refl);
        log = log_snoc h q ∙ append-nil _ ∙ t.log;
      }

  tell_plan : (c : Change) → Gives (λ d. Tells (h ++ c ∷ []) d.ledger) (plan L c)
  tell_plan (add caller key account role) = tell_add caller key account role
  tell_plan (revoke caller key now) = tell_revoke caller key now
  tell_plan (request c text now) = tell_request c text now
  tell_plan (approve c n text now) = tell_approve c n text now
  tell_plan (reject c n now) = tell_reject c n now

tells_opened : (owner : ℕ) → Tells [] (opened owner)
tells_opened owner = record { many = refl; tale = λ h. absurd (at_nil h); marks = λ k n. refl; log = refl }

-- a run's accepted changes tell what it leaves
pub tells : (owner : ℕ) (cs : List Change) → Tells (accepted (opened owner) cs) (run (opened owner) cs)
tells owner = from_opened Tells (λ h L s t. tell_plan s t) owner (tells_opened owner)

-- ---- the status
-- what decides a status, and how the history puts it
fate_by : (d : Decision) (l : Option Place) → cond (approved d) Status.Approved (cond (rejected d) Status.Rejected (cond (not (present l)) Status.Void Status.Pending)) ≡ status_by l d
fate_by Undecided none = refl
fate_by Undecided (some f) = refl
fate_by (Approved j v) none = refl
fate_by (Approved j v) (some f) = refl
fate_by (Rejected v) none = refl
fate_by (Rejected v) (some f) = refl

told_status : {h : List Change} (L : Ledger) → Sound L → Tells h L → (n : ℕ) → status_told h n ≡ answer_of (status L n)
told_status {h} L s t n = go (get_elem? L.requests n) refl (get_elem? (askings h) n) refl
  where
    go : (o : Option Request) → get_elem? L.requests n ≡ o → (x : Option (Event Bytes)) → get_elem? (askings h) n ≡ x → fate h n x ≡ answer_of (outcome (read_status L n o))
    go none e none k = refl
    go none e (some x) k =
        let hx : At (askings h) n x = record { is = k } in
        absurd (omega (arith, at_none L.requests n e, at_lt hx, t.many, length-map L.requests asked_of))
    go (some r) e none k =
        let hr : At L.requests n r = record { is = e } in
        absurd (omega (arith, at_none (askings h) n k, at_lt hr, t.many, length-map L.requests asked_of))
    go (some r) e (some x) k =
        let ha = at_map asked_of {l = L.requests} {i = n} {x = r} (record { is = e }) in
        let a : any (approves n) h ≡ approved r.decision = t.marks granting n ∙ ap (says (λ (q : Request). approved q.decision)) e in
        let d : any (rejects n) h ≡ rejected r.decision = t.marks denying n ∙ ap (says (λ (q : Request). rejected q.decision)) e in
        let m = (t.tale {x = x} (record { is = k }) ha).1 ∙ live_or_over L s ha in
        rw (a, d, m) (ap {B = Option RequestStatus} some (fate_by r.decision (live L n r.asked)))

-- For any calls from an opened ledger, the status of request n is the one that the accepted changes tell
pub history_status : (owner : ℕ) (cs : List Change) (n : ℕ) → status_told (accepted (opened owner) cs) n ≡ answer_of (status (run (opened owner) cs) n)
history_status owner cs n =
    told_status (run (opened owner) cs) (sound_run (opened owner) (sound_opened owner) cs) (tells owner cs) n

pub history_log : (owner : ℕ) (cs : List Change) → log_told (accepted (opened owner) cs) ≡ (run (opened owner) cs).log
history_log owner cs = (tells owner cs).log
