-- A registered key's pending count is what the history says. Assumes nothing.
use mathlib.Core.Logic.{◌≢◌, inl, inr}
use mathlib.Core.Path.{◌∙◌, ◌≡◌, ap, refl, sym}
use Prim.Native.Nat.{pred, suc, ℕ}
use borrow.Author.Tests.{eq-eqb, ne_eqb}
use lib.Dec.{eqb}
use lib.Ieee.{fits}
use lib.ListN.{get_elem?, length, length-map}
use mathlib.Core.Bool.{Bool, ◌&&◌, ◌||◌, false, not, true}
use mathlib.Core.List.{List, [], ◌++◌, ◌∷◌, append-nil, map}
use mathlib.Core.Option.{Option, none, some}
use native.Mathlib.Nat.{zero-add}
use native.Mathlib.Omega.{arith}
use Rattle.history.proofs.Induction.{from_opened}
use Rattle.history.proofs.Statuses.{Tells, any_snoc, later, pick_snoc, says, tells}
use Rattle.history.specs.History.{Event, accepted, adds_key, any, approves, askings, asks_by, event, pending_told, pends, rejects}
use Rattle.lists.proofs.Maps.{at_map, at_unmap, map_erase, map_snoc}
use Rattle.lists.proofs.Places.{at_back, at_nil, at_one, at_snoc, at_snoc_two, length_snoc}
use Rattle.lists.proofs.Tallies.{tally_two}
use Rattle.lists.specs.Places.{At}
use Rattle.machine.proofs.Bools.{and_false, or_false, or_true}
use Rattle.machine.proofs.Keep.{asked_of, asks_kept, reg_of, regs_kept, sound_opened, sound_run, unregistered}
use Rattle.machine.proofs.Look.{lives, same_false, same_refl, same_true, seen}
use Rattle.machine.specs.Examples.{key}
use Rattle.machine.specs.Machine.{Did, Given, add_to, decided, opened, plan, request_in, run}
use Rattle.machine.specs.Plan.{Gives}
use Rattle.machine.specs.Sound.{Sound, undecided_yet, waits}
use Rattle.machine.specs.Tests.{Place, approved, asks, denying, granting, live, regs, rejected, same}
use Rattle.machine.specs.Types.{Approved, Asked, Bytes, Change, Decision, Holder, Ledger, Registration, Rejected, Request, Undecided, add, approve, reject, request, revoke}
use Rattle.records.specs.declared.BlockTime.{BlockTime}
use Rattle.records.specs.declared.Caller.{Caller}
use Rattle.records.specs.declared.role.Role.{Role}

-- of the requests by a registered key, those made before its latest add are those of another registration
record Recent (h : List Change) (L : Ledger) : Type 0 where
  many : length (askings h) ≡ length (asks L)
  dated : {i n : ℕ} {p : Registration} {x : Event Bytes} {a : Asked} → At (regs L) i p → At (askings h) n x → At (asks L) n a → a.key ≡ p.key
      → any (adds_key p.key) x.after ≡ not (eqb a.number p.number)

module _ {h : List Change} {L : Ledger} (s : Sound L) (t : Recent h L) where
  old : (c : Change) {i n : ℕ} {p : Registration} {x : Event Bytes} {a : Asked} → At (regs L) i p → At (map (later c) (askings h)) n x → At (asks L) n a → a.key ≡ p.key
      → any (adds_key p.key) x.after ≡ not (eqb a.number p.number) || adds_key p.key c
  old c {p = p} hp hx ha k =
      let o = at_unmap (later c) (askings h) hx in
      rw (← o.2) (any_snoc (adds_key p.key) o.0.after c ∙ ap (λ (b : Bool). b || adds_key p.key c) (t.dated hp o.1 ha k))

  -- neither a request nor an add: and no new registration
  recent_other : (c : Change) (L' : Ledger) → asks_by c ≡ none → ((k : Bytes) → adds_key k c ≡ false) → asks L' ≡ asks L
      → ((i : ℕ) (p : Registration) → At (regs L') i p → (j : ℕ) × At (regs L) j p) → Recent (h ++ c ∷ []) L'
  recent_other c L' e n same-asks back =
      let all : askings (h ++ c ∷ []) ≡ map (later c) (askings h) = pick_snoc asks_by h c ∙ ap (λ (o : Option Bytes). map (later c) (askings h) ++ event o []) e ∙ append-nil _ in record {
        many = ap length (all) ∙ length-map (askings h) (later c) ∙ t.many ∙ ap length (sym same-asks);
        dated = λ {p = p} hp hx ha k. old c (back _ _ hp).1 (rw all at hx) (rw same-asks at ha) k ∙ rw (n p.key) (or_false _);
      }

  recent_add : (caller : ℕ) (key : Bytes) (account : ℕ) (role : Role) → Gives (λ d. Recent (h ++ add caller key account role ∷ []) d.ledger) (add_to L caller key account role)
  recent_add caller key account role owner fresh room space =
      let c : Change = add caller key account role in
      let all : askings (h ++ c ∷ []) ≡ map (later c) (askings h) = pick_snoc asks_by h c ∙ append-nil _ in record {
        many = ap length all ∙ length-map (askings h) (later c) ∙ t.many;
        dated = λ hp hx ha k. elim (at_snoc (regs L) _ (rw (map_snoc reg_of) at hp)) [
          | inl o ↦ old c o (rw all at hx) ha k ∙ rw (same_false key _ (λ e. unregistered L s key fresh _ _ o (sym e))) (or_false _)
          | inr o ↦
              let y = at_unmap (later c) (askings h) (rw all at hx) in
              rw (o.1, ← y.2) (
              any_snoc (adds_key key) y.0.after c ∙ ap (λ (b : Bool). any (adds_key key) y.0.after || b) (same_refl key) ∙ or_true (any (adds_key key) y.0.after)
              ∙ sym (ap not (ne_eqb _ (length L.revoked) (λ e. omega (arith, s.roll.known ha))))
              )
        ];
      }

  recent_request : (c : Caller) (text : Bytes) (now : BlockTime) → Gives (λ d. Recent (h ++ request c text now ∷ []) d.ledger) (request_in L c text now)
  recent_request c text now direct f there role account some_text short few room fits =
      let q : Change = request c text now in
      let w = seen c.signer_key L.keys there in
      let l = map (later q) (askings h) in
      let even : length l ≡ length (asks L) = length-map (askings h) (later q) ∙ t.many in
      let same_Regs = regs_kept f (suc f.is.pending) L.keys w.here in
      record {
        many = rw (pick_snoc asks_by h q, map_snoc asked_of) (length_snoc l _ ∙ ap suc even ∙ sym (length_snoc (asks L) _));
        dated = λ hp hx ha k. elim (at_snoc_two l (asks L) _ _ even (rw (pick_snoc asks_by h q) at hx) (rw (map_snoc asked_of) at ha)) [
          | inl o ↦ old q (rw same_Regs at hp) o.0 o.1 k ∙ or_false _
          | inr o ↦
              let b = rw same_Regs at hp in
              let holder = at_map reg_of w.here in
              let one = at_one holder b (s.roll.distinct holder b (w.key ∙ ap (λ (y : Asked). y.key) (sym o.1) ∙ k)) in
              rw (o.0, o.1) (sym (ap not (eq-eqb f.is.reg.number _ (ap (λ (y : Registration). y.number) one))))
        ];
      }

  recent_decided : (c : Change) (n : ℕ) (r : Request) (f : Place) (d : Decision) (log : List ℕ) → asks_by c ≡ none → ((k : Bytes) → adds_key k c ≡ false)
      → get_elem? L.requests n ≡ some r → live L n r.asked ≡ some f → Recent (h ++ c ∷ []) (decided L n (record { req = r; agent = f }) d log)
  recent_decided c n r f d log e k there is_live =
      let same_Regs = regs_kept f (pred f.is.pending) L.keys (seen r.asked.key L.keys (lives n r.asked _ is_live).0).here in
      recent_other c (decided L n (record { req = r; agent = f }) d log) e k (asks_kept n d r L.requests (record { is = there })) (λ i p hp. (i, rw same_Regs at hp))

  recent_plan : (c : Change) → Gives (λ (d : Did Given). Recent (h ++ c ∷ []) d.ledger) (plan L c)
  recent_plan (add caller key account role) = recent_add caller key account role
  recent_plan (revoke caller key now) = λ owner f there.
      recent_other (revoke caller key now) _ refl (λ k. refl) refl (λ i p hp. let b = at_back (regs L) f.at (rw (map_erase reg_of) at hp) in (b.0, b.1))
  recent_plan (request c text now) = recent_request c text now
  recent_plan (approve c n text now) = λ direct b there role account r is_request na nr f is_live same_text not-self.
      recent_decided (approve c n text now) n r f _ _ refl (λ k. refl) is_request is_live
  recent_plan (reject c n now) = λ direct b there role account r is_request na nr f is_live not-self.
      recent_decided (reject c n now) n r f _ _ refl (λ k. refl) is_request is_live

recents : (owner : ℕ) (cs : List Change) → Recent (accepted (opened owner) cs) (run (opened owner) cs)
recents owner = from_opened Recent (λ h L s t. recent_plan s t) owner (record { many = refl; dated = λ hp. absurd (at_nil hp) })

-- one request's part in the two counts
part : (e : Bool) (d : Decision) → (not (not e) && not (approved d) && not (rejected d)) ≡ undecided_yet d && e
part true Undecided = refl
part true (Approved j v) = refl
part true (Rejected v) = refl
part false Undecided = refl
part false (Approved j v) = refl
part false (Rejected v) = refl

counts_alike : {h : List Change} (L : Ledger) → Sound L → Tells h L → Recent h L → {i : ℕ} {p : Holder} → At L.keys i p
    → (n : ℕ) (x : Event Bytes) (r : Request) → At (askings h) n x → At L.requests n r → pends h p.reg.key n x ≡ waits p.reg.number r
counts_alike {h} L s t u {i} {p} hp n x r hx hr =
    rw (tale, a, b) (go (same r.asked.key p.reg.key) refl)
  where
    holder : At (regs L) i p.reg
    holder = at_map reg_of hp

    ha : At (asks L) n r.asked
    ha = at_map asked_of hr

    tale : x.what ≡ r.asked.key
    tale = (t.tale hx ha).0

    a : any (approves n) h ≡ approved r.decision
    a = t.marks granting n ∙ ap (says (λ (q : Request). approved q.decision)) hr.is

    b : any (rejects n) h ≡ rejected r.decision
    b = t.marks denying n ∙ ap (says (λ (q : Request). rejected q.decision)) hr.is

    go : (c : Bool) → same r.asked.key p.reg.key ≡ c
        → (c && not (any (adds_key p.reg.key) x.after) && not (approved r.decision) && not (rejected r.decision)) ≡ waits p.reg.number r
    go true e = rw (u.dated holder hx ha (same_true _ _ e)) (part (eqb r.asked.number p.reg.number) r.decision)
    go false e =
        let other : r.asked.number ≢ p.reg.number = λ q. let z : true ≡ false = sym (same_refl p.reg.key) ∙ ap (λ (k : Bytes). same k p.reg.key) (sym (s.roll.own holder ha q).same_key) ∙ e in
        let y : ◌≡◌ {A = ℕ} 0 1 = cc in omega arith in
        sym (ap (λ (c : Bool). undecided_yet r.decision && c) (ne_eqb r.asked.number p.reg.number other) ∙ and_false (undecided_yet r.decision))

pub history_pending : (owner : ℕ) (cs : List Change) {i : ℕ} {p : Holder} → At (run (opened owner) cs).keys i p → pending_told (accepted (opened owner) cs) p.reg.key ≡ p.pending
history_pending owner cs {p = p} hp =
    let L = run (opened owner) cs in
    let h = accepted (opened owner) cs in
    let s = sound_run (opened owner) (sound_opened owner) cs in
    let t = tells owner cs in
    tally_two (pends h p.reg.key) (waits p.reg.number) 0 (askings h) L.requests (t.many ∙ length-map L.requests asked_of)
    (λ n x r hx hr. rw zero-add (counts_alike L s t (recents owner cs) hp n x r hx hr))
    ∙ sym (s.counted.pending hp)
