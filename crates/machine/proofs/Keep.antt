-- The opened ledger is sound, and each change keeps a ledger sound. Assumes nothing.
use mathlib.Core.Logic.{◌≢◌}
use mathlib.Core.Path.{◌∙◌, ◌≡◌, ap, refl, sym}
use Prim.Native.Nat.{pred, suc, ℕ}
use borrow.Author.Tests.{eqb-false, eqb-true, leb-false, ltb-false, not-false}
use lib.ListN.{get_elem?, length, length-map, length-set, set}
use mathlib.Core.Bool.{Bool, cond, false, true}
use mathlib.Core.List.{List, [], ◌∷◌, map}
use mathlib.Core.Option.{Option, none, some}
use native.Mathlib.Omega.{arith}
use Rattle.lists.proofs.Maps.{at_map, at_unmap, map_erase, map_set_same, map_snoc}
use Rattle.lists.proofs.Places.{at_lt, at_nil, length_snoc}
use Rattle.lists.specs.Places.{At}
use Rattle.machine.proofs.KeepCounted.{counted_add, counted_ask, counted_decide, counted_revoke}
use Rattle.machine.proofs.KeepJudged.{judged_approve, judged_ask, judged_more, judged_reject}
use Rattle.machine.proofs.KeepRoll.{roll_add, roll_ask, roll_revoke}
use Rattle.machine.proofs.KeepRooms.{rooms_add, rooms_ask, rooms_revoke}
use Rattle.machine.proofs.Look.{absent, lives, role_true, seen, undecided, unseen}
use Rattle.machine.proofs.Plans.{gives}
use Rattle.machine.specs.Examples.{key}
use Rattle.machine.specs.Machine.{Did, Given, action, add_to, approve_in, asked_by, decided, giving, left, newly, opened, plan, principal, proof, reject_in, request_in, revoke_in, run, step, with_pending}
use Rattle.machine.specs.Plan.{Gives, Holds, Outcome, Plan, ◌>>=◌, did, done, look, outcome, refused, test}
use Rattle.machine.specs.Sound.{Judged, Own, Sound, undecided_yet}
use Rattle.machine.specs.Tests.{Place, live, present, regs, seek}
use Rattle.machine.specs.Types.{Asked, Bytes, Change, Decision, Holder, Ledger, Registration, Request, Undecided, add, approve, reject, request, revoke}
use Rattle.records.specs.declared.BlockTime.{BlockTime}
use Rattle.records.specs.declared.Caller.{Caller}
use Rattle.records.specs.declared.role.Role.{Role}
use Rattle.records.specs.declared.role.Role.TheVariants.{Agent}

abbrev Kept : {A : Type 0} → Did A → Type 0
Kept d = Sound d.ledger

abbrev pub reg_of : Holder → Registration
reg_of p = p.reg

abbrev pub asked_of : Request → Asked
asked_of r = r.asked

pub sound_opened : (owner : ℕ) → Sound (opened owner)
sound_opened owner = record {
  roll = record {
    distinct = λ h. absurd (at_nil h);
    in_force = λ h. absurd (at_nil h);
    one_key = λ h. absurd (at_nil h);
    every = λ h. absurd (at_nil h);
    since = λ h. absurd (at_nil h);
    alive = λ h. absurd (at_nil h);
    own = λ h. absurd (at_nil h);
    known = λ h. absurd (at_nil h);
  };
  rooms = record { keys = omega arith; registrations = omega arith; requests = omega arith; text = omega arith; legal = λ h. absurd (at_nil h) };
  judged = record { other = λ h. absurd (at_nil h); logged = λ h. absurd (at_nil h); slotted = λ h. absurd (at_nil h); log_length = refl };
  counted = record { pending = λ h. absurd (at_nil h); few = λ h. absurd (at_nil h); idle = λ h. absurd (at_nil h) };
}

-- a new pending count leaves the registrations as they were; a decision leaves what was asked
pub regs_kept : (f : Place) (n : ℕ) (ks : List Holder) → At ks f.at f.is → map reg_of (with_pending f n ks) ≡ map reg_of ks
regs_kept f n ks h = map_set_same reg_of _ h refl

pub asks_kept : (n : ℕ) (d : Decision) (r : Request) (rs : List Request) → At rs n r → map asked_of (set rs n (record { asked = r.asked; decision = d })) ≡ map asked_of rs
asks_kept n d r rs h = map_set_same asked_of _ h refl

module _ (L : Ledger) (s : Sound L) where
  one : (i j : ℕ) (p q : Holder) → At L.keys i p → At L.keys j q → p.reg.number ≡ q.reg.number → i ≡ j
  one i j p q hp hq = s.roll.one_key (at_map reg_of hp) (at_map reg_of hq)

  keep_request : (c : Caller) (text : Bytes) (now : BlockTime) → Gives Kept (request_in L c text now)
  keep_request c text now direct f there role account some_text short few room fits =
      let w = seen c.signer_key L.keys there in
      let agent = role_true f.is.reg.role Agent (not-false _ role) in
      let holder = at_map reg_of w.here in
      let a : Asked = asked_by c f text now in
      let own : Own f.is.reg a = record { same_key = sym w.key; agent = agent; same_account = sym (eqb-true f.is.reg.account c.signer.0 (not-false _ account)) } in
      let same_Regs = regs_kept f (suc f.is.pending) L.keys w.here in
      record {
        roll = rw (same_Regs, map_snoc asked_of) (roll_ask s.roll holder a own refl);
        rooms = rw (same_Regs, map_snoc asked_of) (rooms_ask s.rooms a (omega (arith, eqb-false (length text) 0 some_text)) (ltb-false _ _ short) (rw length-map (leb-false _ _ room)) (ltb-false _ _ fits));
        judged = judged_ask s.judged _ refl;
        counted = counted_ask s.counted one w.here agent _ refl refl (leb-false _ _ few);
      }

  pub unregistered : (key : Bytes) → present (seek key L.keys) ≡ false → (i : ℕ) (q : Registration) → At (regs L) i q → q.key ≢ key
  unregistered key h i q a e =
      let o = at_unmap reg_of L.keys a in
      unseen key L.keys (absent _ h) i o.0 o.1 (ap (λ (x : Registration). x.key) o.2 ∙ e)

  keep_add : (caller : ℕ) (key : Bytes) (account : ℕ) (role : Role) → Gives Kept (add_to L caller key account role)
  keep_add caller key account role owner fresh room space =
      let p : Registration = (newly L key account role).reg in
      record {
        roll = rw (map_snoc reg_of) (roll_add s.roll p (unregistered key fresh) refl (rw length-map));
        rooms = rw (map_snoc reg_of) (rooms_add s.rooms p (rw length-map (leb-false _ _ space)) (leb-false _ _ room));
        judged = judged_more s.judged _ (omega (arith, length_snoc L.revoked none));
        counted = counted_add s.counted p (λ n r h e. omega (arith, s.roll.known (at_map asked_of h)));
      }

  keep_revoke : (caller : ℕ) (key : Bytes) (now : BlockTime) → Gives Kept (revoke_in L caller key now)
  keep_revoke caller key now owner f there =
      let w = seen key L.keys there in
      let holder = at_map reg_of w.here in
      record {
        roll = rw (map_erase reg_of) (roll_revoke s.roll holder now);
        rooms = rw (map_erase reg_of) (rooms_revoke s.rooms holder _ now);
        judged = judged_more s.judged _ (omega (arith, length-set L.revoked f.is.reg.number (some now)));
        counted = counted_revoke s.counted f.at;
      }

  -- a decision d of an undecided request that is live under the key at f
  keep_decided : (n : ℕ) (r : Request) (f : Place) (d : Decision) (log : List ℕ) → get_elem? L.requests n ≡ some r → r.decision ≡ Undecided
      → live L n r.asked ≡ some f → undecided_yet d ≡ false → Judged L.revoked (set L.requests n (record { asked = r.asked; decision = d })) log
      → Sound (decided L n (record { req = r; agent = f }) d log)
  keep_decided n r f d log there fresh is_live closed judged =
      let h : At L.requests n r = record { is = there } in
      let l = lives n r.asked _ is_live in
      let w = seen r.asked.key L.keys l.0 in
      let number = (s.roll.alive (at_map reg_of w.here) (at_map asked_of h) (sym w.key)).0 l.1.since in
      let same_Regs = regs_kept f (pred f.is.pending) L.keys w.here in
      let same-asks = asks_kept n d r L.requests h in
      record {
        roll = rw (same_Regs, same-asks) s.roll;
        rooms = rw (same_Regs, same-asks) s.rooms;
        judged = judged;
        counted = counted_decide s.counted one w.here l.1.agent d h fresh number closed;
      }

  keep_approve : (c : Caller) (n : ℕ) (text : Bytes) (now : BlockTime) → Gives Kept (approve_in L c n text now)
  keep_approve c n text now direct b there role account r is_request not_approved not-rejected f is_live same_text not-self =
      let fresh = undecided r.decision not_approved not-rejected in
      let w = seen c.signer_key L.keys there in
      keep_decided n r f _ _ is_request fresh is_live refl
      (judged_approve s.judged (record { is = is_request }) fresh _ (eqb-false _ _ not-self)
      (at_lt (s.roll.in_force (at_map reg_of w.here))))

  keep_reject : (c : Caller) (n : ℕ) (now : BlockTime) → Gives Kept (reject_in L c n now)
  keep_reject c n now direct b there role account r is_request not_approved not-rejected f is_live not-self =
      let fresh = undecided r.decision not_approved not-rejected in
      let w = seen c.signer_key L.keys there in
      keep_decided n r f _ _ is_request fresh is_live refl
      (judged_reject s.judged (record { is = is_request }) fresh _ (eqb-false _ _ not-self)
      (at_lt (s.roll.in_force (at_map reg_of w.here))))

  keep_plan : (c : Change) → Gives Kept (plan L c)
  keep_plan (add caller key account role) = keep_add caller key account role
  keep_plan (revoke caller key now) = keep_revoke caller key now
  keep_plan (request c text now) = keep_request c text now
  keep_plan (approve c n text now) = keep_approve c n text now
  keep_plan (reject c n now) = keep_reject c n now

-- every change keeps the ledger sound, accepted or refused
pub sound_step : (L : Ledger) → Sound L → (c : Change) → Sound (left L (step L c))
sound_step L s c = go (step L c) (gives Kept (plan L c) (keep_plan L s c))
  where
    go : (o : Outcome (Did Given)) → Holds Kept o → Sound (left L o)
    go (refused e) h = s
    go (did d) h = h

pub sound_run : (L : Ledger) → Sound L → (cs : List Change) → Sound (run L cs)
sound_run L s [] = s
sound_run L s (c ∷ cs) = sound_run (left L (step L c)) (sound_step L s c) cs

-- ---- the same of each change's own plan, with the record that it gives
pub left_giving : {A : Type 0} (L : Ledger) (f : A → Given) (m : Plan (Did A)) → left L (outcome (m >>= giving f)) ≡ left L (outcome m)
left_giving L f (done d) = refl
left_giving L f (test e b m) = go b (left_giving L f m)
  where
    go : (b : Bool) → left L (outcome (m >>= giving f)) ≡ left L (outcome m) → left L (cond b (refused e) (outcome (m >>= giving f))) ≡ left L (cond b (refused e) (outcome m))
    go true h = refl
    go false h = h
left_giving {A} L f (look {X = X} e o k) = go o (λ x. left_giving L f (k x))
  where
    go : (o : Option X) → ((x : X) → left L (outcome (k x >>= giving f)) ≡ left L (outcome (k x))) → left L (outcome (look e o k >>= giving f)) ≡ left L (outcome (look e o k))
    go none h = refl
    go (some x) h = h x

module _ (L : Ledger) (s : Sound L) where
  pub sound_add : (caller : ℕ) (key : Bytes) (account : ℕ) (role : Role) → Sound (left L (outcome (add_to L caller key account role)))
  sound_add caller key account role = rw (← (left_giving L principal (add_to L caller key account role))) (sound_step L s (add caller key account role))

  pub sound_revoke : (caller : ℕ) (key : Bytes) (now : BlockTime) → Sound (left L (outcome (revoke_in L caller key now)))
  sound_revoke caller key now = rw (← (left_giving L principal (revoke_in L caller key now))) (sound_step L s (revoke caller key now))

  pub sound_request : (c : Caller) (text : Bytes) (now : BlockTime) → Sound (left L (outcome (request_in L c text now)))
  sound_request c text now = rw (← (left_giving L action (request_in L c text now))) (sound_step L s (request c text now))

  pub sound_approve : (c : Caller) (n : ℕ) (text : Bytes) (now : BlockTime) → Sound (left L (outcome (approve_in L c n text now)))
  sound_approve c n text now = rw (← (left_giving L proof (approve_in L c n text now))) (sound_step L s (approve c n text now))

  pub sound_reject : (c : Caller) (n : ℕ) (now : BlockTime) → Sound (left L (outcome (reject_in L c n now)))
  sound_reject c n now = rw (← (left_giving L action (reject_in L c n now))) (sound_step L s (reject c n now))
