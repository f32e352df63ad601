-- A key's share of what may still be asked: within its limit, exact, one less for each request and one more for each decision. Assumes nothing.
use mathlib.Core.Path.{◌≡◌, refl, sym}
use Prim.Native.Nat.{◌+◌, ◌-◌, ◌≤◌, pred, suc, ℕ}
use borrow.Author.Tests.{eq-eqb, leb-false, not-false}
use lib.ListN.{get_elem?}
use mathlib.Core.Bool.{Bool, cond, false, true}
use mathlib.Core.List.{List, [], ◌∷◌}
use mathlib.Core.Option.{Option, none, some}
use native.Mathlib.Omega.{arith}
use Rattle.history.proofs.Exec.{if_ok}
use Rattle.history.specs.History.{Naming, naming}
use Rattle.history.specs.Steps.{exec, ok, phi, phi_of}
use Rattle.lists.proofs.Maps.{at_map}
use Rattle.lists.proofs.Places.{at_one}
use Rattle.lists.proofs.Tallies.{tally_set}
use Rattle.lists.specs.Places.{At}
use Rattle.lists.specs.Tallies.{bit}
use Rattle.machine.proofs.Keep.{asked_of, reg_of}
use Rattle.machine.proofs.Look.{lives, role_true, seen, undecided}
use Rattle.machine.specs.Examples.{key}
use Rattle.machine.specs.Machine.{with_pending}
use Rattle.machine.specs.Rooms.{pending_limit}
use Rattle.machine.specs.Sound.{Sound, waits}
use Rattle.machine.specs.Tests.{Place, approved, live, next, rejected, same, same_role, seek}
use Rattle.machine.specs.Told.{no_verdict}
use Rattle.machine.specs.Types.{Bytes, Change, Holder, Ledger, Rejected, Request, add, approve, reject, request, revoke}
use Rattle.records.specs.declared.BlockTime.{BlockTime}
use Rattle.records.specs.declared.Caller.{Caller}
use Rattle.records.specs.declared.role.Role.TheVariants.{Agent}

pub phi_bound : (L : Ledger) (k : Bytes) → phi L k ≤ pending_limit
phi_bound L k = go (seek k L.keys)
  where
    by_role : (b : Bool) (n : ℕ) → cond b (pending_limit - n) 0 ≤ pending_limit
    by_role true n = omega arith
    by_role false n = omega arith

    go : (o : Option Place) → phi_of o ≤ pending_limit
    go none = omega arith
    go (some f) = by_role (same_role f.is.reg.role Agent) f.is.pending

pub phi_exact : {L : Ledger} → Sound L → (k : Bytes) {f : Place} → seek k L.keys ≡ some f → f.is.reg.role ≡ Agent → phi L k + f.is.pending ≡ pending_limit
phi_exact {L} s k there agent = rw (there, agent) (omega (arith, s.counted.few (seen k L.keys there).here))

-- ---- a new pending count
abbrev counted_at : Place → ℕ → Place
counted_at f m = record { at = f.at; is = record { reg = f.is.reg; pending = m } }

-- the key whose count changes is found where it was
seek_counted : (k : Bytes) (ks : List Holder) {f : Place} (m : ℕ) → seek k ks ≡ some f → seek k (with_pending f m ks) ≡ some (counted_at f m)
seek_counted k [] m h = cc
seek_counted k (p ∷ ps) {f} m h = go (same k p.reg.key) refl (seek k ps) (λ g. seek_counted k ps m) h
  where
    go : (b : Bool) → same k p.reg.key ≡ b → (o : Option Place) → ((g : Place) → o ≡ some g → seek k (with_pending g m ps) ≡ some (counted_at g m))
        → cond b (some (record { at = 0; is = p })) (next o) ≡ some f → seek k (with_pending f m (p ∷ ps)) ≡ some (counted_at f m)
    go true e o ih q = let w : f ≡ record { at = 0; is = p } = cc in rw (w, e)
    go false e none ih q = cc
    go false e (some g) ih q = let w : f ≡ record { at = suc g.at; is = g.is } = cc in rw (w, e, ih g refl)

-- its share, before and after
record Shares (k : Bytes) (ks : List Holder) (f : Place) (m : ℕ) : Type 0 where
  before : phi_of (seek k ks) ≡ pending_limit - f.is.pending
  after : phi_of (seek k (with_pending f m ks)) ≡ pending_limit - m

shares : (k : Bytes) (ks : List Holder) {f : Place} (m : ℕ) → seek k ks ≡ some f → f.is.reg.role ≡ Agent → Shares k ks f m
shares k ks m there agent = record { before = rw (there, agent); after = rw (seek_counted k ks m there, agent) }

pub phi_request : (L : Ledger) (c : Caller) (text : Bytes) (now : BlockTime) → ok L (request c text now) ≡ true
    → phi L c.signer_key ≡ suc (phi (exec L (request c text now)) c.signer_key)
phi_request L c text now = if_ok L (request c text now) (λ M. phi L c.signer_key ≡ suc (phi M c.signer_key))
    (λ direct f there role account some_text short few room fits.
    omega (arith, shares c.signer_key L.keys (suc f.is.pending) there (role_true f.is.reg.role Agent (not-false _ role)), leb-false pending_limit f.is.pending few))

-- request n may be decided: its key counts it, for a decided one in its place would make one less; and then the key counts one less
phi_raised : {L : Ledger} → Sound L → {m n : ℕ} {r : Request} → At L.requests m r → m ≡ n → (q : Request) → get_elem? L.requests n ≡ some q
    → approved q.decision ≡ false → rejected q.decision ≡ false → (f : Place) → live L n q.asked ≡ some f
    → phi_of (seek r.asked.key (with_pending f (pred f.is.pending) L.keys)) ≡ suc (phi L r.asked.key)
phi_raised {L} s {n = n} {r} hr e q there not_approved not-rejected f is_live =
    let hq : At L.requests n q = record { is = there } in
    let l = lives n q.asked _ is_live in
    let w = seen q.asked.key L.keys l.0 in
    let number = (s.roll.alive (at_map reg_of w.here) (at_map asked_of hq) (sym w.key)).0 l.1.since in
    let fresh = undecided q.decision not_approved not-rejected in
    let counts : bit (waits f.is.reg.number q) ≡ 1 = rw (fresh, eq-eqb q.asked.number f.is.reg.number number) in
    rw (at_one hr hq e) (omega (
      arith,
      shares q.asked.key L.keys (pred f.is.pending) l.0 l.1.agent,
      s.counted.few w.here,
      s.counted.pending w.here,
      tally_set (waits f.is.reg.number) (record { asked = q.asked; decision = Rejected no_verdict }) hq,
    ))

-- an accepted decision of the request that the change names
pub phi_decided : {L : Ledger} → Sound L → (c : Change) {u : Naming} → naming c ≡ some u → ok L c ≡ true → {r : Request} → At L.requests u.request r
    → phi (exec L c) r.asked.key ≡ suc (phi L r.asked.key)
phi_decided s (add caller key account role) e k h = cc
phi_decided s (revoke caller key now) e k h = cc
phi_decided s (request c text now) e k h = cc
phi_decided {L} s (approve c n text now) e k {r} h = if_ok L (approve c n text now) (λ M. phi M r.asked.key ≡ suc (phi L r.asked.key))
    (λ direct b there role account q is_request na nr f is_live same_text not-self. phi_raised s h (cc) q is_request na nr f is_live) k
phi_decided {L} s (reject c n now) e k {r} h = if_ok L (reject c n now) (λ M. phi M r.asked.key ≡ suc (phi L r.asked.key))
    (λ direct b there role account q is_request na nr f is_live not-self. phi_raised s h (cc) q is_request na nr f is_live) k
