-- In a sound ledger a request is live exactly if its registration is not over; and while it is undecided, its key's pending count is not 0. Assumes nothing.
use mathlib.Core.Path.{◌∙◌, ◌≡◌, ap, refl, sym}
use Prim.Native.Nat.{◌<◌, ◌≤◌, ℕ}
use lib.ListN.{get_elem?}
use mathlib.Core.Bool.{Bool, false, not, true}
use mathlib.Core.Option.{Option, none, some}
use native.Mathlib.Omega.{arith}
use Rattle.lists.proofs.Maps.{at_map, at_unmap}
use Rattle.lists.proofs.Places.{at_below, at_one}
use Rattle.lists.proofs.Tallies.{tally_some}
use Rattle.lists.specs.Places.{At}
use Rattle.machine.proofs.Keep.{asked_of, reg_of}
use Rattle.machine.proofs.KeepCounted.{waits_same}
use Rattle.machine.proofs.Look.{Lives, lives, lives_back, seen, unseen}
use Rattle.machine.specs.Sound.{Own, Sound, waits}
use Rattle.machine.specs.Tests.{Place, asks, live, live_under, present, regs, seek}
use Rattle.machine.specs.Types.{Asked, Ledger, Registration, Request, Undecided}
use Rattle.records.specs.declared.BlockTime.{BlockTime}

-- the time of the end, or none: is it over?
abbrev pub over : Option (Option BlockTime) → Bool
over none = false
over (some none) = false
over (some (some t)) = true

-- in a sound ledger a request is live exactly if its registration is not over
pub live_or_over : (L : Ledger) → Sound L → {n : ℕ} {a : Asked} → At (asks L) n a → over (get_elem? L.revoked a.number) ≡ not (present (live L n a))
live_or_over L s {n} {a} ha = let b = at_below L.revoked a.number (s.roll.known ha) in rw b.1.is (go b.0 b.1 (live L n a) refl)
  where
    go : (o : Option BlockTime) → At L.revoked a.number o → (l : Option Place) → live L n a ≡ l → over (some o) ≡ not (present l)
    go none ho (some f) e = refl
    go (some t) ho none e = refl
    go none ho none e =
        let o = s.roll.every ho in
        find (seek a.key L.keys) refl o.2 (s.roll.own o.2 ha (sym o.3)) ((s.roll.alive o.2 ha (s.roll.own o.2 ha (sym o.3)).same_key).1 (sym o.3))
      where
        find : (x : Option Place) → seek a.key L.keys ≡ x → {i : ℕ} {p : Registration} → At (regs L) i p → Own p a → p.active ≤ n → false ≡ true
        find none q hp own since =
            let b = at_unmap reg_of L.keys hp in
            absurd (unseen a.key L.keys q _ b.0 b.1 (ap (λ (x : Registration). x.key) b.2 ∙ sym own.same_key))
        find (some f) q {p = p} hp own since =
            let w = seen a.key L.keys q in
            let one : f.is.reg ≡ p = at_one (at_map reg_of w.here) hp (s.roll.distinct (at_map reg_of w.here) hp (w.key ∙ own.same_key)) in
            let l : Lives n a f.is.reg = rw one (record { agent = own.agent; account = sym own.same_account; since = since }) in
            let y = lives_back n a f l in
            cc (ap (live_under n a) q)
    go (some t) ho (some f) e =
        let l = lives n a (seek a.key L.keys) e in
        let w = seen a.key L.keys l.0 in
        let holder = at_map reg_of w.here in
        let number = (s.roll.alive holder ha (sym w.key)).0 l.1.since in
        let z = at_one ho (s.roll.in_force holder) number in
        cc

-- the key that an undecided request is live under has it among its Pending
pub some_pending : (L : Ledger) → Sound L → {n : ℕ} {r : Request} {f : Place} → At L.requests n r → r.decision ≡ Undecided → live L n r.asked ≡ some f → 0 < f.is.pending
some_pending L s {n} {r} {f} hr fresh e =
    let l = lives n r.asked (seek r.asked.key L.keys) e in
    let w = seen r.asked.key L.keys l.0 in
    let number = (s.roll.alive (at_map reg_of w.here) (at_map asked_of hr) (sym w.key)).0 l.1.since in
    omega (arith, s.counted.pending w.here, tally_some (waits f.is.reg.number) hr (waits_same f.is.reg.number r fresh number))
