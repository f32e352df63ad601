-- What the source's contracts leave open, closed (document 01, 'Gaps in the shown contracts', demand 2): a key's pending count is the number of its Pending
-- requests; a log slot names the one request approved with its index; a registration is in force or revoked, never both. Assumes nothing.
use mathlib.Core.Logic.{◌↔◌, ◌≢◌, ◌⊎◌, inl, inr}
use mathlib.Core.Path.{◌∙◌, ◌≡◌, ap, refl, sym}
use Prim.Native.Nat.{◌<◌, ◌≤◌, ℕ}
use borrow.Author.Tests.{eqb-false, eqb-true, ne_eqb}
use lib.Dec.{eqb}
use lib.ListN.{get_elem?, length}
use mathlib.Core.Bool.{Bool, ◌&&◌, false, not, true}
use mathlib.Core.Option.{Option, none, some}
use native.Mathlib.Nat.{zero-add}
use native.Mathlib.Omega.{arith}
use Rattle.lists.proofs.Maps.{at_map}
use Rattle.lists.proofs.Places.{at_below, at_lt, at_one}
use Rattle.lists.proofs.Tallies.{tally_two}
use Rattle.lists.specs.Places.{At}
use Rattle.lists.specs.Tallies.{tally_from}
use Rattle.machine.proofs.Bools.{and_false}
use Rattle.machine.proofs.Keep.{asked_of, reg_of}
use Rattle.machine.proofs.Live.{live_or_over, over}
use Rattle.machine.proofs.Look.{lives, same_refl, same_true, seen}
use Rattle.machine.specs.Reads.{is_pending, pending_under, status_by}
use Rattle.machine.specs.Rooms.{pending_limit}
use Rattle.machine.specs.Sound.{Sound, slot, undecided_yet, waits}
use Rattle.machine.specs.Tests.{Place, asks, live, present, regs, same, seek}
use Rattle.machine.specs.Types.{Approved, Asked, Bytes, Decision, Holder, Ledger, Registration, Rejected, Request, Undecided}
use Rattle.records.specs.declared.BlockTime.{BlockTime}

-- ---- pending counts
pending_by : (l : Option Place) (d : Decision) → is_pending (status_by l d) ≡ undecided_yet d && present l
pending_by none Undecided = refl
pending_by (some f) Undecided = refl
pending_by none (Approved j v) = refl
pending_by (some f) (Approved j v) = refl
pending_by none (Rejected v) = refl
pending_by (some f) (Rejected v) = refl

module _ (L : Ledger) (s : Sound L) where
  -- a request by a registered key is live exactly if it was made under that key's registration
  live_by_number : {i n : ℕ} {p : Registration} {a : Asked} → At (regs L) i p → At (asks L) n a → a.key ≡ p.key → present (live L n a) ≡ eqb a.number p.number
  live_by_number {n = n} {p} {a} hp ha k = go (eqb a.number p.number) refl (live L n a) refl
    where
      go : (b : Bool) → eqb a.number p.number ≡ b → (l : Option Place) → live L n a ≡ l → present l ≡ b
      go true e (some f) q = refl
      go false e none q = refl
      go true e none q =
          let over-not : over (get_elem? L.revoked a.number) ≡ false = rw (eqb-true a.number p.number e, (s.roll.in_force hp).is) in
          let z : not (present (live L n a)) ≡ false = sym (live_or_over L s ha) ∙ over-not in
          cc (ap (λ (l : Option Place). not (present l)) q)
      go false e (some f) q =
          let l = lives n a (seek a.key L.keys) q in
          let w = seen a.key L.keys l.0 in
          let holder = at_map reg_of w.here in
          let one : f.is.reg ≡ p = at_one holder hp (s.roll.distinct holder hp (w.key ∙ k)) in
          absurd (eqb-false a.number p.number e ((s.roll.alive hp ha k).0 (rw one at l.1.since)))

  counts_alike : {i n : ℕ} {p : Holder} {r : Request} → At L.keys i p → At L.requests n r → pending_under L p.reg.key n r ≡ waits p.reg.number r
  counts_alike {n = n} {p} {r} hp hr = go (same r.asked.key p.reg.key) refl
    where
      holder : (i : ℕ) × At (regs L) i p.reg
      holder = (_, at_map reg_of hp)

      ha : At (asks L) n r.asked
      ha = at_map asked_of hr

      go : (b : Bool) → same r.asked.key p.reg.key ≡ b → (b && is_pending (status_by (live L n r.asked) r.decision)) ≡ waits p.reg.number r
      go true e = pending_by (live L n r.asked) r.decision ∙ ap (λ (b : Bool). undecided_yet r.decision && b) (live_by_number holder.1 ha (same_true _ _ e))
      go false e =
          let other : r.asked.number ≢ p.reg.number = λ q.
          let z : true ≡ false = sym (same_refl p.reg.key) ∙ ap (λ (k : Bytes). same k p.reg.key) (sym (s.roll.own holder.1 ha q).same_key) ∙ e in
          let y : ◌≡◌ {A = ℕ} 0 1 = cc in omega arith in
          sym (ap (λ (c : Bool). undecided_yet r.decision && c) (ne_eqb r.asked.number p.reg.number other) ∙ and_false (undecided_yet r.decision))

  pub pending_exact : {i : ℕ} {p : Holder} → At L.keys i p → p.pending ≡ tally_from (pending_under L p.reg.key) 0 L.requests
  pending_exact {p = p} hp =
      s.counted.pending hp ∙ sym (tally_two (pending_under L p.reg.key) (waits p.reg.number) 0 L.requests L.requests refl
      (λ n x y hx hy. rw (zero-add, at_one hx hy refl) (counts_alike hp hy)))

  pub pending_few : {i : ℕ} {p : Holder} → At L.keys i p → p.pending ≤ pending_limit
  pending_few = s.counted.few

  -- ---- slot j names the one request approved with index j
  pub slot_names : {j n : ℕ} {r : Request} → At L.requests n r → At L.log j n ↔ (slot r.decision ≡ some j)
  slot_names hr = ((λ h. let o = s.judged.logged h in ap (λ (x : Request). slot x.decision) (at_one hr o.1 refl) ∙ o.2), (λ e. s.judged.slotted hr e))

  pub slot_one : {j m n : ℕ} {r q : Request} → At L.requests m r → At L.requests n q → slot r.decision ≡ some j → slot q.decision ≡ some j → m ≡ n
  slot_one hr hq e k = at_one (s.judged.slotted hr e) (s.judged.slotted hq k) refl

  -- ---- registration g, below the count, is in force under one key and not revoked, or revoked and in force under none
  pub record InForce (g : ℕ) : Type 0 where
    pub place : ℕ
    pub reg : Registration
    pub here : At (regs L) place reg
    pub number : reg.number ≡ g
    pub alone : {i : ℕ} {q : Registration} → At (regs L) i q → q.number ≡ g → i ≡ place
    pub unended : At L.revoked g none

  pub record Revoked (g : ℕ) : Type 0 where
    pub when : BlockTime
    pub ended : At L.revoked g (some when)
    pub nowhere : {i : ℕ} {q : Registration} → At (regs L) i q → q.number ≢ g

  pub in_force_or_revoked : (g : ℕ) → g < length L.revoked → InForce g ⊎ Revoked g
  in_force_or_revoked g h = let b = at_below L.revoked g h in go b.0 b.1
    where
      go : (o : Option BlockTime) → At L.revoked g o → InForce g ⊎ Revoked g
      go none ho =
          let o = s.roll.every ho in
          inl (record { place = o.0; reg = o.1; here = o.2; number = o.3; alone = λ hq e. s.roll.one_key hq o.2 (e ∙ sym o.3); unended = ho })
      go (some t) ho = inr (record { when = t; ended = ho; nowhere = λ hq e. let z = at_one (s.roll.in_force hq) ho e in let y : ◌≡◌ {A = ℕ} 0 1 = cc in omega arith })

  pub never_both : (g : ℕ) → InForce g → Revoked g → ⊥
  never_both g a b = b.nowhere a.here a.number

  -- .. and there are no others
  pub no_others : {i : ℕ} {p : Registration} → At (regs L) i p → p.number < length L.revoked
  no_others hp = at_lt (s.roll.in_force hp)
