-- Under ASM-TIME no decision is earlier than its request, and approval times never decrease along the log. Assumes nothing.
use mathlib.Core.Logic.{◌⊎◌, inl, inr}
use mathlib.Core.Path.{◌∙◌, ◌≡◌, ap, refl, sym}
use Prim.Native.Nat.{◌*◌, ℕ}
use lib.Ieee.{le}
use lib.ListN.{get_elem?, length, replicate}
use mathlib.Core.List.{List, [], ◌∷◌}
use mathlib.Core.Option.{some}
use native.Mathlib.Omega.{arith}
use Rattle.history.proofs.Exec.{by_plan}
use Rattle.history.specs.Steps.{ApprovedAt, Clock, Rising, Timed, Tle, exec, last_now, op_now}
use Rattle.lists.proofs.Places.{at_lt, at_nil, at_set, at_snoc}
use Rattle.lists.specs.Places.{At}
use Rattle.machine.proofs.Keep.{sound_opened, sound_step}
use Rattle.machine.specs.Examples.{key}
use Rattle.machine.specs.Machine.{Did, Given, decided, opened, plan, run}
use Rattle.machine.specs.Plan.{Gives}
use Rattle.machine.specs.Sound.{Sound, slot, verdict}
use Rattle.machine.specs.Tests.{Place}
use Rattle.machine.specs.Types.{Approved, Change, Decision, Ledger, Rejected, Request, Undecided, Verdict, add, approve, reject, request, revoke}
use Rattle.records.specs.declared.BlockTime.{BlockTime}
use Rattle.records.specs.declared.Caller.{Caller}
use Rattle.records.specs.declared.role.Role.TheVariants.{Agent, Approver}

tle_refl : (t : BlockTime) → Tle t t
tle_refl t = omega arith

tle_trans : {a b c : BlockTime} → Tle a b → Tle b c → Tle a c
tle_trans p q = omega arith

-- a request that a change at time u made or decided: its decision is of that time, and its slot, if it has one, is the log's next
record Fresh (L : Ledger) (u : BlockTime) (q : Request) : Type 0 where
  asked : Tle q.asked.time u
  decided : {v : Verdict} → verdict q.decision ≡ some v → v.time ≡ u
  last : {j : ℕ} → slot q.decision ≡ some j → j ≡ length L.log

-- each request is one that was there before, or fresh
record Onward (L : Ledger) (u : BlockTime) (M : Ledger) : Type 0 where
  each : {n : ℕ} {q : Request} → At M.requests n q → At L.requests n q ⊎ Fresh L u q

module _ {L : Ledger} (s : Sound L) {t : BlockTime} (d : Timed L t) {u : BlockTime} (le : Tle t u) {M : Ledger} (o : Onward L u M) where
  timed_clock : Clock M u
  timed_clock = record {
    asked = λ h. elim (o.each h) [ inl old ↦ tle_trans (d.clock.asked old) le | inr new ↦ new.asked ];
    decided = λ h e. elim (o.each h) [ inl old ↦ tle_trans (d.clock.decided old e) le | inr new ↦ rw (new.decided e) (tle_refl u) ];
  }

  -- a filled slot was filled before, or is the next
  back : {j : ℕ} {a : BlockTime} → ApprovedAt M j a → ApprovedAt L j a ⊎ ((j ≡ length L.log) × (a ≡ u))
  back x = elim (o.each x.there) [
    | inl old ↦ inl (record {
      request = x.request;
      record_of = x.record_of;
      by_whom = x.by_whom;
      slot = s.judged.slotted old (ap slot x.decision);
      there = old;
      decision = x.decision;
      time = x.time;
    })
    | inr new ↦ inr (new.last (ap slot x.decision), sym x.time ∙ new.decided (ap verdict x.decision))
  ]

  timed_on : Timed M u
  timed_on = record {
    clock = timed_clock;
    inv10 = record { later = λ h e. elim (o.each h) [ inl old ↦ d.inv10.later old e | inr new ↦ rw (new.decided e) new.asked ] };
    tr4 = record {
      rising = λ i≤j x y. elim (back y) [
        | inl q ↦ elim (back x) [ inl p ↦ d.tr4.rising i≤j p q | inr p ↦ absurd (omega (arith, at_lt q.slot)) ]
        | inr q ↦ rw q.1 (rw x.time at (timed_clock.decided x.there (ap verdict x.decision)))
      ];
    };
  }

-- a decision e of request n at time u, in the log's next slot or in none
onward_decided : {L : Ledger} {t u : BlockTime} → Timed L t → Tle t u → (n : ℕ) (r : Request) (f : Place) (e : Decision) (log : List ℕ) → get_elem? L.requests n ≡ some r
    → ((v : Verdict) → verdict e ≡ some v → v.time ≡ u) → ((j : ℕ) → slot e ≡ some j → j ≡ length L.log)
    → Onward L u (decided L n (record { req = r; agent = f }) e log)
onward_decided {L} d le n r f e log there now last = record {
  each = λ h. elim (at_set L.requests n _ h) [
    | inl a ↦ inr (rw a.1 (record { asked = tle_trans (d.clock.asked {r = r} (record { is = there })) le; decided = now _; last = last _ }))
    | inr a ↦ inl a.1
  ];
}

onward_plan : {L : Ledger} {t : BlockTime} → Timed L t → (c : Change) → Tle t (op_now c t) → Gives (λ (d : Did Given). Onward L (op_now c t) d.ledger) (plan L c)
onward_plan d (add caller key account role) le = λ owner fresh room space. record { each = inl }
onward_plan d (revoke caller key now) le = λ owner f there. record { each = inl }
onward_plan {L} d (request c text now) le = λ direct f there role account some_text short few room fits. record {
  each = λ h. elim (at_snoc L.requests _ h) [
    | inl a ↦ inl a
    | inr a ↦ inr (rw a.1 (record { asked = tle_refl now; decided = λ e. cc; last = λ e. cc }))
  ];
}
onward_plan d (approve c n text now) le = λ direct b there role account r is_request not_approved not-rejected f is_live same_text not-self.
    onward_decided d le n r f _ _ is_request (λ v e. cc) (λ j e. cc)
onward_plan d (reject c n now) le = λ direct b there role account r is_request not_approved not-rejected f is_live not-self.
    onward_decided d le n r f _ _ is_request (λ v e. cc) (λ j e. cc)

pub timed_opened : (owner : ℕ) (t : BlockTime) → Timed (opened owner) t
timed_opened owner t = record {
  clock = record { asked = λ h. absurd (at_nil h); decided = λ h. absurd (at_nil h) };
  inv10 = record { later = λ h. absurd (at_nil h) };
  tr4 = record { rising = λ le x. absurd (at_nil x.slot) };
}

-- a refused change leaves the ledger, and the clock moves on
pub timed_step : {L : Ledger} → Sound L → {t : BlockTime} → Timed L t → (c : Change) → Tle t (op_now c t) → Timed (exec L c) (op_now c t)
timed_step {L} s {t} d c le = timed_on s d le (by_plan L c (λ _ M. Onward L (op_now c t) M) (record { each = inl }) (onward_plan d c le))

pub timed_run : {L : Ledger} → Sound L → {t : BlockTime} → Timed L t → (cs : List Change) → Rising t cs → Timed (run L cs) (last_now t cs)
timed_run s d [] rises = d
timed_run {L} s d (c ∷ cs) (le, rises) = timed_run {L = exec L c} (sound_step L s c) (timed_step s d c le) cs rises

-- ---- nothing of this is empty
-- every slot of a sound ledger's log has its time
pub slot_time : {L : Ledger} → Sound L → {j n : ℕ} → At L.log j n → (t : BlockTime) × ApprovedAt L j t
slot_time {L} s {j} {n} h = let o = s.judged.logged h in go o.0 o.1 o.0.decision refl o.2
  where
    go : (r : Request) → At L.requests n r → (d : Decision) → r.decision ≡ d → slot d ≡ some j → (t : BlockTime) × ApprovedAt L j t
    go r hr Undecided e k = let z : ◌≡◌ {A = ℕ} 0 1 = cc in absurd (omega arith)
    go r hr (Approved i v) e k = (v.time, record { request = n; record_of = r; by_whom = v; slot = h; there = hr; decision = let same : i ≡ j = cc in rw (← same) e; time = refl })
    go r hr (Rejected v) e k = let z : ◌≡◌ {A = ℕ} 0 1 = cc in absurd (omega arith)

-- changes that meet the premise: two requests, the later one approved first, and a change that is refused
abbrev pub moment : ℕ → BlockTime
moment n = record { height = n; timestamp_ns = 1000 * n }

abbrev pub signed : ℕ → Caller
signed n = record { predecessor = record { 0 = n }; signer = record { 0 = n }; signer_key = replicate 32 n }

abbrev pub rising_changes : List Change
rising_changes =
    add 0 (replicate 32 1) 1 Agent
    ∷ add 0 (replicate 32 2) 2 Approver
    ∷ request (signed 1) (65 ∷ []) (moment 1)
    ∷ request (signed 1) (66 ∷ []) (moment 2)
    ∷ approve (signed 2) 1 (66 ∷ []) (moment 3)
    ∷ approve (signed 2) 1 (66 ∷ []) (moment 4)
    ∷ approve (signed 2) 0 (65 ∷ []) (moment 5)
    ∷ []

pub rising_met : Rising (moment 0) rising_changes
rising_met = omega arith

pub rising_log : (run (opened 0) rising_changes).log ≡ 1 ∷ 0 ∷ []
rising_log = refl

pub rising_timed : Timed (run (opened 0) rising_changes) (moment 5)
rising_timed = timed_run (sound_opened 0) (timed_opened 0 (moment 0)) rising_changes rising_met
