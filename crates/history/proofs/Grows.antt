-- What a change leaves of a ledger: nothing that was asked, decided, logged or revoked is lost. And so for any run. Assumes nothing.
use mathlib.Core.Logic.{◌⊎◌, inl, inr}
use mathlib.Core.Path.{◌∙◌, ◌≡◌, ap, refl, sym}
use Prim.Native.Nat.{◌≤◌, ℕ}
use lib.ListN.{get_elem?, length, length-append, length-set}
use mathlib.Core.Bool.{false}
use mathlib.Core.List.{List, [], ◌++◌, ◌∷◌, append-nil}
use mathlib.Core.Option.{Option, none, some}
use native.Mathlib.Omega.{arith}
use Rattle.history.proofs.Exec.{by_plan}
use Rattle.history.specs.Steps.{Grows, exec}
use Rattle.lists.proofs.Maps.{at_map}
use Rattle.lists.proofs.Places.{at_below, at_lt, at_old, at_one, at_set, at_set_other, length_snoc}
use Rattle.lists.specs.Places.{At}
use Rattle.machine.proofs.Keep.{reg_of, sound_step}
use Rattle.machine.proofs.Look.{seen, undecided}
use Rattle.machine.specs.Examples.{key}
use Rattle.machine.specs.Machine.{Did, Given, asked_by, decided, plan, run}
use Rattle.machine.specs.Plan.{Gives}
use Rattle.machine.specs.Sound.{Sound, undecided_yet}
use Rattle.machine.specs.Tests.{Place, live}
use Rattle.machine.specs.Types.{Change, Decision, Ledger, Request, Undecided, add, approve, reject, request, revoke}
use Rattle.records.specs.declared.BlockTime.{BlockTime}

-- what a change leaves of request n: what was asked; and the decision, but of a request that was undecided and live
pub record Stays (L : Ledger) (n : ℕ) (r q : Request) : Type 0 where
  pub asked : q.asked ≡ r.asked
  pub decision : (q.decision ≡ r.decision) ⊎ ((f : Place) × (r.decision ≡ Undecided) × (live L n r.asked ≡ some f))

pub record RequestsStay (L : Ledger) (requests : List Request) : Type 0 where
  pub longer : length L.requests ≤ length requests
  pub each : {n : ℕ} {r q : Request} → At L.requests n r → At requests n q → Stays L n r q

pub record EndsStay (before after : List (Option BlockTime)) : Type 0 where
  pub longer : length before ≤ length after
  pub each : {g : ℕ} {t : BlockTime} → At before g (some t) → At after g (some t)

-- one step: what it does to each column but the keys
pub record Advances (L M : Ledger) : Type 0 where
  pub requests : RequestsStay L M.requests
  pub ends : EndsStay L.revoked M.revoked
  pub log : (more : List ℕ) × (M.log ≡ L.log ++ more)
  pub owner : M.owner ≡ L.owner

module _ (L : Ledger) where
  stays_same : {n : ℕ} {r q : Request} → q ≡ r → Stays L n r q
  stays_same e = record { asked = ap (λ (x : Request). x.asked) e; decision = inl (ap (λ (x : Request). x.decision) e) }

  requests_same : RequestsStay L L.requests
  requests_same = record { longer = omega arith; each = λ hr hq. stays_same (at_one hq hr refl) }

  ends_same : EndsStay L.revoked L.revoked
  ends_same = record { longer = omega arith; each = λ h. h }

  log_same : (more : List ℕ) × (L.log ≡ L.log ++ more)
  log_same = ([], sym (append-nil _))

  advances_refused : Advances L L
  advances_refused = record { requests = requests_same; ends = ends_same; log = log_same; owner = refl }

  -- a decision d of an undecided request that is live under the key at f
  advances_decided : (n : ℕ) (r : Request) (f : Place) (d : Decision) (log : List ℕ) → get_elem? L.requests n ≡ some r → r.decision ≡ Undecided
      → live L n r.asked ≡ some f → (more : List ℕ) × (log ≡ L.log ++ more) → Advances L (decided L n (record { req = r; agent = f }) d log)
  advances_decided n r f d log there fresh is_live grown =
      let h : At L.requests n r = record { is = there } in record {
        requests = record {
          longer = omega (arith, length-set L.requests n (record { asked = r.asked; decision = d }));
          each = λ hr hq. elim (at_set L.requests n _ hq) [
            | inl a ↦ let e = at_one hr h a.0 in record { asked = cc; decision = inr (f, cc, rw (a.0, e) is_live) }
            | inr a ↦ stays_same (at_one a.1 hr refl)
          ];
        };
        ends = ends_same;
        log = grown;
        owner = refl;
      }

  module _ (s : Sound L) where
    advances_plan : (c : Change) → Gives (λ (d : Did Given). Advances L d.ledger) (plan L c)
    advances_plan (add caller key account role) = λ owner fresh room space. record {
      requests = requests_same;
      ends = record { longer = omega (arith, length_snoc L.revoked none); each = at_old _ };
      log = log_same;
      owner = refl;
    }
    advances_plan (revoke caller key now) = λ owner f there.
        let slot = s.roll.in_force (at_map reg_of (seen key L.keys there).here) in record {
          requests = requests_same;
          ends = record {
            longer = omega (arith, length-set L.revoked f.is.reg.number (some now));
            each = λ h. at_set_other _ _ (λ e. let open-still = at_one h slot e in let z : ◌≡◌ {A = ℕ} 0 1 = cc in omega arith) h;
          };
          log = log_same;
          owner = refl;
        }
    advances_plan (request c text now) = λ direct f there role account some_text short few room fits. record {
      requests = record {
        longer = omega (arith, length_snoc L.requests (record { asked = asked_by c f text now; decision = Undecided }));
        each = λ hr hq. stays_same (at_one hq (at_old _ hr) refl);
      };
      ends = ends_same;
      log = log_same;
      owner = refl;
    }
    advances_plan (approve c n text now) = λ direct b there role account r is_request not_approved not-rejected f is_live same_text not-self.
        advances_decided n r f _ _ is_request (undecided r.decision not_approved not-rejected) is_live (n ∷ [], refl)
    advances_plan (reject c n now) = λ direct b there role account r is_request not_approved not-rejected f is_live not-self.
        advances_decided n r f _ _ is_request (undecided r.decision not_approved not-rejected) is_live log_same

    pub advances_step : (c : Change) → Advances L (exec L c)
    advances_step c = by_plan L c (λ _ M. Advances L M) advances_refused (advances_plan c)

-- ---- what survives any number of steps
-- a decision, once made, is kept
stays_decided : {L : Ledger} {n : ℕ} {r q : Request} → Stays L n r q → (d : Decision) → undecided_yet d ≡ false → r.decision ≡ d → q.decision ≡ d
stays_decided h d closed e = elim h.decision [ inl kept ↦ kept ∙ e | inr o ↦ let z : ◌≡◌ {A = ℕ} 0 1 = cc in absurd (omega arith) ]

grows_by : {L M : Ledger} → Advances L M → Grows L M
grows_by a = record {
  longer = a.requests.longer;
  content = λ hr hq. (a.requests.each hr hq).asked;
  approvals = λ hr hq. stays_decided (a.requests.each hr hq) _ refl;
  rejections = λ hr hq. stays_decided (a.requests.each hr hq) _ refl;
  log_longer = rw (a.log.1, length-append) (omega arith);
  log_kept = λ h. rw a.log.1 (at_old a.log.0 h);
  owner = a.owner;
  registrations = a.ends.longer;
  revocations = a.ends.each;
}

pub grows_step : (L : Ledger) → Sound L → (c : Change) → Grows L (exec L c)
grows_step L s c = grows_by (advances_step L s c)

pub grows_refl : (L : Ledger) → Grows L L
grows_refl L = grows_by (advances_refused L)

-- a request is still there, at its place
pub still_there : {L M : Ledger} → Grows L M → {n : ℕ} {r : Request} → At L.requests n r → (q : Request) × At M.requests n q
still_there {M = M} g {n} h = at_below M.requests n (omega (arith, at_lt h, g.longer))

pub grows_trans : {L M N : Ledger} → Grows L M → Grows M N → Grows L N
grows_trans a b = record {
  longer = omega (arith, a.longer, b.longer);
  content = λ hr hq. let m = still_there a hr in b.content m.1 hq ∙ a.content hr m.1;
  approvals = λ hr hq e. let m = still_there a hr in b.approvals m.1 hq (a.approvals hr m.1 e);
  rejections = λ hr hq e. let m = still_there a hr in b.rejections m.1 hq (a.rejections hr m.1 e);
  log_longer = omega (arith, a.log_longer, b.log_longer);
  log_kept = λ h. b.log_kept (a.log_kept h);
  owner = b.owner ∙ a.owner;
  registrations = omega (arith, a.registrations, b.registrations);
  revocations = λ h. b.revocations (a.revocations h);
}

pub grows_run : {L : Ledger} → Sound L → (cs : List Change) → Grows L (run L cs)
grows_run {L} s [] = grows_refl L
grows_run {L} s (c ∷ cs) = grows_trans (grows_step L s c) (grows_run {L = exec L c} (sound_step L s c) cs)
