-- Decisions and the log, kept: by a request, an approval and a rejection; and by more registrations. Assumes nothing.
use mathlib.Core.Logic.{◌≢◌, inl, inr}
use mathlib.Core.Path.{◌≡◌, ap, refl}
use Prim.Native.Nat.{◌<◌, ◌≤◌, ℕ}
use lib.Ieee.{le}
use lib.ListN.{length, set}
use mathlib.Core.List.{List, [], ◌++◌, ◌∷◌}
use mathlib.Core.Option.{Option, some}
use native.Mathlib.Omega.{arith}
use Rattle.lists.proofs.Places.{at_end, at_lt, at_old, at_one, at_set, at_set_other, at_set_same, at_snoc, length_snoc}
use Rattle.lists.proofs.Tallies.{tally_set, tally_snoc}
use Rattle.lists.specs.Places.{At}
use Rattle.lists.specs.Tallies.{bit}
use Rattle.machine.specs.Sound.{Judged, slot}
use Rattle.machine.specs.Tests.{approved}
use Rattle.machine.specs.Types.{Approved, Decision, Rejected, Request, Undecided, Verdict}
use Rattle.records.specs.declared.BlockTime.{BlockTime}

module _ {revoked : List (Option BlockTime)} {requests : List Request} {log : List ℕ} (s : Judged revoked requests log) where
  pub judged_ask : (r : Request) → r.decision ≡ Undecided → Judged revoked (requests ++ r ∷ []) log
  judged_ask r e = record {
    other = λ hn hv. elim (at_snoc requests r hn) [ inl a ↦ s.other a hv | inr a ↦ let z : ◌≡◌ {A = ℕ} 0 1 = cc in absurd (omega arith) ];
    logged = λ hj. let o = s.logged hj in (o.0, at_old _ o.1, o.2);
    slotted = λ hn hs. elim (at_snoc requests r hn) [ inl a ↦ s.slotted a hs | inr a ↦ let z : ◌≡◌ {A = ℕ} 0 1 = cc in absurd (omega arith) ];
    log_length = rw (tally_snoc, e) (omega (arith, s.log_length));
  }

  -- the registrations grow
  pub judged_more : (more : List (Option BlockTime)) → length revoked ≤ length more → Judged more requests log
  judged_more more le = record {
    other = λ hn hv. let o = s.other hn hv in (o.0, omega arith);
    logged = s.logged;
    slotted = s.slotted;
    log_length = s.log_length;
  }

  module _ {n : ℕ} {r : Request} (h : At requests n r) (e : r.decision ≡ Undecided)
      (v : Verdict) (not_own : v.account ≢ r.asked.account) (known : v.number < length revoked) where
    -- the undecided request is in no slot
    unslotted : {m j : ℕ} {q : Request} → At requests m q → slot q.decision ≡ some j → m ≢ n
    unslotted hq k w = let same = at_one hq h w in let z : ◌≡◌ {A = ℕ} 0 1 = cc in omega arith

    pub judged_approve : Judged revoked (set requests n (record { asked = r.asked; decision = Approved (length log) v })) (log ++ n ∷ [])
    judged_approve =
        let r' : Request = record { asked = r.asked; decision = Approved (length log) v } in record {
          other = λ {v = w} hn hv. elim (at_set requests n r' hn) [
            | inl a ↦ let same : w ≡ v = cc in rw (a.1, same) (not_own, known)
            | inr a ↦ s.other a.1 hv
          ];
          logged = λ {j = j} hj. elim (at_snoc log n hj) [
            | inl a ↦ let o = s.logged a in (o.0, at_set_other n r' (unslotted o.1 o.2) o.1, o.2)
            | inr a ↦ rw (a.0, a.1) (r', at_set_same requests n r' (at_lt h), refl)
          ];
          slotted = λ {j = j} hn hs. elim (at_set requests n r' hn) [
            | inl a ↦ let same : j ≡ length log = cc in rw (same, a.0) (at_end log n)
            | inr a ↦ at_old _ (s.slotted a.1 hs)
          ];
          log_length = rw length_snoc (omega (arith, s.log_length, tally_set (λ (x : Request). approved x.decision) r' h, ap (λ (d : Decision). bit (approved d)) e));
        }

    pub judged_reject : Judged revoked (set requests n (record { asked = r.asked; decision = Rejected v })) log
    judged_reject =
        let r' : Request = record { asked = r.asked; decision = Rejected v } in record {
          other = λ {v = w} hn hv. elim (at_set requests n r' hn) [
            | inl a ↦ let same : w ≡ v = cc in rw (a.1, same) (not_own, known)
            | inr a ↦ s.other a.1 hv
          ];
          logged = λ hj. let o = s.logged hj in (o.0, at_set_other n r' (unslotted o.1 o.2) o.1, o.2);
          slotted = λ hn hs. elim (at_set requests n r' hn) [ inl a ↦ let z : ◌≡◌ {A = ℕ} 0 1 = cc in absurd (omega arith) | inr a ↦ s.slotted a.1 hs ];
          log_length = omega (arith, s.log_length, tally_set (λ (x : Request). approved x.decision) r' h, ap (λ (d : Decision). bit (approved d)) e);
        }
