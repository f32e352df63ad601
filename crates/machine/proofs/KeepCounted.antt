-- The pending counts, kept. Assumes nothing.
use mathlib.Core.Logic.{◌≢◌, inl, inr}
use mathlib.Core.Path.{◌∙◌, ◌≡◌, ap, refl, sym}
use Prim.Native.Nat.{◌<◌, pred, suc, ℕ}
use borrow.Author.Tests.{eq-eqb, ne_eqb}
use lib.Dec.{eqb}
use lib.ListN.{set}
use mathlib.Core.Bool.{Bool, ◌&&◌, false, true}
use mathlib.Core.List.{List, [], ◌++◌, ◌∷◌}
use native.Mathlib.Omega.{arith}
use Rattle.lists.proofs.Places.{at_back, at_set, at_snoc}
use Rattle.lists.proofs.Tallies.{tally_none, tally_set, tally_snoc}
use Rattle.lists.specs.Places.{At, erase}
use Rattle.lists.specs.Tallies.{bit}
use Rattle.machine.specs.Rooms.{pending_limit}
use Rattle.machine.specs.Sound.{Counted, undecided_yet, waits}
use Rattle.machine.specs.Types.{Decision, Holder, Registration, Request, Undecided}
use Rattle.records.specs.declared.role.Role.TheVariants.{Agent}

-- one request's part in the count of registration g
pub waits_same : (g : ℕ) (r : Request) → r.decision ≡ Undecided → r.asked.number ≡ g → waits g r ≡ true
waits_same g r e k = ap (λ (d : Decision). undecided_yet d && eqb r.asked.number g) e ∙ eq-eqb r.asked.number g k

waits_other : (g : ℕ) (r : Request) → r.asked.number ≢ g → waits g r ≡ false
waits_other g r k = ap (λ (b : Bool). undecided_yet r.decision && b) (ne_eqb r.asked.number g k) ∙ never (undecided_yet r.decision)
  where
    never : (b : Bool) → (b && false) ≡ false
    never true = refl
    never false = refl

waits_closed : (g : ℕ) (r : Request) → undecided_yet r.decision ≡ false → waits g r ≡ false
waits_closed g r e = ap (λ (b : Bool). b && eqb r.asked.number g) e

abbrev One : List Holder → Type 0
One keys = (i j : ℕ) (p q : Holder) → At keys i p → At keys j q → p.reg.number ≡ q.reg.number → i ≡ j

module _ {keys : List Holder} {requests : List Request} (s : Counted keys requests) where
  module _ (one : One keys) {i : ℕ} {p : Holder} (h : At keys i p) (agent : p.reg.role ≡ Agent) where
    pub counted_ask : (r : Request) → r.decision ≡ Undecided → r.asked.number ≡ p.reg.number → p.pending < pending_limit
        → Counted (set keys i (record { reg = p.reg; pending = suc p.pending })) (requests ++ r ∷ [])
    counted_ask r e k room = record {
      pending = λ {i = j} {p = q} hq. elim (at_set keys i _ hq) [
        | inl a ↦ rw (a.1, tally_snoc) (omega (arith, s.pending h, ap bit (waits_same p.reg.number r e k)))
        | inr a ↦ rw tally_snoc (omega (arith, s.pending a.1, ap bit (waits_other q.reg.number r (λ w. a.0 (one _ _ _ _ a.1 h (sym w ∙ k))))))
      ];
      few = λ hq. elim (at_set keys i _ hq) [ inl a ↦ rw a.1 room | inr a ↦ s.few a.1 ];
      idle = λ hq w. elim (at_set keys i _ hq) [ inl a ↦ cc | inr a ↦ s.idle a.1 w ];
    }

    pub counted_decide : {n : ℕ} {r : Request} (d : Decision) → At requests n r → r.decision ≡ Undecided → r.asked.number ≡ p.reg.number → undecided_yet d ≡ false
        → Counted (set keys i (record { reg = p.reg; pending = pred p.pending })) (set requests n (record { asked = r.asked; decision = d }))
    counted_decide {n} {r} d hr e k closed =
        let r' : Request = record { asked = r.asked; decision = d } in record {
          pending = λ {i = j} {p = q} hq. elim (at_set keys i _ hq) [
            | inl a ↦ rw a.1 (omega (arith, s.pending h, tally_set (waits p.reg.number) r' hr, ap bit (waits_same p.reg.number r e k), ap bit (waits_closed p.reg.number r' closed)))
            | inr a ↦ omega (
              arith,
              s.pending a.1,
              tally_set (waits q.reg.number) r' hr,
              ap bit (waits_other q.reg.number r (λ w. a.0 (one _ _ _ _ a.1 h (sym w ∙ k)))),
              ap bit (waits_closed q.reg.number r' closed),
            )
          ];
          few = λ hq. elim (at_set keys i _ hq) [ inl a ↦ rw a.1 (omega (arith, s.few h)) | inr a ↦ s.few a.1 ];
          idle = λ hq w. elim (at_set keys i _ hq) [ inl a ↦ cc | inr a ↦ s.idle a.1 w ];
        }

  pub counted_add : (p : Registration) → ((n : ℕ) (r : Request) → At requests n r → r.asked.number ≢ p.number) → Counted (keys ++ record { reg = p; pending = 0 } ∷ []) requests
  counted_add p fresh = record {
    pending = λ hq. elim (at_snoc keys _ hq) [ inl a ↦ s.pending a | inr a ↦ rw a.1 (sym (tally_none (waits p.number) requests (λ n r h. waits_other p.number r (fresh n r h)))) ];
    few = λ hq. elim (at_snoc keys _ hq) [ inl a ↦ s.few a | inr a ↦ rw a.1 (omega arith) ];
    idle = λ hq w. elim (at_snoc keys _ hq) [ inl a ↦ s.idle a w | inr a ↦ cc ];
  }

  pub counted_revoke : (i : ℕ) → Counted (erase keys i) requests
  counted_revoke i = record {
    pending = λ hq. s.pending (at_back keys i hq).1;
    few = λ hq. s.few (at_back keys i hq).1;
    idle = λ hq. s.idle (at_back keys i hq).1;
  }
