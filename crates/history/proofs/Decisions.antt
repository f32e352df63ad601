-- In a history no request is decided twice, nor by the account that asked for it. Assumes nothing.
use mathlib.Core.Logic.{◌≢◌, inl, inr}
use mathlib.Core.Path.{◌∙◌, ◌≡◌, ap, refl, sym}
use Prim.Native.Nat.{◌+◌, ◌≤◌, ℕ}
use borrow.Author.Tests.{eqb-false, eqb-true}
use lib.Dec.{eqb}
use lib.Ieee.{fits}
use lib.ListN.{get_elem?}
use mathlib.Core.Bool.{Bool, ◌||◌, false, not, true}
use mathlib.Core.List.{List, [], ◌++◌, ◌∷◌, append-nil, map}
use mathlib.Core.Option.{Option, none, some}
use native.Mathlib.Omega.{arith}
use Rattle.history.proofs.Induction.{from_opened}
use Rattle.history.proofs.Statuses.{later, pick_snoc, says, says_set, says_snoc}
use Rattle.history.specs.History.{Event, accepted, asker, decider, decides, event, pick}
use Rattle.lists.proofs.Maps.{at_map, map_snoc}
use Rattle.lists.proofs.Places.{at_nil, at_old, at_one, at_snoc}
use Rattle.lists.proofs.Tallies.{bit_le, tally_snoc}
use Rattle.lists.specs.Places.{At}
use Rattle.lists.specs.Tallies.{bit, tally}
use Rattle.machine.proofs.Bools.{or_false}
use Rattle.machine.proofs.Keep.{asked_of, asks_kept}
use Rattle.machine.proofs.Look.{undecided}
use Rattle.machine.specs.Examples.{key}
use Rattle.machine.specs.Machine.{asked_by, decided, opened, plan, request_in, run}
use Rattle.machine.specs.Plan.{Gives}
use Rattle.machine.specs.Sound.{undecided_yet}
use Rattle.machine.specs.Tests.{Place, asks}
use Rattle.machine.specs.Types.{Asked, Bytes, Change, Decision, Ledger, Request, Undecided, add, approve, reject, request, revoke}
use Rattle.records.specs.declared.BlockTime.{BlockTime}
use Rattle.records.specs.declared.Caller.{Caller}

abbrev settled : Request → Bool
settled r = not (undecided_yet r.decision)

abbrev account_of : Asked → ℕ
account_of a = a.account

abbrev what_of : Event ℕ → ℕ
what_of x = x.what

-- what the history has decided is decided in the ledger, once; who asked is on record; and who decided is another
record Ruled (h : List Change) (L : Ledger) : Type 0 where
  once : (n : ℕ) → tally (decides n) h ≡ bit (says settled (get_elem? L.requests n))
  askers : map what_of (pick asker h) ≡ map account_of (asks L)
  others : {i b : ℕ} {c : Change} → At h i c → decider c ≡ some b → (n : ℕ) → decides n c ≡ true → (a : Asked) × At (asks L) n a × (b ≢ a.account)

bit_or : (a b : Bool) → (b ≡ true → a ≡ false) → bit (a || b) ≡ bit a + bit b
bit_or true true n = let z = n refl in cc
bit_or true false n = refl
bit_or false b n = omega arith

whats_later : {A : Type 0} (c : Change) (l : List (Event A)) → map (λ x. x.what) (map (later c) l) ≡ map (λ x. x.what) l
whats_later c [] = refl
whats_later {A} c (x ∷ l) = ap (λ (m : List A). x.what ∷ m) (whats_later c l)

module _ {h : List Change} {L : Ledger} (t : Ruled h L) where
  asked_before : (c : Change) → asker c ≡ none → map what_of (pick asker (h ++ c ∷ [])) ≡ map account_of (asks L)
  asked_before c e =
      let all : pick asker (h ++ c ∷ []) ≡ map (later c) (pick asker h) = pick_snoc asker h c ∙ ap (λ (o : Option ℕ). map (later c) (pick asker h) ++ event o []) e ∙ append-nil _ in
      ap (map what_of) all ∙ whats_later c (pick asker h) ∙ t.askers

  -- a change that decides nothing, and leaves every request as it was
  rule_other : (c : Change) (L' : Ledger) → asker c ≡ none → decider c ≡ none → ((n : ℕ) → decides n c ≡ false) → L'.requests ≡ L.requests → Ruled (h ++ c ∷ []) L'
  rule_other c L' e d n same-requests = record {
    once = λ m. rw (tally_snoc, n m, same-requests) (omega (arith, t.once m));
    askers = asked_before c e ∙ ap (λ (l : List Request). map account_of (map asked_of l)) (sym same-requests);
    others = λ hx b m y. elim (at_snoc h c hx) [
      | inl old ↦ rw same-requests (t.others old b m y)
      | inr new ↦ let z : none ≡ some _ = sym d ∙ ap decider (sym new.1) ∙ b in let y : ◌≡◌ {A = ℕ} 0 1 = cc in absurd (omega arith)
    ];
  }

  -- a decision d of request n by the account b
  rule_decided : (c : Change) (n b : ℕ) (r : Request) (f : Place) (d : Decision) (log : List ℕ) → asker c ≡ none → decider c ≡ some b → ((m : ℕ) → decides m c ≡ eqb n m)
      → get_elem? L.requests n ≡ some r → r.decision ≡ Undecided → undecided_yet d ≡ false → b ≢ r.asked.account
      → Ruled (h ++ c ∷ []) (decided L n (record { req = r; agent = f }) d log)
  rule_decided c n b r f d log e who decides-n there fresh closed other =
      let hr : At L.requests n r = record { is = there } in
      let same-asks = asks_kept n d r L.requests hr in
      record {
        once = λ m.
            let here : eqb n m ≡ true → says settled (get_elem? L.requests m) ≡ false = λ q. rw (← (eqb-true n m q), there) (ap (λ (x : Decision). not (undecided_yet x)) fresh) in
            rw (tally_snoc, decides-n m, says_set settled _ m hr (ap (λ (x : Decision). not (undecided_yet x)) fresh), closed)
            (omega (arith, t.once m, bit_or (says settled (get_elem? L.requests m)) (eqb n m) here));
        askers = asked_before c e ∙ ap (map account_of) (sym same-asks);
        others = λ hx w m y. elim (at_snoc h c hx) [
          | inl old ↦ rw same-asks (t.others old w m y)
          | inr new ↦
              let m-is : n ≡ m = eqb-true n m (sym (decides-n m) ∙ ap (decides m) (sym new.1) ∙ y) in
              rw (← m-is, same-asks) (r.asked, at_map asked_of hr, rw (some_inj (sym who ∙ ap decider (sym new.1) ∙ w)) at other)
        ];
      }
    where
      some_inj : {x y : ℕ} → some x ≡ some y → x ≡ y
      some_inj q = cc

  rule_request : (c : Caller) (text : Bytes) (now : BlockTime) → Gives (λ d. Ruled (h ++ request c text now ∷ []) d.ledger) (request_in L c text now)
  rule_request c text now direct f there role account some_text short few room fits =
      let q : Change = request c text now in
      record {
        once = λ m. rw tally_snoc (omega (arith, t.once m, ap bit (says_snoc settled L.requests (record { asked = asked_by c f text now; decision = Undecided }) m refl)));
        askers =
            ap (map what_of) (pick_snoc asker h q) ∙ map_snoc what_of (map (later q) (pick asker h)) _
            ∙ ap (λ (l : List ℕ). l ++ c.signer.0 ∷ []) (whats_later q (pick asker h) ∙ t.askers)
            ∙ sym (ap (map account_of) (map_snoc asked_of L.requests _) ∙ map_snoc account_of (asks L) _);
        others = λ hx b m y. elim (at_snoc h q hx) [
          | inl old ↦ let o = t.others old b m y in (o.0, rw (map_snoc asked_of) (at_old _ o.1), o.2)
          | inr new ↦ let z : none ≡ some _ = ap decider (sym new.1) ∙ b in let y : ◌≡◌ {A = ℕ} 0 1 = cc in absurd (omega arith)
        ];
      }

  rule_plan : (c : Change) → Gives (λ d. Ruled (h ++ c ∷ []) d.ledger) (plan L c)
  rule_plan (add caller key account role) = λ owner fresh room space. rule_other (add caller key account role) _ refl refl (λ n. refl) refl
  rule_plan (revoke caller key now) = λ owner f there. rule_other (revoke caller key now) _ refl refl (λ n. refl) refl
  rule_plan (request c text now) = rule_request c text now
  rule_plan (approve c n text now) = λ direct b there role account r is_request na nr f is_live same_text not-self.
      rule_decided (approve c n text now) n _ r f _ _ refl refl (λ m. or_false (eqb n m)) is_request (undecided r.decision na nr) refl (eqb-false _ _ not-self)
  rule_plan (reject c n now) = λ direct b there role account r is_request na nr f is_live not-self.
      rule_decided (reject c n now) n _ r f _ _ refl refl (λ m. refl) is_request (undecided r.decision na nr) refl (eqb-false _ _ not-self)

ruled_run : (owner : ℕ) (cs : List Change) → Ruled (accepted (opened owner) cs) (run (opened owner) cs)
ruled_run owner = from_opened Ruled (λ h L s t. rule_plan t) owner (record { once = λ n. refl; askers = refl; others = λ hx. absurd (at_nil hx) })

-- No request has two decisions
pub one_decision : (owner : ℕ) (cs : List Change) (n : ℕ) → tally (decides n) (accepted (opened owner) cs) ≤ 1
one_decision owner cs n = omega (arith, (ruled_run owner cs).once n, bit_le (says settled (get_elem? (run (opened owner) cs).requests n)))

-- .. nor one by its agent's account: whoever decides request n is not the account of the n-th accepted request
pub not_by_its_agent : (owner : ℕ) (cs : List Change) {i b n : ℕ} {c : Change} {x : Event ℕ} → At (accepted (opened owner) cs) i c → decider c ≡ some b → decides n c ≡ true
    → At (pick asker (accepted (opened owner) cs)) n x → b ≢ x.what
not_by_its_agent owner cs {n = n} hc w y hx =
    let t = ruled_run owner cs in
    let o = t.others hc w n y in
    let e = at_one (at_map what_of hx) (rw (← t.askers) at (at_map account_of o.1)) refl in
    λ q. o.2 (q ∙ e)
