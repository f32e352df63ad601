-- Registration g is the g-th add; its revocation time is that of the revoke that removed it. Assumes nothing.
use mathlib.Core.Logic.{◌≢◌, inl, inr}
use mathlib.Core.Path.{◌∙◌, ◌≡◌, ap, refl, sym}
use Prim.Native.Nat.{ℕ}
use lib.ListN.{length, length-map, length-set, set}
use mathlib.Core.Bool.{Bool, cond, false, true}
use mathlib.Core.List.{List, [], ◌++◌, ◌∷◌, append-nil, map}
use mathlib.Core.Option.{Option, none, some}
use native.Mathlib.Omega.{arith}
use Rattle.history.proofs.Induction.{from_opened}
use Rattle.history.proofs.Statuses.{later, pick_snoc}
use Rattle.history.specs.History.{Event, accepted, addings, adds, end_told, ends, event, first_end, or_else, revoked_told}
use Rattle.lists.proofs.Maps.{at_map, at_unmap, map_erase, map_snoc}
use Rattle.lists.proofs.Places.{at_back, at_lt, at_nil, at_one, at_set, at_snoc, ext_at}
use Rattle.lists.specs.Places.{At}
use Rattle.machine.proofs.Keep.{reg_of, regs_kept}
use Rattle.machine.proofs.Look.{Seen, lives, same_refl, same_true, seen}
use Rattle.machine.specs.Examples.{key}
use Rattle.machine.specs.Machine.{Did, Given, add_to, opened, plan, revoke_in, run}
use Rattle.machine.specs.Plan.{Gives}
use Rattle.machine.specs.Sound.{Sound}
use Rattle.machine.specs.Tests.{Place, regs, same}
use Rattle.machine.specs.Types.{Bytes, Change, Ledger, Registration, add, approve, reject, request, revoke}
use Rattle.records.specs.declared.BlockTime.{BlockTime}
use Rattle.records.specs.declared.role.Role.{Role}

or_none : (o : Option BlockTime) → or_else o none ≡ o
or_none none = refl
or_none (some t) = refl

first_snoc : (k : Bytes) (h : List Change) (c : Change) → first_end k (h ++ c ∷ []) ≡ or_else (first_end k h) (ends k c)
first_snoc k [] c = or_none (ends k c)
first_snoc k (d ∷ h) c = ap (or_else (ends k d)) (first_snoc k h c) ∙ assoc (ends k d) (first_end k h) (ends k c)
  where
    assoc : (a b c : Option BlockTime) → or_else a (or_else b c) ≡ or_else (or_else a b) c
    assoc none b c = refl
    assoc (some t) b c = refl

-- a change that ends nothing
still : (c : Change) → ((k : Bytes) → ends k c ≡ none) → (l : List (Event Bytes)) → map end_told (map (later c) l) ≡ map end_told l
still c e [] = refl
still c e (x ∷ l) = λ i. (first_snoc x.what x.after c ∙ ap (or_else (end_told x)) (e x.what) ∙ or_none (end_told x)) i ∷ still c e l i

record Held (h : List Change) (L : Ledger) : Type 0 where
  told : revoked_told h ≡ L.revoked
  key : {i : ℕ} {p : Registration} {x : Event Bytes} → At (regs L) i p → At (addings h) p.number x → x.what ≡ p.key

module _ {h : List Change} {L : Ledger} (s : Sound L) (t : Held h L) where
  many : length (addings h) ≡ length L.revoked
  many = sym (length-map (addings h) end_told) ∙ ap length t.told

  held_later : (c : Change) {i : ℕ} {p : Registration} {x : Event Bytes} → At (regs L) i p → At (map (later c) (addings h)) p.number x → x.what ≡ p.key
  held_later c hp hx = let o = at_unmap (later c) (addings h) hx in ap (λ (y : Event Bytes). y.what) (sym o.2) ∙ t.key hp o.1

  -- neither an add nor a revocation
  hold_other : (c : Change) (L' : Ledger) → adds c ≡ none → ((k : Bytes) → ends k c ≡ none) → L'.revoked ≡ L.revoked → regs L' ≡ regs L → Held (h ++ c ∷ []) L'
  hold_other c L' e n same-revoked same_Regs =
      let all : addings (h ++ c ∷ []) ≡ map (later c) (addings h) = pick_snoc adds h c ∙ ap (λ (o : Option Bytes). map (later c) (addings h) ++ event o []) e ∙ append-nil _ in record {
        told = ap (map end_told) all ∙ still c n (addings h) ∙ t.told ∙ sym same-revoked;
        key = λ hp hx. held_later c (rw same_Regs at hp) (rw all at hx);
      }

  hold_add : (caller : ℕ) (key : Bytes) (account : ℕ) (role : Role) → Gives (λ d. Held (h ++ add caller key account role ∷ []) d.ledger) (add_to L caller key account role)
  hold_add caller key account role owner fresh room space =
      let c : Change = add caller key account role in
      let l = map (later c) (addings h) in
      let size : length l ≡ length L.revoked = length-map (addings h) (later c) ∙ many in
      record {
        told = ap (map end_told) (pick_snoc adds h c) ∙ map_snoc end_told l _ ∙ ap (λ (m : List (Option BlockTime)). m ++ none ∷ []) (still c (λ k. refl) (addings h) ∙ t.told);
        key = λ hp hx. elim (at_snoc (regs L) _ (rw (map_snoc reg_of) at hp)) [
          | inl o ↦ elim (at_snoc l _ (rw (pick_snoc adds h c) at hx)) [ inl y ↦ held_later c o y | inr y ↦ absurd (omega (arith, at_lt (s.roll.in_force o))) ]
          | inr o ↦ elim (at_snoc l _ (rw (pick_snoc adds h c) at hx)) [ inl y ↦ absurd (omega (arith, at_lt y, ap (λ (x : Registration). x.number) o.1)) | inr y ↦ cc ]
        ];
      }

  -- what a revocation does to the end of each registration
  end_by : (key : Bytes) (f : Place) → Seen key L.keys f → (caller : ℕ) (now : BlockTime) (g : ℕ) (x : Event Bytes) (o : Option BlockTime)
      → At (addings h) g x → At (set L.revoked f.is.reg.number (some now)) g o → or_else (end_told x) (ends x.what (revoke caller key now)) ≡ o
  end_by key f w caller now g x o hx ho =
      elim (at_set L.revoked f.is.reg.number (some now) ho) [
        | inl a ↦
            let mine : x.what ≡ key = t.key holder (rw a.0 at hx) ∙ w.key in
            let open-still : end_told x ≡ none = at_one slot (s.roll.in_force holder) a.0 in
            rw (open-still, ap (same key) mine ∙ same_refl key) (sym a.1)
        | inr a ↦ rw (at_one slot a.1 refl) (go o a.1 (same key x.what) refl a.0)
      ]
    where
      holder : At (regs L) f.at f.is.reg
      holder = at_map reg_of w.here

      slot : At L.revoked g (end_told x)
      slot = rw t.told at (at_map end_told hx)

      go : (o : Option BlockTime) → At L.revoked g o → (b : Bool) → same key x.what ≡ b → g ≢ f.is.reg.number → or_else o (cond b (some now) none) ≡ o
      go (some u) hg b e n = refl
      go none hg false e n = refl
      go none hg true e n =
          let y = s.roll.every hg in
          let what = t.key y.2 (rw (← y.3) at hx) in
          absurd (n (sym y.3 ∙ ap (λ (r : Registration). r.number) (at_one y.2 holder (s.roll.distinct y.2 holder (sym what ∙ sym (same_true key x.what e) ∙ sym w.key)))))

  hold_revoke : (caller : ℕ) (key : Bytes) (now : BlockTime) → Gives (λ d. Held (h ++ revoke caller key now ∷ []) d.ledger) (revoke_in L caller key now)
  hold_revoke caller key now owner f there =
      let c : Change = revoke caller key now in
      let w = seen key L.keys there in
      let all : addings (h ++ c ∷ []) ≡ map (later c) (addings h) = pick_snoc adds h c ∙ append-nil _ in
      let size : length (map end_told (map (later c) (addings h))) ≡ length (set L.revoked f.is.reg.number (some now)) =
      length-map (map (later c) (addings h)) end_told ∙ length-map (addings h) (later c) ∙ many ∙ sym (length-set L.revoked f.is.reg.number (some now)) in
      record {
        told = ap (map end_told) all ∙ ext_at _ _ size (λ g x y hx hy.
            let a = at_unmap end_told (map (later c) (addings h)) hx in
            let b = at_unmap (later c) (addings h) a.1 in
            sym a.2 ∙ ap end_told (sym b.2) ∙ first_snoc b.0.what b.0.after c ∙ end_by key f w caller now g b.0 y b.1 hy);
        key = λ hp hx. held_later c (at_back (regs L) f.at (rw (map_erase reg_of) at hp)).1 (rw all at hx);
      }

  hold_plan : (c : Change) → Gives (λ (d : Did Given). Held (h ++ c ∷ []) d.ledger) (plan L c)
  hold_plan (add caller key account role) = hold_add caller key account role
  hold_plan (revoke caller key now) = hold_revoke caller key now
  hold_plan (request c text now) = λ direct f there role account some_text short few room fits.
      hold_other (request c text now) _ refl (λ k. refl) refl (regs_kept f _ L.keys (seen c.signer_key L.keys there).here)
  hold_plan (approve c n text now) = λ direct b there role account r is_request na nr f is_live same_text not-self.
      hold_other (approve c n text now) _ refl (λ k. refl) refl (regs_kept f _ L.keys (seen r.asked.key L.keys (lives n r.asked _ is_live).0).here)
  hold_plan (reject c n now) = λ direct b there role account r is_request na nr f is_live not-self.
      hold_other (reject c n now) _ refl (λ k. refl) refl (regs_kept f _ L.keys (seen r.asked.key L.keys (lives n r.asked _ is_live).0).here)

pub history_revoked : (owner : ℕ) (cs : List Change) → revoked_told (accepted (opened owner) cs) ≡ (run (opened owner) cs).revoked
history_revoked owner cs = (from_opened Held (λ h L s t. hold_plan s t) owner (record { told = refl; key = λ hp. absurd (at_nil hp) }) cs).told
