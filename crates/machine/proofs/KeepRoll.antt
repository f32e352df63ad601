-- The roll, kept: by a request, an add and a revocation. (A decision leaves it as it was.) Assumes nothing.
use mathlib.Core.Logic.{◌≢◌, inl, inr}
use mathlib.Core.Path.{◌∙◌, ◌≡◌, ap, sym}
use Prim.Native.Nat.{ℕ}
use lib.Ieee.Positive.{num}
use lib.ListN.{length, length-set, set}
use mathlib.Core.List.{List, [], ◌++◌, ◌∷◌}
use mathlib.Core.Option.{Option, none, some}
use native.Mathlib.Omega.{arith}
use Rattle.lists.proofs.Places.{at_back, at_back_two, at_end, at_kept, at_lt, at_old, at_one, at_set, at_set_other, at_snoc, length_snoc}
use Rattle.lists.specs.Places.{At, erase}
use Rattle.machine.specs.Sound.{Own, Roll}
use Rattle.machine.specs.Types.{Asked, Registration}
use Rattle.records.specs.declared.BlockTime.{BlockTime}

module _ {regs : List Registration} {revoked : List (Option BlockTime)} {asks : List Asked} (s : Roll regs revoked asks) where
  -- a request by the holder of p
  pub roll_ask : {i : ℕ} {p : Registration} → At regs i p → (a : Asked) → Own p a → a.number ≡ p.number → Roll regs revoked (asks ++ a ∷ [])
  roll_ask {i} {p} h a o e = record {
    distinct = s.distinct;
    in_force = s.in_force;
    one_key = s.one_key;
    every = s.every;
    since = λ hp. rw length_snoc (omega (arith, s.since hp));
    alive = λ hp hn k. elim (at_snoc asks a hn) [
      | inl old ↦ s.alive hp old k
      | inr new ↦ let same = at_one hp h (s.distinct hp h (cc o.same_key)) in ((λ q. cc), (λ q. omega (arith, s.since hp)))
    ];
    own = λ hp hn k. elim (at_snoc asks a hn) [
      | inl old ↦ s.own hp old k
      | inr new ↦ let same = at_one hp h (s.one_key hp h (cc)) in record { same_key = cc; agent = cc; same_account = cc }
    ];
    known = λ hn. elim (at_snoc asks a hn) [
      | inl old ↦ s.known old
      | inr new ↦ omega (arith, at_lt (s.in_force h), ap (λ (x : Asked). x.number) new.1)
    ];
  }

  -- a registration p, new in key and number, from now on
  pub roll_add : (p : Registration) → ((i : ℕ) (q : Registration) → At regs i q → q.key ≢ p.key) → p.number ≡ length revoked → p.active ≡ length asks
      → Roll (regs ++ p ∷ []) (revoked ++ none ∷ []) asks
  roll_add p fresh num act = record {
    distinct = λ hp hq k. elim (at_snoc regs p hp) [
      | inl a ↦ elim (at_snoc regs p hq) [ inl b ↦ s.distinct a b k | inr b ↦ absurd (fresh _ _ a (cc)) ]
      | inr a ↦ elim (at_snoc regs p hq) [ inl b ↦ absurd (fresh _ _ b (cc)) | inr b ↦ cc ]
    ];
    in_force = λ hp. elim (at_snoc regs p hp) [
      | inl a ↦ at_old _ (s.in_force a)
      | inr a ↦ rw (a.1, num) (at_end revoked none)
    ];
    one_key = λ hp hq k. elim (at_snoc regs p hp) [
      | inl a ↦ elim (at_snoc regs p hq) [ inl b ↦ s.one_key a b k | inr b ↦ omega (arith, at_lt (s.in_force a), ap (λ (x : Registration). x.number) b.1) ]
      | inr a ↦ elim (at_snoc regs p hq) [ inl b ↦ omega (arith, at_lt (s.in_force b), ap (λ (x : Registration). x.number) a.1) | inr b ↦ cc ]
    ];
    every = λ hg. elim (at_snoc revoked none hg) [
      | inl a ↦ let o = s.every a in (o.0, o.1, at_old _ o.2, o.3)
      | inr a ↦ (length regs, p, at_end regs p, cc)
    ];
    since = λ hp. elim (at_snoc regs p hp) [
      | inl a ↦ s.since a
      | inr a ↦ omega (arith, ap (λ (x : Registration). x.active) a.1)
    ];
    alive = λ hp hn k. elim (at_snoc regs p hp) [
      | inl a ↦ s.alive a hn k
      | inr a ↦ omega (arith, ap (λ (x : Registration). x.active) a.1, ap (λ (x : Registration). x.number) a.1, at_lt hn, s.known hn)
    ];
    own = λ hp hn k. elim (at_snoc regs p hp) [
      | inl a ↦ s.own a hn k
      | inr a ↦ absurd (omega (arith, ap (λ (x : Registration). x.number) a.1, s.known hn))
    ];
    known = λ hn. rw length_snoc (omega (arith, s.known hn));
  }

  -- the registration at place i ends
  pub roll_revoke : {i : ℕ} {p : Registration} → At regs i p → (now : BlockTime) → Roll (erase regs i) (set revoked p.number (some now)) asks
  roll_revoke {i} {p} h now = record {
    distinct = λ hp hq k. let b = at_back_two regs i hp hq in b.4 (s.distinct b.2 b.3 k);
    in_force = λ hp. let b = at_back regs i hp in at_set_other _ _ (λ e. b.2 (s.one_key b.1 h e)) (s.in_force b.1);
    one_key = λ hp hq k. let b = at_back_two regs i hp hq in b.4 (s.one_key b.2 b.3 k);
    every = λ hg. elim (at_set revoked p.number (some now) hg) [
      | inl a ↦ let z : ◌≡◌ {A = ℕ} 0 1 = cc in absurd (omega arith)
      | inr a ↦
          let o = s.every a.1 in
          let k = at_kept i (λ e. a.0 (sym o.3 ∙ ap (λ (x : Registration). x.number) (at_one o.2 h e))) o.2 in
          (k.0, o.1, k.1, o.3)
    ];
    since = λ hp. s.since (at_back regs i hp).1;
    alive = λ hp. s.alive (at_back regs i hp).1;
    own = λ hp. s.own (at_back regs i hp).1;
    known = λ hn. rw length-set (s.known hn);
  }
