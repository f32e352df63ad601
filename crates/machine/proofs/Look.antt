-- What a lookup and a passed test tell. Assumes nothing.
use mathlib.Core.Logic.{◌≢◌}
use mathlib.Core.Path.{◌∙◌, ◌≡◌, ap, refl, subst, sym}
use Prim.Native.Nat.{◌≤◌, suc, zero, ℕ}
use borrow.Author.Tests.{eq-eqb, eqb-true, le-leb, leb-true}
use lib.Dec.{eqb, leb}
use mathlib.Core.Bool.{Bool, ◌&&◌, cond, false, true}
use mathlib.Core.List.{List, [], ◌∷◌}
use mathlib.Core.Option.{Option, none, some}
use native.Mathlib.Omega.{arith}
use Rattle.lists.proofs.Places.{at_head, at_nil, down, up}
use Rattle.lists.specs.Places.{At}
use Rattle.machine.specs.Tests.{Place, approved, live_under, next, present, rejected, same, same_role, seek}
use Rattle.machine.specs.Types.{Approved, Asked, Bytes, Decision, Holder, Registration, Rejected, Undecided}
use Rattle.records.proofs.Roles.{same_by_number}
use Rattle.records.specs.Roles.{role_number}
use Rattle.records.specs.declared.role.Role.{Role}
use Rattle.records.specs.declared.role.Role.TheVariants.{Agent}

-- a Boolean, and the answer that it gives: to go by cases on a test and keep the equation
pub both : (a b : Bool) → (a && b) ≡ true → (a ≡ true) × (b ≡ true)
both true b h = (refl, h)
both false b h = let z : ◌≡◌ {A = ℕ} 0 1 = cc in absurd (omega arith)

pub same_true : (a b : Bytes) → same a b ≡ true → a ≡ b
same_true [] [] h = refl
same_true [] (y ∷ ys) h = let z : ◌≡◌ {A = ℕ} 0 1 = cc in absurd (omega arith)
same_true (x ∷ xs) [] h = let z : ◌≡◌ {A = ℕ} 0 1 = cc in absurd (omega arith)
same_true (x ∷ xs) (y ∷ ys) h =
    let b = both (eqb x y) (same xs ys) h in
    cc (eqb-true x y b.0, same_true xs ys b.1)

pub same_false : (a b : Bytes) → a ≢ b → same a b ≡ false
same_false a b n = go (same a b) refl
  where
    go : (c : Bool) → same a b ≡ c → c ≡ false
    go true e = absurd (n (same_true a b e))
    go false e = refl

pub same_refl : (a : Bytes) → same a a ≡ true
same_refl [] = refl
same_refl (x ∷ xs) = ap (λ (b : Bool). b && same xs xs) (eq-eqb x x refl) ∙ same_refl xs

pub role_true : (a b : Role) → same_role a b ≡ true → a ≡ b
role_true a b h = same_by_number a b (eqb-true (role_number a) (role_number b) h)

pub undecided : (d : Decision) → approved d ≡ false → rejected d ≡ false → d ≡ Undecided
undecided Undecided h k = refl
undecided (Approved j v) h k = cc
undecided (Rejected v) h k = cc

pub absent : {A : Type 0} (o : Option A) → present o ≡ false → o ≡ none
absent none h = refl
absent (some a) h = cc

pub record Seen (k : Bytes) (ks : List Holder) (f : Place) : Type 0 where
  pub here : At ks f.at f.is
  pub key : f.is.reg.key ≡ k

pub seen : (k : Bytes) (ks : List Holder) {f : Place} → seek k ks ≡ some f → Seen k ks f
seen k [] h = let z : ◌≡◌ {A = ℕ} 0 1 = cc in absurd (omega arith)
seen k (p ∷ ps) {f} h = go (same k p.reg.key) refl (seek k ps) (λ g e. seen k ps e) h
  where
    go : (b : Bool) → same k p.reg.key ≡ b → (o : Option Place) → ((g : Place) → o ≡ some g → Seen k ps g)
        → cond b (some (record { at = 0; is = p })) (next o) ≡ some f → Seen k (p ∷ ps) f
    go true e o ih q = let w : f ≡ record { at = 0; is = p } = cc in rw w (record { here = record { is = refl }; key = sym (same_true k p.reg.key e) })
    go false e none ih q = let z : ◌≡◌ {A = ℕ} 0 1 = cc in absurd (omega arith)
    go false e (some g) ih q =
        let w : f ≡ record { at = suc g.at; is = g.is } = cc in
        let s = ih g refl in
        rw w (record { here = up s.here; key = s.key })

pub unseen : (k : Bytes) (ks : List Holder) → seek k ks ≡ none → (i : ℕ) (p : Holder) → At ks i p → p.reg.key ≢ k
unseen k [] h i p a = absurd (at_nil a)
unseen k (q ∷ qs) h i p a = go (same k q.reg.key) refl (seek k qs) (unseen k qs) h i a
  where
    go : (b : Bool) → same k q.reg.key ≡ b → (o : Option Place) → (o ≡ none → (i : ℕ) (p : Holder) → At qs i p → p.reg.key ≢ k)
        → cond b (some (record { at = 0; is = q })) (next o) ≡ none → (i : ℕ) → At (q ∷ qs) i p → p.reg.key ≢ k
    go true e o ih h i a = let z : ◌≡◌ {A = ℕ} 0 1 = cc in absurd (omega arith)
    go false e (some g) ih h i a = let z : ◌≡◌ {A = ℕ} 0 1 = cc in absurd (omega arith)
    go false e none ih h zero a = λ w. let t : true ≡ false = sym (same_refl k) ∙ ap (same k) (sym w ∙ ap (λ (x : Holder). x.reg.key) (sym (at_head a))) ∙ e in let z : ◌≡◌ {A = ℕ} 0 1 = cc in omega arith
    go false e none ih h (suc i) a = ih refl i p (down a)

-- live under its key: the key is registered, as an Agent's, for that account, since before the request
pub record Lives (n : ℕ) (a : Asked) (p : Registration) : Type 0 where
  pub agent : p.role ≡ Agent
  pub account : p.account ≡ a.account
  pub since : p.active ≤ n

pub lives : (n : ℕ) (a : Asked) (o : Option Place) {f : Place} → live_under n a o ≡ some f → (o ≡ some f) × Lives n a f.is.reg
lives n a none h = let z : ◌≡◌ {A = ℕ} 0 1 = cc in absurd (omega arith)
lives n a (some g) {f} h = go (same_role r.role Agent && eqb r.account a.account && leb r.active n) refl h
  where
    r : Registration
    r = g.is.reg

    go : (b : Bool) → (same_role r.role Agent && eqb r.account a.account && leb r.active n) ≡ b → cond b (some g) none ≡ some f → (some g ≡ some f) × Lives n a f.is.reg
    go true e q =
        let w : g ≡ f = cc in
        let b = both (same_role r.role Agent && eqb r.account a.account) (leb r.active n) e in
        let c = both (same_role r.role Agent) (eqb r.account a.account) b.0 in (
          q,
          subst (λ (x : Place). Lives n a x.is.reg) w
              (record { agent = role_true r.role Agent c.0; account = eqb-true r.account a.account c.1; since = leb-true r.active n b.1 }),
        )
    go false e q = let z : ◌≡◌ {A = ℕ} 0 1 = cc in absurd (omega arith)

pub lives_back : (n : ℕ) (a : Asked) (f : Place) → Lives n a f.is.reg → live_under n a (some f) ≡ some f
lives_back n a f l =
    let p = f.is.reg in
    rw (ap (λ (r : Role). same_role r Agent) l.agent, eq-eqb p.account a.account l.account, le-leb p.active n l.since)

pub lives_not : (n : ℕ) (a : Asked) (f : Place) → (Lives n a f.is.reg → ⊥) → live_under n a (some f) ≡ none
lives_not n a f h = go (live_under n a (some f)) refl
  where
    go : (o : Option Place) → live_under n a (some f) ≡ o → o ≡ none
    go none e = refl
    go (some g) e =
        let w = lives n a (some f) e in
        let same : f ≡ g = let q = w.0 in cc in
        absurd (h (rw same w.1))
