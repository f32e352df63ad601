-- What is told of the rows in use of a table is told of the table, and the other way. For `rows_fit` and `ties_fit`, where they hand on the rows in use alone. Assumes nothing.
use mathlib.Core.Path.{◌≡◌, refl, sym, ap, ◌∙◌}
use Prim.Native.Nat.{ℕ, zero, suc, ◌<◌, ◌≤◌}
use native.Mathlib.Omega.{arith}
use lib.Dec.{eqb}
use lib.ListN.{get_or, length, take}
use mathlib.Core.Bool.{◌&&◌, Bool}
use mathlib.Core.List.{List, []}
use Rattle.std.proofs.lemmas.Grind.{common_steps}
use Rattle.lists.specs.Tallies.{bit, count}
use Rattle.tables.specs.Fit.{Lived, LogFits, OwnFits, Registered, Waits}
use Rattle.tables.specs.Parts.{cell}

-- n and k are one number, and the first so many rows of the one table are those of the other
pub record Alike (n k : ℕ) (one other : List (List ℕ)) : Type 0 where
  pub same : n ≡ k
  pub each : (i : ℕ) → i < n → get_or one i [] ≡ get_or other i []

pub used : {k : ℕ} {rows : List (List ℕ)} → k ≤ length rows → Alike (length (take k rows)) k (take k rows) rows
used l = record { same = grind (arith, common_steps); each = λ i h. grind (arith, common_steps) }

pub turned : {n k : ℕ} {one other : List (List ℕ)} → Alike n k one other → Alike k n other one
turned a = record { same = sym a.same; each = λ i h. sym (a.each i (omega (arith, a.same))) }

cells : {n k : ℕ} {one other : List (List ℕ)} → Alike n k one other → (i c : ℕ) → i < k → cell i c one ≡ cell i c other
cells a i c h = ap (λ (row : List ℕ). get_or row c 0) (a.each i (omega (arith, a.same)))

counts : (m : ℕ) (p q : ℕ → Bool) → ((n : ℕ) → n < m → p n ≡ q n) → count m p ≡ count m q
counts zero p q s = refl
counts (suc m) p q s = omega (arith, counts m p q (λ n h. s n (omega arith)), ap bit (s m (omega arith)))

module _ {k k' : ℕ} {holders holders' : List (List ℕ)} (a : Alike k k' holders holders') where
  pub registered_alike : {made : ℕ} {revoked : List (List ℕ)} → Registered k made holders revoked → Registered k' made holders' revoked
  registered_alike {revoked = revoked} r = record {
    in_force = λ i h. ap (λ (g : ℕ). cell g 0 revoked) (sym (cells a i 2 h)) ∙ r.in_force i (omega (arith, a.same));
    one_key = λ i j h l e. r.one_key i j (omega (arith, a.same)) (omega (arith, a.same)) (cells a i 2 h ∙ e ∙ sym (cells a j 2 l));
    every = λ g l z. let i = r.every g l z in let h : i.0 < k' = omega (arith, a.same, i.1) in (i.0, h, sym (cells a i.0 2 h) ∙ i.2);
  }

  module _ {m m' : ℕ} {asked asked' : List (List ℕ)} (b : Alike m m' asked asked') where
    own_alike : {held agents : List (List ℕ)} {n i : ℕ} → n < m' → i < k' → OwnFits n i holders held asked agents → OwnFits n i holders' held asked' agents
    own_alike {n = n} {i = i} l h f = record {
      same_key = f.same_key;
      agent = sym (cells a i 1 h) ∙ f.agent;
      same_account = sym (cells a i 0 h) ∙ f.same_account ∙ cells b n 0 l;
      since = omega (arith, cells a i 3 h, f.since);
    }

    pub lived_alike : {held agents : List (List ℕ)} → Lived k m holders held asked agents → Lived k' m' holders' held asked' agents
    lived_alike f = record {
      own = λ n l i h e. own_alike l h (f.own n (omega (arith, b.same)) i (omega (arith, a.same)) (cells a i 2 h ∙ e ∙ sym (cells b n 1 l)));
      younger = λ n l none i h e.
          let none' = λ (j : ℕ) (t : j < k) (s : cell j 2 holders ≡ cell n 1 asked). let t' : j < k' = omega (arith, a.same) in none j t' (sym (cells a j 2 t') ∙ s ∙ cells b n 1 l) in
          omega (arith, cells a i 3 h, f.younger n (omega (arith, b.same)) none' i (omega (arith, a.same)) e);
    }

    pub waits_alike : (decided : List (List ℕ)) → Waits k m holders asked decided → Waits k' m' holders' asked' decided
    waits_alike decided w = λ i h.
        let same = counts m' (λ n. eqb (cell n 0 decided) 0 && eqb (cell n 1 asked) (cell i 2 holders)) (λ n. eqb (cell n 0 decided) 0 && eqb (cell n 1 asked') (cell i 2 holders'))
        (λ n l. rw (cells a i 2 h, cells b n 1 l)) in
        sym (cells a i 4 h) ∙ w i (omega (arith, a.same)) ∙ ap (λ (j : ℕ). count j (λ n. eqb (cell n 0 decided) 0 && eqb (cell n 1 asked) (cell i 2 holders))) b.same ∙ same

module _ {k k' m m' : ℕ} {log log' decided decided' : List (List ℕ)} (a : Alike k k' log log') (b : Alike m m' decided decided') where
  pub log_alike : LogFits k m log decided → LogFits k' m' log' decided'
  log_alike f = record {
    slots = λ j h.
        let s = rw (a.each j (omega (arith, a.same))) at (f.slots j (omega (arith, a.same))) in
        record { request = omega (arith, b.same, s.request); approved = sym (cells b _ 0 (omega (arith, b.same, s.request))) ∙ s.approved; index = sym (cells b _ 1 (omega (arith, b.same, s.request))) ∙ s.index; plain = s.plain };
    indices = λ n h e.
        let i = f.indices n (omega (arith, b.same)) (cells b n 0 h ∙ e) in
        let here : cell n 1 decided ≡ cell n 1 decided' = cells b n 1 h in
        let low : cell n 1 decided < k' = omega (arith, a.same, i.0) in
        (omega (arith, here, low), ap (λ (j : ℕ). cell j 0 log') (sym here) ∙ sym (cells a (cell n 1 decided) 0 low) ∙ i.1);
    long = sym a.same ∙ f.long ∙ ap (λ (j : ℕ). count j (λ n. eqb (cell n 0 decided) 1)) b.same ∙ counts m' _ _ (λ n h. rw (cells b n 0 h));
  }
