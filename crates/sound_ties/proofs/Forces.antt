-- Noting, key by key, where each registration is in force; and what the notes then say. For `registrations` and `lives`. Assumes nothing.
use mathlib.Core.Logic.{⊎_elim}
use mathlib.Core.Path.{◌≡◌, refl, sym, ap, ◌∙◌}
use Prim.Native.Nat.{ℕ, zero, suc, ◌+◌, ◌<◌}
use native.Mathlib.Omega.{arith}
use borrow.Author.Count.{below_more, below_none}
use lib.ListN.{get_or, length, length-set, length-replicate, replicate, set}
use lib.Seq.{get_or-set_other, get_or-set_same}
use mathlib.Core.Bool.{Bool, true, false}
use mathlib.Core.List.{List}
use Rattle.std.specs.Prelude.{Option, Some, None, IsSome, is_some}
use Rattle.std.specs.Bool.{then_some}
use Rattle.std.proofs.lemmas.Bool.{cases_eq}
use Rattle.std.proofs.lemmas.Option.{none-some}
use Rattle.ids.specs.Decides.{Decides}
use Rattle.tables.specs.Fit.{Registered}
use Rattle.tables.specs.Parts.{cell}
use Rattle.sound_ties.specs.Places.{EachPlaced, InForce, Noted, Places}

none_of : {A : Type 0} (o : Option A) → is_some o ≡ false → o ≡ None
none_of None e = refl
none_of (Some x) e = cc

some_of : {A : Type 0} (o : Option A) → IsSome o → (x : A) × (o ≡ Some x)
some_of None e = cc
some_of (Some x) e = (x, refl)

get_or-nothing : {A : Type 0} (n i : ℕ) → get_or (replicate {A = Option A} n None) i None ≡ None
get_or-nothing zero i = refl
get_or-nothing (suc n) zero = refl
get_or-nothing (suc n) (suc i) = get_or-nothing n i

module _ {n : ℕ} {holders : List (List ℕ)} {place : List (Option ℕ)} (p : Places n holders place) where
  -- a note names a key, and a key has a note
  noted_key : (g : ℕ) → IsSome (get_or place g None) → (i : ℕ) × (i < n) × (cell i 2 holders ≡ g)
  noted_key g x = let i = some_of (get_or place g None) x in let h = p.holder g i.0 i.1 in (i.0, h.0, h.1)

  pub key_noted : (g i : ℕ) → i < n → cell i 2 holders ≡ g → get_or place g None ≡ Some i
  key_noted g i h e = ap (λ (j : ℕ). get_or place j None) (sym e) ∙ p.placed i h

  -- two keys noted at one number are one
  one_key_each : (i j : ℕ) → i < n → j < n → cell i 2 holders ≡ cell j 2 holders → i ≡ j
  one_key_each i j h l e = let one : Some i ≡ Some j = sym (key_noted (cell j 2 holders) i h e) ∙ p.placed j l in cc

module _ {holders revoked : List (List ℕ)} where
  pub noting_none : InForce 0 holders revoked × Places 0 holders (replicate 256 None)
  noting_none = (
    record { in_force = below_none _; one_key = λ i j h. absurd (omega arith) },
    record { room = length-replicate {A = Option ℕ} 256 None; placed = below_none _; holder = λ g i e. absurd (none-some i (sym (get_or-nothing 256 g) ∙ e)) },
  )

  -- the keys before i are in force and noted
  module _ {i : ℕ} {place : List (Option ℕ)} (f : InForce i holders revoked) (p : Places i holders place) where
    -- one key more, in force and not yet noted
    module _ (l : cell i 2 holders < 256) (x : is_some (get_or place (cell i 2 holders) None) ≡ false) where
      kept : (k : ℕ) → k < i → get_or (set place (cell i 2 holders) (Some i)) (cell k 2 holders) None ≡ Some k
      kept k b =
          get_or-set_other place (cell i 2 holders) (cell k 2 holders) (Some i) None
          (λ s. none-some k (sym (none_of (get_or place (cell i 2 holders) None) x) ∙ key_noted p (cell i 2 holders) k b s))
          ∙ p.placed k b

      stored : get_or (set place (cell i 2 holders) (Some i)) (cell i 2 holders) None ≡ Some i
      stored = get_or-set_same place (cell i 2 holders) (Some i) None (omega (arith, p.room))

      named : (g k : ℕ) → get_or (set place (cell i 2 holders) (Some i)) g None ≡ Some k → (k < i + 1) × (cell k 2 holders ≡ g)
      named g k s =
          ⊎_elim
          (λ t.
          let here : Some i ≡ Some k = sym stored ∙ ap (λ (j : ℕ). get_or (set place (cell i 2 holders) (Some i)) j None) (sym t) ∙ s in
          let same : i ≡ k = cc here in
          (omega arith, ap (λ (j : ℕ). cell j 2 holders) (sym same) ∙ sym t))
          (λ n. let old = p.holder g k (sym (get_or-set_other place (cell i 2 holders) g (Some i) None n) ∙ s) in (omega (arith, old.0), old.1))
          (cases_eq g (cell i 2 holders))

      placed_more : Places (i + 1) holders (set place (cell i 2 holders) (Some i))
      placed_more = record {
        room = length-set place (cell i 2 holders) (Some i) ∙ p.room;
        placed = below_more (λ (k : ℕ). get_or (set place (cell i 2 holders) (Some i)) (cell k 2 holders) None ≡ Some k) i kept stored;
        holder = named;
      }

      pub noting_more : cell (cell i 2 holders) 0 revoked ≡ 0 → InForce (i + 1) holders revoked × Places (i + 1) holders (set place (cell i 2 holders) (Some i))
      noting_more free = (
        record { in_force = below_more (λ (k : ℕ). cell (cell k 2 holders) 0 revoked ≡ 0) i f.in_force free; one_key = one_key_each placed_more },
        placed_more,
      )

    -- one that was noted before
    pub twice : {n : ℕ} → i < n → IsSome (get_or place (cell i 2 holders) None) → InForce n holders revoked → ⊥
    twice h x f = let k = noted_key p (cell i 2 holders) x in let one = f.one_key k.0 i (omega (arith, k.1)) h k.2 in omega (arith, k.1, one)

  -- registrations that are not revoked all have a place, or one has not
  module _ {made : ℕ} {place : List (Option ℕ)} (f : InForce (length holders) holders revoked) (p : Places (length holders) holders place) where
    pub noted_if : {r : Bool} → Decides r (EachPlaced made place revoked) → Noted (then_some r place) (Registered (length holders) made holders revoked) holders
    noted_if {r = true} d = (record { in_force = f.in_force; one_key = f.one_key; every = λ g l z. noted_key p g (d.yes refl g l z) }, p)
    noted_if {r = false} d = λ r. d.no refl (λ g l z. let k = r.every g l z in ap is_some (key_noted p g k.0 k.1 k.2))
