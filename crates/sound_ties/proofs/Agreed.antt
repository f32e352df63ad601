-- A request and the keys agree, from the note at its registration's number. For `lived`. Assumes nothing.
use mathlib.Core.Logic.{◌≢◌}
use mathlib.Core.Path.{◌≡◌, sym, subst, ◌∙◌}
use Prim.Native.Nat.{ℕ, ◌+◌, ◌<◌}
use borrow.Author.Count.{below_more}
use lib.ListN.{get_or}
use mathlib.Core.List.{List}
use Rattle.std.specs.Prelude.{Option, Some, None}
use Rattle.std.proofs.lemmas.Option.{none-some}
use Rattle.tables.specs.Fit.{Lived, OwnFits}
use Rattle.tables.specs.Parts.{cell}
use Rattle.sound_ties.specs.Places.{Places, Younger}
use Rattle.sound_ties.proofs.Forces.{key_noted}

-- the requests before n agree with the keys
module _ {k n : ℕ} {holders held asked agents : List (List ℕ)} {place : List (Option ℕ)} (f : Lived k n holders held asked agents) (p : Places k holders place) where
  lived_more : ((i : ℕ) → i < k → cell i 2 holders ≡ cell n 1 asked → OwnFits n i holders held asked agents)
      → (((i : ℕ) → i < k → cell i 2 holders ≢ cell n 1 asked) → (i : ℕ) → i < k → Younger holders held agents n i)
      → Lived k (n + 1) holders held asked agents
  lived_more own younger = record { own = below_more _ n f.own own; younger = below_more _ n f.younger younger }

  -- request n's registration is in force under key i
  pub lived_own : {i : ℕ} → get_or place (cell n 1 asked) None ≡ Some i → OwnFits n i holders held asked agents → Lived k (n + 1) holders held asked agents
  lived_own {i} s fits =
      let key = p.holder (cell n 1 asked) i s in
      lived_more
      (λ j h t. let same : i ≡ j = cc (s, key_noted p (cell n 1 asked) j h t) in subst (λ (j : ℕ). OwnFits n j holders held asked agents) same fits)
      (λ none. absurd (none i key.0 key.1))

  -- it is in force no more
  pub lived_younger : get_or place (cell n 1 asked) None ≡ None → ((i : ℕ) → i < k → Younger holders held agents n i) → Lived k (n + 1) holders held asked agents
  lived_younger s all = lived_more (λ j h t. absurd (none-some j (sym s ∙ key_noted p (cell n 1 asked) j h t))) (λ _. all)
