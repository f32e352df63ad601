-- Tables pass the check in at most one way, so that it can be a fact of a value that holds them. Assumes nothing.
use mathlib.Core.Path.{◌≡◌, ◌∙◌, ap, sym}
use mathlib.Core.HLevel.{Σ_prop_path}
use denote.Struct.Props.{props}
use Rattle.std.specs.Prelude.{ℕ, ◌<◌, List}
use Rattle.tables.specs.Fit.{Fit, Registered}
use Rattle.tables.specs.Parts.{cell}
use Rattle.tables.specs.Tables.{Tables}

-- row i of the first n has number g
abbrev Numbered : ℕ → List (List ℕ) → ℕ → ℕ → Type 0
Numbered n holders g i = (i < n) × (cell i 2 holders ≡ g)

-- no two of the first n rows have one number
abbrev Apart : ℕ → List (List ℕ) → Type 0
Apart n holders = (i j : ℕ) → i < n → j < n → cell i 2 holders ≡ cell j 2 holders → i ≡ j

-- some row of the first n has number g
abbrev Some : ℕ → List (List ℕ) → ℕ → Type 0
Some n holders g = (i : ℕ) × (i < n) × (cell i 2 holders ≡ g)

one_row : (n : ℕ) (holders : List (List ℕ)) → Apart n holders → (g : ℕ) → IsProp (Some n holders g)
one_row n holders apart g a b =
    ap (λ (w : (i : ℕ) × Numbered n holders g i). (w.0, w.1.0, w.1.1))
    (Σ_prop_path {B = Numbered n holders g} (λ i. Prim.hlevel props) {u = (a.0, (a.1, a.2))} {v = (b.0, (b.1, b.2))} (apart a.0 b.0 a.1 b.1 (a.2 ∙ sym b.2)))

abbrev Every : ℕ → ℕ → List (List ℕ) → List (List ℕ) → Type 0
Every n made holders revoked = (g : ℕ) → g < made → cell g 0 revoked ≡ 0 → Some n holders g

every_row : (n made : ℕ) (holders revoked : List (List ℕ)) → Apart n holders → IsProp (Every n made holders revoked)
every_row n made holders revoked apart = let one : (g : ℕ) → IsProp (Some n holders g) = one_row n holders apart in Prim.hlevel (props, one)

apart_once : (n : ℕ) (holders : List (List ℕ)) → IsProp (Apart n holders)
apart_once n holders = Prim.hlevel props

abbrev InForce : ℕ → List (List ℕ) → List (List ℕ) → Type 0
InForce n holders revoked = (i : ℕ) → i < n → cell (cell i 2 holders) 0 revoked ≡ 0

in_force_once : (n : ℕ) (holders revoked : List (List ℕ)) → IsProp (InForce n holders revoked)
in_force_once n holders revoked = Prim.hlevel props

registered_once : {n made : ℕ} {holders revoked : List (List ℕ)} → IsProp (Registered n made holders revoked)
registered_once {n} {made} {holders} {revoked} a b = λ i. record {
  in_force = in_force_once n holders revoked a.in_force b.in_force i;
  one_key = apart_once n holders a.one_key b.one_key i;
  every = every_row n made holders revoked a.one_key a.every b.every i;
}

pub fit_once : {t : Tables} → IsProp (Fit t)
fit_once {t} = Prim.hlevel (props, registered_once)
