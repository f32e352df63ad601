-- Numbers with a space before each: one more, and a list's after another's. Assumes nothing.
use mathlib.Core.Path.{◌≡◌, ◌∙◌, ap, refl, sym}
use mathlib.Core.List.{List, [], ◌∷◌, ◌++◌, append_assoc, append-nil}
use Prim.Native.Nat.{ℕ, zero, suc, ◌+◌, ◌<◌}
use native.Mathlib.Numerals.{add-one}
use native.Mathlib.Omega.{arith}
use lib.ListN.{length, take, get_or}
use Rattle.machine.specs.Types.{Bytes}
use Rattle.records.specs.Letters.{ascii}
use Rattle.lines.specs.Decimal.{decimal}
use Rattle.lines.specs.Lines.{spaced}

after : (ns : List ℕ) (i : ℕ) → i < length ns → spaced (take (suc i) ns) ≡ spaced (take i ns) ++ (ascii " " ++ decimal (get_or ns i 0))
after [] i h = absurd (omega arith)
after (n ∷ ns) zero h = append-nil (ascii " " ++ decimal n)
after (n ∷ ns) (suc i) h = rw (after ns i (omega arith)) (sym (append_assoc (ascii " " ++ decimal n) (spaced (take i ns)) (ascii " " ++ decimal (get_or ns i 0))))

pub spaced_more : (ns : List ℕ) (i : ℕ) → i < length ns → spaced (take (i + 1) ns) ≡ spaced (take i ns) ++ (ascii " " ++ decimal (get_or ns i 0))
spaced_more ns i h = rw add-one (after ns i h)

pub spaced_append : (xs ys : List ℕ) → spaced (xs ++ ys) ≡ spaced xs ++ spaced ys
spaced_append [] ys = refl
spaced_append (x ∷ xs) ys = ap (λ (z : Bytes). ascii " " ++ decimal x ++ z) (spaced_append xs ys) ∙ sym (append_assoc (ascii " " ++ decimal x) (spaced xs) (spaced ys))
