-- Where a list starts with all but the last entry of one as long, the last entries tell whether the two are one. For the test of keys. Assumes nothing.
use Prim.Native.Nat.{ℕ, ◌+◌}
use mathlib.Core.Path.{◌≡◌, sym, ap, ◌∙◌}
use mathlib.Core.Bool.{true}
use mathlib.Core.List.{List, [], ◌∷◌, ◌++◌}
use native.Mathlib.Omega.{arith}
use borrow.Author.Tests.{eqb-true, eqb-false}
use lib.Dec.{eqb}
use lib.ListN.{length, get_or, take}
use lib.Seq.{length-take-le, take_all}
use Rattle.std.proofs.lemmas.List.{take_more}
use Rattle.std.specs.Cmp.Lexicographic.{same_text}
use Rattle.std.specs.List.{starts_with}
use Rattle.ids.specs.Decides.{Decides}

by_last : (a : List ℕ) (n : ℕ) → length a ≡ n + 1 → a ≡ take n a ++ (get_or a n 0 ∷ [])
by_last a n e = sym (take_all (n + 1) a (omega arith)) ∙ take_more a n 0 (omega arith)

front : (a b : List ℕ) (n : ℕ) → length b ≡ n + 1 → starts_with eqb a (take n b) ≡ true → take n a ≡ take n b
front a b n f s = ap (λ (k : ℕ). take k a) (sym (length-take-le n b (omega arith))) ∙ sym (same_text (take n b) (take (length (take n b)) a) (sym s))

pub last_tells : (a b : List ℕ) (n : ℕ) → length a ≡ n + 1 → length b ≡ n + 1 → starts_with eqb a (take n b) ≡ true → Decides (eqb (get_or a n 0) (get_or b n 0)) (a ≡ b)
last_tells a b n e f s =
    let p = by_last a n e in
    let q = by_last b n f in
    let r = front a b n f s in
    record {
      yes = λ t. let last = eqb-true _ _ t in cc;
      no = λ t same. eqb-false _ _ t (ap (λ (l : List ℕ). get_or l n 0) same);
    }
