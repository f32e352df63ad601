-- Texts written one after the other to a lent row. Assumes nothing.
use mathlib.Core.Path.{◌≡◌, refl, sym, ap, ◌∙◌}
use mathlib.Core.List.{[], ◌∷◌, ◌++◌, append_assoc, append-nil}
use Prim.Native.Nat.{ℕ, zero, suc, ◌+◌, ◌-◌, ◌≤◌, min}
use native.Mathlib.Omega.{arith}
use lib.ListN.{length, take, drop, length-append, length-drop}
use lib.Seq.{paste, take_all, take-length, drop-drop, take-append_seam, drop-append-add}
use Rattle.std.proofs.lemmas.List.{length-take, take_min, drop_min}
use Rattle.machine.specs.Types.{Bytes}
use Rattle.lines.specs.Output.{Wrote, Appends}
use Rattle.lines.specs.declared.output.Out.{Out}

-- ---- one after the other
pub nothing : (o : Out) → Appends [] o o
nothing o = record { row = refl; then = λ was text w. rw append-nil w }

pub then_more : {a b : Bytes} {o p q : Out} → Appends a o p → Appends b p q → Appends (a ++ b) o q
then_more {a} {b} f g = record {
  row = g.row ∙ f.row;
  then = λ was text w. rw (← append_assoc) (g.then was (text ++ a) (f.then was text w));
}

-- ---- one text more, as far as the row goes
take_two : (n : ℕ) (a b : Bytes) → take n (a ++ b) ≡ take n a ++ take (n - length a) b
take_two zero a b = ap (λ (k : ℕ). take k b) {x = 0} {y = 0 - length a} (omega arith)
take_two (suc n) [] b = ap (λ (k : ℕ). take k b) {x = suc n} {y = suc n - 0} (omega arith)
take_two (suc n) (x ∷ a) b =
    ap (λ (l : Bytes). x ∷ l) (take_two n a b ∙ ap (λ (k : ℕ). take n a ++ take k b) {x = n - length a} {y = suc n - suc (length a)} (omega arith))

module _ (was text more : Bytes) {out : Bytes} {n : ℕ} (w : Wrote was text out n) where
  row_long : length out ≡ length was
  row_long = ap length w.bytes ∙ simp (length-append, length-take, length-drop) (omega arith)

  front : take n out ≡ take (length was) text
  front = rw (w.count, w.bytes) (take-append_seam (take (length was) text) (drop (length text) was))

  rest : (m : ℕ) → drop (n + m) out ≡ drop (length text + m) was
  rest m = rw (w.count, w.bytes) (drop-append-add (take (length was) text) (drop (length text) was) m ∙ drop-drop m (length text) was)

  pub wrote_more : (m : ℕ) → m ≡ min (length more) (length out - n) → Wrote was (text ++ more) (paste out n (take m more) (length (take m more))) (n + m)
  wrote_more m e =
      let room = length was - length text in
      let at : n ≡ min (length was) (length text) = w.count ∙ length-take (length was) text in
      let less : m ≡ min room (length more) = omega (arith, row_long) in
      let all : length (take m more) ≡ m = length-take m more ∙ omega arith in
      let new : take m more ≡ take room more = ap (λ (k : ℕ). take k more) less ∙ take_min room more in
      let past : drop (length text + length (take m more)) was ≡ drop (length (text ++ more)) was =
      sym (drop_min (length text + length (take m more)) was)
      ∙ ap (λ (k : ℕ). drop k was) {x = min (length text + length (take m more)) (length was)} {y = min (length (text ++ more)) (length was)} (omega (arith, length-append text more))
      ∙ drop_min (length (text ++ more)) was in
      record {
        bytes = cc (front, take-length (take m more), rest (length (take m more)), take_two (length was) text more);
        count = omega (arith, length-append text more) ∙ sym (length-take (length was) (text ++ more));
      }

-- ---- a text that the row has room for stands in it whole
pub in_full : (was text : Bytes) {out : Bytes} {n : ℕ} → Wrote was text out n → length text ≤ length was → (n ≡ length text) × (take n out ≡ text)
in_full was text w h = let e = take_all (length was) text h in (w.count ∙ ap length e, rw (w.count, w.bytes, e) (take-append_seam text _))
