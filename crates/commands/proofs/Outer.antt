-- Commands at the outer level: the end of the input, and a command whose value is read. Assumes nothing.
use mathlib.Core.Path.{◌≡◌, refl, sym, ap, ◌∙◌}
use mathlib.Core.Bool.{Bool, true}
use Prim.Native.Nat.{ℕ, ◌+◌, ◌-◌, ◌≤◌}
use native.Mathlib.Omega.{arith}
use lib.ListN.{length, take, drop, length-drop}
use lib.Seq.{length-take-le}
use lib.Dec.{eqb}
use Rattle.std.proofs.lemmas.List.{take_rest}
use Rattle.machine.specs.Types.{Bytes}
use Rattle.fields.specs.Reader.{got}
use Rattle.fields.specs.Fields.{known, kind_of, tag_of, length_of, value_of}
use Rattle.commands.specs.Commands.{Command, command, end, due, contents_of, read_by, read_outer, command_read}

pub run_ends : (input : Bytes) (at : ℕ) → (at ≡ 0 → ⊥) → length input ≤ at → command_read input at ≡ end
unfolding read_outer
run_ends input at n h = grind (arith, length-drop)

-- a command that breaks no rule
pub in_order : (is-first : Bool) (rest : Bytes) (place : ℕ) → known (tag_of rest) ≡ true → due is-first (tag_of rest) ≡ true → 3 + length_of rest ≤ length rest
    → read_outer is-first rest place ≡ read_by (place + 3 + length_of rest) (contents_of (kind_of (tag_of rest)) (value_of rest) (place + 3))
unfolding read_outer
in_order is-first rest place k d h = grind arith

-- and whose value is read, with what is left of the input as the code lends it
module _ (input : Bytes) (at : ℕ) where
  abbrev lent : Bytes
  lent = take (length input - at) (drop at input)

  pub command_whole : (tag : ℕ) (value left : Bytes) (c : Command) (p : ℕ) → (tag ≡ tag_of lent) × (3 ≤ length lent) × (known (tag_of lent) ≡ true) → due (eqb at 0) tag ≡ true
      → (value ≡ value_of lent) × (3 + length_of lent ≤ length lent) → contents_of (kind_of tag) value (at + 3) ≡ got c left p
      → command_read input at ≡ command c (at + 3 + length value)
  command_whole tag value left c p t d v r =
      let n : length value ≡ length_of lent = ap length v.0 ∙ length-take-le (length_of lent) (drop 3 lent) (omega (arith, length-drop 3 lent, v.1)) in
      let o = in_order (eqb at 0) lent at t.2 (ap (due (eqb at 0)) (sym t.0) ∙ d) v.1 in
      ap (λ (l : Bytes). read_outer (eqb at 0) l at) (sym (take_rest input at)) ∙ o ∙ rw (← t.0, ← v.0, r, n) refl
