-- What a command's being read says of the bytes at its place: the kind is the one that the tag names, its fields are read and nothing is left, and the next command
-- starts where the value ends. Assumes nothing.
use mathlib.Core.Path.{◌≡◌, refl, ◌∙◌}
use mathlib.Core.Bool.{true}
use mathlib.Core.Option.{Option, none, some}
use Prim.Native.Nat.{ℕ, ◌+◌, ◌≤◌}
use native.Mathlib.Omega.{arith}
use lib.ListN.{length, drop, length-drop}
use lib.Seq.{length-take-le}
use lib.Dec.{eqb}
use Rattle.machine.specs.Types.{Bytes}
use Rattle.fields.specs.Reader.{Got, got, stopped, onward, ◌>>◌, done}
use Rattle.fields.specs.Fields.{Kind, kind_of, tag_of, length_of, value_of, finish}
use Rattle.commands.specs.Commands.{Command, command, due, fields_of, contents, contents_of, read_by, read_outer, command_read}

pub record Opened (input : Bytes) (at : ℕ) (c : Command) (next : ℕ) : Type 0 where
  pub kind : Kind
  pub left : Bytes
  pub p : ℕ
  pub due : due (eqb at 0) (tag_of (drop at input)) ≡ true
  pub is : kind_of (tag_of (drop at input)) ≡ some kind
  pub reads : fields_of kind (value_of (drop at input)) (at + 3) ≡ got c left p
  pub whole : length left ≡ 0
  pub ends : at + 3 + length (value_of (drop at input)) ≡ next
  pub within : next ≤ length input

-- its value, by its kind
record Valued (o : Option Kind) (value : Bytes) (place : ℕ) (c : Command) : Type 0 where
  kind : Kind
  left : Bytes
  p : ℕ
  is : o ≡ some kind
  reads : fields_of kind value place ≡ got c left p
  whole : length left ≡ 0

valued : (o : Option Kind) (value : Bytes) (place : ℕ) (c : Command) (n next : ℕ) → read_by n (contents_of o value place) ≡ command c next → Valued o value place c × (n ≡ next)
unfolding contents finish
valued none value place c n next e = absurd (grind arith)
valued (some k) value place c n next e =
    go (fields_of k value place) refl e
  where
    go : (g : Got Command) → fields_of k value place ≡ g → read_by n (onward g (λ d. finish >> done d)) ≡ command c next → Valued (some k) value place c × (n ≡ next)
    go (got d left p) is e = (record { kind = k; left = left; p = p; is = refl; reads = is ∙ grind arith; whole = grind arith }, grind arith)
    go (stopped f q) is e = absurd (grind arith)

module _ (input : Bytes) (at : ℕ) (c : Command) (next : ℕ) (e : command_read input at ≡ command c next) where
  rules : (due (eqb at 0) (tag_of (drop at input)) ≡ true) × (3 + length_of (drop at input) ≤ length (drop at input))
      × (read_by (at + 3 + length_of (drop at input)) (contents_of (kind_of (tag_of (drop at input))) (value_of (drop at input)) (at + 3)) ≡ command c next)
  unfolding read_outer
  rules = grind arith

  pub opened : Opened input at c next
  opened =
      let r = rules in
      let v = valued (kind_of (tag_of (drop at input))) (value_of (drop at input)) (at + 3) c (at + 3 + length_of (drop at input)) next r.2 in
      let n = length-take-le (length_of (drop at input)) (drop 3 (drop at input)) (omega (arith, r.1, length-drop 3 (drop at input))) in
      record {
        kind = v.0.kind;
        left = v.0.left;
        p = v.0.p;
        due = r.0;
        is = v.0.is;
        reads = v.0.reads;
        whole = v.0.whole;
        ends = omega (arith, n, v.1);
        within = omega (arith, r.1, v.1, length-drop at input);
      }
