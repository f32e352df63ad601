-- What each part of the reader promises, over the bytes left in the enclosing value and their place. Assumes nothing.
use Rattle.std.specs.Prelude.{◌≡◌, true, ℕ, ◌+◌, ◌<◌, ◌≤◌, length, Result, Ok, Err}
use Rattle.std.specs.Borrow.{Bor}
use Rattle.std.proofs.Math.Option.{some}
use Rattle.machine.specs.Types.{Bytes}
use Rattle.fields.specs.declared.fault.Fault.TheVariants.{CutField}
use Rattle.fields.specs.declared.fault.Stop.{Stop}
use Rattle.fields.specs.declared.field.Fields.{Fields}
use Rattle.fields.specs.declared.field.Form.{Form}
use Rattle.fields.specs.declared.field.Form.TheVariants.{Exactly, AnyLength, RoleByte}
use Rattle.fields.specs.Reader.{got, stopped, Reader, first}
use Rattle.fields.specs.Fields.{known, tag_of, length_of, value_of, second_and_third}

-- the tag, by rules two and three
abbrev pub TagRead : Fields → Result ℕ Stop → Type 0
TagRead r (Ok t) = (t ≡ tag_of r.rest.now) × (3 ≤ length r.rest.now) × (known (tag_of r.rest.now) ≡ true)
TagRead r (Err s) = (first (second_and_third r.rest.now) ≡ some s.fault) × (s.place ≡ r.place)

-- the value, by rule five
abbrev pub PartRead : Fields → Result (Bor Bytes) Stop → Type 0
PartRead r (Ok v) = (v.now ≡ value_of r.rest.now) × (3 + length_of r.rest.now ≤ length r.rest.now)
PartRead r (Err s) = (s ≡ record { fault = CutField; place = r.place }) × (length r.rest.now < 3 + length_of r.rest.now)

-- ---- THE PROMISE of every reader: what the definition's reader m reads of the bytes left is what is answered, seen by `view`, and then what is left; or it
-- is the fault and its place. The value's end stays where it was
abbrev pub SameEnd : Fields → Fields → Type 0
SameEnd old new = new.place + length new.rest.now ≡ old.place + length old.rest.now

abbrev pub Gives : {X A : Type 0} → (X → A) → Reader A → Fields → Fields → Result X Stop → Type 0
Gives view m old new (Ok x) = (m old.rest.now old.place ≡ got (view x) new.rest.now new.place) × SameEnd old new
Gives view m old new (Err s) = (m old.rest.now old.place ≡ stopped s.fault s.place) × SameEnd old new

abbrev pub itself : {X : Type 0} → X → X
itself x = x

abbrev pub bytes : Bor Bytes → Bytes
bytes v = v.now

-- ---- the length that a form asks for
abbrev pub HasLength : Form → ℕ → Type 0
HasLength (Exactly k) n = n ≡ k
HasLength AnyLength n = Unit {0}
HasLength RoleByte n = n ≡ 1

abbrev pub Sized : Form → Result (Bor Bytes) Stop → Type 0
Sized form (Ok v) = HasLength form (length v.now)
Sized form (Err s) = Unit {0}
