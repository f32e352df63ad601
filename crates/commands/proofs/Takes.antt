-- What each reader takes of the bytes left, where nothing stops it. Assumes nothing.
use mathlib.Core.Path.{◌≡◌, refl, sym, ap, ◌∙◌}
use mathlib.Core.Bool.{false}
use Prim.Native.Nat.{ℕ, ◌+◌, ◌≤◌}
use native.Mathlib.Omega.{arith}
use lib.ListN.{length, take, drop, length-drop}
use lib.Seq.{drop-drop, length-take-le}
use Rattle.machine.specs.Types.{Bytes}
use Rattle.records.specs.declared.BlockTime.{BlockTime}
use Rattle.records.specs.declared.Caller.{Caller}
use Rattle.fields.specs.Reader.{Got, got, stopped, Reader, onward}
use Rattle.fields.specs.declared.field.Form.TheVariants.{Exactly}
use Rattle.fields.specs.Fields as fields
use Rattle.fields.specs.Fields.{Field, ◌holds◌, length_of, value_of, wrong_length, field, number_field, time_field}
use Rattle.field_values.specs.Groups.{caller, Message, message}

-- n bytes
abbrev pub Takes : ℕ → Bytes → Bytes → Type 0
Takes n rest left = (left ≡ drop n rest) × (length left + n ≡ length rest)

pub chained : (n m : ℕ) (rest mid left : Bytes) → Takes n rest mid → Takes m mid left → Takes (n + m) rest left
chained n m rest mid left a b = (rw (b.0, a.0) (drop-drop m n rest), omega (arith, a.1, b.1))

-- ---- a field: the tag, the length and the value
in_order : (f : Field) (rest v left : Bytes) (place p : ℕ) → field f rest place ≡ got v left p
    → (v ≡ value_of rest) × (left ≡ drop (3 + length_of rest) rest) × (3 + length_of rest ≤ length rest) × (wrong_length f.form (length_of rest) ≡ false)
unfolding field
in_order f rest v left place p e = grind arith

pub field_takes : (f : Field) (rest v left : Bytes) (place p : ℕ) → field f rest place ≡ got v left p
    → (v ≡ take (length v) (drop 3 rest)) × Takes (3 + length v) rest left × (wrong_length f.form (length v) ≡ false)
field_takes f rest v left place p e =
    let r = in_order f rest v left place p e in
    let n : length v ≡ length_of rest = ap length r.0 ∙ length-take-le (length_of rest) (drop 3 rest) (omega (arith, r.2, length-drop 3 rest)) in
    rw n (r.0, (r.1, omega (arith, ap length r.1, length-drop (3 + length_of rest) rest, r.2)), r.3)

pub exactly : (tag n : ℕ) (rest v left : Bytes) (place p : ℕ) → field (tag holds Exactly n) rest place ≡ got v left p → Takes (3 + n) rest left
exactly tag n rest v left place p e = grind (arith, field_takes)

pub number_takes : (tag : ℕ) (rest left : Bytes) (n place p : ℕ) → number_field (tag holds Exactly 8) rest place ≡ got n left p → Takes 11 rest left
unfolding number_field
number_takes tag rest left n place p e = grind (arith, exactly)

pub time_takes : (rest left : Bytes) (t : BlockTime) (place p : ℕ) → time_field rest place ≡ got t left p → Takes 19 rest left
unfolding time_field
time_takes rest left t place p e = grind (arith, exactly)

-- ---- readers one after the other
pub record After {A B : Type 0} (g : Got A) (f : A → Reader B) (b : B) (left : Bytes) (p : ℕ) : Type 0 where
  pub a : A
  pub mid : Bytes
  pub q : ℕ
  pub first : g ≡ got a mid q
  pub then : f a mid q ≡ got b left p

pub after : {A B : Type 0} (g : Got A) (f : A → Reader B) {b : B} {left : Bytes} {p : ℕ} → onward g f ≡ got b left p → After g f b left p
after (got a mid q) f e = record { a = a; mid = mid; q = q; first = refl; then = e }
after (stopped f q) g e = absurd (grind arith)

pub caller_takes : (rest left : Bytes) (c : Caller) (place p : ℕ) → caller rest place ≡ got c left p → Takes 57 rest left
unfolding caller
caller_takes rest left c place p e =
    let one = after (number_field fields.predecessor rest place) _ e in
    let two = after (number_field fields.signer one.mid one.q) _ one.then in
    let three = after (field fields.key two.mid two.q) _ two.then in
    let a = number_takes 0x10 rest one.mid one.a place one.q one.first in
    let b = number_takes 0x11 one.mid two.mid two.a one.q two.q two.first in
    let k = exactly 0x12 32 two.mid three.a three.mid two.q three.q three.first in
    let same : left ≡ three.mid = cc in
    rw same (chained 11 46 rest one.mid three.mid a (chained 11 35 one.mid two.mid three.mid b k))

pub message_takes : (rest left : Bytes) (m : Message) (place p : ℕ) → message rest place ≡ got m left p
    → (m.text ≡ take (length m.text) (drop 3 rest)) × (length left + 22 + length m.text ≡ length rest)
unfolding message
message_takes rest left m place p e =
    let one = after (field fields.text rest place) _ e in
    let two = after (time_field one.mid one.q) _ one.then in
    let t = field_takes fields.text rest one.a one.mid place one.q one.first in
    let w = time_takes one.mid two.mid two.a one.q two.q two.first in
    let text : m.text ≡ one.a = cc in
    let same : left ≡ two.mid = cc in
    (text ∙ t.0 ∙ ap (λ (l : Bytes). take (length l) (drop 3 rest)) (sym text), omega (arith, t.1.1, w.1, ap length text, ap length same))
