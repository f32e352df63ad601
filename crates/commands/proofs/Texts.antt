-- A command that is read is of the kind that its tag names, and its text is a part of the input in its value. Assumes nothing.
use mathlib.Core.Path.{◌≡◌, refl, sym, ap, ◌∙◌}
use mathlib.Core.List.{[]}
use Prim.Native.Nat.{ℕ, ◌+◌, ◌-◌, ◌≤◌}
use native.Mathlib.Omega.{arith}
use lib.ListN.{length, take, drop, length-take}
use lib.Seq.{drop-drop, take-take}
use Rattle.std.proofs.lemmas.List.{drop-take}
use Rattle.machine.specs.Types.{Bytes, request, approve}
use Rattle.fields.specs.Reader.{got}
use Rattle.fields.specs.Fields as fields
use Rattle.fields.specs.Fields.{Kind, opening, adding, revoking, requesting, approving, rejecting, telling_status, telling_page, length_of, value_of, number_field}
use Rattle.field_values.specs.Groups.{caller, Message, message}
use Rattle.commands.specs.declared.command.Command.TheVariants as Is
use Rattle.commands.specs.declared.command.Command.{Command as ReadCommand}
use Rattle.commands.specs.Commands.{Command, change, command, fields_of, command_read}
use Rattle.commands.specs.Writing.{kind_written}
use Rattle.commands.specs.Answers.{meant, Lies, Placed}
use Rattle.commands.proofs.Takes.{Takes, chained, after, number_takes, caller_takes, message_takes}
use Rattle.commands.proofs.Opened.{Opened, opened}

pub kinded : (k : Kind) (rest left : Bytes) (c : Command) (place p : ℕ) → fields_of k rest place ≡ got c left p → kind_written c ≡ k
unfolding fields_of
kinded k rest left c place p e = grind arith

-- ---- a text lies behind who calls, of 57 bytes, and the request, of 11
abbrev text_of : Command → Bytes
text_of (change (request c t now)) = t
text_of (change (approve c n t now)) = t
text_of c = []

-- from k bytes on
abbrev LiesAt : ℕ → Bytes → Bytes → Bytes → Type 0
LiesAt k rest left t = (t ≡ take (length t) (drop (k + 3) rest)) × (k + 3 + length t + 19 + length left ≡ length rest)

lies_at : (k : ℕ) (rest mid last left t : Bytes) (m : Message) (place p : ℕ) → Takes k rest mid → message mid place ≡ got m last p → t ≡ m.text → left ≡ last
    → LiesAt k rest left t
lies_at k rest mid last left t m place p b e same ends =
    let h = message_takes mid last m place p e in
    rw (same, ends) (h.0 ∙ rw (b.0, drop-drop 3 k rest) refl, omega (arith, h.1, b.1))

same : {c d : Command} {left mid : Bytes} {p q : ℕ} → got d mid q ≡ got c left p → (c ≡ d) × (left ≡ mid)
same e = (cc, cc)

module _ (rest left : Bytes) (c : Command) (place p : ℕ) where
  requested : fields_of requesting rest place ≡ got c left p → LiesAt 57 rest left (text_of c)
  unfolding fields_of
  requested e =
      let one = after (caller rest place) _ e in
      let two = after (message one.mid one.q) _ one.then in
      let s = same two.then in
      let b = caller_takes rest one.mid one.a place one.q one.first in
      lies_at 57 rest one.mid two.mid left (text_of c) two.a one.q two.q b two.first (ap text_of s.0) s.1

  approved : fields_of approving rest place ≡ got c left p → LiesAt 68 rest left (text_of c)
  unfolding fields_of
  approved e =
      let one = after (caller rest place) _ e in
      let two = after (number_field fields.request one.mid one.q) _ one.then in
      let three = after (message two.mid two.q) _ two.then in
      let s = same three.then in
      let b = caller_takes rest one.mid one.a place one.q one.first in
      let n = number_takes 0x17 one.mid two.mid two.a one.q two.q two.first in
      lies_at 68 rest two.mid three.mid left (text_of c) three.a two.q three.q (chained 57 11 rest one.mid two.mid b n) three.first (ap text_of s.0) s.1

-- ---- in the input
-- from n bytes on in the value, which starts at `from`
in_input : (input : Bytes) (from n m : ℕ) (t : Bytes) → t ≡ take (length t) (drop n (take m (drop from input))) → n + length t ≤ m → t ≡ take (length t) (drop (from + n) input)
in_input input from n m t e h =
    let w : m ≡ n + (m - n) = omega arith in
    e ∙ rw (w, drop-take n (m - n) (drop from input), drop-drop n from input) (take-take (length t) (m - n) (drop (from + n) input) (omega arith))

module _ (input : Bytes) (at : ℕ) (c : Command) (next : ℕ) (o : Opened input at c next) where
  lies : (k : ℕ) → LiesAt k (value_of (drop at input)) o.left (text_of c) → Lies input at next (text_of c)
  lies k h =
      let n = length_of (drop at input) in
      record {
        start = at + 3 + (k + 3);
        after = omega arith;
        ends = omega (arith, h.1, o.ends, o.whole);
        part = in_input input (at + 3) (k + 3) n (text_of c) (h.0 ∙ rw (drop-drop 3 at input) refl) (omega (arith, h.1, length-take n (drop 3 (drop at input))));
      }

  of_kind : kind_written c ≡ o.kind
  of_kind = kinded o.kind (value_of (drop at input)) o.left c (at + 3) o.p o.reads

  by_kind : (k : Kind) → kind_written c ≡ k → fields_of k (value_of (drop at input)) (at + 3) ≡ got c o.left o.p
  by_kind k e = let same : o.kind ≡ k = sym of_kind ∙ e in rw (← same) o.reads

pub placed : (input : Bytes) (at : ℕ) (c : ReadCommand) (next : ℕ) → command_read input at ≡ command (meant c) next → Placed input at next c
placed input at (Is.Request c) next e =
    let m = meant (Is.Request c) in
    let o = opened input at m next e in
    lies input at m next o 57 (requested (value_of (drop at input)) o.left m (at + 3) o.p (by_kind input at m next o requesting refl))
placed input at (Is.Approve c) next e =
    let m = meant (Is.Approve c) in
    let o = opened input at m next e in
    lies input at m next o 68 (approved (value_of (drop at input)) o.left m (at + 3) o.p (by_kind input at m next o approving refl))
placed input at c next e = tt
