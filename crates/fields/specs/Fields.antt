-- Tagged fields: the tags, what each field holds, and the rules by which a field due is read (document 01, 'Command file'). Assumes nothing.
use Rattle.std.specs.Prelude.{ℕ, ◌+◌, Bool, false, not, cond, ◌||◌, List, [], ◌∷◌, ◌++◌, length, get_or, take, drop, eqb, ltb}
use Rattle.std.proofs.Math.Option.{Option, none, some}
use Rattle.machine.specs.Types.{Bytes}
use Rattle.machine.specs.Tests.{present}
use Rattle.records.specs.declared.BlockTime.{BlockTime}
use Rattle.records.specs.declared.role.Role.{Role}
use Rattle.records.specs.Roles.{role_of}
use Rattle.fields.specs.declared.fault.Fault.TheVariants.{MissingField, CutField, UnknownField, FieldOrder, FieldLength, BadRole}
use Rattle.fields.specs.declared.field.Form.{Form}
use Rattle.fields.specs.declared.field.Form.TheVariants.{Exactly, AnyLength, RoleByte}
use Rattle.fields.specs.Numbers.{number}
use Rattle.fields.specs.Reader.{got, Reader, ◌>>=◌, done, Rule, ◌if◌, first, unless}

-- ---- the table's kinds
pub data Kind : Type 0 where
  opening adding revoking requesting approving rejecting telling_status telling_page : Kind

abbrev pub kind_tag : Kind → ℕ
kind_tag opening = 0x08
kind_tag adding = 0x01
kind_tag revoking = 0x02
kind_tag requesting = 0x03
kind_tag approving = 0x04
kind_tag rejecting = 0x05
kind_tag telling_status = 0x06
kind_tag telling_page = 0x07

abbrev pub kinds : List Kind
kinds = opening ∷ adding ∷ revoking ∷ requesting ∷ approving ∷ rejecting ∷ telling_status ∷ telling_page ∷ []

abbrev pub with_kind_tag : ℕ → List Kind → Option Kind
with_kind_tag t [] = none
with_kind_tag t (k ∷ ks) = cond (eqb t (kind_tag k)) (some k) (with_kind_tag t ks)

abbrev pub kind_of : ℕ → Option Kind
kind_of t = with_kind_tag t kinds

-- ---- the list of fields: a tag, and the form of the value: exactly so many bytes, any length, or a role
pub record Field : Type 0 where
  pub tag : ℕ
  pub form : Form

infix 75 ◌holds◌
abbrev pub ◌holds◌ : ℕ → Form → Field
t holds f = record { tag = t; form = f }

abbrev pub predecessor : Field
predecessor = 0x10 holds Exactly 8

-- the caller or signer
abbrev pub signer : Field
signer = 0x11 holds Exactly 8

abbrev pub key : Field
key = 0x12 holds Exactly 32

-- the account added
abbrev pub account : Field
account = 0x13 holds Exactly 8

abbrev pub role : Field
role = 0x15 holds RoleByte

-- height and timestamp
abbrev pub time : Field
time = 0x16 holds Exactly 16

abbrev pub request : Field
request = 0x17 holds Exactly 8

abbrev pub text : Field
text = 0x18 holds AnyLength

abbrev pub from : Field
from = 0x19 holds Exactly 8

abbrev pub limit : Field
limit = 0x1A holds Exactly 8

abbrev pub fields : List Field
fields = predecessor ∷ signer ∷ key ∷ account ∷ role ∷ time ∷ request ∷ text ∷ from ∷ limit ∷ []

abbrev pub listed : ℕ → List Field → Bool
listed t [] = false
listed t (f ∷ fs) = eqb t f.tag || listed t fs

-- a tag is a kind in the table or a field in the list; 14 is neither
unfoldable pub known : ℕ → Bool
known t = present (kind_of t) || listed t fields

-- ---- one-byte tag, two-byte length, value
abbrev pub tag_of : Bytes → ℕ
tag_of rest = get_or rest 0 0

abbrev pub length_of : Bytes → ℕ
length_of rest = number (take 2 (drop 1 rest))

abbrev pub value_of : Bytes → Bytes
value_of rest = take (length_of rest) (drop 3 rest)

-- ---- the rules, in document 01's order, over the bytes left in the enclosing value; `due` says whether a tag is due
abbrev pub none_left : Bytes → Bool
none_left rest = eqb (length rest) 0

abbrev pub second_and_third : Bytes → List Rule
second_and_third rest = CutField if ltb (length rest) 3 ∷ UnknownField if not (known (tag_of rest)) ∷ []

abbrev pub second_to_fourth : (ℕ → Bool) → Bytes → List Rule
second_to_fourth due rest = second_and_third rest ++ FieldOrder if not (due (tag_of rest)) ∷ []

-- past the end of the enclosing value is past the end, also where the input goes on
abbrev pub second_to_fifth : (ℕ → Bool) → Bytes → List Rule
second_to_fifth due rest = second_to_fourth due rest ++ CutField if ltb (length rest) (3 + length_of rest) ∷ []

abbrev pub wrong_length : Form → ℕ → Bool
wrong_length (Exactly k) n = not (eqb n k)
wrong_length AnyLength n = false
wrong_length RoleByte n = not (eqb n 1)

abbrev pub bad_role : Form → ℕ → Bool
bad_role (Exactly k) n = false
bad_role AnyLength n = false
bad_role RoleByte n = ltb 1 n

-- all seven, at a field due
abbrev pub rules : Field → Bytes → List Rule
rules f rest =
    MissingField if none_left rest ∷ second_to_fifth (eqb f.tag) rest
    ++ FieldLength if wrong_length f.form (length_of rest) ∷ BadRole if bad_role f.form (number (value_of rest)) ∷ []

-- ---- reading
-- the value of the field due; a fault's place is that of the tag, which is the end of the enclosing value where no byte is left
unfoldable pub field : Field → Reader Bytes
field f rest place = unless (first (rules f rest)) place (got (value_of rest) (drop (3 + length_of rest) rest) (place + (3 + length_of rest)))

-- the bytes after the last field due: none, or they break one of the three rules, since no tag is due there
unfoldable pub finish : Reader (Unit {0})
finish rest place = cond (none_left rest) (got tt rest place) (unless (first (second_to_fourth (λ t. false) rest)) place (got tt rest place))

-- ---- values
unfoldable pub number_field : Field → Reader ℕ
number_field f = do
  v ← field f
  done (number v)

abbrev pub block_time : Bytes → BlockTime
block_time v = record { height = number (take 8 v); timestamp_ns = number (drop 8 v) }

unfoldable pub time_field : Reader BlockTime
time_field = do
  v ← field time
  done (block_time v)

unfoldable pub role_field : Reader Role
role_field = do
  v ← field role
  done (role_of (number v))
