-- The command file: the commands, each kind's fields in order, and how a whole input is read (document 01, 'Command file'). Assumes nothing.
use Rattle.std.specs.Prelude.{ℕ, zero, suc, ◌+◌, Bool, true, false, not, cond, ◌&&◌, List, [], ◌∷◌, length, drop, eqb, ltb}
use Rattle.std.proofs.Math.Option.{Option, none, some}
use Rattle.machine.specs.Types.{Bytes, Change, add, revoke, request, approve, reject}
use Rattle.machine.specs.Tests.{present}
use Rattle.machine.specs.Rooms.{default_page}
use Rattle.fields.specs.declared.fault.Fault.{Fault}
use Rattle.fields.specs.declared.fault.Stop.{Stop}
use Rattle.fields.specs.declared.fault.Fault.TheVariants.{MissingField, UnknownField, InputTooLong}
use Rattle.fields.specs.Reader.{Got, got, stopped, Reader, ◌>>=◌, ◌>>◌, done, if_any_byte_is_left, first, unless}
use Rattle.fields.specs.Fields as fields
use Rattle.field_values.specs.Groups.{caller, message}
use Rattle.fields.specs.Fields.{Kind, opening, adding, revoking, requesting, approving, rejecting, telling_status, telling_page, kind_tag, kind_of}
use Rattle.fields.specs.Fields.{length_of, value_of, tag_of, none_left, second_to_fifth, field, finish, number_field, time_field, role_field}

-- what a command asks for: an open by an account, one of the machine's changes, the status of a request, or a page of the log
pub data Command : Type 0 where
  open_by : (owner : ℕ) → Command
  change : Change → Command
  status_of : (n : ℕ) → Command
  page_from : (from limit : ℕ) → Command

-- ---- the table: each kind's fields, in order
unfoldable pub fields_of : Kind → Reader Command
fields_of opening = do
  owner ← number_field fields.signer
  done (open_by owner)
fields_of adding = do
  c ← number_field fields.signer
  k ← field fields.key
  a ← number_field fields.account
  r ← role_field
  done (change (add c k a r))
fields_of revoking = do
  c ← number_field fields.signer
  k ← field fields.key
  now ← time_field
  done (change (revoke c k now))
fields_of requesting = do
  c ← caller
  m ← message
  done (change (request c m.text m.now))
fields_of approving = do
  c ← caller
  n ← number_field fields.request
  m ← message
  done (change (approve c n m.text m.now))
fields_of rejecting = do
  c ← caller
  n ← number_field fields.request
  now ← time_field
  done (change (reject c n now))
fields_of telling_status = do
  n ← number_field fields.request
  done (status_of n)
fields_of telling_page = do
  f ← number_field fields.from
  l ← if_any_byte_is_left (number_field fields.limit) default_page
  done (page_from f l)

-- a command's value: the fields of its kind, and no byte after the last
unfoldable pub contents : Kind → Reader Command
contents k = do
  c ← fields_of k
  finish
  done c

-- ---- one command
-- what stands at a place of the input: a command and where the next one starts, the end of the run, or a fault and its place
pub data Read : Type 0 where
  command : Command → (next : ℕ) → Read
  end : Read
  stopped_by : Fault → (place : ℕ) → Read

-- the first is an open and no other is; a field's tag is known but never due here, so it is FieldOrder
abbrev pub due : Bool → ℕ → Bool
due true t = eqb t (kind_tag opening)
due false t = present (kind_of t) && not (eqb t (kind_tag opening))

abbrev pub read_by : (next : ℕ) → Got Command → Read
read_by next (got c rest place) = command c next
read_by next (stopped e place) = stopped_by e place

-- the reader for a command's kind; any other tag has been stopped before
abbrev pub contents_of : Option Kind → Reader Command
contents_of none = λ rest place. stopped UnknownField place
contents_of (some k) = contents k

-- the end of the input is a missing first command, and after the first the end of the run
abbrev pub at_end : Bool → ℕ → Read
at_end true place = stopped_by MissingField place
at_end false place = end

-- by the rules of a field, the sixth and seventh apart: no length is fixed here; the value is read wholly before the next command
unfoldable pub read_outer : (is-first : Bool) → Bytes → ℕ → Read
read_outer is-first rest place =
    cond (none_left rest) (at_end is-first place)
    (read_by (place + 3 + length_of rest)
    (unless (first (second_to_fifth (due is-first) rest)) place
    (contents_of (kind_of (tag_of rest)) (value_of rest) (place + 3))))

-- the command at a place; 0 is the first's, and a place past the end is the end
abbrev pub command_read : Bytes → ℕ → Read
command_read input at = read_outer (eqb at 0) (drop at input) at

-- ---- the whole file: the commands up to the first fault, and that fault with its place, if there is one
pub record File : Type 0 where
  pub commands : List Command
  pub stop : Option Stop

abbrev pub empty : Option Stop → File
empty s = record { commands = []; stop = s }

abbrev pub after : Command → File → File
after c f = record { commands = c ∷ f.commands; stop = f.stop }

abbrev pub file_by : Read → (ℕ → File) → File
file_by (command c next) onward = after c (onward next)
file_by end onward = empty none
file_by (stopped_by e place) onward = empty (some (record { fault = e; place = place }))

-- at most n commands: each takes three bytes or more, so that a number past the bytes left is enough
unfoldable pub read_from : (n : ℕ) → Bytes → ℕ → File
read_from zero input at = empty none
read_from (suc n) input at = file_by (command_read input at) (λ next. read_from n input next)

abbrev pub input_room : ℕ
input_room = 65536

unfoldable pub too_long : Bytes → Bool
too_long input = ltb input_room (length input)

abbrev pub read_all : Bytes → File
read_all input = cond (too_long input) (empty (some (record { fault = InputTooLong; place = 0 }))) (read_from (suc (length input)) input 0)
