-- What is written is read back: fields, the eight kinds, and a whole command. Assumes nothing.
use mathlib.Core.Path.{◌≡◌, refl, sym, ap, ◌∙◌}
use mathlib.Core.Bool.{Bool, true, false}
use mathlib.Core.Option.{some}
use mathlib.Core.List.{List, [], ◌∷◌, ◌++◌}
use Prim.Native.Nat.{ℕ, ◌+◌, ◌<◌, ◌≤◌, ◌^◌}
use native.Mathlib.Omega.{arith}
use lib.ListN.{length, drop, length-append}
use lib.Seq.{take-append_seam, drop-append_seam, drop-drop}
use Rattle.machine.specs.Types.{Bytes, add, revoke, approve, reject}
use Rattle.machine.specs.Types as machine
use Rattle.records.specs.declared.Caller.{Caller}
use Rattle.records.specs.declared.BlockTime.{BlockTime}
use Rattle.records.specs.declared.role.Role.{Role}
use Rattle.records.specs.declared.role.Role.TheVariants.{Agent, Approver}
use Rattle.fields.specs.declared.field.Form.TheVariants.{Exactly}
use Rattle.fields.specs.Numbers.{number, bytes_of}
use Rattle.fields.specs.Reader.{got}
use Rattle.fields.specs.Fields.{Field, known, tag_of, length_of, value_of, wrong_length, bad_role, field, finish, ◌holds◌, signer, key, account, text, role, time, request, limit}
use Rattle.fields.specs.Fields.{number_field, time_field, role_field}
use Rattle.fields.specs.Fields.{Kind, opening, adding, revoking, requesting, approving, rejecting, telling_status, telling_page, kind_tag, kind_of}
use Rattle.field_values.specs.Groups.{caller, message}
use Rattle.fields.proofs.Numbers.{written_read}
use Rattle.commands.proofs.Outer.{in_order}
use Rattle.commands.specs.Writing.{tagged, number_written, key_written, role_written, time_written, text_written, caller_written, joined}
use Rattle.commands.specs.Writing.{kind_written, fields_written, write_command, Long, Timely, Calling, Sizes, Writable}
use Rattle.commands.specs.Commands.{Command, open_by, change, status_of, page_from, command, due, read_by, fields_of, contents, read_outer}

-- ---- a tagged value before more bytes
module _ (tag : ℕ) (v more : Bytes) (short : length v < 256 ^ 2) where
  pub length_back : length_of (tagged tag v ++ more) ≡ length v
  length_back = written_read 2 (length v) short

  pub value_back : value_of (tagged tag v ++ more) ≡ v
  value_back = rw length_back (take-append_seam v more)

  pub left_back : drop (3 + length_of (tagged tag v ++ more)) (tagged tag v ++ more) ≡ more
  left_back = rw length_back (sym (drop-drop (length v) 3 (tagged tag v ++ more)) ∙ drop-append_seam v more)

  pub room_back : 3 + length_of (tagged tag v ++ more) ≤ length (tagged tag v ++ more)
  room_back = omega (arith, length_back, length-append v more)

-- ---- a field due
field_found : (f : Field) (rest : Bytes) (place : ℕ) → known (tag_of rest) ≡ true → f.tag ≡ tag_of rest → 3 + length_of rest ≤ length rest
    → wrong_length f.form (length_of rest) ≡ false → bad_role f.form (number (value_of rest)) ≡ false
    → field f rest place ≡ got (value_of rest) (drop (3 + length_of rest) rest) (place + (3 + length_of rest))
unfolding field
field_found f rest place k t h w b = grind arith

pub field_back : (f : Field) (v more : Bytes) (place : ℕ) → known f.tag ≡ true → length v < 256 ^ 2 → wrong_length f.form (length v) ≡ false → bad_role f.form (number v) ≡ false
    → field f (tagged f.tag v ++ more) place ≡ got v more (place + (3 + length v))
field_back f v more place k s w b =
    let n = length_back f.tag v more s in
    let e = value_back f.tag v more s in
    field_found f (tagged f.tag v ++ more) place k refl (room_back f.tag v more s) (rw n w) (rw e b) ∙ rw (e, left_back f.tag v more s, n)

-- ---- fields by what they hold
pub number_back : (tag n : ℕ) (more : Bytes) (place : ℕ) → known tag ≡ true → Long n
    → number_field (tag holds Exactly 8) (number_written (tag holds Exactly 8) n ++ more) place ≡ got n more (place + 11)
unfolding number_field
number_back tag n more place k l = rw (field_back (tag holds Exactly 8) (bytes_of 8 n) more place k (omega arith) refl refl, written_read 8 n l)

pub key_back : (k more : Bytes) (place : ℕ) → length k ≡ 32 → field key (key_written k ++ more) place ≡ got k more (place + (3 + length k))
unfolding known
key_back k more place l = field_back key k more place refl (omega arith) (rw l) refl

pub text_back : (t more : Bytes) (place : ℕ) → length t < 256 ^ 2 → field text (text_written t ++ more) place ≡ got t more (place + (3 + length t))
unfolding known
text_back t more place l = field_back text t more place refl l refl refl

pub role_back : (r : Role) (more : Bytes) (place : ℕ) → role_field (role_written r ++ more) place ≡ got r more (place + 4)
unfolding role_field known number
role_back Agent more place = rw (field_back role (0 ∷ []) more place refl (omega arith) refl refl)
role_back Approver more place = rw (field_back role (1 ∷ []) more place refl (omega arith) refl refl)

pub time_back : (t : BlockTime) (more : Bytes) (place : ℕ) → Timely t → time_field (time_written t ++ more) place ≡ got t more (place + 19)
unfolding time_field known
time_back t more place l =
    let f = field_back time (bytes_of 8 t.height ++ bytes_of 8 t.timestamp_ns) more place refl (omega arith) refl refl in
    rw (f, written_read 8 t.height l.0, written_read 8 t.timestamp_ns l.1)

pub caller_back : (c : Caller) (more : List Bytes) (place : ℕ) → Calling c
    → caller (joined (caller_written c more)) place ≡ got c (joined more) (place + 11 + 11 + (3 + length c.signer_key))
unfolding caller known
caller_back c more place l =
    let k = key_written c.signer_key ++ joined more in
    let one = number_back 0x10 c.predecessor.0 (number_written signer c.signer.0 ++ k) place refl l.0 in
    let two = number_back 0x11 c.signer.0 k (place + 11) refl l.1 in
    rw (one, two, key_back c.signer_key (joined more) (place + 11 + 11) l.2)

pub message_back : (t : Bytes) (now : BlockTime) (more : Bytes) (place : ℕ) → length t < 256 ^ 2 → Timely now
    → message (text_written t ++ (time_written now ++ more)) place ≡ got (record { text = t; now = now }) more (place + (3 + length t) + 19)
unfolding message
message_back t now more place l n = rw (text_back t (time_written now ++ more) place l, time_back now more (place + (3 + length t)) n)

-- ---- the eight kinds
pub contents_back : (c : Command) → Sizes c → (place next : ℕ) → read_by next (contents (kind_written c) (joined (fields_written c)) place) ≡ command c next
unfolding contents fields_of finish known
contents_back (open_by n) s place next = rw (number_back 0x11 n [] place refl s)
contents_back (change (add c k a r)) s place next =
    let two = number_written account a ∷ role_written r ∷ [] in
    let p = place + 11 + (3 + length k) in
    let caller = number_back 0x11 c (joined (key_written k ∷ two)) place refl s.0 in
    let its-key = key_back k (joined two) (place + 11) s.1 in
    rw (caller, its-key, number_back 0x13 a (joined (role_written r ∷ [])) p refl s.2, role_back r [] (p + 11))
contents_back (change (revoke c k now)) s place next =
    let caller = number_back 0x11 c (joined (key_written k ∷ time_written now ∷ [])) place refl s.0 in
    let its-key = key_back k (joined (time_written now ∷ [])) (place + 11) s.1 in
    rw (caller, its-key, time_back now [] (place + 11 + (3 + length k)) s.2)
contents_back (change (machine.request c t now)) s place next =
    rw (caller_back c (text_written t ∷ time_written now ∷ []) place s.0, message_back t now [] (place + 11 + 11 + (3 + length c.signer_key)) s.1 s.2)
contents_back (change (approve c n t now)) s place next =
    let p = place + 11 + 11 + (3 + length c.signer_key) in
    let two = text_written t ∷ time_written now ∷ [] in
    let who = caller_back c (number_written request n ∷ two) place s.0 in
    rw (who, number_back 0x17 n (joined two) p refl s.1, message_back t now [] (p + 11) s.2 s.3)
contents_back (change (reject c n now)) s place next =
    let p = place + 11 + 11 + (3 + length c.signer_key) in
    let who = caller_back c (number_written request n ∷ time_written now ∷ []) place s.0 in
    rw (who, number_back 0x17 n (joined (time_written now ∷ [])) p refl s.1, time_back now [] (p + 11) s.2)
contents_back (status_of n) s place next = rw (number_back 0x17 n [] place refl s)
contents_back (page_from f l) s place next =
    rw (number_back 0x19 f (joined (number_written limit l ∷ [])) place refl s.0, number_back 0x1A l [] (place + 11) refl s.1)

-- ---- a whole command, first or later, before more bytes
known_kind : (k : Kind) → (known (kind_tag k) ≡ true) × (kind_of (kind_tag k) ≡ some k)
unfolding known
known_kind opening = (refl, refl)
known_kind adding = (refl, refl)
known_kind revoking = (refl, refl)
known_kind requesting = (refl, refl)
known_kind approving = (refl, refl)
known_kind rejecting = (refl, refl)
known_kind telling_status = (refl, refl)
known_kind telling_page = (refl, refl)

pub command_back : (is-first : Bool) (c : Command) (more : Bytes) (place : ℕ) → Writable c → due is-first (kind_tag (kind_written c)) ≡ true
    → read_outer is-first (write_command c ++ more) place ≡ command c (place + length (write_command c))
command_back is-first c more place w d =
    let tag = kind_tag (kind_written c) in
    let v = joined (fields_written c) in
    let k = known_kind (kind_written c) in
    let n = length_back tag v more w.short in
    let ends : place + 3 + length_of (write_command c ++ more) ≡ place + length (write_command c) = omega arith in
    in_order is-first (write_command c ++ more) place k.0 d (room_back tag v more w.short)
    ∙ rw (k.1, value_back tag v more w.short) (contents_back c w.sizes (place + 3) (place + 3 + length_of (write_command c ++ more)))
    ∙ ap (command c) ends
