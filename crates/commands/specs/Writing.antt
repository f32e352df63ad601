-- A command as it is written: the table read the other way (document 01, 'Command file'). Assumes nothing.
use Rattle.std.specs.Prelude.{◌≡◌, List, [], ◌∷◌, ◌++◌, ℕ, ◌<◌, ◌^◌, length}
use Rattle.records.specs.declared.BlockTime.{BlockTime}
use Rattle.records.specs.declared.Caller.{Caller}
use Rattle.records.specs.declared.role.Role.{Role}
use Rattle.records.specs.Roles.{role_number}
use Rattle.machine.specs.Types.{Bytes, add, revoke, request, approve, reject}
use Rattle.fields.specs.Numbers.{bytes_of}
use Rattle.fields.specs.Fields as fields
use Rattle.fields.specs.Fields.{Kind, opening, adding, revoking, requesting, approving, rejecting, telling_status, telling_page, kind_tag, Field}
use Rattle.commands.specs.Commands.{Command, open_by, change, status_of, page_from}

-- one-byte tag, two-byte length, value
abbrev pub tagged : ℕ → Bytes → Bytes
tagged tag v = tag ∷ bytes_of 2 (length v) ++ v

abbrev pub number_written : Field → ℕ → Bytes
number_written f n = tagged f.tag (bytes_of 8 n)

abbrev pub key_written : Bytes → Bytes
key_written k = tagged (fields.key).tag k

abbrev pub role_written : Role → Bytes
role_written r = tagged (fields.role).tag (role_number r ∷ [])

abbrev pub time_written : BlockTime → Bytes
time_written t = tagged (fields.time).tag (bytes_of 8 t.height ++ bytes_of 8 t.timestamp_ns)

abbrev pub text_written : Bytes → Bytes
text_written t = tagged (fields.text).tag t

abbrev pub joined : List Bytes → Bytes
joined [] = []
joined (x ∷ xs) = x ++ joined xs

-- 10, 11, 12, and what follows
abbrev pub caller_written : Caller → List Bytes → List Bytes
caller_written c more =
    number_written fields.predecessor c.predecessor.0 ∷ number_written fields.signer c.signer.0 ∷ key_written c.signer_key ∷ more

abbrev pub kind_written : Command → Kind
kind_written (open_by n) = opening
kind_written (change (add c k a r)) = adding
kind_written (change (revoke c k now)) = revoking
kind_written (change (request c t now)) = requesting
kind_written (change (approve c n t now)) = approving
kind_written (change (reject c n now)) = rejecting
kind_written (status_of n) = telling_status
kind_written (page_from f l) = telling_page

-- a page's limit is always written
abbrev pub fields_written : Command → List Bytes
fields_written (open_by n) = number_written fields.signer n ∷ []
fields_written (change (add c k a r)) = number_written fields.signer c ∷ key_written k ∷ number_written fields.account a ∷ role_written r ∷ []
fields_written (change (revoke c k now)) = number_written fields.signer c ∷ key_written k ∷ time_written now ∷ []
fields_written (change (request c t now)) = caller_written c (text_written t ∷ time_written now ∷ [])
fields_written (change (approve c n t now)) = caller_written c (number_written fields.request n ∷ text_written t ∷ time_written now ∷ [])
fields_written (change (reject c n now)) = caller_written c (number_written fields.request n ∷ time_written now ∷ [])
fields_written (status_of n) = number_written fields.request n ∷ []
fields_written (page_from f l) = number_written fields.from f ∷ number_written fields.limit l ∷ []

abbrev pub write_command : Command → Bytes
write_command c = tagged (kind_tag (kind_written c)) (joined (fields_written c))

-- ---- what can be written: numbers of 64 bits, keys of 32 bytes, and a value whose length has two bytes
abbrev pub Long : ℕ → Type 0
Long n = n < 256 ^ 8

abbrev pub Timely : BlockTime → Type 0
Timely t = Long t.height × Long t.timestamp_ns

abbrev pub Calling : Caller → Type 0
Calling c = Long c.predecessor.0 × Long c.signer.0 × (length c.signer_key ≡ 32)

abbrev pub Sizes : Command → Type 0
Sizes (open_by n) = Long n
Sizes (change (add c k a r)) = Long c × (length k ≡ 32) × Long a
Sizes (change (revoke c k now)) = Long c × (length k ≡ 32) × Timely now
Sizes (change (request c t now)) = Calling c × (length t < 256 ^ 2) × Timely now
Sizes (change (approve c n t now)) = Calling c × Long n × (length t < 256 ^ 2) × Timely now
Sizes (change (reject c n now)) = Calling c × Long n × Timely now
Sizes (status_of n) = Long n
Sizes (page_from f l) = Long f × Long l

pub record Writable (c : Command) : Type 0 where
  pub sizes : Sizes c
  pub short : length (joined (fields_written c)) < 256 ^ 2
