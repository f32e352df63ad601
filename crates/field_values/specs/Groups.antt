-- Fields that stand together in several kinds: who calls, and a text with its time (document 01, 'Command file', the table). Assumes nothing.
use Rattle.std.specs.Borrow.{Bor}
use Rattle.records.specs.declared.BlockTime.{BlockTime}
use Rattle.records.specs.declared.Caller.{Caller}
use Rattle.machine.specs.Types.{Bytes}
use Rattle.machine.specs.Told as told
use Rattle.fields.specs.Reader.{Reader, ◌>>=◌, done}
use Rattle.fields.specs.Fields.{predecessor, signer, key, text, field, number_field, time_field}

-- 10, 11, 12: who calls
unfoldable pub caller : Reader Caller
caller = do
  p ← number_field predecessor
  s ← number_field signer
  k ← field key
  done (record { predecessor = told.account p; signer = told.account s; signer_key = k })

-- 18, 16: a text, and when
pub record Message : Type 0 where
  pub text : Bytes
  pub now : BlockTime

unfoldable pub message : Reader Message
message = do
  t ← field text
  now ← time_field
  done (record { text = t; now = now })

-- as the code answers it: the very part of the value, and when
abbrev pub noted : Bor Bytes × BlockTime → Message
noted m = record { text = m.0.now; now = m.1 }
