-- Document 01, 'Refusal table': the number and the text of each refusal, each in one place. Assumes nothing.
use Rattle.std.specs.Prelude.{ℕ, List}
use Rattle.records.specs.declared.refusal.Refusal.{Refusal}
use Rattle.records.specs.declared.refusal.Refusal.TheVariants.{NotOwner, IndirectCall, UnknownKey, WrongRole, KeyAccountMismatch, KeyAlreadyRegistered}
use Rattle.records.specs.declared.refusal.Refusal.TheVariants.{KeyNotRegistered, EmptyAction, ActionTooLong, TooManyPending, RequestNotFound, AlreadyApproved}
use Rattle.records.specs.declared.refusal.Refusal.TheVariants.{AlreadyRejected, AgentRevoked, ActionMismatch, SelfApproval, LogFull, KeysFull}
use Rattle.records.specs.declared.refusal.Refusal.TheVariants.{TextFull, Damaged, PageRoom}
use Rattle.records.specs.Letters.{ascii}

-- 1 to 17 as the source's `ApprovalError` has them, then document 01's own
abbrev pub refusal_number : Refusal → ℕ
refusal_number NotOwner = 1
refusal_number IndirectCall = 2
refusal_number UnknownKey = 3
refusal_number WrongRole = 4
refusal_number KeyAccountMismatch = 5
refusal_number KeyAlreadyRegistered = 6
refusal_number KeyNotRegistered = 7
refusal_number EmptyAction = 8
refusal_number ActionTooLong = 9
refusal_number TooManyPending = 10
refusal_number RequestNotFound = 11
refusal_number AlreadyApproved = 12
refusal_number AlreadyRejected = 13
refusal_number AgentRevoked = 14
refusal_number ActionMismatch = 15
refusal_number SelfApproval = 16
refusal_number LogFull = 17
refusal_number KeysFull = 18
refusal_number TextFull = 19
refusal_number Damaged = 20
refusal_number PageRoom = 21

-- 1 to 17 as the source's `as_str` has them, then document 01's own
unfoldable pub text_of_refusal : Refusal → List ℕ
text_of_refusal NotOwner = ascii "only the owner can manage keys"
text_of_refusal IndirectCall = ascii "caller must be the signing account"
text_of_refusal UnknownKey = ascii "signing key is unknown"
text_of_refusal WrongRole = ascii "signing key has the wrong role"
text_of_refusal KeyAccountMismatch = ascii "signing key belongs to another account"
text_of_refusal KeyAlreadyRegistered = ascii "key is already registered"
text_of_refusal KeyNotRegistered = ascii "key to revoke was not found"
text_of_refusal EmptyAction = ascii "action is empty"
text_of_refusal ActionTooLong = ascii "action exceeds 2048 bytes"
text_of_refusal TooManyPending = ascii "agent key has too many pending requests"
text_of_refusal RequestNotFound = ascii "request not found"
text_of_refusal AlreadyApproved = ascii "request is already approved"
text_of_refusal AlreadyRejected = ascii "request is already rejected"
text_of_refusal AgentRevoked = ascii "request is void: its agent key was revoked"
text_of_refusal ActionMismatch = ascii "action does not match the request"
text_of_refusal SelfApproval = ascii "approver and agent must be different accounts"
text_of_refusal LogFull = ascii "log is full"
text_of_refusal KeysFull = ascii "key table is full"
text_of_refusal TextFull = ascii "text table is full"
text_of_refusal Damaged = ascii "tables are not a sound ledger"
text_of_refusal PageRoom = ascii "page does not hold the answer"
