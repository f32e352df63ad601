-- Document 01, 'Rooms': every limit, named once. Assumes nothing.
use Rattle.std.specs.Prelude.{ℕ}

-- keys registered at once
abbrev pub key_room : ℕ
key_room = 64

-- registrations in a ledger's life
abbrev pub registration_room : ℕ
registration_room = 256

abbrev pub request_room : ℕ
request_room = 256

abbrev pub log_room : ℕ
log_room = 256

-- text bytes of all requests together, and of one
abbrev pub text_room : ℕ
text_room = 32768

abbrev pub text_limit : ℕ
text_limit = 2048

-- Pending requests of a key
abbrev pub pending_limit : ℕ
pending_limit = 16

-- entries of a page, and where a command names no limit
abbrev pub page_limit : ℕ
page_limit = 100

abbrev pub default_page : ℕ
default_page = 50

-- where the sum of a page's start and limit stops
abbrev pub largest : ℕ
largest = 18446744073709551615
