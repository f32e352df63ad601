-- The parts of the lent tables, as code takes them: `&book[1..65]` and so on, and their cells. Assumes nothing.
use Rattle.std.specs.Prelude.{ℕ, drop, get_or, take, List, []}
use Rattle.tables.specs.Tables.{Tables}

abbrev pub holders : Tables → List (List ℕ)
holders t = take 64 (drop 1 t.book)

abbrev pub asked : Tables → List (List ℕ)
asked t = take 256 (drop 65 t.book)

abbrev pub decided : Tables → List (List ℕ)
decided t = take 256 (drop 321 t.book)

abbrev pub revoked : Tables → List (List ℕ)
revoked t = take 256 (drop 577 t.book)

abbrev pub log : Tables → List (List ℕ)
log t = take 256 (drop 833 t.book)

abbrev pub held : Tables → List (List ℕ)
held t = take 64 t.keys

abbrev pub agents : Tables → List (List ℕ)
agents t = take 256 (drop 64 t.keys)

abbrev pub approvers : Tables → List (List ℕ)
approvers t = take 256 (drop 320 t.keys)

-- cell c of row i
abbrev pub cell : ℕ → ℕ → List (List ℕ) → ℕ
cell i c rows = get_or (get_or rows i []) c 0

-- the counts in the head
abbrev pub owner : Tables → ℕ
owner t = cell 0 0 t.book

abbrev pub key_count : Tables → ℕ
key_count t = cell 0 1 t.book

abbrev pub made : Tables → ℕ
made t = cell 0 2 t.book

abbrev pub request_count : Tables → ℕ
request_count t = cell 0 3 t.book

abbrev pub log_count : Tables → ℕ
log_count t = cell 0 4 t.book

abbrev pub text_used : Tables → ℕ
text_used t = cell 0 5 t.book
