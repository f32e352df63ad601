-- What the check of the lent tables tests, test by test, over rows and cells. `proofs/Fits.antt` and `proofs/Views.antt` join it to `Standing`: tables pass exactly if they hold
-- a sound ledger. Assumes nothing.
use Rattle.std.specs.Prelude.{◌≢◌, ◌≡◌, ◌+◌, ◌<◌, ◌≤◌, suc, zero, ℕ, eqb, get_or, ◌&&◌, List, [], ◌∷◌}
use Rattle.lists.specs.Tallies.{count}
use Rattle.rows.specs.Apart.{Distinct}
use Rattle.rows.specs.Zeros.{ZeroFrom, zero_key, zero_row}
use Rattle.tables.specs.Parts.{agents, approvers, asked, cell, decided, held, holders, key_count, log, log_count, made, request_count, revoked, text_used}
use Rattle.tables.specs.Tables.{Sized, Tables}

-- a row of six is its cells; of a row whose last cells are spare, those are zero
abbrev pub cells : List ℕ → List ℕ
cells row = get_or row 0 0 ∷ get_or row 1 0 ∷ get_or row 2 0 ∷ get_or row 3 0 ∷ get_or row 4 0 ∷ get_or row 5 0 ∷ []

-- ---- the head: counts lie within the rooms
pub record HeadFits (row : List ℕ) : Type 0 where
  pub plain : row ≡ cells row
  pub keys : get_or row 1 0 ≤ 64
  pub made : get_or row 2 0 ≤ 256
  pub requests : get_or row 3 0 ≤ 256
  pub log : get_or row 4 0 ≤ 256
  pub text : get_or row 5 0 ≤ 32768

-- ---- unused room is zero
pub record Blank (t : Tables) : Type 0 where
  pub holders : ZeroFrom zero_row (key_count t) (holders t)
  pub asked : ZeroFrom zero_row (request_count t) (asked t)
  pub decided : ZeroFrom zero_row (request_count t) (decided t)
  pub revoked : ZeroFrom zero_row (made t) (revoked t)
  pub log : ZeroFrom zero_row (log_count t) (log t)
  pub held : ZeroFrom zero_key (key_count t) (held t)
  pub agents : ZeroFrom zero_key (request_count t) (agents t)
  pub approvers : ZeroFrom zero_key (request_count t) (approvers t)
  pub texts : ZeroFrom 0 (text_used t) t.texts

-- ---- a registered key's row: a named role, a registration below the count, made when no more than the requests were there; its pending count, 0 for an Approver
pub record HolderFits (made requests : ℕ) (row : List ℕ) : Type 0 where
  pub role : get_or row 1 0 ≤ 1
  pub number : get_or row 2 0 < made
  pub active : get_or row 3 0 ≤ requests
  pub pending : get_or row 4 0 ≤ 16
  pub idle : get_or row 1 0 ≡ 1 → get_or row 4 0 ≡ 0
  pub plain : row ≡ get_or row 0 0 ∷ get_or row 1 0 ∷ get_or row 2 0 ∷ get_or row 3 0 ∷ get_or row 4 0 ∷ 0 ∷ []

abbrev pub HoldersFit : ℕ → ℕ → ℕ → List (List ℕ) → Type 0
HoldersFit n made requests rows = (i : ℕ) → i < n → HolderFits made requests (get_or rows i [])

-- ---- a revocation's row: a mark of 0 or 1, no time without a mark
pub record RevokedFits (row : List ℕ) : Type 0 where
  pub mark : get_or row 0 0 ≤ 1
  pub height : get_or row 0 0 ≡ 0 → get_or row 1 0 ≡ 0
  pub timestamp : get_or row 0 0 ≡ 0 → get_or row 2 0 ≡ 0
  pub plain : row ≡ get_or row 0 0 ∷ get_or row 1 0 ∷ get_or row 2 0 ∷ 0 ∷ 0 ∷ 0 ∷ []

abbrev pub AllRevokedFit : ℕ → List (List ℕ) → Type 0
AllRevokedFit made rows = (g : ℕ) → g < made → RevokedFits (get_or rows g [])

-- ---- what was asked: a registration below the count, a text of legal length that starts where the last ended
pub record AskedFits (made : ℕ) (row : List ℕ) : Type 0 where
  pub number : get_or row 1 0 < made
  pub some_text : 0 < get_or row 3 0
  pub short : get_or row 3 0 ≤ 2048
  pub plain : row ≡ cells row

-- where the text of request n starts, if texts lie in request order without gaps
abbrev pub begins : List (List ℕ) → ℕ → ℕ
begins rows zero = 0
begins rows (suc n) = begins rows n + cell n 3 rows

pub record AllAskedFit (m made used : ℕ) (rows : List (List ℕ)) : Type 0 where
  pub each : (n : ℕ) → n < m → AskedFits made (get_or rows n [])
  pub joined : (n : ℕ) → n < m → cell n 2 rows ≡ begins rows n
  pub ends : begins rows m ≡ used

-- ---- a decision: absent and then zero; or by an account other than the agent's, under a registration below the count, with no index if it rejects
pub record DecidedFits (made agent : ℕ) (row key : List ℕ) : Type 0 where
  pub mark : get_or row 0 0 ≤ 2
  pub absent : get_or row 0 0 ≡ 0 → (row ≡ zero_row) × (key ≡ zero_key)
  pub known : (get_or row 0 0 ≡ 0 → ⊥) → get_or row 3 0 < made
  pub other : (get_or row 0 0 ≡ 0 → ⊥) → get_or row 2 0 ≢ agent
  pub unindexed : get_or row 0 0 ≡ 2 → get_or row 1 0 ≡ 0
  pub plain : row ≡ cells row

abbrev pub AllDecidedFit : ℕ → ℕ → List (List ℕ) → List (List ℕ) → List (List ℕ) → Type 0
AllDecidedFit m made asked rows keys = (n : ℕ) → n < m → DecidedFits made (cell n 0 asked) (get_or rows n []) (get_or keys n [])

-- ---- the log: slot j names exactly the request whose approval index is j, and there is one for each approved request
pub record SlotFits (m j : ℕ) (decided : List (List ℕ)) (row : List ℕ) : Type 0 where
  pub request : get_or row 0 0 < m
  pub approved : cell (get_or row 0 0) 0 decided ≡ 1
  pub index : cell (get_or row 0 0) 1 decided ≡ j
  pub plain : row ≡ get_or row 0 0 ∷ 0 ∷ 0 ∷ 0 ∷ 0 ∷ 0 ∷ []

pub record LogFits (k m : ℕ) (log decided : List (List ℕ)) : Type 0 where
  pub slots : (j : ℕ) → j < k → SlotFits m j decided (get_or log j [])
  pub indices : (n : ℕ) → n < m → cell n 0 decided ≡ 1 → (cell n 1 decided < k) × (cell (cell n 1 decided) 0 log ≡ n)
  pub long : k ≡ count m (λ n. eqb (cell n 0 decided) 1)

-- ---- registrations: in force under one key or revoked, never both, and no others
pub record Registered (n made : ℕ) (holders revoked : List (List ℕ)) : Type 0 where
  pub in_force : (i : ℕ) → i < n → cell (cell i 2 holders) 0 revoked ≡ 0
  pub one_key : (i j : ℕ) → i < n → j < n → cell i 2 holders ≡ cell j 2 holders → i ≡ j
  pub every : (g : ℕ) → g < made → cell g 0 revoked ≡ 0 → (i : ℕ) × (i < n) × (cell i 2 holders ≡ g)

-- ---- requests and the keys that they were made under
-- request n, of registration g: where g is in force at row i, that row has the request's key, is an Agent's, of the same account, since before the request
pub record OwnFits (n i : ℕ) (holders held asked agents : List (List ℕ)) : Type 0 where
  pub same_key : get_or held i [] ≡ get_or agents n []
  pub agent : cell i 1 holders ≡ 0
  pub same_account : cell i 0 holders ≡ cell n 0 asked
  pub since : cell i 3 holders ≤ n

-- and where g is in force nowhere, each row that has the request's key is younger than the request
pub record Lived (k m : ℕ) (holders held asked agents : List (List ℕ)) : Type 0 where
  pub own : (n : ℕ) → n < m → (i : ℕ) → i < k → cell i 2 holders ≡ cell n 1 asked → OwnFits n i holders held asked agents
  pub younger : (n : ℕ) → n < m → ((i : ℕ) → i < k → cell i 2 holders ≢ cell n 1 asked) → (i : ℕ) → i < k → get_or held i [] ≡ get_or agents n [] → n < cell i 3 holders

-- ---- pending counts: how many of the first m requests are undecided and of registration g
abbrev pub waiting : ℕ → List (List ℕ) → List (List ℕ) → ℕ → ℕ
waiting m asked decided g = count m (λ n. eqb (cell n 0 decided) 0 && eqb (cell n 1 asked) g)

abbrev pub Waits : ℕ → ℕ → List (List ℕ) → List (List ℕ) → List (List ℕ) → Type 0
Waits k m holders asked decided = (i : ℕ) → i < k → cell i 4 holders ≡ waiting m asked decided (cell i 2 holders)

-- ---- the whole check
pub record Fit (t : Tables) : Type 0 where
  pub sized : Sized t
  pub head : HeadFits (get_or t.book 0 [])
  pub blank : Blank t
  pub holders_fit : HoldersFit (key_count t) (made t) (request_count t) (holders t)
  pub revoked_fit : AllRevokedFit (made t) (revoked t)
  pub asked_fit : AllAskedFit (request_count t) (made t) (text_used t) (asked t)
  pub decided_fit : AllDecidedFit (request_count t) (made t) (asked t) (decided t) (approvers t)
  pub log_fits : LogFits (log_count t) (request_count t) (log t) (decided t)
  pub distinct : Distinct (key_count t) (held t)
  pub registered : Registered (key_count t) (made t) (holders t) (revoked t)
  pub lived : Lived (key_count t) (request_count t) (holders t) (held t) (asked t) (agents t)
  pub waits : Waits (key_count t) (request_count t) (holders t) (asked t) (decided t)
