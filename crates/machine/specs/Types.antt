-- The ledger and what may change it (document 01, modules 2 and 3). Accounts, requests and registrations are plain numbers here, since a request's
-- number is its place in a list and so is a registration's; code has a type for each (crate `ids`). Assumes nothing.
use Rattle.std.specs.Prelude.{ℕ, List}
use Rattle.std.proofs.Math.Option.{Option}
use Rattle.records.specs.declared.BlockTime.{BlockTime}
use Rattle.records.specs.declared.Caller.{Caller}
use Rattle.records.specs.declared.role.Role.{Role}

abbrev pub Bytes : Type 0
Bytes = List ℕ

-- a key's registration, which never changes; `active` is the request count at which it was made
pub record Registration : Type 0 where
  pub key : Bytes
  pub account : ℕ
  pub role : Role
  pub number : ℕ
  pub active : ℕ

-- a registered key: its registration, and its pending count, which changes
pub record Holder : Type 0 where
  pub reg : Registration
  pub pending : ℕ

-- who decided a request, and when
pub record Verdict : Type 0 where
  pub key : Bytes
  pub account : ℕ
  pub number : ℕ
  pub time : BlockTime

-- at most one decision: none, an approval with its index in the log, or a rejection
pub data Decision : Type 0 where
  Undecided : Decision
  Approved : ℕ → Verdict → Decision
  Rejected : Verdict → Decision

-- what was asked for, which never changes
pub record Asked : Type 0 where
  pub key : Bytes
  pub account : ℕ
  pub number : ℕ
  pub text : Bytes
  pub time : BlockTime

pub record Request : Type 0 where
  pub asked : Asked
  pub decision : Decision

-- registered keys in the order added; by registration number, its revocation or none; requests by number; the log by slot
pub record Ledger : Type 0 where
  pub owner : ℕ
  pub keys : List Holder
  pub revoked : List (Option BlockTime)
  pub requests : List Request
  pub log : List ℕ

-- the five changes, with their arguments
pub data Change : Type 0 where
  add : (caller : ℕ) (key : Bytes) (account : ℕ) (role : Role) → Change
  revoke : (caller : ℕ) (key : Bytes) (now : BlockTime) → Change
  request : (c : Caller) (text : Bytes) (now : BlockTime) → Change
  approve : (c : Caller) (n : ℕ) (text : Bytes) (now : BlockTime) → Change
  reject : (c : Caller) (n : ℕ) (now : BlockTime) → Change
