-- The tests and searches that the plans are made of. Assumes nothing.
use Rattle.std.specs.Prelude.{ℕ, suc, ◌+◌, Bool, true, false, ◌&&◌, cond, List, [], ◌∷◌, map, length, leb, eqb}
use Rattle.std.proofs.Math.Option.{Option, none, some}
use Rattle.records.specs.declared.role.Role.{Role}
use Rattle.records.specs.declared.role.Role.TheVariants.{Agent}
use Rattle.records.specs.Roles.{role_number}
use Rattle.machine.specs.Types.{Bytes, Registration, Holder, Decision, Undecided, Approved, Rejected, Asked, Ledger}

abbrev pub same : Bytes → Bytes → Bool
same [] [] = true
same [] (y ∷ ys) = false
same (x ∷ xs) [] = false
same (x ∷ xs) (y ∷ ys) = eqb x y && same xs ys

abbrev pub same_role : Role → Role → Bool
same_role a b = eqb (role_number a) (role_number b)

abbrev pub present : {A : Type 0} → Option A → Bool
present none = false
present (some a) = true

-- ---- keys
-- a key's place among the registered ones, and what stands there
pub record Place : Type 0 where
  pub at : ℕ
  pub is : Holder

abbrev pub next : Option Place → Option Place
next none = none
next (some f) = some (record { at = suc f.at; is = f.is })

abbrev pub seek : Bytes → List Holder → Option Place
seek k [] = none
seek k (p ∷ ps) = cond (same k p.reg.key) (some (record { at = 0; is = p })) (next (seek k ps))

-- ---- columns
abbrev pub regs : Ledger → List Registration
regs L = map (λ p. p.reg) L.keys

abbrev pub asks : Ledger → List Asked
asks L = map (λ r. r.asked) L.requests

-- the text bytes used
abbrev pub used : List Asked → ℕ
used [] = 0
used (a ∷ rest) = length a.text + used rest

-- ---- decisions
-- how a request may be decided
pub data Ruling : Type 0 where
  granting denying : Ruling

abbrev pub same_ruling : Ruling → Ruling → Bool
same_ruling granting granting = true
same_ruling granting denying = false
same_ruling denying granting = false
same_ruling denying denying = true

abbrev pub ruled : Decision → Option Ruling
ruled Undecided = none
ruled (Approved j v) = some granting
ruled (Rejected v) = some denying

abbrev pub is_ruling : Ruling → Option Ruling → Bool
is_ruling k none = false
is_ruling k (some j) = same_ruling j k

abbrev pub decided_so : Ruling → Decision → Bool
decided_so k d = is_ruling k (ruled d)

abbrev pub approved : Decision → Bool
approved = decided_so granting

abbrev pub rejected : Decision → Bool
rejected = decided_so denying

-- ---- liveness (the source's `live_agent_registration`): the requester's key, registered as an Agent's for that account since before the request
abbrev pub live_under : ℕ → Asked → Option Place → Option Place
live_under n a none = none
live_under n a (some f) =
    let p : Registration = f.is.reg in
    cond (same_role p.role Agent && eqb p.account a.account && leb p.active n) (some f) none

abbrev pub live : Ledger → ℕ → Asked → Option Place
live L n a = live_under n a (seek a.key L.keys)
