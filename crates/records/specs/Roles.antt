-- A role's number, in tables and in command files (document 01, field 15), and back. Assumes nothing.
use Rattle.std.specs.Prelude.{ℕ, zero, suc}
use Rattle.records.specs.declared.role.Role.{Role}
use Rattle.records.specs.declared.role.Role.TheVariants.{Agent, Approver}

abbrev pub role_number : Role → ℕ
role_number Agent = 0
role_number Approver = 1

abbrev pub role_of : ℕ → Role
role_of zero = Agent
role_of (suc n) = Approver
