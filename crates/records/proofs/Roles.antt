-- A role is known by its number. Assumes nothing.
use mathlib.Core.Path.{◌≡◌, refl, sym, ap, ◌∙◌}
use Prim.Native.Nat.{ℕ, zero, suc}
use Rattle.records.specs.declared.role.Role.{Role}
use Rattle.records.specs.declared.role.Role.TheVariants.{Agent, Approver}
use Rattle.records.specs.Roles.{role_number, role_of}

pub role_back : (r : Role) → role_of (role_number r) ≡ r
role_back Agent = refl
role_back Approver = refl

pub same_by_number : (a b : Role) → role_number a ≡ role_number b → a ≡ b
same_by_number a b e = sym (role_back a) ∙ ap role_of e ∙ role_back b

-- any number but 0 is an Approver's
pub not_agent : (n : ℕ) → (n ≡ 0 → ⊥) → Approver ≡ role_of n
not_agent zero h = absurd (h refl)
not_agent (suc n) h = refl
