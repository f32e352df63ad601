-- Which tags are known, a run of them at a time, by computation. Assumes nothing.
use Rattle.std.proofs.Common.{◌≡◌, ℕ, ◌<◌, ◌≤◌, true, false, refl, arith}
use Rattle.fields.specs.Fields.{known}
use Rattle.fields.proofs.Tags.{at}

-- kinds, and fields up to the account and from the role on
pub kinds_known : (t : ℕ) → 0x01 ≤ t → t ≤ 0x08 → true ≡ known t
unfolding known
kinds_known t h₁ h₂ = at true known 0x01 8 refl t h₁ (omega arith)

pub fields_known : (t : ℕ) → 0x10 ≤ t → t ≤ 0x13 → true ≡ known t
unfolding known
fields_known t h₁ h₂ = at true known 0x10 4 refl t h₁ (omega arith)

pub later_fields_known : (t : ℕ) → 0x15 ≤ t → t ≤ 0x1A → true ≡ known t
unfolding known
later_fields_known t h₁ h₂ = at true known 0x15 6 refl t h₁ (omega arith)

-- and all others
pub zero_unknown : (t : ℕ) → t < 0x01 → false ≡ known t
unfolding known
zero_unknown t h = at false known 0x00 1 refl t (omega arith) (omega arith)

pub between_unknown : (t : ℕ) → 0x08 < t → t < 0x10 → false ≡ known t
unfolding known
between_unknown t h₁ h₂ = at false known 0x09 7 refl t (omega arith) (omega arith)

pub skipped_unknown : (t : ℕ) → 0x13 < t → t < 0x15 → false ≡ known t
unfolding known
skipped_unknown t h₁ h₂ = at false known 0x14 1 refl t (omega arith) (omega arith)

pub above_unknown : (t : ℕ) → 0x1A < t → t < 256 → false ≡ known t
unfolding known
above_unknown t h₁ h₂ = at false known 0x1B 229 refl t (omega arith) (omega arith)

pub ruleset tags_known = (kinds_known, fields_known, later_fields_known, zero_unknown, between_unknown, skipped_unknown, above_unknown)
