-- A registration's end as code reads it from the row of its number. Assumes nothing.
use mathlib.Core.Path.{◌∙◌, ◌≡◌, ap, refl}
use Rattle.std.specs.Prelude as Std
use Prim.Native.Nat.{◌+◌, ◌<◌, ◌≤◌, ℕ}
use lib.ListN.{get_or, length}
use mathlib.Core.List.{[]}
use mathlib.Core.Option.{Option, none, some}
use native.Mathlib.Omega.{arith}
use Rattle.lists.proofs.Places.{at_below, past_end}
use Rattle.lists.specs.Places.{At}
use Rattle.machine.specs.Reads.{revocation, revocation_by}
use Rattle.machine.specs.Types.{Ledger}
use Rattle.records.specs.declared.BlockTime.{BlockTime}
use Rattle.tables.proofs.Indexed.{revoked_index}
use Rattle.tables.proofs.Laid.{laid}
use Rattle.tables.proofs.Rows.{made_is}
use Rattle.tables.specs.Parts.{cell, made}
use Rattle.tables.specs.Tables.{Stands, Tables, revoked_row}

unended : (o : Option BlockTime) → get_or (revoked_row o) 0 0 ≡ 0 → revocation_by (some o) ≡ Std.None
unended none e = refl
unended (some w) e = absurd (omega arith)

ended_so : (o : Option BlockTime) → (get_or (revoked_row o) 0 0 ≡ 0 → ⊥)
    → revocation_by (some o) ≡ Std.Some (record { height = get_or (revoked_row o) 1 0; timestamp_ns = get_or (revoked_row o) 2 0 })
ended_so none h = absurd (h refl)
ended_so (some w) h = refl

module _ {t : Tables} {L : Ledger} (st : Stands t L) where
  count_is : made t ≡ length L.revoked
  count_is = made_is st.sound (laid L st.laid)

module _ {t : Tables} {L : Ledger} (st : Stands t L) {g : ℕ} where
  pub never_made : made t ≤ g → revocation L g ≡ Std.None
  never_made h = ap revocation_by (past_end L.revoked g (rw (count_is st) at h))

  module _ (h : g < made t) where
    here : (o : Option BlockTime) × At L.revoked g o
    here = at_below L.revoked g (rw (count_is st) at h)

    row_is : get_or t.book (g + 577) [] ≡ revoked_row here.0
    row_is = revoked_index st here.1 (g + 577) (omega arith)

    pub in_force : cell (g + 577) 0 t.book ≡ 0 → revocation L g ≡ Std.None
    in_force e = ap revocation_by here.1.is ∙ unended here.0 (rw row_is at e)

    pub ended_then : (cell (g + 577) 0 t.book ≡ 0 → ⊥) → revocation L g ≡ Std.Some (record { height = cell (g + 577) 1 t.book; timestamp_ns = cell (g + 577) 2 t.book })
    ended_then e = ap revocation_by here.1.is ∙ rw row_is (ended_so here.0 (rw row_is at e))
