-- Each way out of `authenticate` once the call is direct, by what its tests read in the tables. Assumes nothing.
use mathlib.Core.Path.{◌∙◌, ◌≡◌, ap, refl, sym}
use Prim.Native.Nat.{◌+◌, ℕ}
use borrow.Author.Tests.{eq-eqb, ne_eqb}
use lib.Dec.{eqb}
use lib.ListN.{get_or}
use mathlib.Core.Bool.{false, not}
use mathlib.Core.List.{List}
use native.Mathlib.Omega.{arith}
use Rattle.std.specs.Prelude.{Some, None, Ok, Err}
use Rattle.ledger_callers.specs.Authenticates.{Authenticates}
use Rattle.machine.specs.Types.{Ledger}
use Rattle.records.specs.Roles.{role_number}
use Rattle.records.specs.declared.Caller.{Caller}
use Rattle.records.specs.declared.role.Role.{Role}
use Rattle.records.specs.declared.refusal.Refusal.TheVariants.{KeyAccountMismatch, UnknownKey, WrongRole}
use Rattle.rows.specs.Finds.{Finds}
use Rattle.tables.proofs.Indexed.{holder_index}
use Rattle.tables.proofs.Seeks.{Sought, seek_found, seek_missing}
use Rattle.tables.specs.Parts.{cell, key_count}
use Rattle.tables.specs.Tables.{Stands, Tables, holder_row}

module _ (t : Tables) (caller : Caller) (role : Role) (direct : not (eqb caller.predecessor.0 caller.signer.0) ≡ false) where
  pub unknown : Finds (key_count t) t.keys caller.signer_key None → Authenticates t caller role (Err UnknownKey)
  unknown f L st = rw (direct, seek_missing st caller.signer_key (key_count t) refl f)

  module _ (i : ℕ) (f : Finds (key_count t) t.keys caller.signer_key (Some i)) where
    sought : {L : Ledger} (st : Stands t L) → Sought st caller.signer_key i
    sought st = seek_found st caller.signer_key (key_count t) i refl f

    -- cell c of the row that was found is the holder's
    holder_cell : {L : Ledger} (st : Stands t L) (c : ℕ) → cell (i + 1) c t.book ≡ get_or (holder_row (sought st).holder) c 0
    holder_cell st c = ap (λ (row : List ℕ). get_or row c 0) (holder_index st (sought st).here (i + 1) (omega arith))

    pub wrong_role : (cell (i + 1) 1 t.book ≡ role_number role → ⊥) → Authenticates t caller role (Err WrongRole)
    wrong_role n L st =
        let s = sought st in
        rw (direct, s.sought, ne_eqb (role_number s.holder.reg.role) (role_number role) (λ e. n (holder_cell st 1 ∙ e)))

    module _ (right : cell (i + 1) 1 t.book ≡ role_number role) where
      pub mismatch : (cell (i + 1) 0 t.book ≡ caller.signer.0 → ⊥) → Authenticates t caller role (Err KeyAccountMismatch)
      mismatch n L st =
          let s = sought st in
          rw (
            direct,
            s.sought,
            eq-eqb (role_number s.holder.reg.role) (role_number role) (sym (holder_cell st 1) ∙ right),
            ne_eqb s.holder.reg.account caller.signer.0 (λ e. n (holder_cell st 0 ∙ e)),
          )

      pub authentic : cell (i + 1) 0 t.book ≡ caller.signer.0 → Authenticates t caller role (Ok i)
      authentic own = (
        f.0,
        λ L st.
            let s = sought st in (
              s.holder,
              s.here,
              rw (
                direct,
                s.sought,
                eq-eqb (role_number s.holder.reg.role) (role_number role) (sym (holder_cell st 1) ∙ right),
                eq-eqb s.holder.reg.account caller.signer.0 (sym (holder_cell st 0) ∙ own),
              ),
            ),
      )
