-- A request is live, or not, by what code reads of the tables: its key's place, and the cells of that place and of the request. Assumes nothing.
use mathlib.Core.Path.{◌∙◌, ◌≡◌, ap, refl, sym}
use Prim.Native.Nat.{◌+◌, ◌<◌, ◌≤◌, ℕ}
use lib.ListN.{get_or}
use mathlib.Core.List.{List, []}
use mathlib.Core.Option.{none}
use native.Mathlib.Omega.{arith}
use Rattle.std.specs.Prelude.{Some, None}
use Rattle.ledger_live.specs.Lives.{LivesAs}
use Rattle.lists.specs.Places.{At}
use Rattle.machine.proofs.Look.{Lives, lives_back, lives_not}
use Rattle.machine.specs.Tests.{live, live_under}
use Rattle.machine.specs.Types.{Ledger, Request}
use Rattle.records.proofs.Roles.{same_by_number}
use Rattle.records.specs.Roles.{role_number}
use Rattle.records.specs.declared.role.Role.TheVariants.{Agent}
use Rattle.rows.specs.Finds.{Finds}
use Rattle.tables.proofs.Indexed.{agent_index, asked_index, holder_index}
use Rattle.tables.proofs.Seeks.{Sought, seek_found, seek_missing}
use Rattle.tables.specs.Parts.{cell, key_count}
use Rattle.tables.specs.Tables.{Stands, Tables, holder_row}

module _ {t : Tables} {L : Ledger} (st : Stands t L) {n : ℕ} {r : Request} (hr : At L.requests n r) where
  key_is : get_or t.keys (n + 64) [] ≡ r.asked.key
  key_is = agent_index st hr (n + 64) (omega arith)

  account_is : cell (n + 65) 0 t.book ≡ r.asked.account
  account_is = ap (λ (row : List ℕ). get_or row 0 0) (asked_index st hr (n + 65) (omega arith))

  pub unregistered : Finds (key_count t) t.keys (get_or t.keys (n + 64) []) None → live L n r.asked ≡ none
  unregistered f = ap (live_under n r.asked) (seek_missing st r.asked.key (key_count t) refl (rw key_is at f))

  module _ (i : ℕ) (f : Finds (key_count t) t.keys (get_or t.keys (n + 64) []) (Some i)) where
    found : Sought st r.asked.key i
    found = seek_found st r.asked.key (key_count t) i refl (rw key_is at f)

    row_is : get_or t.book (i + 1) [] ≡ holder_row found.holder
    row_is = holder_index st found.here (i + 1) (omega arith)

    cell_is : (k : ℕ) → cell (i + 1) k t.book ≡ get_or (holder_row found.holder) k 0
    cell_is k = ap (λ (row : List ℕ). get_or row k 0) row_is

    dead : (Lives n r.asked found.holder.reg → ⊥) → live L n r.asked ≡ none
    dead h = ap (live_under n r.asked) found.sought ∙ lives_not n r.asked (record { at = i; is = found.holder }) h

    -- ---- the tests, as they fail
    pub not_agent : (cell (i + 1) 1 t.book ≡ role_number Agent → ⊥) → live L n r.asked ≡ none
    not_agent h = dead (λ l. h (cell_is 1 ∙ ap role_number l.agent))

    pub other_account : (cell (i + 1) 0 t.book ≡ cell (n + 65) 0 t.book → ⊥) → live L n r.asked ≡ none
    other_account h = dead (λ l. h (cell_is 0 ∙ l.account ∙ sym account_is))

    pub registered_since : n < cell (i + 1) 3 t.book → live L n r.asked ≡ none
    registered_since h = dead (λ l. omega (arith, cell_is 3, l.since))

    -- and all hold
    pub alive : cell (i + 1) 1 t.book ≡ role_number Agent → cell (i + 1) 0 t.book ≡ cell (n + 65) 0 t.book → cell (i + 1) 3 t.book ≤ n → LivesAs L (live L n r.asked) (Some i)
    alive role account since =
        let l : Lives n r.asked found.holder.reg =
        record { agent = same_by_number _ _ (sym (cell_is 1) ∙ role); account = sym (cell_is 0) ∙ account ∙ account_is; since = omega (arith, cell_is 3) } in
        (found.holder, found.here, ap (live_under n r.asked) found.sought ∙ lives_back n r.asked (record { at = i; is = found.holder }) l)
