-- A search of the lent keys is the machine's search of the registered ones. Assumes nothing.
use mathlib.Core.Logic.{◌≢◌}
use mathlib.Core.Path.{◌∙◌, ◌≡◌, refl, sym}
use Prim.Native.Nat.{◌<◌, suc, zero, ℕ}
use mathlib.Core.List.{List, [], ◌∷◌}
use mathlib.Core.Option.{none, some}
use native.Mathlib.Omega.{arith}
use Rattle.lists.proofs.Places.{at_below, at_head, at_lt, at_nil, down, up}
use Rattle.lists.specs.Places.{At}
use Rattle.machine.proofs.Look.{same_false, same_refl}
use Rattle.machine.specs.Tests.{seek}
use Rattle.machine.specs.Types.{Bytes, Holder, Ledger}
use Rattle.rows.specs.Finds.{Finds}
use Rattle.tables.proofs.Indexed.{held_index}
use Rattle.tables.proofs.Laid.{laid}
use Rattle.tables.proofs.Rows.{key_count_is}
use Rattle.tables.specs.Parts.{key_count}
use Rattle.tables.specs.Tables.{Stands, Tables}
use Rattle.std.specs.Prelude.{Some, None}

seek_at : (key : Bytes) (ks : List Holder) {i : ℕ} {p : Holder} → At ks i p → p.reg.key ≡ key → ((k : ℕ) (q : Holder) → k < i → At ks k q → q.reg.key ≢ key)
    → seek key ks ≡ some (record { at = i; is = p })
seek_at key [] h e first = absurd (at_nil h)
seek_at key (q ∷ qs) {i = zero} {p} h e first = rw (at_head h, e, same_refl key)
seek_at key (q ∷ qs) {i = suc i} {p} h e first =
    rw (same_false key q.reg.key (λ w. first 0 q (omega arith) (record { is = refl }) (sym w)), seek_at key qs (down h) e (λ k r l a. first (suc k) r (omega arith) (up a)))

seek_nowhere : (key : Bytes) (ks : List Holder) → ((k : ℕ) (q : Holder) → At ks k q → q.reg.key ≢ key) → seek key ks ≡ none
seek_nowhere key [] h = refl
seek_nowhere key (q ∷ qs) h =
    rw (same_false key q.reg.key (λ w. h 0 q (record { is = refl }) (sym w)), seek_nowhere key qs (λ k r a. h (suc k) r (up a)))

module _ {t : Tables} {L : Ledger} (st : Stands t L) (key : Bytes) where
  -- a registered key, where the search found it
  pub record Sought (i : ℕ) : Type 0 where
    pub holder : Holder
    pub here : At L.keys i holder
    pub key_is : holder.reg.key ≡ key
    pub sought : seek key L.keys ≡ some (record { at = i; is = holder })

  pub seek_found : (n i : ℕ) → n ≡ key_count t → Finds n t.keys key (Some i) → Sought i
  seek_found n i e f =
      let (p, hp) = at_below L.keys i (rw (key_count_is st.sound (laid L st.laid)) at (rw e at f.0)) in
      let k = sym (held_index st hp) ∙ f.1 in
      record { holder = p; here = hp; key_is = k; sought = seek_at key L.keys hp k (λ j q l hq w. f.2 j l (held_index st hq ∙ w)) }

  pub seek_missing : (n : ℕ) → n ≡ key_count t → Finds n t.keys key None → seek key L.keys ≡ none
  seek_missing n e f = seek_nowhere key L.keys (λ k q hq w. f k (rw (e, key_count_is st.sound (laid L st.laid)) (at_lt hq)) (held_index st hq ∙ w))
