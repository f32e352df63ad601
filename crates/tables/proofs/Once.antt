-- Tables hold at most one sound ledger: the one that they show. Passing the check, holding a sound ledger and showing one are the same. Assumes nothing.
use mathlib.Core.Path.{◌∙◌, ◌≡◌, ap, refl, sym}
use Prim.Native.Nat.{◌+◌, ◌≤◌, suc, zero, ℕ}
use lib.Dec.{eqb}
use lib.ListN.{drop, get_or, length, take}
use lib.Seq.{drop-append-add, take-append_seam, take-take}
use mathlib.Core.Bool.{cond}
use mathlib.Core.List.{List, [], ◌++◌, ◌∷◌}
use mathlib.Core.Option.{Option, none, some}
use native.Mathlib.Omega.{arith}
use Rattle.lists.proofs.Maps.{at_map}
use Rattle.lists.proofs.Places.{at_head, at_nil, down}
use Rattle.lists.proofs.Tabs.{tab_places}
use Rattle.lists.specs.Places.{At}
use Rattle.machine.proofs.Keep.{asked_of}
use Rattle.machine.specs.Rooms.{text_room}
use Rattle.machine.specs.Sound.{Sound}
use Rattle.machine.specs.Tests.{asks, used}
use Rattle.machine.specs.Types.{Approved, Asked, Decision, Holder, Ledger, Rejected, Request, Undecided, Verdict}
use Rattle.records.proofs.Roles.{role_back}
use Rattle.records.specs.declared.BlockTime.{BlockTime}
use Rattle.rows.proofs.Padded.{take_padded}
use Rattle.tables.proofs.Fits.{fits}
use Rattle.tables.proofs.Laid.{Laid, laid}
use Rattle.tables.proofs.Relaid.{stands}
use Rattle.tables.proofs.Rows.{agent_row, approver_row, asked_row_lem, decided_row_lem, held_row, holder_row_lem, key_count_is, length_words, log_count_is, log_row_lem, made_is, owner_is, request_count_is, revoked_row_lem}
use Rattle.tables.specs.Fit.{Fit}
use Rattle.tables.specs.Parts.{key_count, log_count, made, request_count}
use Rattle.tables.specs.Tables.{Standing, Stands, Tables, decided_key, decided_row, revoked_row, words}
use Rattle.tables.specs.View.{asked_at, decision_at, holder_at, request_at, revocation_at, slot_at, text_at, view}

-- ---- a text is read where it was put
text_of : (all : List Asked) {n : ℕ} {a : Asked} → At all n a → take (length a.text) (drop (used (take n all)) (words all)) ≡ a.text
text_of [] h = absurd (at_nil h)
text_of (b ∷ rest) {n = zero} {a} h = ap (λ (x : Asked). take (length a.text) (x.text ++ words rest)) (at_head h) ∙ take-append_seam a.text (words rest)
text_of (b ∷ rest) {n = suc n} {a} h =
    ap (take (length a.text)) (drop-append-add b.text (words rest) (used (take n rest))) ∙ text_of rest (down h)

pub text_fits : (all : List Asked) {n : ℕ} {a : Asked} → At all n a → used (take n all) + length a.text ≤ used all
text_fits [] h = absurd (at_nil h)
text_fits (b ∷ rest) {n = zero} h = rw (at_head h) (omega arith)
text_fits (b ∷ rest) {n = suc n} h = omega (arith, text_fits rest (down h))

-- a part within the first k is a part of those
part_of_front : (l : List ℕ) (k start len : ℕ) → start + len ≤ k → take len (drop start l) ≡ take len (drop start (take k l))
part_of_front l k start len h = go l k start h
  where
    go : (l : List ℕ) (k start : ℕ) → start + len ≤ k → take len (drop start l) ≡ take len (drop start (take k l))
    go l k zero h = sym (take-take len k l (omega arith))
    go [] zero (suc start) h = refl
    go [] (suc k) (suc start) h = refl
    go (x ∷ l) zero (suc start) h = absurd (omega arith)
    go (x ∷ l) (suc k) (suc start) h = go l k start (omega arith)

module _ {t : Tables} (L : Ledger) (s : Sound L) (l : Laid t L) where
  pub text_shown : {n : ℕ} {r : Request} → At L.requests n r → text_at t n ≡ r.asked.text
  text_shown {n} {r} hr =
      let a = at_map asked_of hr in
      let front : take (length (words (asks L))) t.texts ≡ words (asks L) =
      ap (take (length (words (asks L)))) l.texts_are ∙ take_padded text_room 0 (words (asks L)) (rw length_words s.rooms.text) in
      rw (asked_row_lem s l hr) (
      part_of_front t.texts (length (words (asks L))) (used (take n (asks L))) (length r.asked.text) (rw length_words (text_fits (asks L) a))
      ∙ ap (λ (w : List ℕ). take (length r.asked.text) (drop (used (take n (asks L))) w)) front
      ∙ text_of (asks L) a
      )

  holder_shown : (i : ℕ) (p : Holder) → At L.keys i p → p ≡ holder_at t i
  holder_shown i p hp =
      let key = held_row s l hp in
      let row = holder_row_lem s l hp in
      sym (rw row (λ j. record { reg = record { key = key j; account = p.reg.account; role = role_back p.reg.role j; number = p.reg.number; active = p.reg.active }; pending = p.pending }))

  revocation_shown : (g : ℕ) (o : Option BlockTime) → At L.revoked g o → o ≡ revocation_at t g
  revocation_shown g o ho = sym (rw (revoked_row_lem s l ho) (go o))
    where
      go : (o : Option BlockTime) → cond (eqb (get_or (revoked_row o) 0 0) 0) none (some (record { height = get_or (revoked_row o) 1 0; timestamp_ns = get_or (revoked_row o) 2 0 })) ≡ o
      go none = refl
      go (some w) = refl

  decision_shown : (n : ℕ) (r : Request) → At L.requests n r → r.decision ≡ decision_at t n
  decision_shown n r hr = sym (rw (decided_row_lem s l hr, approver_row s l hr) (go r.decision))
    where
      go : (d : Decision)
          → (let v : Verdict = record { key = decided_key d; account = get_or (decided_row d) 2 0; number = get_or (decided_row d) 3 0; time = record { height = get_or (decided_row d) 4 0; timestamp_ns = get_or (decided_row d) 5 0 } } in
          cond (eqb (get_or (decided_row d) 0 0) 0) Undecided (cond (eqb (get_or (decided_row d) 0 0) 1) (Approved (get_or (decided_row d) 1 0) v) (Rejected v))) ≡ d
      go Undecided = refl
      go (Approved j v) = refl
      go (Rejected v) = refl

  request_shown : (n : ℕ) (r : Request) → At L.requests n r → r ≡ request_at t n
  request_shown n r hr =
      let key = agent_row s l hr in
      let text = text_shown hr in
      let decision = decision_shown n r hr in
      let asked-same : asked_at t n ≡ r.asked = rw (asked_row_lem s l hr) (λ j. record { key = key j; account = r.asked.account; number = r.asked.number; text = (rw (asked_row_lem s l hr) at text) j; time = r.asked.time }) in
      λ j. record { asked = sym asked-same j; decision = decision j }

  slot_shown : (j n : ℕ) → At L.log j n → n ≡ slot_at t j
  slot_shown j n h = sym (ap (λ (row : List ℕ). get_or row 0 0) (log_row_lem s l h))

  pub shown : L ≡ view t
  unfolding view
  shown =
      let keys = tab_places L.keys (key_count t) (holder_at t) (sym (key_count_is s l)) holder_shown in
      let revoked = tab_places L.revoked (made t) (revocation_at t) (sym (made_is s l)) revocation_shown in
      let requests = tab_places L.requests (request_count t) (request_at t) (sym (request_count_is s l)) request_shown in
      let log = tab_places L.log (log_count t) (slot_at t) (sym (log_count_is s l)) slot_shown in
      let owned = owner_is s l in
      λ i. record { owner = sym owned i; keys = keys i; revoked = revoked i; requests = requests i; log = log i }

-- sound tables determine their ledger
pub one_ledger : {t : Tables} {L M : Ledger} → Stands t L → Stands t M → L ≡ M
one_ledger {L = L} {M} a b = shown L a.sound (laid L a.laid) ∙ sym (shown M b.sound (laid M b.laid))

-- and a ledger its tables, byte for byte
pub one_laying : {t u : Tables} {L : Ledger} → Stands t L → Stands u L → t ≡ u
one_laying a b = a.laid ∙ sym b.laid

pub standing : {t : Tables} → Fit t → Standing t
standing {t} f = record { ledger = view t; stands = stands f }

pub fits_standing : {t : Tables} → Standing t → Fit t
fits_standing w = fits w.stands
