-- A walk by pages lists the log, each slot once, whatever changes come between its pages; and so does the source's client. Assumes nothing.
use mathlib.Core.Logic.{inl, inr}
use mathlib.Core.Path.{◌∙◌, ◌≡◌, ap, refl, sym}
use Prim.Native.Nat.{◌+◌, ◌-◌, ◌<◌, ◌≤◌, min, suc, zero, ℕ}
use lib.ListN.{drop, drop_of_length-le, length, length-append, length-drop, length-map, length-take, take, take-append-drop}
use lib.Seq.{drop-append_seam, drop-drop}
use mathlib.Core.List.{List, [], ◌++◌, ◌∷◌, append_assoc, append-nil, map, map-append}
use mathlib.Core.Option.{some}
use native.Mathlib.Nat.{zero-add}
use native.Mathlib.Omega.{arith}
use Rattle.history.proofs.Grows.{grows_run}
use Rattle.history.proofs.Hist.{proof_kept}
use Rattle.history.specs.Walks.{Lists, Walk, client, due, setting_out, walk}
use Rattle.ids.proofs.Flags.{lt_or_ge}
use Rattle.lists.proofs.Places.{at_append, at_nil, goes_on_from, upto_append}
use Rattle.lists.specs.Places.{At, upto}
use Rattle.machine.proofs.Keep.{sound_run}
use Rattle.machine.proofs.Pages.{log_short, page_entry, page_long, page_requests, page_slots}
use Rattle.machine.specs.Machine.{run}
use Rattle.machine.specs.Reads.{approval, entries, entry, page, page_end}
use Rattle.machine.specs.Sound.{Sound}
use Rattle.machine.specs.Told.{Texted}
use Rattle.machine.specs.Types.{Change, Ledger}
use Rattle.records.specs.declared.ApprovalProof.{ApprovalProof}
use Rattle.records.specs.declared.PageEntry.{PageEntry}

abbrev slot_of : PageEntry → ℕ
slot_of e = e.slot

abbrev named : PageEntry → ℕ
named e = e.request_id.0

-- what is listed so far is a front of the log: its slots in order, its requests, and the proof of each
record Front (w : Walk) : Type 0 where
  rest : List ℕ
  front : w.ledger.log ≡ map named w.listed ++ rest
  slots : map slot_of w.listed ≡ upto 0 (length w.listed)
  proofs : {j : ℕ} {e : PageEntry} → At w.listed j e → (p : Texted ApprovalProof) × (approval w.ledger (named e) ≡ some p) × (e ≡ entry j p.is)

-- a page from the end of a is a front of what follows a
page_is : (L : Ledger) (a b : List ℕ) (from limit : ℕ) → from ≡ length a → L.log ≡ a ++ b → page L from limit ≡ take (page_end L from limit - from) b
page_is L a b from limit f e =
    ap (λ (l : List ℕ). take (page_end L from limit - from) (drop from l)) e ∙ ap (λ (k : ℕ). take (page_end L from limit - from) (drop k (a ++ b))) f
    ∙ ap (take (page_end L from limit - from)) (drop-append_seam a b)

module _ (limit : ℕ) (w : Walk) (s : Sound w.ledger) (f : Front w) where
  names_long : length w.listed ≡ length (map named w.listed)
  names_long = sym (length-map w.listed named)

  due_is : map named (due limit w) ≡ take (page_end w.ledger (length w.listed) limit - length w.listed) f.rest
  due_is = page_requests w.ledger s (length w.listed) limit ∙ page_is w.ledger (map named w.listed) f.rest (length w.listed) limit names_long f.front

  due_slots : map slot_of (due limit w) ≡ upto (length w.listed) (length (due limit w))
  due_slots = page_slots w.ledger s (length w.listed) limit ∙ ap (upto (length w.listed)) (sym (page_long w.ledger s (length w.listed) limit))

  -- one page more, and then the changes cs
  further : (cs : List Change) → Front (record { ledger = run w.ledger cs; listed = w.listed ++ due limit w })
  further cs =
      let k = page_end w.ledger (length w.listed) limit - length w.listed in
      let g = grows_run s cs in
      let more = goes_on_from w.ledger.log (run w.ledger cs).log (λ i x a. g.log_kept a) in
      record {
        rest = drop k f.rest ++ more.0;
        front =
            more.1 ∙ ap (λ (l : List ℕ). l ++ more.0) (f.front ∙ ap (λ (l : List ℕ). map named w.listed ++ l) (sym (take-append-drop k f.rest)))
            ∙ rw (map-append named w.listed (due limit w), due_is) (simp append_assoc);
        slots = rw (map-append slot_of w.listed (due limit w), length-append, upto_append, zero-add) (cc (f.slots, due_slots));
        proofs = λ {j} h. elim (at_append w.listed (due limit w) h) [
          | inl a ↦ let p = f.proofs a in (p.0, proof_kept g _ p.0 p.1, p.2)
          | inr b ↦
              let p = page_entry w.ledger s (length w.listed) limit b.2 in
              (p.0, proof_kept g _ p.0 p.1, rw b.1 p.2)
        ];
      }

  -- an empty page, of a limit that is not 0: all is listed
  ended : 0 < limit → due limit w ≡ [] → Lists w
  ended some-limit e = go f.rest f.front due_is
    where
      go : (rest : List ℕ) → w.ledger.log ≡ map named w.listed ++ rest
          → map named (due limit w) ≡ take (page_end w.ledger (length w.listed) limit - length w.listed) rest → Lists w
      go [] fr q =
          let same : w.ledger.log ≡ map named w.listed = fr ∙ append-nil _ in
          record { slots = f.slots ∙ ap (upto 0) (names_long ∙ ap length (sym same)); requests = sym same; proofs = f.proofs }
      go (x ∷ rest) fr q =
          let n = length w.listed in
          let k = page_end w.ledger n limit - n in
          let short : length (take k (x ∷ rest)) ≡ 0 = ap length (sym q ∙ ap (map named) e) in
          absurd (omega (arith, short, length-take k (x ∷ rest), log_short w.ledger s, ap length fr, length-append (map named w.listed) (x ∷ rest), names_long))

fronts : (limit : ℕ) (w : Walk) → Sound w.ledger → Front w → (css : List (List Change)) → Front (walk limit w css) × Sound (walk limit w css).ledger
fronts limit w s f [] = (f, s)
fronts limit w s f (cs ∷ css) = fronts limit (record { ledger = run w.ledger cs; listed = w.listed ++ due limit w }) (sound_run w.ledger s cs) (further limit w s f cs) css

-- From slot 0, a limit of at least 1, up to the first empty page
pub walk_lists : (limit : ℕ) → 0 < limit → (L : Ledger) → Sound L → (css : List (List Change)) → due limit (walk limit (setting_out L) css) ≡ [] → Lists (walk limit (setting_out L) css)
walk_lists limit some-limit L s css e =
    let start : Front (setting_out L) = record { rest = L.log; front = refl; slots = refl; proofs = λ h. absurd (at_nil h) } in
    let f = fronts limit (setting_out L) s start css in
    ended limit (walk limit (setting_out L) css) f.1 f.0 some-limit e

-- past the end it is all the same where one drops
dropped : (k : ℕ) (l : List ℕ) (n : ℕ) → n ≡ min k (length l) → drop n l ≡ drop k l
dropped k l n e = elim (lt_or_ge k (length l)) [
  | inl lt ↦ let same : n ≡ k = omega arith in ap (λ (m : ℕ). drop m l) same
  | inr ge ↦ let whole : length l ≤ n = omega arith in drop_of_length-le l whole ∙ sym (drop_of_length-le l ge)
]

-- ---- the source's client: as many pages as the log has slots are enough
module _ (L : Ledger) (s : Sound L) (limit : ℕ) (some-limit : 0 < limit) where
  client_from : (fuel from : ℕ) → length L.log ≤ from + fuel → map named (client L fuel from limit) ≡ drop from L.log
  client_from zero from h = let whole : length L.log ≤ from = omega arith in sym (drop_of_length-le L.log whole)
  client_from (suc fuel) from h =
      let k = page_end L from limit - from in
      let p = page_requests L s from limit in
      let long : length (entries L from limit) ≡ length (take k (drop from L.log)) = page_long L s from limit in
      map-append named (entries L from limit) (client L fuel (from + length (entries L from limit)) limit)
      ∙ ap (λ (l : List ℕ). l ++ map named (client L fuel (from + length (entries L from limit)) limit)) p
      ∙ ap (λ (l : List ℕ). take k (drop from L.log) ++ l) (client_from fuel (from + length (entries L from limit)) (more fuel from h long) ∙ rest from k long)
      ∙ take-append-drop k (drop from L.log)
    where
      -- a page that is not at the end has an entry
      more : (fuel from : ℕ) → length L.log ≤ from + suc fuel → length (entries L from limit) ≡ length (take (page_end L from limit - from) (drop from L.log))
          → length L.log ≤ from + length (entries L from limit) + fuel
      more fuel from h long = omega (arith, long, length-take (page_end L from limit - from) (drop from L.log), length-drop from L.log, log_short L s)

      rest : (from k : ℕ) → length (entries L from limit) ≡ length (take k (drop from L.log)) → drop (from + length (entries L from limit)) L.log ≡ drop k (drop from L.log)
      rest from k long = sym (drop-drop (length (entries L from limit)) from L.log) ∙ dropped k (drop from L.log) (length (entries L from limit)) (long ∙ length-take k (drop from L.log))

  pub client_lists : map named (client L (length L.log) 0 limit) ≡ L.log
  client_lists = client_from (length L.log) 0 (omega arith)
