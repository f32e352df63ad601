-- Each way out of `request_sound`, by what its tests read in the tables. Assumes nothing.
use mathlib.Core.Path.{◌∙◌, ◌≡◌}
use Prim.Native.Nat.{◌+◌, ◌<◌, ◌≤◌, ℕ}
use borrow.Author.Tests.{le-leb, le-ltb, lt-leb, lt-ltb}
use lib.Dec.{eqb, leb, ltb}
use lib.ListN.{length}
use mathlib.Core.List.{List, [], ◌∷◌}
use Rattle.std.proofs.Common.{false, true, Result, Ok, Err, None}
use Rattle.answers.proofs.Doing.{part_did, part_refused}
use Rattle.answers.specs.Answers.{requested}
use Rattle.answers.specs.Calls.{request_call}
use Rattle.answers.specs.Does.{Part}
use Rattle.ledger_callers.specs.Authenticates.{Authenticates}
use Rattle.ledger_requests.proofs.Cells.{count_is, holder_cell, used_is}
use Rattle.ledger_requests.proofs.Laying.{request_laid}
use Rattle.ledger_requests.specs.Recorded.{request_told}
use Rattle.ledger_requests.specs.Stores.{Stored}
use Rattle.lists.specs.Places.{At}
use Rattle.machine.proofs.Keep.{sound_request}
use Rattle.machine.proofs.Plans.{bind_did, bind_refused}
use Rattle.machine.specs.Machine.{Did, asked_by, authenticate, did_request, request_in}
use Rattle.machine.specs.Plan.{Plan, ◌>>◌, done, outcome, refuse◌if◌, refused}
use Rattle.machine.specs.Rooms.{pending_limit, request_room, text_limit, text_room}
use Rattle.machine.specs.Tests.{Place, asks, used}
use Rattle.machine.specs.Told.{Texted, id_of_request}
use Rattle.machine.specs.Types.{Asked, Bytes, Holder, Ledger}
use Rattle.records.specs.declared.ActionRequest.{ActionRequest}
use Rattle.records.specs.declared.BlockTime.{BlockTime}
use Rattle.records.specs.declared.Caller.{Caller}
use Rattle.records.specs.declared.role.Role.TheVariants.{Agent}
use Rattle.records.specs.declared.refusal.Refusal.{Refusal}
use Rattle.records.specs.declared.refusal.Refusal.TheVariants.{ActionTooLong, EmptyAction, LogFull, TextFull, TooManyPending}
use Rattle.tables.specs.Parts.{cell, request_count, text_used}
use Rattle.tables.specs.Tables.{Stands, Tables, asked_row, tables}

module _ (c : Caller) (text : Bytes) (time : BlockTime) where
  -- the plan once its caller is authentic
  abbrev then_asks : Ledger → Place → Plan (Did (Texted ActionRequest))
  then_asks L f = do
    refuse EmptyAction if eqb (length text) 0
    refuse ActionTooLong if ltb text_limit (length text)
    refuse TooManyPending if leb pending_limit f.is.pending
    refuse LogFull if leb request_room (length L.requests)
    refuse TextFull if ltb text_room (used (asks L) + length text)
    done (did_request L c f text time)

  abbrev pub Asks : Tables → Tables → Result ActionRequest Refusal → Type 0
  Asks = Part (request_call c text time)

  pub not_authentic : {t : Tables} {e : Refusal} → Authenticates t c Agent (Err e) → Asks t t (Err e)
  unfolding request_call
  not_authentic a = part_refused requested (λ L. request_in L c text time) _ (λ L st. bind_refused (then_asks L) (authenticate L c Agent) (a L st))

  module _ {t : Tables} {i : ℕ} (a : Authenticates t c Agent (Ok i)) where
    -- refused by what the rest of the plan says of the holder at place i
    refuses : (e : Refusal) → ((L : Ledger) (st : Stands t L) (p : Holder) → At L.keys i p → outcome (then_asks L (record { at = i; is = p })) ≡ refused e) → Asks t t (Err e)
    unfolding request_call
    refuses e h = part_refused requested (λ L. request_in L c text time) e (λ L st. let w = a.1 L st in bind_did (then_asks L) (authenticate L c Agent) w.2 ∙ h L st w.0 w.1)

    pub empty : true ≡ eqb (length text) 0 → Asks t t (Err EmptyAction)
    empty h = refuses EmptyAction (λ L st p hp. rw (← h))

    module _ (not_empty : false ≡ eqb (length text) 0) where
      pub too_long : text_limit < length text → Asks t t (Err ActionTooLong)
      too_long h = refuses ActionTooLong (λ L st p hp. rw (← not_empty, lt-ltb text_limit (length text) h))

      module _ (short : length text ≤ text_limit) where
        not_long : ltb text_limit (length text) ≡ false
        not_long = le-ltb text_limit (length text) short

        pub too_many : pending_limit ≤ cell (i + 1) 4 t.book → Asks t t (Err TooManyPending)
        too_many h = refuses TooManyPending (λ L st p hp. rw (← not_empty, not_long, le-leb pending_limit p.pending (rw (holder_cell st hp 4) at h)))

        module _ (few : cell (i + 1) 4 t.book < pending_limit) where
          not_many : {L : Ledger} → Stands t L → {p : Holder} → At L.keys i p → leb pending_limit p.pending ≡ false
          not_many st {p} hp = lt-leb pending_limit p.pending (rw (holder_cell st hp 4) at few)

          pub full : request_room ≤ request_count t → Asks t t (Err LogFull)
          full h = refuses LogFull (λ L st p hp. rw (← not_empty, not_long, not_many st hp, le-leb request_room (length L.requests) (rw (count_is st) at h)))

          module _ (room : request_count t < request_room) where
            not_full : {L : Ledger} → Stands t L → leb request_room (length L.requests) ≡ false
            not_full {L} st = lt-leb request_room (length L.requests) (rw (count_is st) at room)

            pub text_full : text_room < text_used t + length text → Asks t t (Err TextFull)
            text_full h = refuses TextFull (λ L st p hp.
                rw (← not_empty, not_long, not_many st hp, not_full st, lt-ltb text_room (used (asks L) + length text) (rw (used_is st) at h)))

            -- the row that is stored
            abbrev pub new_row : List ℕ
            new_row = c.signer.0 ∷ cell (i + 1) 2 t.book ∷ text_used t ∷ length text ∷ time.height ∷ time.timestamp_ns ∷ []

            pub asks_for : {b k : List (List ℕ)} {x : List ℕ} → text_used t + length text ≤ text_room → Stored t i new_row c.signer_key text (tables b k x)
                → Asks t (tables b k x) (Ok (request_told (id_of_request (request_count t)) new_row c.signer_key None))
            unfolding request_call
            asks_for fits s = part_did requested (λ L. request_in L c text time) (λ L good. sound_request L good c text time) (λ L st.
                let w = a.1 L st in
                let f : Place = record { at = i; is = w.0 } in
                let asked : Asked = asked_by c f text time in
                let number : cell (i + 1) 2 t.book ≡ w.0.reg.number = holder_cell st w.1 2 in
                let start = used_is st in
                let counted = count_is st in
                let row : new_row ≡ asked_row (used (asks L)) asked = λ j. c.signer.0 ∷ number j ∷ start j ∷ length text ∷ time.height ∷ time.timestamp_ns ∷ [] in (
                  did_request L c f text time,
                  bind_did (then_asks L) (authenticate L c Agent) w.2
                      ∙ rw (← not_empty, not_long, not_many st w.1, not_full st, le-ltb text_room (used (asks L) + length text) (rw (used_is st) at fits)),
                  (λ j. Ok (request_told (id_of_request (counted j)) (row j) c.signer_key None)),
                  request_laid st w.1 asked room fits (rw row at s),
                ))
