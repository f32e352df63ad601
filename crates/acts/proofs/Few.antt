-- What a command of the file is told on a sound ledger is short: a number below 1000, or a page of at most 100; and the ledger after it is sound. Assumes nothing.
use mathlib.Core.Path.{◌≡◌}
use mathlib.Core.List.{List, [], ◌∷◌, map}
use Prim.Native.Nat.{ℕ, zero, suc, ◌-◌, ◌≤◌, ◌<◌}
use native.Mathlib.Omega.{arith}
use lib.ListN.{length, drop, length-map}
use borrow.Author.Tests.{leb-false, ltb-false}
use Rattle.lists.proofs.Maps.{at_map}
use Rattle.lists.proofs.Places.{at_nil, at_head, at_lt, at_take, at_drop, down}
use Rattle.lists.specs.Places.{At}
use Rattle.records.specs.declared.PageEntry.{PageEntry}
use Rattle.records.specs.declared.status.RequestStatus.{RequestStatus}
use Rattle.machine.proofs.Keep.{asked_of, reg_of, sound_opened, sound_step}
use Rattle.machine.proofs.Look.{seen}
use Rattle.machine.proofs.Pages.{log_short, page_requests}
use Rattle.machine.proofs.Plans.{gives}
use Rattle.machine.specs.Machine.{Did, Given, plan, step, told_by}
use Rattle.machine.specs.Plan.{Gives, Holds, Outcome, did, outcome, refused}
use Rattle.machine.specs.Reads.{page, page_end, page_into, status}
use Rattle.machine.specs.Rooms.{page_limit, registration_room, request_room}
use Rattle.machine.specs.Sound.{Sound}
use Rattle.machine.specs.Types.{Change, Ledger, Request, add, approve, reject, request, revoke}
use Rattle.commands.specs.Commands.{Command, open_by, change, status_of, page_from}
use Rattle.lines.proofs.Short.{Few, Small}
use Rattle.acts.specs.Acts.{after_of, request_of, told_change, told_of, told_page, told_status}

-- a number told by an accepted change
abbrev Low : Did Given → Type 0
Low d = told_by d.given < 1000

module _ (L : Ledger) (s : Sound L) where
  numbered : {n : ℕ} {r : Request} → At L.requests n r → n < request_room
  numbered h = omega (arith, at_lt h, s.rooms.requests, length-map L.requests asked_of)

  -- ---- each change's own number: of a registration, of a request, of an approval
  low : (c : Change) → Gives Low (plan L c)
  low (add caller key account role) = λ owner fresh room space. omega (arith, leb-false registration_room (length L.revoked) room)
  low (revoke caller key now) = λ owner f there.
      omega (arith, at_lt (s.roll.in_force (at_map reg_of (seen key L.keys there).here)), s.rooms.registrations)
  low (request c text now) = λ direct f there role account some_text short few room fits. omega (arith, leb-false request_room (length L.requests) room)
  low (approve c n text now) = λ direct b there role account r is_request not_approved not-rejected f is_live same_text not-self. omega (arith, log_short L s)
  low (reject c n now) = λ direct b there role account r is_request not_approved not-rejected f is_live not-self. omega (arith, numbered (record { is = is_request }))

  change_few : (o : Outcome (Did Given)) → Holds Low o → Few (told_change o)
  change_few (refused e) h = tt
  change_few (did d) h = (omega arith, alone)
    where
      alone : Small (told_by d.given ∷ [])
      alone zero n a = omega (arith, at_head a)
      alone (suc i) n a = absurd (at_nil (down a))

  status_few : (o : Outcome RequestStatus) → Few (told_status o)
  status_few (refused e) = tt
  status_few (did x) = tt

  -- ---- a page
  page_low : (from limit : ℕ) → Small (page L from limit)
  page_low from limit i n a =
      let slot = at_drop from L.log (at_take (page_end L from limit - from) (drop from L.log) a) in
      omega (arith, numbered (s.judged.logged slot).1)

  abbrev Listed : ℕ → ℕ → List PageEntry → Type 0
  Listed from limit es = (length es ≤ page_limit) × (map request_of es ≡ page L from limit)

  listed : (from limit : ℕ) → Gives (Listed from limit) (page_into L from limit page_limit)
  listed from limit room = (ltb-false _ _ room, page_requests L s from limit)

  page_few : (from limit : ℕ) (o : Outcome (List PageEntry)) → Holds (Listed from limit) o → Few (told_page o)
  page_few from limit (refused e) h = tt
  page_few from limit (did es) h = (omega (arith, h.0, length-map es request_of), all)
    where
      all : Small (length es ∷ map request_of es)
      all zero n a = omega (arith, h.0, at_head a)
      all (suc i) n a = page_low from limit i n (rw h.1 at (down a))

  -- ---- any command
  pub told_few : (c : Command) → Few (told_of L c)
  unfolding told_of
  told_few (open_by owner) = (omega arith, λ i n a. absurd (at_nil a))
  told_few (change c) = change_few (step L c) (gives Low (plan L c) (low c))
  told_few (status_of n) = status_few (status L n)
  told_few (page_from from limit) =
      page_few from limit (outcome (page_into L from limit page_limit)) (gives (Listed from limit) (page_into L from limit page_limit) (listed from limit))

  pub after_sound : (c : Command) → Sound (after_of L c)
  unfolding after_of
  after_sound (open_by owner) = sound_opened owner
  after_sound (change c) = sound_step L s c
  after_sound (status_of n) = s
  after_sound (page_from from limit) = s
