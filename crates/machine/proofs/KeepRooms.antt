-- The rooms, kept: by a request, an add and a revocation. Assumes nothing.
use mathlib.Core.Logic.{inl, inr}
use mathlib.Core.Path.{◌≡◌}
use Prim.Native.Nat.{◌+◌, ◌<◌, ◌≤◌, ℕ}
use lib.Ieee.{fits}
use lib.ListN.{length, length-set, set}
use mathlib.Core.List.{List, [], ◌++◌, ◌∷◌}
use mathlib.Core.Option.{Option, none, some}
use native.Mathlib.Omega.{arith}
use Rattle.lists.proofs.Places.{at_lt, at_snoc, length_erase, length_snoc}
use Rattle.lists.specs.Places.{At, erase}
use Rattle.machine.specs.Rooms.{key_room, registration_room, request_room, text_limit, text_room}
use Rattle.machine.specs.Sound.{Rooms}
use Rattle.machine.specs.Tests.{used}
use Rattle.machine.specs.Types.{Asked, Registration}
use Rattle.records.specs.declared.BlockTime.{BlockTime}

pub used_snoc : (l : List Asked) (a : Asked) → used (l ++ a ∷ []) ≡ used l + length a.text
used_snoc [] a = omega arith
used_snoc (b ∷ bs) a = omega (arith, used_snoc bs a)

module _ {regs : List Registration} {revoked : List (Option BlockTime)} {asks : List Asked} (s : Rooms regs revoked asks) where
  pub rooms_ask : (a : Asked) → 0 < length a.text → length a.text ≤ text_limit → length asks < request_room → used asks + length a.text ≤ text_room
      → Rooms regs revoked (asks ++ a ∷ [])
  rooms_ask a lo hi room fits = record {
    keys = s.keys;
    registrations = s.registrations;
    requests = rw length_snoc room;
    text = rw used_snoc fits;
    legal = λ hn. elim (at_snoc asks a hn) [ inl old ↦ s.legal old | inr new ↦ rw new.1 (lo, hi) ];
  }

  pub rooms_add : (p : Registration) → length regs < key_room → length revoked < registration_room → Rooms (regs ++ p ∷ []) (revoked ++ none ∷ []) asks
  rooms_add p k r = record {
    keys = rw length_snoc k;
    registrations = rw length_snoc r;
    requests = s.requests;
    text = s.text;
    legal = s.legal;
  }

  pub rooms_revoke : {i : ℕ} {p : Registration} → At regs i p → (g : ℕ) (now : BlockTime) → Rooms (erase regs i) (set revoked g (some now)) asks
  rooms_revoke {i} h g now = record {
    keys = omega (arith, length_erase regs i (at_lt h), s.keys);
    registrations = rw length-set s.registrations;
    requests = s.requests;
    text = s.text;
    legal = s.legal;
  }
