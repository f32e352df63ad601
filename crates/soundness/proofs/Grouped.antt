-- `Fit` is its groups, and what the tests of the first give those of the last. For `fit`, `rows_fit` and `ties_fit`. Assumes nothing.
use Prim.Native.Nat.{ℕ, ◌+◌, ◌≤◌}
use mathlib.Core.Path.{◌≡◌}
use native.Mathlib.Omega.{arith}
use lib.ListN.{drop, get_or, length, length-drop, length-take, take}
use mathlib.Core.List.{List, []}
use Rattle.std.proofs.lemmas.Grind.{common_steps}
use Rattle.tables.specs.Fit.{Blank, Fit, HeadFits}
use Rattle.tables.specs.Parts.{asked, decided, holders, key_count, log, log_count, request_count}
use Rattle.tables.specs.Tables.{Sized, tables}
use Rattle.soundness.specs.Groups.{lent, Ready, RowsFit, TiesFit}
use Rattle.soundness.proofs.Used.{Alike, used}
use Rattle.sound_ties.specs.Places.{Numbered}

-- what a part asks of lengths: stated over variables, since a tactic reads all that stands beside a numeral
part_has : {k m : ℕ} (n a : ℕ) (l : List (List ℕ)) → length l ≡ m → k ≤ n → a + n ≤ m → k ≤ length (take n (drop a l))
part_has n a l e h t = simp (length-take, length-drop) (omega (arith, e))

-- the rows in use, as the tests hand them on
abbrev pub holders_in_use : List (List ℕ) → List (List ℕ) → List (List ℕ)
holders_in_use book keys = take (key_count (lent book keys)) (holders (lent book keys))

abbrev pub asked_in_use : List (List ℕ) → List (List ℕ) → List (List ℕ)
asked_in_use book keys = take (request_count (lent book keys)) (asked (lent book keys))

abbrev pub decided_in_use : List (List ℕ) → List (List ℕ) → List (List ℕ)
decided_in_use book keys = take (request_count (lent book keys)) (decided (lent book keys))

abbrev pub log_in_use : List (List ℕ) → List (List ℕ) → List (List ℕ)
log_in_use book keys = take (log_count (lent book keys)) (log (lent book keys))

module _ {book keys : List (List ℕ)} (r : Ready book keys) where
  pub holders_used : Alike (length (holders_in_use book keys)) (key_count (lent book keys)) (holders_in_use book keys) (holders (lent book keys))
  holders_used = used (part_has 64 1 book r.book_long r.head.keys (omega arith))

  pub asked_used : Alike (length (asked_in_use book keys)) (request_count (lent book keys)) (asked_in_use book keys) (asked (lent book keys))
  asked_used = used (part_has 256 65 book r.book_long r.head.requests (omega arith))

  pub decided_used : Alike (length (decided_in_use book keys)) (request_count (lent book keys)) (decided_in_use book keys) (decided (lent book keys))
  decided_used = used (part_has 256 321 book r.book_long r.head.requests (omega arith))

  pub log_used : Alike (length (log_in_use book keys)) (log_count (lent book keys)) (log_in_use book keys) (log (lent book keys))
  log_used = used (part_has 256 833 book r.book_long r.head.log (omega arith))

  module _ (f : RowsFit book keys) where
    pub numbered_keys : Numbered 2 (holders_in_use book keys)
    numbered_keys i l = grind (arith, common_steps, f.holders_fit i, r.head.made)

    pub numbered_requests : Numbered 1 (asked_in_use book keys)
    numbered_requests n l = grind (arith, common_steps, f.asked_fit.each n, r.head.made)

module _ {book keys : List (List ℕ)} {texts : List ℕ} where
  pub ties_of : Fit (tables book keys texts) → TiesFit book keys
  ties_of f = record { distinct = f.distinct; registered = f.registered; lived = f.lived; waits = f.waits }

  pub fit_of : Sized (tables book keys texts) → HeadFits (get_or book 0 []) → RowsFit book keys → Blank (tables book keys texts) → TiesFit book keys → Fit (tables book keys texts)
  fit_of s h r b t = record {
    sized = s;
    head = h;
    blank = b;
    holders_fit = r.holders_fit;
    revoked_fit = r.revoked_fit;
    asked_fit = r.asked_fit;
    decided_fit = r.decided_fit;
    log_fits = r.log_fits;
    distinct = t.distinct;
    registered = t.registered;
    lived = t.lived;
    waits = t.waits;
  }
