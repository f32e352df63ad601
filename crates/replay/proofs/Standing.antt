-- What one command does to the tables of a run, and what it is told, is what the run's definition says. Assumes nothing.
use mathlib.Core.Path.{◌≡◌, refl, sym, subst, ◌∙◌}
use mathlib.Core.Bool.{Bool, true, false, false≢true}
use mathlib.Core.Logic.{◌⊎◌, inl, inr}
use mathlib.Core.Option.{Option, none, some}
use Prim.Native.Nat.{ℕ}
use lib.Dec.{eqb}
use borrow.Author.Tests.{eqb-true, eqb-false}
use Rattle.std.proofs.lemmas.Bool.Decides.{nat_tests}
use native.Mathlib.Omega.{arith}
use Rattle.records.specs.declared.refusal.Refusal.TheVariants.{Damaged}
use Rattle.machine.specs.Machine.{opened}
use Rattle.machine.specs.Tests.{present}
use Rattle.machine.specs.Types.{Ledger}
use Rattle.tables.proofs.Once.{fits_standing}
use Rattle.tables.specs.Tables.{Sized, Standing, Stands, Tables}
use Rattle.answers.specs.Does.{Does}
use Rattle.commands.specs.Commands.{Command, open_by, change, status_of, page_from}
use Rattle.lines.specs.Lines.{Told, refused}
use Rattle.acts.specs.Acts.{Acts, Opened, after_of, command_call}
use Rattle.replay.specs.Run.{Ends, acted, on, opening, sized}
use Rattle.replay.specs.Steps.{Held}

-- ---- lengths
pub sized_then : (t : Tables) → sized t ≡ true → Sized t
unfolding sized
sized_then t e = record { book_long = grind (arith, nat_tests); keys_long = grind (arith, nat_tests); texts_long = grind (arith, nat_tests) }

pub sized_not : (t : Tables) → sized t ≡ false → Sized t → ⊥
unfolding sized
sized_not t e s = grind (arith, nat_tests)

stands_sized : {t : Tables} {L : Ledger} → Stands t L → Sized t
stands_sized {L = L} s = (fits_standing (record { ledger = L; stands = s })).sized

-- ---- one command
pub record Done (t₀ t' : Tables) (next : ℕ) (c : Command) (h : Option Ledger) (w : Told) : Type 0 where
  pub told_as : w ≡ (acted (sized t₀) c h).told
  pub held_then : Held t₀ t' next (acted (sized t₀) c h).held

module _ (t₀ t t' : Tables) (place next : ℕ) (past : next ≡ 0 → ⊥) (w : Told) where
  -- ---- tables of the wrong lengths stay as they were lent
  module _ (bad : sized t₀ ≡ false) (same : t ≡ t₀) where
    no_lengths : Sized t → ⊥
    no_lengths s = sized_not t₀ bad (subst Sized same s)

    nothing : Standing t → ⊥
    nothing s = no_lengths (fits_standing s).sized

    unchanged : (c : Command) → (w ≡ refused Damaged) × (t' ≡ t) → Done t₀ t' next c none w
    unfolding acted
    unchanged c r = record {
      told_as = rw bad r.0;
      held_then = rw bad (record { ends = r.1 ∙ same; present_then = λ n s. absurd (false≢true (sym bad ∙ s)); unsized = λ _. refl });
    }

    unfit : (c : Command) → Acts c t t' w → Done t₀ t' next c none w
    unfit (open_by owner) a = unchanged (open_by owner) (a.unsized no_lengths)
    unfit (change x) a = unchanged (change x) (a.damaged nothing)
    unfit (status_of n) a = unchanged (status_of n) (a.damaged nothing)
    unfit (page_from from limit) a = unchanged (page_from from limit) (a.damaged nothing)

  -- ---- of the right lengths: a ledger stands afterwards
  module _ (good : sized t₀ ≡ true) where
    stood : (M : Ledger) → Stands t' M → Held t₀ t' next (some M)
    stood M s = record { ends = s; present_then = λ _ _. refl; unsized = λ b. absurd (false≢true (sym b ∙ good)) }

    right : (h : Option Ledger) → Ends t₀ t h → Sized t
    right none e = subst Sized (sym e) (sized_then t₀ good)
    right (some L) s = stands_sized s

    opened_now : (owner : ℕ) (h : Option Ledger) → Ends t₀ t h → Opened owner t t' w → Done t₀ t' next (open_by owner) h w
    unfolding acted
    opened_now owner h e a = let r = a.opened_then (right h e) in record { told_as = rw good r.0; held_then = rw good (stood (opened owner) r.1) }

    -- any other command finds one
    done_on : (c : Command) → ((h : Option Ledger) → opening c h ≡ on h c) → Does (command_call c) t t' w → (h : Option Ledger) → Ends t₀ t h → present h ≡ true → Done t₀ t' next c h w
    unfolding acted
    done_on c is-on a none e p = absurd (false≢true p)
    done_on c is-on a (some L) e p =
        let r = a.sound L e in
        record { told_as = rw (good, is-on (some L)) r.0; held_then = rw (good, is-on (some L)) (stood (after_of L c) r.1) }

    fit : (c : Command) (h : Option Ledger) → Ends t₀ t h → (present h ≡ true) ⊎ ((owner : ℕ) × (c ≡ open_by owner)) → Acts c t t' w → Done t₀ t' next c h w
    fit (open_by owner) h e o a = opened_now owner h e a
    fit (change x) h e o a = done_on (change x) (λ h. refl) a h e (grind arith)
    fit (status_of n) h e o a = done_on (status_of n) (λ h. refl) a h e (grind arith)
    fit (page_from from limit) h e o a = done_on (page_from from limit) (λ h. refl) a h e (grind arith)

  -- ---- THE LAW: what is told, and what then stands
  pub command_done : (c : Command) (h : Option Ledger) → Held t₀ t place h → (place ≡ 0 → (owner : ℕ) × (c ≡ open_by owner)) → Acts c t t' w → Done t₀ t' next c h w
  command_done c h held first a = by_size (sized t₀) refl
    where
      by_place : sized t₀ ≡ true → (b : Bool) → eqb place 0 ≡ b → (present h ≡ true) ⊎ ((owner : ℕ) × (c ≡ open_by owner))
      by_place good true e = inr (first (eqb-true place 0 e))
      by_place good false e = inl (held.present_then (eqb-false place 0 e) good)

      none_held : (h : Option Ledger) → present h ≡ false → Held t₀ t place h → Acts c t t' w → sized t₀ ≡ false → Done t₀ t' next c h w
      none_held none p k a bad = unfit bad k.ends c a
      none_held (some L) p k a bad = absurd (false≢true (sym p))

      by_size : (b : Bool) → sized t₀ ≡ b → Done t₀ t' next c h w
      by_size true good = fit good c h held.ends (by_place good (eqb place 0) refl) a
      by_size false bad = none_held h (held.unsized bad) held a bad
