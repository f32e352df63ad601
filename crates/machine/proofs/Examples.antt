-- The machine says what document 01's pump-side examples say: the marked sentences in one statement, the others in another, the order of refusals in a third; and whole records as they should be. Assumes nothing.
use mathlib.Core.Path.{◌≡◌, refl}
use mathlib.Core.List.{map}
use Rattle.machine.specs.Examples.{machine_says, marked, ordered, unmarked}
use Rattle.machine.specs.Machine.{opened, run}
use Rattle.machine.specs.Whole.{ended, expected, shows, given}
use Rattle.machine.specs.Whole as Whole

pub examples : map machine_says marked ≡ map (λ s. s.says) marked
examples = refl

pub more_examples : map machine_says unmarked ≡ map (λ s. s.says) unmarked
more_examples = refl

pub order_examples : map machine_says ordered ≡ map (λ s. s.says) ordered
order_examples = refl

-- whole records: what changes give, and what the reads then show
pub given_examples : given ≡ expected
given_examples = refl

pub shown_examples : shows (run (opened 7) ended) ≡ Whole.shown
shown_examples = refl
