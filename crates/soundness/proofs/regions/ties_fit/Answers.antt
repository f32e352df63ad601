-- `soundness::regions::ties_fit` meets its contract: the goals that the search leaves. Assumes nothing.
use Rattle.ids.proofs.Flags.{decides_via, fails}
use Rattle.soundness.proofs.Grouped.{holders_used, asked_used, numbered_keys, numbered_requests}
use Rattle.soundness.proofs.Used.{lived_alike, registered_alike, turned, waits_alike}
use Rattle.soundness.proofs.regions.ties_fit.Goals as goal

pub invariant_of-parties : goal.invariant_of-parties
invariant_of-parties c = record { numbered = numbered_keys c.requires.0 c.requires.1 }

pub invariant_of-parties-2 : goal.invariant_of-parties-2
invariant_of-parties-2 c = record { numbered = numbered_requests c.requires.0 c.requires.1 }

pub returns-then-not-distinct : goal.returns-then-not-distinct
returns-then-not-distinct c = fails (λ t. c.distinct.ensures.no c.if-not-distinct.true t.distinct)

pub returns-then-not-registered : goal.returns-then-not-registered
returns-then-not-registered c =
    let none = rw c.if-not-registered.true at c.registered.ensures in
    let holders = turned (holders_used c.requires.0) in
    fails (λ t. none (registered_alike holders t.registered))

pub lived-requires : goal.lived-requires
lived-requires c = (rw c.if-not-registered.false at c.registered.ensures).1

pub returns-else-lived : goal.returns-else-lived
returns-else-lived c =
    let holders = turned (holders_used c.requires.0) in
    let asked = turned (asked_used c.requires.0) in
    rw c.if-lived.false (fails (λ t. c.lived.ensures.no c.if-lived.false (lived_alike holders asked t.lived)))

pub returns-then-lived : goal.returns-then-lived
returns-then-lived c =
    let noted = rw c.if-not-registered.false at c.registered.ensures in
    let holders = holders_used c.requires.0 in
    let asked = asked_used c.requires.0 in
    decides_via
    (λ w. record {
      distinct = c.distinct.ensures.yes c.if-not-distinct.false;
      registered = registered_alike holders noted.0;
      lived = lived_alike holders asked (c.lived.ensures.yes c.if-lived.true);
      waits = waits_alike holders asked _ w;
    })
    (λ t. waits_alike (turned holders) (turned asked) _ t.waits)
    c.waits.ensures
