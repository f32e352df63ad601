-- `capi::proof::text_place` meets its contract: nowhere without a proof, or as the request's row says.
use Rattle.std.proofs.Common.{ap}
use Rattle.ledger_reads.proofs.Requested.{extent_found}
use Rattle.capi.proofs.proof.text_place.Goals as goal

pub returns-in_default : goal.returns-in_default
returns-in_default c = record { place = λ L st. rw (c.in_default.ensures L st) }

pub returns : goal.returns
returns c = record { place = λ L st. rw (extent_found st c.in-Some.ensures) }
