-- `capi::reads::brasstally_status` meets its contract: the ledger's call, told.
use Rattle.std.proofs.Common.{rules, ◌∙◌}
use Rattle.capi.proofs.Telling.{mapped, told}
use Rattle.capi.specs.Outcomes.{status_number, status_outcome}
use Rattle.capi.proofs.reads.brasstally_status.Goals as goal

pub returns : goal.returns
returns c = told status_outcome c.request_status-read.ensures (c.from.ensures ∙ mapped status_number _ _ (λ a n p. search rules) c.map.ensures.cases)
