-- The name of each status, as the source's `RequestStatus` has it. Assumes nothing.
use Rattle.std.specs.Prelude.{ℕ, List}
use Rattle.records.specs.declared.status.RequestStatus.{RequestStatus}
use Rattle.records.specs.declared.status.RequestStatus.TheVariants.{Pending, Approved, Rejected, Void}
use Rattle.records.specs.Letters.{ascii}

unfoldable pub status_text : RequestStatus → List ℕ
status_text Pending = ascii "Pending"
status_text Approved = ascii "Approved"
status_text Rejected = ascii "Rejected"
status_text Void = ascii "Void"
