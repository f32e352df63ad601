-- What is left of `ledger_reads::approval::approval_text_sound`: the part is within the text table, and is the one that the request's row names. Assumes nothing.
use Rattle.std.proofs.Common.{arith, refl}
use Rattle.std.proofs.Math.Nat.{add-sub_cancel_left}
use Rattle.ledger_reads.proofs.Requested.{extent_found, text_ends}
use Rattle.tables.proofs.Once.{fits_standing}
use Rattle.ledger_reads.proofs.approval.approval_text_sound.Goals as goal

pub invariant_of-approved_at : goal.invariant_of-approved_at
invariant_of-approved_at c = record { fits = fits_standing c.requires }

pub overflow_add-end : goal.overflow_add-end
overflow_add-end c = let h = c.in-Some.ensures in omega (arith, text_ends c.requires.stands h.1 h.2)

pub slice_bounds-result-end-2 : goal.slice_bounds-result-end-2
slice_bounds-result-end-2 c = let h = c.in-Some.ensures in omega (arith, text_ends c.requires.stands h.1 h.2)

pub returns : goal.returns
returns c = record { lies = λ L st. rw (extent_found st c.in-Some.ensures) (record { bytes = simp add-sub_cancel_left; block = refl; place = omega arith }) }
