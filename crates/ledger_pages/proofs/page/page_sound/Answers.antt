-- What is left of `ledger_pages::page::page_sound`: a row that is too short, one entry more, and the whole page. Assumes nothing.
use Rattle.std.proofs.Common.{arith, ap, sym}
use Rattle.std.proofs.Math.Seq.{length-take-le}
use Rattle.answers.proofs.Doing.{part_read}
use Rattle.answers.specs.Answers.{paged}
use Rattle.answers.specs.Calls.{page_call}
use Rattle.ledger_pages.proofs.Pages.{entry_there, no_room, page_written, written_more}
use Rattle.lists.proofs.Maps.{at_map}
use Rattle.ledger_pages.proofs.page.page_sound.Goals as goal

pub returns-then-rows-size : goal.returns-then-rows-size
unfolding page_call
returns-then-rows-size g c = part_read _ _ (λ L st. ap (paged g.P.Place.of_entry c.args.rows.now) (sym (no_room st _ _ _ c.page_size-size.ensures _ c.if-rows-size.true)))

pub loop-k-preserved : goal.loop-k-preserved
loop-k-preserved g c =
    let long = length-take-le c.page_size-size.result c.args.rows.now c.if-rows-size.false in λ L st.
    let entry = entry_there st _ _ _ c.page_size-size.ensures c.loop-k.k _ (omega arith) c.entry_at.ensures in
    written_more _ _ _ _ (omega arith) (rw c.of.ensures (at_map g.P.Place.of_entry entry)) (c.loop-k.invariant L st)

pub returns : goal.returns
unfolding page_call
returns g c =
    let room = c.if-rows-size.false in
    let long = length-take-le c.page_size-size.result c.args.rows.now room in
    part_read _ _ (λ L st. page_written st _ _ _ c.page_size-size.ensures _ _ _ _ room (omega arith) (omega arith) (c.loop-k.invariant L st))
