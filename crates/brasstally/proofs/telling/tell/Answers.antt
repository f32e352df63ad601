-- `brasstally::telling::tell` meets its contract: its tables have the right lengths, it reads the file that it is given, and it tells the run's count. Assumes nothing.
use Rattle.std.proofs.Common.{arith, rules}
use lib.Seq.{take_all}
use Rattle.replay.proofs.Fitting.{counted_as, prints, read_as, shown_as, writes}
use Rattle.tables.specs.Tables.{tables}
use Rattle.brasstally.proofs.telling.tell.Goals as goal

pub returns-clause-writes : goal.returns-clause-writes
returns-clause-writes c =
    let t = c.new-t.result in
    let e = c.new-t.ensures in
    let ran = read_as c.run-ran.ensures.replays (search (rules, take_all)) in
    counted_as (writes c.args.input.now (tables t.book t.keys t.texts) c.args.out.now e.book e.keys e.texts ran) (omega arith)

pub returns-clause-prints : goal.returns-clause-prints
returns-clause-prints c room =
    let t = c.new-t.result in
    let e = c.new-t.ensures in
    let ran = read_as c.run-ran.ensures.replays (search (rules, take_all)) in
    shown_as c.args.input.now _ (prints c.args.input.now (tables t.book t.keys t.texts) c.args.out.now e.book e.keys e.texts room ran) (omega arith)
