-- `lines::output::Out::say_reply` meets its contract: a page is told with its requests.
use Rattle.std.proofs.Common.{◌≡◌, length, min}
use Rattle.std.proofs.lemmas.List.{take_min}
use Rattle.lines.specs.Lines.{said}
use Rattle.lines.proofs.Appending.{then_more}
use Rattle.lines.proofs.output.Out.say_reply.Goals as goal

pub returns-in-Page : goal.returns-in-Page
unfolding said
returns-in-Page c =
    let least : c.min.result ≡ min c.in-Page.count (length c.in-Page.requests.now) = c.min.ensures in
    rw c.in-Page.is (then_more c.push.ensures (then_more c.push_counted.ensures (rw (← take_min c.in-Page.count c.in-Page.requests.now, ← least) c.push_numbers-in-Page.ensures)))
