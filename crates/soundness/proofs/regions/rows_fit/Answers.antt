-- `soundness::regions::rows_fit` meets its contract: the goals that the search leaves. Assumes nothing.
use Rattle.std.proofs.Common.{arith}
use Rattle.ids.proofs.Flags.{decides_via}
use Rattle.soundness.proofs.Grouped.{decided_used, log_used}
use Rattle.soundness.proofs.Used.{log_alike, turned}
use Rattle.soundness.proofs.regions.rows_fit.Goals as goal

pub returns-then-all_decided_fit : goal.returns-then-all_decided_fit
returns-then-all_decided_fit c =
    let log = log_used c.requires in
    let decided = decided_used c.requires in
    decides_via
    (λ l. record { holders_fit = grind arith; revoked_fit = grind arith; asked_fit = grind arith; decided_fit = grind arith; log_fits = log_alike log decided l })
    (λ f. log_alike (turned log) (turned decided) f.log_fits)
    c.log_fits.ensures

pub returns-else-all_decided_fit : goal.returns-else-all_decided_fit
returns-else-all_decided_fit c = record { yes = λ e. absurd (grind arith); no = λ _ f. grind (arith, f.holders_fit, f.revoked_fit, f.asked_fit, f.decided_fit) }
