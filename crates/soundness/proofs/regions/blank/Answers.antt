-- `soundness::regions::blank` meets its contract: the goals that the search leaves. Assumes nothing.
use Rattle.std.proofs.Common.{arith}
use Rattle.ids.proofs.Flags.{decides_via}
use Rattle.soundness.proofs.regions.blank.Goals as goal

pub returns-then-zero_from-8 : goal.returns-then-zero_from-8
returns-then-zero_from-8 c =
    decides_via
    (λ t. record {
      holders = grind arith;
      asked = grind arith;
      decided = grind arith;
      revoked = grind arith;
      log = grind arith steps 20000000;
      held = grind arith steps 20000000;
      agents = grind arith steps 20000000;
      approvers = grind arith steps 20000000;
      texts = t;
    })
    (λ b. b.texts)
    c.zero_from-then-zero_from-8.ensures

pub returns-else-zero_from-8 : goal.returns-else-zero_from-8
returns-else-zero_from-8 c = record { yes = λ e. absurd (grind arith); no = λ _ b. grind (arith, b.holders, b.asked, b.decided, b.revoked, b.log, b.held, b.agents, b.approvers) }
