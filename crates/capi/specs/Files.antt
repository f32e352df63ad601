-- The promise of the entry that replays a command file: the run's own, with the bytes written as the number. Assumes nothing.
use Rattle.std.specs.Prelude.{◌≡◌}
use Rattle.capi.specs.declared.outcomes.Outcome.{Outcome}
use Rattle.lines.specs.declared.tally.Tally.{Tally}
use Rattle.machine.specs.Types.{Bytes}
use Rattle.replay.specs.Run.{Replays}
use Rattle.tables.specs.Tables.{Tables}

pub record RunTold (input : Bytes) (t t' : Tables) (out out' : Bytes) (r : Outcome) : Type 0 where
  pub tally : Tally
  pub runs : Replays input t t' out out' (record { tally = tally; wrote = r.number })
  pub accepted : r.refusal ≡ 0
