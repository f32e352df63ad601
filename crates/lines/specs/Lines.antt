-- The lines of a run's output (document 01, 'Command file', the last paragraph and the whole example), and its tally. Assumes nothing.
use Rattle.std.specs.Prelude.{ℕ, suc, min, ◌^◌, ◌-◌, List, [], ◌∷◌, ◌++◌}
use Rattle.std.proofs.Math.Option.{Option, none, some}
use Rattle.records.specs.Letters.{ascii}
use Rattle.records.specs.Refusals.{refusal_number, text_of_refusal}
use Rattle.records.specs.Statuses.{status_text}
use Rattle.records.specs.declared.refusal.Refusal.{Refusal}
use Rattle.records.specs.declared.status.RequestStatus.{RequestStatus}
use Rattle.fields.specs.Faults.{fault_text}
use Rattle.fields.specs.declared.fault.Stop.{Stop}
use Rattle.machine.specs.Types.{Bytes}
use Rattle.lines.specs.Decimal.{decimal}
use Rattle.lines.specs.declared.tally.Tally.{Tally}

-- what a command is told: accepted with the numbers that its line ends in, a status, or why it is refused
pub data Told : Type 0 where
  accepted : List ℕ → Told
  standing : RequestStatus → Told
  refused : Refusal → Told

abbrev pub newline : Bytes
newline = 10 ∷ []

-- a space before each number
abbrev pub spaced : List ℕ → Bytes
spaced [] = []
spaced (n ∷ ns) = ascii " " ++ decimal n ++ spaced ns

-- ---- what follows a command's number
unfoldable pub said : Told → Bytes
said (accepted ns) = ascii " ok" ++ spaced ns
said (standing s) = ascii " ok " ++ status_text s
said (refused e) = ascii " refused" ++ spaced (refusal_number e ∷ []) ++ ascii " " ++ text_of_refusal e

unfoldable pub line : ℕ → Told → Bytes
line i t = decimal i ++ said t ++ newline

-- only after a fault
unfoldable pub line_of_stop : Option Stop → Bytes
line_of_stop none = []
line_of_stop (some s) = (ascii "stopped at " ++ decimal s.place) ++ ascii ": " ++ fault_text s.fault ++ newline

unfoldable pub end_line : Tally → Bytes
end_line t =
    (ascii "end " ++ decimal t.commands)
    ++ (ascii " commands, " ++ decimal t.accepted)
    ++ (ascii " accepted, " ++ decimal t.refused)
    ++ ascii " refused"
    ++ newline

-- ---- the tally: each number from 0, staying at the highest
abbrev pub one_more : ℕ → ℕ
one_more n = min (suc n) (2 ^ 64 - 1)

abbrev pub no_tally : Tally
no_tally = record { commands = 0; accepted = 0; refused = 0 }

unfoldable pub counted : Told → Tally → Tally
counted (accepted ns) t = record { commands = one_more t.commands; accepted = one_more t.accepted; refused = t.refused }
counted (standing s) t = record { commands = one_more t.commands; accepted = one_more t.accepted; refused = t.refused }
counted (refused e) t = record { commands = one_more t.commands; accepted = t.accepted; refused = one_more t.refused }
