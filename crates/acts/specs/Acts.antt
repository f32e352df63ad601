-- What a command of the file does and is told, on the machine and on lent tables (document 01, 'Command file'). Assumes nothing.
use Rattle.std.specs.Prelude.{◌≡◌, List, [], ◌∷◌, map, ℕ, length}
use Rattle.records.specs.declared.PageEntry.{PageEntry}
use Rattle.records.specs.declared.refusal.Refusal.TheVariants.{Damaged}
use Rattle.records.specs.declared.status.RequestStatus.{RequestStatus}
use Rattle.machine.specs.Machine.{Did, Given, left, opened, step, told_by}
use Rattle.machine.specs.Plan.{Outcome, did, outcome, refused}
use Rattle.machine.specs.Reads.{page_into, status}
use Rattle.machine.specs.Rooms.{page_limit}
use Rattle.machine.specs.Types.{Ledger}
use Rattle.tables.specs.Tables.{Sized, Stands, Tables}
use Rattle.answers.specs.Does.{Call, Does}
use Rattle.commands.specs.Commands.{Command, open_by, change, status_of, page_from}
use Rattle.lines.specs.Lines as lines
use Rattle.lines.specs.Lines.{Told, accepted, standing}

-- ---- what each outcome is told as: f of what was done, or why it was refused
abbrev pub told_as : {A : Type 0} → (A → Told) → Outcome A → Told
told_as f (refused e) = lines.refused e
told_as f (did a) = f a

-- 'the registration number, request number, approval index'
abbrev pub told_change : Outcome (Did Given) → Told
told_change o = told_as (λ d. accepted (told_by d.given ∷ [])) o

abbrev pub told_status : Outcome RequestStatus → Told
told_status o = told_as standing o

-- 'the page's number of entries and their request numbers'
abbrev pub request_of : PageEntry → ℕ
request_of e = e.request_id.0

abbrev pub told_page : Outcome (List PageEntry) → Told
told_page o = told_as (λ es. accepted (length es ∷ map request_of es)) o

-- ---- a command on a sound ledger: what it is told, and the ledger after it. A page is asked for with a row for every entry that it may have
unfoldable pub told_of : Ledger → Command → Told
told_of L (open_by owner) = accepted []
told_of L (change c) = told_change (step L c)
told_of L (status_of n) = told_status (status L n)
told_of L (page_from from limit) = told_page (outcome (page_into L from limit page_limit))

unfoldable pub after_of : Ledger → Command → Ledger
after_of L (open_by owner) = opened owner
after_of L (change c) = left L (step L c)
after_of L (status_of n) = L
after_of L (page_from from limit) = L

abbrev pub command_call : Command → Call Told
command_call c = record { bad = lines.refused Damaged; answer = λ L. told_of L c; after = λ L. after_of L c }

-- ---- on lent tables: opening asks only for the right lengths
pub record Opened (owner : ℕ) (t t' : Tables) (w : Told) : Type 0 where
  pub opened_then : Sized t → (w ≡ accepted []) × Stands t' (opened owner)
  pub unsized : (Sized t → ⊥) → (w ≡ lines.refused Damaged) × (t' ≡ t)

abbrev pub Acts : Command → Tables → Tables → Told → Type 0
Acts (open_by owner) t t' w = Opened owner t t' w
Acts (change c) t t' w = Does (command_call (change c)) t t' w
Acts (status_of n) t t' w = Does (command_call (status_of n)) t t' w
Acts (page_from from limit) t t' w = Does (command_call (page_from from limit)) t t' w
