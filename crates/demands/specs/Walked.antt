-- A walk by pages over lent tables: public page calls from slot 0, each from where the last ended, none refused, with any calls between them. Assumes nothing.
use Rattle.std.specs.Prelude.{◌≡◌, ℕ, length, take, List, [], ◌++◌, ◌∷◌, Ok}
use Rattle.answers.specs.Answers.{PageOut, entry_row}
use Rattle.answers.specs.Calls.{page_call}
use Rattle.answers.specs.Does.{Does}
use Rattle.demands.specs.Runs.{Calls, Heard}
use Rattle.machine.specs.Types.{Change}
use Rattle.tables.specs.Tables.{Tables}

-- what has been read so far: the rows of each page, one page after the other. Each form of a page counts as that of its numbers (`crates/answers/proofs/Pages.antt`)
pub data Walked (limit : ℕ) (t : Tables) : List (List ℕ) → List (List Change) → Tables → Type 0 where
  not_yet : Walked limit t [] [] t
  a_page : {read : List (List ℕ)} {css : List (List Change)} {u v w : Tables} {out : PageOut (List ℕ)} {k : ℕ} {cs : List Change} {hs : List Heard} (room : List (List ℕ)) → Walked limit t read css u
      → Does (page_call entry_row room (length read) limit) u v out → out.answer ≡ Ok k → Calls v cs hs w → Walked limit t (read ++ take k out.rows) (css ++ cs ∷ []) w
