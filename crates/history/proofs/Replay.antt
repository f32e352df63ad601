-- The accepted changes alone, tried again from the same ledger, are accepted, give what they gave and lead to the same ledger. Assumes nothing.
use mathlib.Core.Path.{◌∙◌, ◌≡◌, ap, refl, sym}
use mathlib.Core.List.{List, [], ◌++◌, ◌∷◌, map}
use Rattle.history.specs.History.{Answer, accepted, answer, answers, gave, gifts, if_accepted, if_given}
use Rattle.machine.specs.Machine.{Did, Given, left, run, step}
use Rattle.machine.specs.Plan.{Outcome, did, refused}
use Rattle.machine.specs.Types.{Change, Ledger}

pub record Replayed (L : Ledger) (cs : List Change) : Type 0 where
  pub same_ledger : run L (accepted L cs) ≡ run L cs
  pub same_answers : answers L (accepted L cs) ≡ map gave (gifts L cs)

pub replay : (L : Ledger) (cs : List Change) → Replayed L cs
replay L [] = record { same_ledger = refl; same_answers = refl }
replay L (c ∷ cs) = let r = go (step L c) refl (λ M. replay M cs) in record { same_ledger = r.0; same_answers = r.1 }
  where
    go : (o : Outcome (Did Given)) → step L c ≡ o → ((M : Ledger) → Replayed M cs)
        → (run L (if_accepted c o ++ accepted (left L o) cs) ≡ run (left L o) cs) × (answers L (if_accepted c o ++ accepted (left L o) cs) ≡ map gave (if_given o ++ gifts (left L o) cs))
    go (refused e) q ih = ((ih L).same_ledger, (ih L).same_answers)
    go (did d) q ih = (
      ap (λ (o : Outcome (Did Given)). run (left L o) (accepted d.ledger cs)) q ∙ (ih d.ledger).same_ledger,
      ap (λ (o : Outcome (Did Given)). answer o ∷ answers (left L o) (accepted d.ledger cs)) q ∙ ap (λ (l : List Answer). gave d.given ∷ l) (ih d.ledger).same_answers,
    )

-- so the accepted changes determine the ledger: calls that have the same ones accepted leave the same ledger
pub determined : (L : Ledger) (cs ds : List Change) → accepted L cs ≡ accepted L ds → run L cs ≡ run L ds
determined L cs ds e = sym (replay L cs).same_ledger ∙ ap (run L) e ∙ (replay L ds).same_ledger
