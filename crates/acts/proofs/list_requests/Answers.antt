-- `acts::list_requests` meets its contract: one number more, and all. Assumes nothing.
use Rattle.std.proofs.Common.{◌≡◌, ◌∙◌, ◌+◌, ◌<◌, ◌++◌, ◌∷◌, [], ℕ, List, ap, map, length, sym, take, get_or, arith, rules}
use Rattle.std.proofs.Math.ListN.{set, length-map, get_or-map}
use Rattle.std.proofs.Math.Seq.{take_all}
use Rattle.std.proofs.lemmas.List.{take_more, take_more_set}
use Rattle.answers.specs.Answers.{empty_entry}
use Rattle.records.specs.declared.PageEntry.{PageEntry}
use Rattle.acts.specs.Acts.{request_of}
use Rattle.acts.proofs.list_requests.Goals as goal

one_more : (es : List PageEntry) (row : List ℕ) (k : ℕ) → k < length row → k < length es → take k row ≡ take k (map request_of es)
    → take (k + 1) (set row k (request_of (get_or es k empty_entry))) ≡ take (k + 1) (map request_of es)
one_more es row k r e q =
    let n = request_of (get_or es k empty_entry) in
    take_more_set row k n r ∙ ap (λ (l : List ℕ). l ++ n ∷ []) q
    ∙ sym (take_more (map request_of es) k 0 (omega (arith, length-map es request_of)) ∙ ap (λ (m : ℕ). take k (map request_of es) ++ m ∷ []) (get_or-map request_of es k empty_entry))

pub loop-k-preserved : goal.loop-k-preserved
loop-k-preserved c = record { long = search rules; listed = one_more c.args.entries.now _ c.loop-k.k (omega (arith, c.loop-k.invariant.long)) (omega arith) c.loop-k.invariant.listed }

pub returns : goal.returns
returns c =
    let es = c.args.entries.now in
    let h = c.loop-k.invariant in
    sym (take_all c.loop-k.k c.loop-k.requests (omega (arith, h.long))) ∙ h.listed ∙ take_all c.loop-k.k (map request_of es) (omega (arith, length-map es request_of))
