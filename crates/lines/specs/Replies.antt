-- What a reply of code tells, or a refusal. Assumes nothing.
use Rattle.std.specs.Prelude.{[], ◌∷◌, take, Result, Ok, Err}
use Rattle.records.specs.declared.refusal.Refusal.{Refusal}
use Rattle.lines.specs.declared.reply.Reply.{Reply}
use Rattle.lines.specs.Lines.{Told, accepted, standing, refused}

abbrev pub told : Result Reply Refusal → Told
told (Ok Reply.Done) = accepted []
told (Ok (Reply.Number n)) = accepted (n ∷ [])
told (Ok (Reply.Page k requests)) = accepted (k ∷ take k requests.now)
told (Ok (Reply.Status s)) = standing s
told (Err e) = refused e
