use Rattle.std.proofs.Common.{◌≡◌, ◌++◌, ◌∷◌, [], IfOk, codes, decimal, string_bytes, subst}
use Rattle.record_commands.proofs.check.accepted_line.Goals as goal

pub returns : goal.returns
returns c =
    subst (λ w. IfOk c.format.result (λ text. string_bytes text ≡ codes "accepted " ++ decimal c.args.moves ++ (32 ∷ (w ++ (10 ∷ []))))) c.word-word.ensures c.format.ensures.ok
