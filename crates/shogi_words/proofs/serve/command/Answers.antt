use Rattle.std.proofs.Common.{◌≡◌, codes}
use Rattle.clap.specs.Words.{app_of}
use Rattle.shogi_words.proofs.CommandNames.{adds_name, keeps_name}
use Rattle.shogi_words.proofs.serve.command.Goals as goal

pub returns : goal.returns
returns c =
    let first : (app_of c.named.result).top.name ≡ codes "serve" = c.named.ensures.name in
    let name-1 = keeps_name _ _ _ _ c.in_ok-arg.ensures first in
    let name-2 = keeps_name _ _ _ _ c.in_ok-arg-2.ensures name-1 in
    record { name = adds_name c.arg-3.result _ _ _ c.arg-3.ensures name-2 }
