use Rattle.std.proofs.Common.{◌≡◌, ◌∙◌, ap, codes}
use Rattle.clap.specs.Simple.{app_of_fields}
use Rattle.clap.specs.Words.{app_of}
use Rattle.shogi_words.proofs.CommandNames.{adds_name, keeps_name}
use Rattle.shogi_words.proofs.play.command.Goals as goal

pub returns : goal.returns
returns c =
    let first : (app_of c.named.result).top.name ≡ codes "play" = c.named.ensures.name in
    let name-0 : (app_of c.override_usage.result).top.name ≡ codes "play" = ap (λ f. (app_of_fields f).top.name) c.override_usage.ensures ∙ first in
    let name-1 = keeps_name _ _ _ _ c.in_ok-arg.ensures name-0 in
    let name-2 = keeps_name _ _ _ _ c.in_ok-arg-2.ensures name-1 in
    let name-3 = keeps_name _ _ _ _ c.in_ok-arg-3.ensures name-2 in
    let name-4 = keeps_name _ _ _ _ c.in_ok-arg-4.ensures name-3 in
    let name-5 = keeps_name _ _ _ _ c.in_ok-arg-5.ensures name-4 in
    let name-6 = keeps_name _ _ _ _ c.in_ok-arg-6.ensures name-5 in
    let name-7 = keeps_name _ _ _ _ c.in_ok-arg-7.ensures name-6 in
    let name-8 = keeps_name _ _ _ _ c.in_ok-arg-8.ensures name-7 in
    let name-9 = keeps_name _ _ _ _ c.in_ok-arg-9.ensures name-8 in
    let name-10 = keeps_name _ _ _ _ c.in_ok-arg-10.ensures name-9 in
    let name-11 = keeps_name _ _ _ _ c.in_ok-arg-11.ensures name-10 in
    record { name = adds_name c.arg-12.result _ _ _ c.arg-12.ensures name-11 }
