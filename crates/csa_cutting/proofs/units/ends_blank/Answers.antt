use Rattle.std.proofs.Common.{◌∙◌}
use Rattle.csa_cutting.proofs.Blanks.{kept_whole}
use Rattle.csa_cutting.proofs.units.ends_blank.Goals as goal

pub returns : goal.returns
returns c = λ solid. kept_whole c.args.bytes.now c.copied.result c.is_some_and.result (c.copied.ensures ∙ c.last.ensures.value) c.is_some_and.ensures solid
