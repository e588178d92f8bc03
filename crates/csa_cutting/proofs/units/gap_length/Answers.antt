use Rattle.std.proofs.Common.{rules, sym}
use Rattle.std.proofs.lemmas.List.Sums.{prefix_len_is}
use Rattle.csa_cutting.specs.Cut.{is_separator}
use Rattle.csa_cutting.proofs.units.gap_length.Goals as goal

pub returns-clause-value : goal.returns-clause-value
returns-clause-value c =
    sym (prefix_len_is is_separator c.args.text.now c.front_length.result 0 c.front_length.ensures.within (λ k h. search rules) (λ h. search rules))
