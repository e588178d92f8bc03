use Rattle.std.proofs.Common.{◌≡◌, ◌+◌, get_or, drop, arith, ap, ◌∙◌}
use Rattle.std.specs.List.{prefix_len, position_or_len}
use Rattle.csa_cutting.specs.Cut.{is_separator, is_end}
use Rattle.csa_cutting.proofs.Fronts.{next_place, gap_only, rest_of}
use Rattle.csa_cutting.proofs.units.next_unit.Goals as goal

pub returns-then-start-source : goal.returns-then-start-source
returns-then-start-source c =
    let source = c.args.source.now in
    let gap : c.gap_length.result ≡ prefix_len is_separator (drop c.args.from source) =
    c.gap_length.ensures.value ∙ ap (prefix_len is_separator) (rest_of source c.args.from) in
    gap_only source c.args.from c.gap_length.result c.requires gap c.if-start-source.true

pub returns : goal.returns
returns c =
    let source = c.args.source.now in
    let start = c.args.from + c.gap_length.result in
    let gap : c.gap_length.result ≡ prefix_len is_separator (drop c.args.from source) =
    c.gap_length.ensures.value ∙ ap (prefix_len is_separator) (rest_of source c.args.from) in
    let unit : c.unit_length-length.result ≡ position_or_len (is_end (get_or source start 0)) (drop (start + 1) source) =
    c.unit_length-length.ensures.value ∙ ap (position_or_len (is_end (get_or source start 0))) (rest_of source (start + 1)) in
    (omega arith, omega (arith, c.unit_length-length.ensures.within), next_place c.args.from source c.args.from c.gap_length.result c.unit_length-length.result gap (omega arith) unit)
