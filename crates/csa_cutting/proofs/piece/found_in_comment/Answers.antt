use Rattle.std.proofs.Common.{[], arith, rules}
use Rattle.csa_cutting.specs.declared.units.Place.TheVariants.{Comment}
use Rattle.csa_cutting.proofs.Finding.{found_in_comment, passes_comment}
use Rattle.csa_cutting.proofs.piece.found_in_comment.Goals as goal

pub returns-then-length-piece : goal.returns-then-length-piece
returns-then-length-piece c =
    let found = found_in_comment c.args.piece.now c.unit_length-length.result c.unit_length-length.ensures.value (omega (arith, c.if-length-piece.true)) in
    search (rules, found)

pub returns : goal.returns
returns c =
    let line = c.unit_length-length in
    c.first_in.ensures Comment [] 0 (omega arith) (passes_comment c.args.piece.now line.result line.ensures.value (omega (arith, c.if-length-piece.false, line.ensures.within)))
