use Rattle.std.proofs.Common.{rules, arith, ◌-◌, slice_index_or, refl}
use Rattle.std.proofs.lemmas.Grind.{common_steps}
use Rattle.usi_text.specs.Boards.{empty_squares, one_piece}
use Rattle.usi_text.proofs.boards.read_part.Goals as goal

pub returns-in_ok-promoted_of_letter-in-43-clause-part : goal.returns-in_ok-promoted_of_letter-in-43-clause-part
returns-in_ok-promoted_of_letter-in-43-clause-part c =
    (one_piece c.in_ok-promoted_of_letter-in-43.field-0, tt, refl, grind (arith, common_steps))

pub returns-in-49-to-57-clause-part : goal.returns-in-49-to-57-clause-part
returns-in-49-to-57-clause-part c =
    (empty_squares (slice_index_or c.args.text.now 0 0 - 48), search rules, refl, grind (arith, common_steps))

pub returns-in_ok-piece_of_letter-in-len1-up-clause-part : goal.returns-in_ok-piece_of_letter-in-len1-up-clause-part
returns-in_ok-piece_of_letter-in-len1-up-clause-part c =
    (one_piece c.in_ok-piece_of_letter-in-len1-up.field-0, tt, refl, grind (arith, common_steps))
