use Rattle.std.proofs.Common.{◌≡◌, ◌-◌, ◌++◌}
use Rattle.usi_text.specs.SfenText.{board_text, ranks_text}
use Rattle.usi_text.proofs.writing.push_board.Given as goal

abbrev pub invariant-loop-rank : goal.invariant-loop-rank
invariant-loop-rank l =
    l.text.items ++ ranks_text l.position.material.board l.rank (10 - l.rank) ≡ l.fn.text.items ++ board_text l.position.material.board
