use Rattle.std.proofs.Common.{rules}
use Rattle.usi_text.proofs.setting.board_square.Goals as goal

pub returns : goal.returns
returns c = search rules
