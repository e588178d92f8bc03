use Rattle.std.proofs.Common.{refl}
use Rattle.shogi_board.proofs.Start.{even-sound, even-safe}
use Rattle.shogi_board.proofs.laws.even_is_sound.Goals as goal

pub returns : goal.returns
returns c = record { sound = even-sound; safe = even-safe; set_up = refl }
