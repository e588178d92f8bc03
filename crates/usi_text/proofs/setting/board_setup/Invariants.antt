use Rattle.usi_text.proofs.Settings.{Putting}
use Rattle.usi_text.proofs.setting.board_setup.Given as goal

abbrev pub invariant-loop-n : goal.invariant-loop-n
invariant-loop-n l = Putting l.cells l.setup l.n
