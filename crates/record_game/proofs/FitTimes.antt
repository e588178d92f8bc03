-- Times within the limit.
use Rattle.std.proofs.Common.{ℕ, ◌≤◌, List, [], ◌∷◌, ◌++◌, map}
use Rattle.std.specs.List.{AllByRecursion}
use Rattle.shogi_board.specs.declared.moves.Move.{Move}
use Rattle.record_game.specs.Course.{untimed, with_last_time}
use Rattle.record_game.specs.Game.{Timed}
use Rattle.record_game.specs.Limits.{IsTimed}

abbrev pub AllFit : List Timed → Type 0
AllFit ts = AllByRecursion (λ (t : Timed). IsTimed t.time) ts

pub fit_more : (ts : List Timed) (m : Move) → AllFit ts → AllFit (ts ++ untimed m ∷ [])
fit_more [] m h = (tt, tt)
fit_more (t ∷ ts) m h = (h.0, fit_more ts m h.1)

pub fit_none : (ms : List Move) → AllFit (map untimed ms)
fit_none [] = tt
fit_none (m ∷ ms) = (tt, fit_none ms)

pub fit_last : (ts : List Timed) (time : ℕ) → time ≤ 4294967295999 → AllFit ts → AllFit (with_last_time ts time)
fit_last [] time small h = tt
fit_last (t ∷ []) time small h = (small, tt)
fit_last (t ∷ u ∷ ts) time small h = (h.0, fit_last (u ∷ ts) time small h.1)
