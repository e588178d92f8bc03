-- How a game gets its ending.
use Rattle.std.proofs.Common.{◌≡◌, ◌↔◌, Bool, true, false, List, [], ◌∷◌, ◌++◌, ℕ, ◌≤◌, Option, Some, None, Result, Ok, Err, is_some, is_err, OnOk, IsOk, IfSome, refl, sym, ap, subst, ◌∙◌}
use Rattle.std.specs.List.{AllZip}
use Rattle.shogi_board.specs.declared.color.Color.{Color}
use Rattle.shogi_board.specs.declared.moves.Move.{Move}
use Rattle.csa_cutting.specs.Cut.{TextUnit}
use Rattle.csa_text.specs.Saying.{Saying, ending, walked}
use Rattle.record_game.proofs.Fits.{time_fits}
use Rattle.record_game.specs.declared.fault.Why.{Why}
use Rattle.csa_record.specs.Building.{course_of, with_course}
use Rattle.csa_record.specs.Course.{untimed, awaits, with_last_time, with_time, time_fault}
use Rattle.csa_record.specs.Game.{Game, Timed, Ended}
use Rattle.csa_record.specs.Says.{time_items}
use Rattle.csa_record.specs.Tells.{IsSpelt}
use Rattle.bridge_table.specs.GameSoFar.{ending_of}
use Rattle.shogi_session.specs.Phases.{kept_of}
use Rattle.session_lines.specs.declared.server_words.GameResult.{GameResult}
use Rattle.session_lines.specs.declared.server_words.EndReason.{EndReason}
use Rattle.session_lines.specs.ServerLines.{TellsEnding, TellsTimed}
use Rattle.bridge_table.specs.State.{game_with}

-- 1. the time that a line spells
last_time : (us : List TextUnit) (s : Saying) (o : Option ℕ) → AllZip IsSpelt us (s ∷ time_items o) → IfSome o (λ t. t ≤ 4294967295999)
last_time us s None h = tt
last_time [] s (Some t) h = absurd h
last_time (u ∷ []) s (Some t) h = absurd h.1
last_time (u ∷ v ∷ us) s (Some t) h = let (text, whole, is) = h.1.0.1 in time_fits text t is

pub move_time : (line : List ℕ) (color : Color) (m : Timed) → TellsTimed line color m → IfSome m.time (λ t. t ≤ 4294967295999)
move_time line color m h = last_time h.0 (walked color m.move) m.time h.2

pub ending_time : (line : List ℕ) (k : Ended) → TellsEnding line k → IfSome k.time (λ t. t ≤ 4294967295999)
ending_time line k h = last_time h.0 (ending k.ending) k.time h.2

-- 2. the time of a move that was played just now
awaits_last : (ms : List Timed) (m : Move) → awaits (ms ++ untimed m ∷ []) ≡ true
awaits_last [] m = refl
awaits_last (t ∷ []) m = refl
awaits_last (t ∷ u ∷ ts) m = awaits_last (u ∷ ts) m

with_last : (ms : List Timed) (m : Move) (time : ℕ) → with_last_time (ms ++ untimed m ∷ []) time ≡ ms ++ record { move = m; time = Some time } ∷ []
with_last [] m time = refl
with_last (t ∷ []) m time = refl
with_last (t ∷ u ∷ ts) m time = ap (λ xs. t ∷ xs) (with_last (u ∷ ts) m time)

-- what must succeed does
done : (r : Result (Unit {0}) Why) (F P : Type 0) → (IsOk r ↔ F) → F → OnOk r P → P
done (Ok u) F P so can h = h
done (Err why) F P so can h = absurd (let e = so.1 can in cc)

pub taken : (r : Result (Unit {0}) Why) (P : Type 0) (b : Bool) → b ≡ is_err r → b ≡ false → OnOk r P → P
taken (Ok u) P b e f h = h
taken (Err why) P b e f h = absurd cc

abbrev bare : Game → Move → Game
bare g m = record g { moves = g.moves ++ untimed m ∷ []; ending = None }

may_time : (g : Game) (m : Move) → time_fault (course_of (bare g m)) ≡ None
may_time g m = rw (awaits_last g.moves m) refl

pub timed_move : (old first new : Game) (m : Move) (time : ℕ) (r : Result (Unit {0}) Why) → old.ending ≡ None
    → first ≡ record old { moves = old.moves ++ untimed m ∷ [] }
    → (IsOk r ↔ (time_fault (course_of first) ≡ None)) → OnOk r (new ≡ with_course first (with_time (course_of first) time))
    → new ≡ game_with old (record { move = m; time = Some time } ∷ [])
timed_move old first new m time r none e so is =
    let same : first ≡ bare old m = e ∙ ap (λ (x : Option Ended). record old { moves = old.moves ++ untimed m ∷ []; ending = x }) none in
    let can : time_fault (course_of first) ≡ None = subst (λ (x : Game). time_fault (course_of x) ≡ None) (sym same) (may_time old m) in
    let now : new ≡ with_course first (with_time (course_of first) time) = done r _ _ so can is in
    let next : with_course first (with_time (course_of first) time) ≡ with_course (bare old m) (with_time (course_of (bare old m)) time) =
    ap (λ (x : Game). with_course x (with_time (course_of x) time)) same in
    let last : with_course (bare old m) (with_time (course_of (bare old m)) time) ≡ record old { moves = old.moves ++ record { move = m; time = Some time } ∷ []; ending = None } =
    ap (λ (ms : List Timed). record old { moves = ms; ending = None }) (with_last old.moves m time) in
    now ∙ (next ∙ (last ∙ ap (λ (x : Option Ended). record old { moves = old.moves ++ record { move = m; time = Some time } ∷ []; ending = x }) (sym none)))

-- 3. what was said of an ending

-- the ending of a game, once it was sent one
pub kept_again : (client : Color) (k : Option Ended) (why : Option EndReason) (o : GameResult) → kept_of (is_some k) (ending_of client k why (Some o)) ≡ k
kept_again client None why o = refl
kept_again client (Some k) why o = refl
