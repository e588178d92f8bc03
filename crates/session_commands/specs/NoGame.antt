-- For private functions: why there was no game, in the words of its log.
use Rattle.std.specs.Prelude.{◌≡◌, ◌⊎◌, ◌++◌, ◌∷◌, [], ℕ, List, Option, None, Some, codes}
use Rattle.session_commands.specs.FaultWords.{match_words}
use Rattle.session_commands.specs.Logging.{ClosesIfAny, RefusesIfAny}
use Rattle.session_setup.specs.Plans.{plan_text}
use Rattle.session_setup.specs.declared.fault.LoginFault.{LoginFault}
use Rattle.session_setup.specs.declared.fault.LoginFault.TheVariants as login
use Rattle.session_setup.specs.declared.fault.PlayCommandFault.{PlayCommandFault}
use Rattle.session_setup.specs.declared.fault.PlayCommandFault.TheVariants as play

abbrev pub login_words : LoginFault → List ℕ
login_words login.BadName = codes "bad name"
login_words login.BadPassword = codes "bad password"
login_words login.Read = codes "read fault"
login_words login.OutOfMemory = codes "out of memory"

abbrev pub play_words : PlayCommandFault → List ℕ
play_words (play.Plan fault) = plan_text fault
play_words (play.Login fault) = login_words fault
play_words (play.Match fault) = match_words fault

-- the line with a reason, if there is one
abbrev pub reason_line : Option (List ℕ) → List ℕ
reason_line None = []
reason_line (Some reason) = reason ++ 10 ∷ []

-- the lines that say why there was no game: the reason, if there is one, and the fault. The words
-- of a reason come from the system
abbrev pub no_game_text : Option (List ℕ) → PlayCommandFault → List ℕ
no_game_text reason fault = reason_line reason ++ (play_words fault ++ 10 ∷ [])

-- why there was no game was added to a log, if there is one
abbrev pub NotesFault : {L : Type 0} → (L → List ℕ → L → Type 0) → Option (List ℕ)
    → Option L → PlayCommandFault → Option L → Type 0
NotesFault closed reason log fault after =
    ClosesIfAny closed log (no_game_text reason fault) after

-- it was refused by the log, or there was not enough memory for the text, and nothing was added
abbrev pub NotesNoFault : {L : Type 0} → (L → List ℕ → L → Type 0) → Option (List ℕ)
    → Option L → PlayCommandFault → Option L → Type 0
NotesNoFault unclosed reason log fault after =
    (after ≡ log) ⊎ RefusesIfAny unclosed log (no_game_text reason fault) after
