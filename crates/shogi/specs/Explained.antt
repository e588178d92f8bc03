-- The line after that of a fault, which explains it.
use Rattle.std.specs.Prelude.{◌≡◌, ℕ, List, []}
use Rattle.archive_commands.specs.Explaining.{IsPlaceLine, IsReasonLine}
use Rattle.shogi.specs.declared.stop.Stop.{Stop}
use Rattle.shogi.specs.declared.stop.Stop.TheVariants.{WordsNotText, UnknownCommand, BadName, BadPassword, Plan, Refused, NotAll, LineRefused, LineTooLong, Read, Write, ClientGone, ClientLineTooLong, Session, OutOfMemory}
use Rattle.shogi_words.specs.declared.request.Request.{Request}
use Rattle.shogi_words.specs.declared.request.Request.TheVariants.{Check, Digest, Same, Normal, Usi, Csa, Engine, Serve, Play}

-- the system's reason, for a file or an address
abbrev pub IsSystemReason : List ℕ → Type 0
IsSystemReason text = (name : List ℕ) × IsReasonLine name text

-- of records and position lines: a refusal is explained by its statement, and a read fault by its
-- reason, if by any line; no other fault is explained
abbrev pub IsFileExplained : Stop → List ℕ → Type 0
IsFileExplained (Refused refusal) text = (file : List ℕ) × IsPlaceLine file text
IsFileExplained Read text = IsSystemReason text
IsFileExplained WordsNotText text = text ≡ []
IsFileExplained UnknownCommand text = text ≡ []
IsFileExplained BadName text = text ≡ []
IsFileExplained BadPassword text = text ≡ []
IsFileExplained (Plan fault) text = text ≡ []
IsFileExplained (NotAll tally) text = text ≡ []
IsFileExplained (LineRefused fault) text = text ≡ []
IsFileExplained LineTooLong text = text ≡ []
IsFileExplained Write text = text ≡ []
IsFileExplained ClientGone text = text ≡ []
IsFileExplained ClientLineTooLong text = text ≡ []
IsFileExplained (Session fault) text = text ≡ []
IsFileExplained OutOfMemory text = text ≡ []

-- of `play`: a read or write fault is explained by its reason, if by any line; no other fault is
abbrev pub IsPlayExplained : Stop → List ℕ → Type 0
IsPlayExplained Read text = IsSystemReason text
IsPlayExplained Write text = IsSystemReason text
IsPlayExplained WordsNotText text = text ≡ []
IsPlayExplained UnknownCommand text = text ≡ []
IsPlayExplained BadName text = text ≡ []
IsPlayExplained BadPassword text = text ≡ []
IsPlayExplained (Plan fault) text = text ≡ []
IsPlayExplained (Refused refusal) text = text ≡ []
IsPlayExplained (NotAll tally) text = text ≡ []
IsPlayExplained (LineRefused fault) text = text ≡ []
IsPlayExplained LineTooLong text = text ≡ []
IsPlayExplained ClientGone text = text ≡ []
IsPlayExplained ClientLineTooLong text = text ≡ []
IsPlayExplained (Session fault) text = text ≡ []
IsPlayExplained OutOfMemory text = text ≡ []

-- of `serve`: a read fault is explained by the reason why nothing listens, if by any line; no other
-- fault is
abbrev pub IsServeExplained : Stop → List ℕ → Type 0
IsServeExplained Read text = IsSystemReason text
IsServeExplained Write text = text ≡ []
IsServeExplained WordsNotText text = text ≡ []
IsServeExplained UnknownCommand text = text ≡ []
IsServeExplained BadName text = text ≡ []
IsServeExplained BadPassword text = text ≡ []
IsServeExplained (Plan fault) text = text ≡ []
IsServeExplained (Refused refusal) text = text ≡ []
IsServeExplained (NotAll tally) text = text ≡ []
IsServeExplained (LineRefused fault) text = text ≡ []
IsServeExplained LineTooLong text = text ≡ []
IsServeExplained ClientGone text = text ≡ []
IsServeExplained ClientLineTooLong text = text ≡ []
IsServeExplained (Session fault) text = text ≡ []
IsServeExplained OutOfMemory text = text ≡ []

-- the line of this request
abbrev pub IsExplained : Request → Stop → List ℕ → Type 0
IsExplained (Check records) stop text = IsFileExplained stop text
IsExplained (Digest records) stop text = IsFileExplained stop text
IsExplained (Same records likeness) stop text = IsFileExplained stop text
IsExplained (Normal one) stop text = IsFileExplained stop text
IsExplained (Usi one) stop text = IsFileExplained stop text
IsExplained (Csa file) stop text = IsFileExplained stop text
IsExplained Engine stop text = IsFileExplained stop text
IsExplained (Serve service) stop text = IsServeExplained stop text
IsExplained (Play game) stop text = IsPlayExplained stop text
