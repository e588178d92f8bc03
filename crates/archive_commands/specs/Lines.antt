-- For private functions: the lines about a file.
-- A reader of the public contracts may skip this file.
use Rattle.std.specs.Prelude.{◌≡◌, ℕ, List, [], ◌∷◌, ◌++◌, Option, Ok, codes}
use Rattle.hex.specs.Hex.{encode_lower}
use Rattle.record_commands.specs.Reports.{GetsRecord}
use Rattle.record_commands.specs.Words.{IsAcceptedLine}
use Rattle.archive_commands.specs.Explaining.{IsPlaceLine, IsReasonLine}
use Rattle.archive_commands.specs.Lists.{code_of}
use Rattle.archive_commands.specs.declared.lines.LineForm.{LineForm}
use Rattle.archive_commands.specs.declared.lines.LineKind.{LineKind}
use Rattle.archive_commands.specs.declared.lines.LineKind.TheVariants.{Checks, Digests}
use Rattle.record_game.specs.Canon.{canon}
use Rattle.record_game.specs.Game.{Game}
use Rattle.sha2.specs.Sha256.{sha256}
use Rattle.shogi_words.specs.declared.request.PathEnd.{PathEnd}
use Rattle.shogi_words.specs.declared.request.PathEnd.TheVariants.{Line, Nul}

-- the line of `sha256sum`: the digest in hex digits, two blanks, the file, and LF or NUL
abbrev pub digits_line : PathEnd → List ℕ → List ℕ → List ℕ
digits_line end file digest = encode_lower digest ++ (32 ∷ 32 ∷ (file ++ (code_of end ∷ [])))

-- its digest is that of the canonical text
abbrev pub digest_line : PathEnd → List ℕ → Game → List ℕ
digest_line end file g = digits_line end file (sha256 (canon g))

-- what is said of a file: its path, a colon and a blank, or NUL alone, and then that
abbrev pub said_of : PathEnd → List ℕ → List ℕ → List ℕ
said_of Line file said = file ++ (58 ∷ 32 ∷ said)
said_of Nul file said = file ++ (0 ∷ said)

-- the line of this kind of an accepted record in this file, whose path ends in that way
abbrev pub IsLine : LineKind → PathEnd → List ℕ → Game → List ℕ → Type 0
IsLine Checks end file g line =
    (accepted : List ℕ) × IsAcceptedLine g accepted × (line ≡ said_of end file accepted)
IsLine Digests end file g line = line ≡ digest_line end file g

-- the line of this form
abbrev pub IsLineOf : LineForm → List ℕ → Game → List ℕ → Type 0
IsLineOf form = IsLine form.kind form.path_end

-- an input contains a game, and this line fits it
abbrev pub HasLine : {Input : Type 0} → Type 0 → (Input → Type 0) → (Input → Option (List ℕ))
    → (Game → List ℕ → Type 0) → List ℕ → Type 0
HasLine Unopened Opened bytes Fits line =
    (game : Game) × GetsRecord Unopened Opened bytes (Ok game) × Fits game line

-- the line of a refused record: it ends with the words of the refusal
abbrev pub IsRefusedLine : List ℕ → List ℕ → Type 0
IsRefusedLine file line =
    (words : List ℕ) × (line ≡ file ++ (codes ": refused: " ++ (words ++ (10 ∷ []))))

abbrev pub unreadable_line : List ℕ → List ℕ
unreadable_line file = file ++ codes ": read fault\n"

-- the line of a refused record, and then the one that shows its statement, if there is one
abbrev pub AreRefusedLines : List ℕ → List ℕ → Type 0
AreRefusedLines file text = (line place : List ℕ)
    × IsRefusedLine file line × IsPlaceLine file place × (text ≡ line ++ place)

-- the line of a file that cannot be read, and then the one with the reason, if there is one
abbrev pub AreUnreadableLines : List ℕ → List ℕ → Type 0
AreUnreadableLines file text =
    (reason : List ℕ) × IsReasonLine file reason × (text ≡ unreadable_line file ++ reason)
