-- The state of a cutter of pieces.
use Rattle.std.specs.Prelude.{◌≡◌, ℕ, ◌+◌, ◌-◌, ◌⊎◌, Bool, true, false, List, [], ◌∷◌, ◌++◌, length, drop, filter, Option, None, if◌then◌else◌}
use Rattle.csa_cutting.specs.ClosedStatements.{is_closed}
use Rattle.csa_cutting.specs.Cut.{TextUnit, IsUnit, Statements, mark_length, begins_with}

-- how many bytes it has used; how many statements it has yielded; whether these bytes are the front
-- of a byte order mark, or none; what is unfinished: the bytes of that mark, the bytes of a unit,
-- or of a comment its first byte; the bytes that are held; and the offset of the statement that was
-- too long, if there was one
pub record PieceCutting : Type 0 where
  pub fed : ℕ
  pub number : ℕ
  pub begins : Bool
  pub unfinished : List ℕ
  pub held : List ℕ
  pub refused : Option ℕ

-- unfinished is nothing, or a comment, of which only the first byte is listed, or a statement's
-- unit; so a gap never is
abbrev pub IsOpen : List ℕ → Type 0
IsOpen unfinished =
    (unfinished ≡ [])
    ⊎ ((unfinished ≡ 39 ∷ []) ⊎ (IsUnit unfinished [] × (begins_with 39 unfinished ≡ false)))

-- what is held of the unfinished bytes: all of them, but nothing of a comment
abbrev pub held_of : List ℕ → List ℕ
held_of unfinished = if begins_with 39 unfinished then [] else unfinished

-- no bytes have come
abbrev pub fresh : PieceCutting
fresh = record { fed = 0; number = 0; begins = true; unfinished = []; held = []; refused = None }

-- how many bytes of the text are the mark
abbrev pub mark_of : Bool → List ℕ → ℕ
mark_of begins text = if begins then mark_length text else 0

-- after so many bytes, with these unfinished, the text that follows has these statements
abbrev pub Follows : Bool → ℕ → List ℕ → List ℕ → List TextUnit → Type 0
Follows begins fed held text statements =
    Statements (fed - length held + mark_of begins (held ++ text))
    (drop (mark_of begins (held ++ text)) (held ++ text)) statements

-- the statements that are still to come, if these bytes follow and no others
abbrev pub ToComeWith : PieceCutting → List ℕ → List TextUnit → Type 0
ToComeWith p text statements = Follows p.begins p.fed p.unfinished text statements

-- the closed statements that are still to come, if these bytes follow
abbrev pub Closes : PieceCutting → List ℕ → List TextUnit → Type 0
Closes p text closed = (statements : List TextUnit) × ToComeWith p text statements
    × (closed ≡ filter (is_closed (p.fed + length text)) statements)

-- these bytes close exactly these statements and lead to the new state: what is to come from the
-- new state comes after them
pub record Leads (old : PieceCutting) (text : List ℕ) (closed : List TextUnit)
    (new : PieceCutting) : Type 0 where
  pub took : new.fed ≡ old.fed + length text
  pub counted : new.number ≡ old.number + length closed
  pub closes : Closes old text closed
  pub onward : (more : List ℕ) (others : List TextUnit) → ToComeWith new more others
      → ToComeWith old (text ++ more) (closed ++ others)
  pub going : new.refused ≡ None
