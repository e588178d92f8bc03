-- A whole run of a cutter: its steps, one after another.
use Rattle.std.specs.Prelude.{◌≡◌, ℕ, ◌+◌, List, [], ◌∷◌, ◌++◌, map, take, Option, Some, None, Ok}
use Rattle.std.specs.List.{flat_map}
use Rattle.csa_cutting.specs.Cut.{TextUnit, IsCut}
use Rattle.csa_cutting.specs.Cutting.{Cutting, IsHandedOut}
use Rattle.std.specs.Borrow.{Bor}
use Rattle.csa_cutting.specs.LineCutting.{LineCutting, BeginsTooLong, LineAnswer, LineStep, LinesAfter}
use Rattle.csa_cutting.specs.PieceCutting.{PieceCutting}
use Rattle.csa_cutting.specs.PieceSteps.{IsNumbered, Stepped}
use Rattle.csa_cutting.specs.declared.cutter.Statement.{Statement}
use Rattle.csa_cutting.specs.declared.piece.Cut.{Cut as Step}

-- one statement for each unit, numbered from here on
abbrev pub AreNumbered : ℕ → List TextUnit → List Statement → Type 0
AreNumbered count [] [] = Unit {0}
AreNumbered count [] (s ∷ ss) = ⊥
AreNumbered count (u ∷ us) [] = ⊥
AreNumbered count (u ∷ us) (s ∷ ss) = IsNumbered count u s × AreNumbered (count + 1) us ss

-- these are the statements of the source, with their numbers, offsets and bytes, and none is too
-- long
abbrev pub AreStatementsOf : List ℕ → List Statement → Type 0
AreStatementsOf source given = (units : List TextUnit) × IsCut source units
    × AreNumbered 0 units given

abbrev pub given : Option Statement → List Statement
given None = []
given (Some s) = s ∷ []

-- pieces and the answers to them, one after another
abbrev pub Answered : PieceCutting → List (List ℕ × Step) → PieceCutting → Type 0
Answered old [] new = old ≡ new
Answered old (s ∷ steps) new = (next : PieceCutting) × Stepped old s.0 (Ok s.1) next
    × Answered next steps new

-- the bytes that were used
abbrev pub all_used : List (List ℕ × Step) → List ℕ
all_used steps = flat_map (λ s. take s.1.used s.0) steps

-- the statements that were yielded
abbrev pub all_given : List (List ℕ × Step) → List Statement
all_given steps = flat_map (λ s. given s.1.statement) steps

-- the statements that a cutter yielded, one after another
abbrev pub HandedOut : Cutting → List Statement → Cutting → Type 0
HandedOut old [] new = old ≡ new
HandedOut old (s ∷ ss) new = (next : Cutting) × (next.source ≡ old.source)
    × IsHandedOut old next s.number s.offset s.bytes.now × HandedOut next ss new

-- a statement by its number, its offset and its bytes
abbrev pub stated : Statement → ℕ × ℕ × List ℕ
stated s = (s.number, s.offset, s.bytes.now)

abbrev pub all_stated : List Statement → List (ℕ × ℕ × List ℕ)
all_stated ss = map stated ss

-- pieces and the answers of a cutter of lines to them, one after another
abbrev pub LineAnswers : LineCutting → List (List ℕ × LineAnswer) → LineCutting → Type 0
LineAnswers old [] new = old ≡ new
LineAnswers old (s ∷ steps) new = (next : LineCutting)
    × (BeginsTooLong old.limit (old.held ++ s.0) → ⊥) × LineStep old.held s.0 s.1
    × LinesAfter old s.0 (Ok s.1) next × LineAnswers next steps new

abbrev pub all_taken : List (List ℕ × LineAnswer) → List ℕ
all_taken steps = flat_map (λ s. take s.1.0 s.0) steps

abbrev pub line_given : Option (Bor (List ℕ)) → List (List ℕ)
line_given None = []
line_given (Some line) = line.now ∷ []

abbrev pub all_lines : List (List ℕ × LineAnswer) → List (List ℕ)
all_lines steps = flat_map (λ s. line_given s.1.1) steps
