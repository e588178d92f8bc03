-- What a cutter of pieces returns.
use Rattle.std.specs.Prelude.{◌≡◌, ℕ, ◌+◌, ◌-◌, ◌<◌, ◌≤◌, ◌==◌, ◌||◌, Bool, false, List, [], ◌∷◌, length, take, Option, None, Some, MatchOption, Result, Ok, Err, IfOk, IfErr}
use Rattle.std.specs.List.{AllByRecursion}
use Rattle.csa_cutting.specs.Cut.{TextUnit, is_separator, takes_line, statement_bytes, longest_statement}
use Rattle.csa_cutting.specs.PieceCutting.{PieceCutting, ToComeWith, Closes, Leads, held_of}
use Rattle.csa_cutting.specs.declared.cutter.Statement.{Statement}
use Rattle.csa_cutting.specs.declared.cutter.CutFault.{CutFault}
use Rattle.csa_cutting.specs.declared.piece.Cut.{Cut}

-- the statement that comes after so many others
pub record IsNumbered (count : ℕ) (unit : TextUnit) (s : Statement) : Type 0 where
  pub number_is : s.number ≡ count + 1
  pub place : s.offset ≡ unit.offset
  pub slice : s.bytes.now ≡ statement_bytes unit.bytes
  pub short : length unit.bytes ≤ longest_statement

-- one or more bytes, none of them a separator, that begin no comment, name or header
abbrev pub IsWord : List ℕ → Type 0
IsWord [] = ⊥
IsWord (first ∷ bytes) = (takes_line first ≡ false)
    × AllByRecursion (λ b. is_separator b ≡ false) (first ∷ bytes)

-- the bytes begin with a separator or a comment
abbrev pub begins_unspoken : List ℕ → Bool
begins_unspoken [] = false
begins_unspoken (first ∷ bytes) = is_separator first || first == 39

-- nothing is unfinished, and no statement was refused
abbrev pub IsBetween : PieceCutting → Type 0
IsBetween p = (p.begins ≡ false) × (p.unfinished ≡ []) × (p.refused ≡ None)

-- a statement that begins in the piece lies in it: the piece is at this address, after so many
-- bytes
abbrev pub IsLentFrom : ℕ × ℕ → ℕ → Statement → Type 0
IsLentFrom piece fed s = fed ≤ s.offset → s.bytes.ref_ptr ≡ (piece.0, piece.1 + (s.offset - fed))

-- the whole piece if no statement ends in it, else at least one byte
abbrev pub IsUsed : List ℕ → Cut → Type 0
IsUsed piece cut =
    MatchOption cut.statement (cut.used ≡ length piece)
    (λ s. (0 < cut.used) × (cut.used ≤ length piece))

-- exactly this statement is closed, by the byte after its unit, which is the last byte used
pub record Ends (old : PieceCutting) (piece : List ℕ) (used : ℕ) (s : Statement)
    (new : PieceCutting) : Type 0 where
  pub unit : TextUnit
  pub stated : IsNumbered old.number unit s
  pub some : 0 < used
  pub within : used ≤ length piece
  pub last : old.fed + used ≡ unit.offset + length unit.bytes + 1
  pub leads : Leads old (take used piece) (unit ∷ []) new

-- either no statement is closed in the whole piece, or this one is
abbrev pub Used : PieceCutting → List ℕ → ℕ → Option Statement → PieceCutting → Type 0
Used old piece used None new = (used ≡ length piece) × Leads old piece [] new
Used old piece used (Some s) new = Ends old piece used s new

-- after a step what is unfinished is held and no more; if a statement was returned, its bytes are
-- held if it began before this piece
abbrev pub HoldsAfter : PieceCutting → Option Statement → PieceCutting → Type 0
HoldsAfter old None new = new.held ≡ held_of new.unfinished
HoldsAfter old (Some s) new = (old.fed ≤ s.offset → new.held ≡ [])
    × (s.offset < old.fed → s.bytes.now ≡ statement_bytes new.held)

-- the statement at this offset is the one that was found before, or the first one that these bytes
-- close, and too long
abbrev pub IsTooLongAt : Option ℕ → PieceCutting → List ℕ → ℕ → Type 0
IsTooLongAt (Some before) old piece offset = offset ≡ before
IsTooLongAt None old piece offset =
    (unit : TextUnit) × (others : List TextUnit) × Closes old piece (unit ∷ others)
    × (longest_statement < length unit.bytes) × (offset ≡ unit.offset)

-- the view after a step; a refusal is kept, and all else is unchanged
pub record AfterStep (old : PieceCutting) (piece : List ℕ) (result : Result Cut CutFault)
    (new : PieceCutting) : Type 0 where
  pub led : IfOk result (λ cut. Used old piece cut.used cut.statement new)
  pub held : IfOk result (λ cut. HoldsAfter old cut.statement new)
  pub refused : IfErr result (λ fault. new ≡ record old { refused = Some fault.offset })

-- what `step` ensures of its result and of the view afterwards
pub record Stepped (old : PieceCutting) (piece : List ℕ) (result : Result Cut CutFault)
    (new : PieceCutting) : Type 0 where
  pub going : IfOk result (λ _. old.refused ≡ None)
  pub number_is : IfErr result (λ fault. fault.number ≡ old.number + 1)
  pub place : IfErr result (λ fault. IsTooLongAt old.refused old piece fault.offset)
  pub after : AfterStep old piece result new

-- the statement that is unfinished, if one is
abbrev pub Last : PieceCutting → Option Statement → Type 0
Last old None = ToComeWith old [] []
Last old (Some s) = (unit : TextUnit) × IsNumbered old.number unit s × ToComeWith old [] (unit ∷ [])

-- how many statements have been yielded, with the last one if there is one
abbrev pub counted : ℕ → Option Statement → ℕ
counted count None = count
counted count (Some s) = s.number

-- the view after the end; a refusal changes nothing
abbrev pub AfterEnd : PieceCutting → Result (Option Statement) CutFault → PieceCutting → Type 0
AfterEnd old (Ok last) new = new
    ≡ record old { number = counted old.number last; begins = false; unfinished = [] }
AfterEnd old (Err fault) new = new ≡ old

-- what `finish` ensures of its result and of the view afterwards
pub record Finished (old : PieceCutting) (result : Result (Option Statement) CutFault)
    (new : PieceCutting) : Type 0 where
  pub going : IfOk result (λ _. old.refused ≡ None)
  pub last : IfOk result (λ last. Last old last)
  pub number_is : IfErr result (λ fault. fault.number ≡ old.number + 1)
  pub place : IfErr result (λ fault. old.refused ≡ Some fault.offset)
  pub after : AfterEnd old result new
