-- The first statement of a record that is too long.
use Rattle.std.specs.Prelude.{◌≡◌, ℕ, ◌+◌, ◌<◌, ◌≤◌, List, ◌∷◌, ◌++◌, length}
use Rattle.std.specs.List.{AllByRecursion}
use Rattle.csa_cutting.specs.Cut.{TextUnit, IsCut, longest_statement}
use Rattle.csa_cutting.specs.PieceCutting.{PieceCutting, Leads, fresh}

-- none has more than 4,096 bytes
abbrev pub AreShort : List TextUnit → Type 0
AreShort statements = AllByRecursion (λ u. length u.bytes ≤ longest_statement) statements

-- the first of a record's statements with more than 4,096 bytes has this number and this offset
pub record FirstTooLong (source : List ℕ) (number offset : ℕ) : Type 0 where
  pub before : List TextUnit
  pub unit : TextUnit
  pub others : List TextUnit
  pub cut : IsCut source (before ++ (unit ∷ others))
  pub short : AreShort before
  pub long : longest_statement < length unit.bytes
  pub number_is : number ≡ length before + 1
  pub place : offset ≡ unit.offset

-- a cutter of pieces that has used this source has yielded these statements, and none is too long
abbrev pub HasCutOf : List ℕ → PieceCutting → List TextUnit → Type 0
HasCutOf source p handed = Leads fresh source handed p × AreShort handed
