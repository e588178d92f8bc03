-- The state of a cutter on its way through a source.
use Rattle.std.specs.Prelude.{◌≡◌, ℕ, ◌+◌, ◌<◌, ◌≤◌, false, List, [], ◌∷◌, ◌++◌, length, drop, slice_range, Option, Result, IfOk, IfSome}
use Rattle.csa_cutting.specs.Cut.{TextUnit, IsUnit, Statements, begins_with, statement_bytes, longest_statement}
use Rattle.csa_cutting.specs.declared.cutter.Statement.{Statement}
use Rattle.csa_cutting.specs.declared.cutter.CutFault.{CutFault}

-- the source and its address, the offset up to which it is cut, and how many statements have been
-- yielded
pub record Cutting : Type 0 where
  pub source : List ℕ
  pub address : ℕ × ℕ
  pub at : ℕ
  pub number : ℕ

abbrev pub unit_between : List ℕ → ℕ → ℕ → TextUnit
unit_between source start end = record { offset = start; bytes = slice_range source start end }

-- the statements that are still to come
abbrev pub ToCome : Cutting → List TextUnit → Type 0
ToCome c statements = Statements c.at (drop c.at c.source) statements

-- between these places lies a statement's unit, or the part of it that follows the kept bytes: up
-- to the byte that ends it, or to the end of the bytes
pub record IsStatementUnit (kept bytes : List ℕ) (start end : ℕ) : Type 0 where
  pub order : start ≤ end
  pub within : end ≤ length bytes
  pub unit : IsUnit (kept ++ slice_range bytes start end) (drop end bytes)
  pub spoken : begins_with 39 (kept ++ slice_range bytes start end) ≡ false

-- the first unit of the source from one place on that is not a comment lies between these two: the
-- statements from its start on are the statements from that place on
pub record IsFirstStatement (source : List ℕ) (from start end : ℕ) : Type 0 where
  pub order : from ≤ start
  pub unit : IsStatementUnit [] source start end
  pub first : (others : List TextUnit) → Statements start (drop start source) others
      → Statements from (drop from source) others

-- what holds of the statement that was yielded, if one was
abbrev pub IfHandedOut : Result (Option Statement) CutFault → (Statement → Type 0) → Type 0
IfHandedOut result Holds = IfOk result (λ found. IfSome found Holds)

-- the first statement that was still to come was yielded, with its number and its offset
pub record IsHandedOut (old new : Cutting) (number offset : ℕ) (bytes : List ℕ) : Type 0 where
  pub first : IsFirstStatement old.source old.at offset new.at
  pub number_is : number ≡ old.number + 1
  pub counted : new.number ≡ number
  pub slice : bytes ≡ statement_bytes (slice_range old.source offset new.at)
  pub short : new.at ≤ offset + longest_statement

-- the first statement that is still to come is too long
pub record IsTooLong (c : Cutting) (number offset : ℕ) : Type 0 where
  pub unit : TextUnit
  pub others : List TextUnit
  pub first : ToCome c (unit ∷ others)
  pub number_is : number ≡ c.number + 1
  pub place : offset ≡ unit.offset
  pub long : longest_statement < length unit.bytes
