-- For private functions and fields of `LineCutter`: what it holds, and the next run of bytes.
-- A reader of the public contracts may skip this file.
use Rattle.std.specs.Prelude.{◌≡◌, ℕ, ◌+◌, ◌-◌, ◌<◌, ◌≤◌, List, [], length, take, drop, slice_range}
use Rattle.csa_cutting.specs.Lines.{AreLineEnds, HasNoLineEnd, BeginsWithLineEnd}
use Rattle.csa_cutting.specs.declared.line.HeldLine.{HeldLine}
use Rattle.csa_cutting.specs.declared.line.HeldLine.TheVariants.{Unfinished, Returned}

-- the bytes of the unfinished line, among the held ones
abbrev pub unfinished_of : HeldLine → List ℕ → List ℕ
unfinished_of Unfinished held = held
unfinished_of Returned held = []

-- the bytes of the piece from start to end continue the held line, or are the next line after the
-- line ends at the front
pub record IsRun (held piece : List ℕ) (start end : ℕ) : Type 0 where
  pub order : start ≤ end
  pub within : end ≤ length piece
  pub skipped : AreLineEnds (take start piece)
  pub first : 0 < start → held ≡ []
  pub run : HasNoLineEnd (slice_range piece start end)
  pub ends : end < length piece → BeginsWithLineEnd (drop end piece)
  pub some : end < length piece → 0 < length held + (end - start)
