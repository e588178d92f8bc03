-- The state of a cutter of lines.
use Rattle.std.specs.Prelude.{◌≡◌, ℕ, ◌-◌, ◌<◌, ◌≤◌, Bool, true, false, List, [], ◌∷◌, ◌++◌, length, take, Option, MatchOption, Result, Ok, Err}
use Rattle.std.specs.Borrow.{Bor}
use Rattle.csa_cutting.specs.Lines.{Lines, AreLineEnds, HasNoLineEnd}
use Rattle.csa_cutting.specs.declared.line.LineFault.{LineFault}
use Rattle.csa_cutting.specs.declared.line.LineFault.TheVariants.{TooLong, OutOfMemory}

-- the bytes of the unfinished line so far, the most bytes of a line, and whether a line had more
pub record LineCutting : Type 0 where
  pub held : List ℕ
  pub limit : ℕ
  pub failed : Bool

-- the first line of the bytes is over the limit
abbrev pub BeginsTooLong : ℕ → List ℕ → Type 0
BeginsTooLong limit bytes =
    (ends line following : List ℕ) × (bytes ≡ ends ++ (line ++ following)) × AreLineEnds ends
    × HasNoLineEnd line × (limit < length line)

-- the bytes contain a run over the limit with no line end in it
abbrev pub HasLongLine : ℕ → List ℕ → Type 0
HasLongLine limit bytes =
    (before line following : List ℕ) × (bytes ≡ before ++ (line ++ following)) × HasNoLineEnd line
    × (limit < length line)

-- how many bytes of the piece were used, and the line that was returned, if one was
abbrev pub LineAnswer : Type 0
LineAnswer = ℕ × Option (Bor (List ℕ))

-- either the line ended with the last byte that was used, and was unfinished before it; or the
-- whole piece was used and no line ended in it
abbrev pub LineStep : List ℕ → List ℕ → LineAnswer → Type 0
LineStep held piece r = (r.0 ≤ length piece) × MatchOption r.1
    (r.0 ≡ length piece)
    (λ line. (0 < r.0) × Lines (held ++ take r.0 piece) (line.now ∷ []) []
    × Lines (held ++ take (r.0 - 1) piece) [] line.now)

-- what is held after a step
abbrev pub LinesAfter : LineCutting → List ℕ → Result LineAnswer LineFault → LineCutting → Type 0
LinesAfter old piece (Ok r) new =
    (new.limit ≡ old.limit) × (new.failed ≡ false)
    × MatchOption r.1 (Lines (old.held ++ piece) [] new.held) (λ line. new.held ≡ [])
LinesAfter old piece (Err TooLong) new = new ≡ record old { failed = true }
LinesAfter old piece (Err OutOfMemory) new = new ≡ old

-- the line that is unfinished at the end, unless it is empty
abbrev pub LastLine : List ℕ → Option (Bor (List ℕ)) → Type 0
LastLine held last = MatchOption last (held ≡ []) (λ line. (line.now ≡ held) × (0 < length held))

abbrev pub LinesFinished : LineCutting → Result (Option (Bor (List ℕ))) LineFault → LineCutting
    → Type 0
LinesFinished old (Ok last) new = new ≡ record old { held = [] }
LinesFinished old (Err fault) new = new ≡ old
