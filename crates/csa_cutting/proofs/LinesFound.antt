-- All bytes have lines.
use Rattle.std.proofs.Common.{◌≡◌, ℕ, Bool, true, false, List, [], ◌∷◌, ◌++◌, arith, refl, ap}
use Rattle.csa_cutting.specs.Lines.{is_line_end, AreLineEnds, IsNextLine, Lines}

abbrev HasLines : List ℕ → Type 0
HasLines bytes = (lines : List (List ℕ)) × (rest : List ℕ) × Lines bytes lines rest

-- a line end in front is skipped
after_end : (b : ℕ) (bytes : List ℕ) (lines : List (List ℕ)) (rest : List ℕ) → is_line_end b ≡ true → Lines bytes lines rest → Lines (b ∷ bytes) lines rest
after_end b bytes [] rest e (ends, whole, skipped, run) = (b ∷ ends, ap (λ xs. b ∷ xs) whole, (e, skipped), run)
after_end b bytes (line ∷ lines) rest e (following, n, others) = (
  following,
  record { ends = b ∷ n.ends; whole = ap (λ xs. b ∷ xs) n.whole; skipped = (e, n.skipped); some = n.some; run = n.run; closed = n.closed },
  others,
)

-- a line of one byte, where a line end follows
alone : (b x : ℕ) (following : List ℕ) → is_line_end b ≡ false → is_line_end x ≡ true → IsNextLine (b ∷ x ∷ following) (b ∷ []) (x ∷ following)
alone b x following e f = record { ends = []; whole = refl; skipped = tt; some = omega arith; run = (e, tt); closed = f }

before_line : (b : ℕ) (bytes line : List ℕ) (lines : List (List ℕ)) (rest following ends : List ℕ) → is_line_end b ≡ false → bytes ≡ ends ++ (line ++ following) → AreLineEnds ends → IsNextLine bytes line following → Lines following lines rest → HasLines (b ∷ bytes)
before_line b bytes line lines rest following [] e whole skipped n others = (
  (b ∷ line) ∷ lines,
  rest,
  (following, record { ends = []; whole = ap (λ xs. b ∷ xs) whole; skipped = tt; some = omega arith; run = (e, n.run); closed = n.closed }, others),
)
before_line b bytes line lines rest following (x ∷ ends) e whole skipped n others =
    let first : IsNextLine (b ∷ bytes) (b ∷ []) bytes = rw whole (alone b x (ends ++ (line ++ following)) e skipped.0) in
    ((b ∷ []) ∷ line ∷ lines, rest, (bytes, first, (following, n, others)))

-- any other byte in front continues the first line or the rest, or is a line of its own
before_run : (b : ℕ) (bytes : List ℕ) (lines : List (List ℕ)) (rest : List ℕ) → is_line_end b ≡ false → Lines bytes lines rest → HasLines (b ∷ bytes)
before_run b bytes [] rest e ([], whole, skipped, run) = ([], b ∷ rest, ([], ap (λ xs. b ∷ xs) whole, tt, (e, run)))
before_run b bytes [] rest e (x ∷ ends, whole, skipped, run) =
    let n : IsNextLine (b ∷ bytes) (b ∷ []) bytes = rw whole (alone b x (ends ++ rest) e skipped.0) in
    ((b ∷ []) ∷ [], rest, (bytes, n, (x ∷ ends, whole, skipped, run)))
before_run b bytes (line ∷ lines) rest e (following, n, others) = before_line b bytes line lines rest following n.ends e n.whole n.skipped n others

in_front : (b : ℕ) (bytes : List ℕ) (lines : List (List ℕ)) (rest : List ℕ) (ends : Bool) → is_line_end b ≡ ends → Lines bytes lines rest → HasLines (b ∷ bytes)
in_front b bytes lines rest true e l = (lines, rest, after_end b bytes lines rest e l)
in_front b bytes lines rest false e l = before_run b bytes lines rest e l

pub lines_found : (bytes : List ℕ) → HasLines bytes
lines_found [] = ([], [], ([], refl, tt, tt))
lines_found (b ∷ bytes) = let l = lines_found bytes in in_front b bytes l.0 l.1 (is_line_end b) refl l.2
