-- The second line about a file that is refused or cannot be read.
use Rattle.std.specs.Prelude.{◌≡◌, ◌⊎◌, ℕ, List, [], ◌∷◌, ◌++◌, codes, decimal}

-- there is no line, or it shows a statement: its line's number, and its beginning
abbrev pub IsPlaceLine : List ℕ → List ℕ → Type 0
IsPlaceLine file text = (text ≡ []) ⊎ ((line : ℕ) × (words : List ℕ)
    × (text ≡ 32 ∷ 32 ∷ (file
    ++ (codes ", line " ++ (decimal line ++ (codes ": " ++ (words ++ 10 ∷ [])))))))

-- the line that gives a reason in these words
abbrev pub reason_line : List ℕ → List ℕ → List ℕ
reason_line file words = 32 ∷ 32 ∷ (file ++ (codes ": " ++ (words ++ 10 ∷ [])))

-- there is no line, or it gives a reason
abbrev pub IsReasonLine : List ℕ → List ℕ → Type 0
IsReasonLine file text = (text ≡ []) ⊎ ((words : List ℕ) × (text ≡ reason_line file words))
