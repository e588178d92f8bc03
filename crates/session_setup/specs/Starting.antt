-- How programs are started, and groups of them ended.
use Rattle.std.specs.Prelude.{◌++◌, ℕ, List, [], ◌∷◌, codes, decimal}

-- a program was to be started, with these words
abbrev pub Starts : Type 0 → Type 1
Starts S = S → List ℕ → List (List ℕ) → Type 0

-- the words that kill all processes of a group: a minus before its number means a group
abbrev pub kill_words : ℕ → List (List ℕ)
kill_words number = codes "-KILL" ∷ codes "--" ∷ (codes "-" ++ decimal number) ∷ []

-- all processes of a group were to be killed
abbrev pub KillsGroup : {S : Type 0} → Starts S → S → Type 0
KillsGroup starts rt = (number : ℕ) × starts rt (codes "kill") (kill_words number)
