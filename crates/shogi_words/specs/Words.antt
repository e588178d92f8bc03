-- The words that name the commands.
use Rattle.std.specs.Prelude.{◌≢◌, ℕ, List, [], ◌∷◌, Option, Some, codes}
use Rattle.shogi_words.specs.declared.request.Request.{Request}
use Rattle.shogi_words.specs.declared.request.Request.TheVariants.{Check, Digest, Same, Normal, Usi, Csa, Engine, Serve, Play}

-- the words of the commands, in the order of the help
abbrev pub commands : List (List ℕ)
commands =
    codes "check" ∷ codes "digest" ∷ codes "same" ∷ codes "normal"
    ∷ codes "usi" ∷ codes "csa" ∷ codes "engine" ∷ codes "serve" ∷ codes "play" ∷ []

-- none of the commands
abbrev pub IsNoCommand : Option (List ℕ) → Type 0
IsNoCommand name =
    (name ≢ Some (codes "check")) × (name ≢ Some (codes "digest"))
    × (name ≢ Some (codes "same")) × (name ≢ Some (codes "normal"))
    × (name ≢ Some (codes "usi")) × (name ≢ Some (codes "csa"))
    × (name ≢ Some (codes "engine")) × (name ≢ Some (codes "serve")) × (name ≢ Some (codes "play"))

-- the word of the requested command
abbrev pub word_of : Request → List ℕ
word_of (Check records) = codes "check"
word_of (Digest records) = codes "digest"
word_of (Same records likeness) = codes "same"
word_of (Normal one) = codes "normal"
word_of (Usi one) = codes "usi"
word_of (Csa file) = codes "csa"
word_of Engine = codes "engine"
word_of (Serve service) = codes "serve"
word_of (Play game) = codes "play"
