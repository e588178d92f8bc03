-- When the items of two records differ only in where their names and headers are.
use Rattle.std.specs.Prelude.{◌≡◌, ℕ, List, [], ◌∷◌, ◌++◌, drop, filter}
use Rattle.shogi_board.specs.declared.color.Color.TheVariants.{Black, White}
use Rattle.csa_text.specs.Saying.{Saying}
use Rattle.record_game.specs.Items.{is_version, names, headers, body}

-- the second list has the headers of the first, each as often, in some order
abbrev pub Reordered : List (List ℕ × List ℕ) → List (List ℕ × List ℕ) → Type 0
Reordered [] others = others ≡ []
Reordered (h ∷ hs) others =
    (front : List (List ℕ × List ℕ)) × (following : List (List ℕ × List ℕ))
    × (others ≡ front ++ h ∷ following) × Reordered hs (front ++ following)

-- the same body, the same names and the same headers, wherever the names and headers are and in
-- whatever order the headers; a version and empty names and headers are in none of them
pub record IsRearranged (sayings others : List Saying) : Type 0 where
  pub same_body : body sayings ≡ body others
  pub black : names Black sayings ≡ names Black others
  pub white : names White sayings ≡ names White others
  pub same_headers : Reordered (headers sayings) (headers others)

-- if there is a version, it is the first item
abbrev pub IsVersionFirst : List Saying → Type 0
IsVersionFirst sayings = filter is_version (drop 1 sayings) ≡ []
