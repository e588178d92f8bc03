-- How CSA writes the pieces after `PI`, `P+` and `P-`: pairs of four bytes.
use Rattle.std.specs.Prelude.{ℕ, List, ◌++◌, codes}
use Rattle.std.specs.List.{AllByRecursion, flat_map}
use Rattle.csa_text.specs.Codes.{square_text, kind_code}
use Rattle.csa_text.specs.declared.pair.Pair.{Pair}
use Rattle.csa_text.specs.declared.pair.Pair.TheVariants.{On, InHand, Rest}

-- a square and a kind, `00` and a kind, or `00AL`
abbrev pub pair_text : Pair → List ℕ
pair_text (On square of_kind) = square_text square ++ kind_code of_kind
pair_text (InHand of_kind) = codes "00" ++ kind_code of_kind
pair_text Rest = codes "00AL"

abbrev pub pairs_text : List Pair → List ℕ
pairs_text pairs = flat_map pair_text pairs

abbrev pub IsOnBoard : Pair → Type 0
IsOnBoard (On square of_kind) = Unit {0}
IsOnBoard (InHand of_kind) = ⊥
IsOnBoard Rest = ⊥

-- each pair has a square, as `PI` requires
abbrev pub AllOnBoard : List Pair → Type 0
AllOnBoard pairs = AllByRecursion IsOnBoard pairs
