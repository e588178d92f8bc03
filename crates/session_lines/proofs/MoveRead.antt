-- The move that a line's one statement spells.
use Rattle.std.proofs.Common.{◌≡◌, ℕ, List, [], ◌∷◌, Option, Some, None, MatchOption, refl, sym, ap, subst, ◌∙◌}
use Rattle.csa_cutting.proofs.Once.{statements_once}
use Rattle.csa_text.proofs.Sayings.{same_saying}
use Rattle.csa_cutting.specs.Cut.{TextUnit, statement_bytes}
use Rattle.csa_text.specs.Saying.{Saying, walked}
use Rattle.csa_text.specs.Spelling.{Spells}
use Rattle.shogi_board.specs.declared.color.Color.{Color}
use Rattle.shogi_board.specs.declared.moves.Move.{Move}
use Rattle.session_lines.specs.MoveLines.{IsAlone, TellsMove}

same_unit : (line : List ℕ) (u v : TextUnit) → IsAlone line u → IsAlone line v → u ≡ v
same_unit line u v a b = let e : u ∷ [] ≡ v ∷ [] = statements_once _ _ (u ∷ []) (v ∷ []) a.0 b.0 in cc

-- the line's one statement has these bytes
abbrev pub Only : List ℕ → List ℕ → Type 0
Only line bytes = (u : TextUnit) × IsAlone line u × (bytes ≡ statement_bytes u.bytes)

spelt : (line bytes : List ℕ) (color : Color) (m : Move) → Only line bytes → TellsMove line color m → Spells bytes (walked color m)
spelt line bytes color m only tells =
    let e = same_unit line tells.0 only.0 tells.1 only.1 in
    subst (λ b. Spells b (walked color m)) (ap (λ (u : TextUnit). statement_bytes u.bytes) e ∙ sym only.2) tells.2

pub no_move : (line bytes : List ℕ) → Only line bytes → ((s : Saying) → Spells bytes s → ⊥)
    → (color : Color) (m : Move) → TellsMove line color m → ⊥
no_move line bytes only none color m tells = none (walked color m) (spelt line bytes color m only tells)

pub no_line : (line : List ℕ) → ((u : TextUnit) → IsAlone line u → ⊥) → (color : Color) (m : Move) → TellsMove line color m → ⊥
no_line line none color m tells = none tells.0 tells.1

abbrev pub IsMove : Saying → Option (Color × Move) → Type 0
IsMove s answer = MatchOption answer ((color : Color) (m : Move) → s ≡ walked color m → ⊥) (λ r. s ≡ walked r.0 r.1)

pub move_of : (line bytes : List ℕ) (s : Saying) (answer : Option (Color × Move)) → Only line bytes → Spells bytes s → IsMove s answer
    → MatchOption answer ((color : Color) (m : Move) → TellsMove line color m → ⊥) (λ r. TellsMove line r.0 r.1)
move_of line bytes s None only spells h =
    λ color m tells. h color m (same_saying bytes s (walked color m) spells (spelt line bytes color m only tells))
move_of line bytes s (Some r) only spells h =
    (only.0, only.1, subst (λ b. Spells b (walked r.0 r.1)) only.2 (subst (Spells bytes) h spells))

walked_once : (c d : Color) (m n : Move) → walked c m ≡ walked d n → (c ≡ d) × (m ≡ n)
walked_once c d m n e = (cc, cc)

-- a line spells at most one move
pub move_once : (line : List ℕ) (c d : Color) (m n : Move) → TellsMove line c m → TellsMove line d n → (c ≡ d) × (m ≡ n)
move_once line c d m n a b =
    let only : Only line (statement_bytes a.0.bytes) = (a.0, a.1, refl) in
    walked_once c d m n (same_saying (statement_bytes a.0.bytes) (walked c m) (walked d n) a.2 (spelt line (statement_bytes a.0.bytes) d n only b))
