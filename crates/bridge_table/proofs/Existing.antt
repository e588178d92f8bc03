-- What always exists: a position line of a game, and a meaning of a line that begins with `+` or
-- `-`.
use Rattle.std.proofs.Common.{◌≡◌, ℕ, ◌++◌, ◌⊎◌, inl, inr, Bool, true, false, List, [], ◌∷◌, length, Some, None, codes, arith, refl, ap, subst, ◌∙◌}
use Rattle.std.specs.Prelude.{◌==◌}
use Rattle.std.specs.List.{filter}
use Rattle.std.proofs.lemmas.Bool.{cases_lt}
use Rattle.shogi_board.proofs.Same.{position-same}
use Rattle.shogi_board.specs.declared.color.Color.{Color}
use Rattle.shogi_board.specs.declared.kind.Kind.{Kind}
use Rattle.shogi_board.specs.declared.square.Square.{Square}
use Rattle.shogi_board.specs.Material.{bag_of}
use Rattle.shogi_board.specs.Placed.{Placed, even_start}
use Rattle.shogi_board.specs.Same.{same_position}
use Rattle.shogi_board.proofs.Drops.{held-of}
use Rattle.shogi_board.specs.declared.moves.Move.{Move}
use Rattle.shogi_board.specs.declared.moves.Move.TheVariants.{Walk, Put}
use Rattle.shogi_board.specs.Legal.{Legal, KindFits, HasPiece}
use Rattle.shogi_rules.specs.Positions.{IsGame, begun, played, position_after}
use Rattle.csa_cutting.proofs.Once.{cut_found}
use Rattle.csa_text.proofs.Sayings.{spells_or_not}
use Rattle.csa_cutting.specs.Cut.{TextUnit, IsCut, Units, IsGap, IsUnit, is_statement, is_separator, begins_with, statement_bytes}
use Rattle.csa_text.specs.Saying.{Saying, version, name, header, even, rank, pieces, turn, walked, time, ending}
use Rattle.csa_text.specs.Spelling.{fault_of_row}
use Rattle.csa_text.specs.declared.fault.TextFault.{TextFault}
use Rattle.csa_text.specs.declared.fault.TextFault.TheVariants.{StatementTooLong, Unknown}
use Rattle.record_game.specs.Game.{Timed}
use Rattle.record_game.specs.Tells.{IsSpelt}
use Rattle.usi_text.proofs.Games.{text_more, after_stated}
use Rattle.usi_text.specs.Letters.{square_text, letter}
use Rattle.usi_text.specs.LineText.{StartText, MovesText, AfterStart, LineText}
use Rattle.usi_text.specs.Moves.{UsiMove}
use Rattle.usi_text.specs.SfenText.{sfen_text}
use Rattle.session_lines.specs.MoveLines.{is_move_line}
use Rattle.session_lines.specs.ServerLines.{TellsTimed, IsMove, IsTime, UnitFault, ExtraFault, FirstTextFault}
use Rattle.session_lines.specs.ServerLines as lines
use Rattle.session_lines.proofs.LinesRead.{head_of, begins_so, either}

-- 1. position lines
walk_word : (p : Placed) (from to : Square) (k : Kind) → KindFits p (Walk from to k) → (word : List ℕ) × UsiMove p word (Walk from to k)
walk_word p from to k (was, there, inl e) = (square_text from ++ square_text to, (record { color = p.side; kind = was }, there, inl (refl, e)))
walk_word p from to k (was, there, inr e) = (square_text from ++ square_text to ++ codes "+", (record { color = p.side; kind = was }, there, inr (refl, e)))

drop_word : (p : Placed) (to : Square) (k : Kind) → HasPiece p (Put to k) → (word : List ℕ) × UsiMove p word (Put to k)
drop_word p to k h = (letter k ∷ (codes "*" ++ square_text to), ((held-of (bag_of p.material p.side) k h).0, refl))

legal_word : (p : Placed) (m : Move) → Legal p m → (word : List ℕ) × UsiMove p word m
legal_word p (Walk from to k) h = walk_word p from to k h.keeps.fits.kind_fits
legal_word p (Put to k) h = drop_word p to k h.keeps.fits.has_piece

some_moves : (start : Placed) (moves : List Move) → IsGame start moves → (text : List ℕ) × MovesText start moves text
some_moves start moves begun = ([], refl)
some_moves start moves (played before m game may) =
    let front = some_moves start before game in
    let word = legal_word (position_after start before) m may.legal in
    (front.0 ++ 32 ∷ word.0, text_more start before m front.0 word.0 front.1 word.1)

some_after : (start : Placed) (moves : List Move) (text : List ℕ) → MovesText start moves text → (rest : List ℕ) × AfterStart start moves rest
some_after start [] text h = ([], refl)
some_after start (m ∷ ms) text h = (codes " moves" ++ text, after_stated start (m ∷ ms) text (λ e. let f : length (m ∷ ms) ≡ 0 = e in omega (arith, f)) h)

start_by : (p : Placed) (v : Bool) → same_position p even_start ≡ v → (text : List ℕ) × StartText p text
start_by p true e = (codes "startpos", inl ((position-same p even_start).0 e, refl))
start_by p false e =
    (codes "sfen " ++ sfen_text p, inr (λ same. let f = (position-same p even_start).1 same in absurd (let g = f in let h = e in cc), refl))

pub some_line : (start : Placed) (moves : List Move) → IsGame start moves → (text : List ℕ) × LineText start moves text
some_line start moves game =
    let front = start_by start (same_position start even_start) refl in
    let text = some_moves start moves game in
    let rest = some_after start moves text.0 text.1 in
    (codes "position " ++ (front.0 ++ rest.0), (front.0, rest.0, refl, front.1, rest.1))

-- 2. a line that begins with `+` or `-` has a statement
signed : (l : List ℕ) → is_move_line l ≡ true → (head_of l ≡ 43) ⊎ (head_of l ≡ 45)
signed l h = elim (either (begins_with 43 l) (begins_with 45 l) h) [ inl x ↦ inl (begins_so 43 l x) | inr x ↦ inr (begins_so 45 l x) ]

clash : (b : ℕ) → is_separator b ≡ false → is_separator b ≡ true → ⊥
clash b h k = cc

unit_head : (b : ℕ) (bs gap bytes rest : List ℕ) → is_separator b ≡ false → b ∷ bs ≡ gap ++ (bytes ++ rest) → IsGap gap → IsUnit bytes rest
    → (bytes ≡ [] → ⊥) × (head_of bytes ≡ b)
unit_head b bs (c ∷ gap) bytes rest solid e g u = let same : b ≡ c = cc in absurd (clash b solid (ap is_separator same ∙ g.0))
unit_head b bs [] [] rest solid e g u = absurd u
unit_head b bs [] (x ∷ xs) rest solid e g u = let same : x ≡ b = cc in (λ none. let f : x ∷ xs ≡ [] = none in cc, same)

no_comment : (b : ℕ) (bytes : List ℕ) → (bytes ≡ [] → ⊥) → head_of bytes ≡ b → (b == 39) ≡ false → begins_with 39 bytes ≡ false
no_comment b [] some h e = absurd (some refl)
no_comment b (x ∷ xs) some h e = ap (λ n. n == 39) h ∙ e

statement_kept : (u : TextUnit) (us : List TextUnit) → begins_with 39 u.bytes ≡ false → [] ≡ filter is_statement (u ∷ us) → ⊥
statement_kept u us e h = let f : [] ≡ u ∷ filter is_statement us = rw e at h in cc

first_unit : (b : ℕ) (bs : List ℕ) (us : List TextUnit) → is_separator b ≡ false → (b == 39) ≡ false → Units 0 (b ∷ bs) us → [] ≡ filter is_statement us → ⊥
first_unit b bs [] solid plain h kept = clash b solid h.0
first_unit b bs (u ∷ us) solid plain h kept =
    let at = unit_head b bs h.1.gap u.bytes h.0 solid h.1.whole h.1.separators h.1.unit in
    statement_kept u us (no_comment b u.bytes at.0 at.1 plain) kept

plus : (bs : List ℕ) → IsCut (43 ∷ bs) [] → ⊥
plus bs c = first_unit 43 bs c.units refl refl c.cut c.kept

minus : (bs : List ℕ) → IsCut (45 ∷ bs) [] → ⊥
minus bs c = first_unit 45 bs c.units refl refl c.cut c.kept

no_units : (l : List ℕ) → is_move_line l ≡ true → IsCut l [] → ⊥
no_units [] h c = absurd (let e : false ≡ true = h in cc)
no_units (b ∷ bs) h c = elim (signed (b ∷ bs) h) [
  | inl e ↦ plus bs (subst (λ n. IsCut (n ∷ bs) []) e c)
  | inr e ↦ minus bs (subst (λ n. IsCut (n ∷ bs) []) e c)
]

-- 3. it has a first fault, or spells a move
abbrev NoFault : List ℕ → Type 0
NoFault l = (f : TextFault) → FirstTextFault l f → ⊥

abbrev NoMove : List ℕ → Type 0
NoMove l = (color : Color) (m : Timed) → TellsTimed l color m → ⊥

third : (l : List ℕ) (u v : TextUnit) (us : List TextUnit) (c : Color) (m : Move) (t : ℕ) → IsCut l (u ∷ v ∷ us) → IsSpelt u (walked c m) → IsSpelt v (time t) → NoFault l → NoMove l → ⊥
third l u v [] c m t cut first next no_fault no_move = no_move c (record { move = m; time = Some t }) (u ∷ v ∷ [], cut, (first, (next, tt)))
third l u v (w ∷ ws) c m t cut first next no_fault no_move =
    elim (cases_lt 4096 (length w.bytes)) [
      | inl long ↦ no_fault StatementTooLong (lines.more u v w ws c m t cut first next (lines.too_long long refl))
      | inr short ↦ no_fault Unknown (lines.more u v w ws c m t cut first next (lines.extra short refl))
    ]

other_time : (l : List ℕ) (u v : TextUnit) (us : List TextUnit) (c : Color) (m : Move) (s : Saying) → IsCut l (u ∷ v ∷ us) → IsSpelt u (walked c m) → IsSpelt v s
    → (IsTime s → ⊥) → NoFault l → ⊥
other_time l u v us c m s cut first next other no_fault = no_fault Unknown (lines.no_time u v us c m cut first (lines.another s next other refl))

second_item : (l : List ℕ) (u v : TextUnit) (us : List TextUnit) (c : Color) (m : Move) (s : Saying) → IsCut l (u ∷ v ∷ us) → IsSpelt u (walked c m) → IsSpelt v s
    → NoFault l → NoMove l → ⊥
second_item l u v us c m version cut first next no_fault no_move = other_time l u v us c m _ cut first next (λ h. let e : version ≡ time h.0 = h.1 in cc) no_fault
second_item l u v us c m (name d x) cut first next no_fault no_move = other_time l u v us c m _ cut first next (λ h. let e : name d x ≡ time h.0 = h.1 in cc) no_fault
second_item l u v us c m (header x y) cut first next no_fault no_move = other_time l u v us c m _ cut first next (λ h. let e : header x y ≡ time h.0 = h.1 in cc) no_fault
second_item l u v us c m (even x) cut first next no_fault no_move = other_time l u v us c m _ cut first next (λ h. let e : even x ≡ time h.0 = h.1 in cc) no_fault
second_item l u v us c m (rank x y) cut first next no_fault no_move = other_time l u v us c m _ cut first next (λ h. let e : rank x y ≡ time h.0 = h.1 in cc) no_fault
second_item l u v us c m (pieces d x) cut first next no_fault no_move = other_time l u v us c m _ cut first next (λ h. let e : pieces d x ≡ time h.0 = h.1 in cc) no_fault
second_item l u v us c m (turn d) cut first next no_fault no_move = other_time l u v us c m _ cut first next (λ h. let e : turn d ≡ time h.0 = h.1 in cc) no_fault
second_item l u v us c m (walked d x) cut first next no_fault no_move = other_time l u v us c m _ cut first next (λ h. let e : walked d x ≡ time h.0 = h.1 in cc) no_fault
second_item l u v us c m (time t) cut first next no_fault no_move = third l u v us c m t cut first next no_fault no_move
second_item l u v us c m (ending x) cut first next no_fault no_move = other_time l u v us c m _ cut first next (λ h. let e : ending x ≡ time h.0 = h.1 in cc) no_fault

second : (l : List ℕ) (u : TextUnit) (us : List TextUnit) (c : Color) (m : Move) → IsCut l (u ∷ us) → IsSpelt u (walked c m) → NoFault l → NoMove l → ⊥
second l u [] c m cut first no_fault no_move = no_move c (record { move = m; time = None }) (u ∷ [], cut, (first, tt))
second l u (v ∷ vs) c m cut first no_fault no_move =
    elim (cases_lt 4096 (length v.bytes)) [
      | inl long ↦ no_fault StatementTooLong (lines.no_time u v vs c m cut first (lines.too_long long refl))
      | inr short ↦ elim (spells_or_not (statement_bytes v.bytes)) [
        | inl said ↦ second_item l u v vs c m said.0 cut first (short, said.1) no_fault no_move
        | inr nothing ↦ no_fault (fault_of_row (statement_bytes v.bytes)) (lines.no_time u v vs c m cut first (lines.unread short nothing refl))
      ]
    ]

other_move : (l : List ℕ) (u : TextUnit) (us : List TextUnit) (s : Saying) → IsCut l (u ∷ us) → IsSpelt u s → (IsMove s → ⊥) → NoFault l → ⊥
other_move l u us s cut first other no_fault = no_fault Unknown (lines.no_move u us cut (lines.another s first other refl))

first_item : (l : List ℕ) (u : TextUnit) (us : List TextUnit) (s : Saying) → IsCut l (u ∷ us) → IsSpelt u s → NoFault l → NoMove l → ⊥
first_item l u us version cut first no_fault no_move = other_move l u us _ cut first (λ h. let e : version ≡ walked h.0 h.1 = h.2 in cc) no_fault
first_item l u us (name d x) cut first no_fault no_move = other_move l u us _ cut first (λ h. let e : name d x ≡ walked h.0 h.1 = h.2 in cc) no_fault
first_item l u us (header x y) cut first no_fault no_move = other_move l u us _ cut first (λ h. let e : header x y ≡ walked h.0 h.1 = h.2 in cc) no_fault
first_item l u us (even x) cut first no_fault no_move = other_move l u us _ cut first (λ h. let e : even x ≡ walked h.0 h.1 = h.2 in cc) no_fault
first_item l u us (rank x y) cut first no_fault no_move = other_move l u us _ cut first (λ h. let e : rank x y ≡ walked h.0 h.1 = h.2 in cc) no_fault
first_item l u us (pieces d x) cut first no_fault no_move = other_move l u us _ cut first (λ h. let e : pieces d x ≡ walked h.0 h.1 = h.2 in cc) no_fault
first_item l u us (turn d) cut first no_fault no_move = other_move l u us _ cut first (λ h. let e : turn d ≡ walked h.0 h.1 = h.2 in cc) no_fault
first_item l u us (walked c m) cut first no_fault no_move = second l u us c m cut first no_fault no_move
first_item l u us (time t) cut first no_fault no_move = other_move l u us _ cut first (λ h. let e : time t ≡ walked h.0 h.1 = h.2 in cc) no_fault
first_item l u us (ending x) cut first no_fault no_move = other_move l u us _ cut first (λ h. let e : ending x ≡ walked h.0 h.1 = h.2 in cc) no_fault

by_units : (l : List ℕ) (us : List TextUnit) → is_move_line l ≡ true → IsCut l us → NoFault l → NoMove l → ⊥
by_units l [] sign cut no_fault no_move = no_units l sign cut
by_units l (u ∷ us) sign cut no_fault no_move =
    elim (cases_lt 4096 (length u.bytes)) [
      | inl long ↦ no_fault StatementTooLong (lines.no_move u us cut (lines.too_long long refl))
      | inr short ↦ elim (spells_or_not (statement_bytes u.bytes)) [
        | inl said ↦ first_item l u us said.0 cut (short, said.1) no_fault no_move
        | inr nothing ↦ no_fault (fault_of_row (statement_bytes u.bytes)) (lines.no_move u us cut (lines.unread short nothing refl))
      ]
    ]

-- there is no line that begins with `+` or `-`, has no fault and spells no move
pub fault_or_stated : (l : List ℕ) → is_move_line l ≡ true → ((f : TextFault) → FirstTextFault l f → ⊥) → ((color : Color) (m : Timed) → TellsTimed l color m → ⊥) → ⊥
fault_or_stated l sign no_fault no_move = let all = cut_found l in by_units l all.0 sign all.1 no_fault no_move
