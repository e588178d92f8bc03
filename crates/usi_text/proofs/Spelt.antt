-- Parts of a rank and piles of a hand are distinguished by their first bytes.
use Rattle.std.proofs.Common.{◌≡◌, ℕ, ◌+◌, ◌*◌, ◌/◌, ◌%◌, ◌<◌, ◌≤◌, ◌==◌, inl, inr, Bool, true, false, cond, List, [], ◌∷◌, ◌++◌, Option, Some, None, arith, refl, sym, ap, ◌∙◌, lit≤, decimal}
use Rattle.std.proofs.lemmas.Bool.{cases_lt, cases_Bool}
use Rattle.std.proofs.lemmas.Fmt.{decimal_digit, decimal_step}
use Rattle.shogi_board.specs.declared.color.Color.{Color}
use Rattle.shogi_board.specs.declared.color.Color.TheVariants.{Black, White}
use Rattle.shogi_board.specs.declared.kind.Kind.{Kind}
use Rattle.shogi_board.specs.declared.kind.Kind.TheVariants.{Pawn, Lance, Knight, Silver, Gold, Bishop, Rook, King, ProPawn, ProLance, ProKnight, ProSilver, Horse, Dragon}
use Rattle.shogi_board.specs.declared.kind.Piece.{Piece}
use Rattle.shogi_board.specs.Pieces.{is_promoted, unpromoted}
use Rattle.usi_text.specs.Boards.{Part, empty_squares, one_piece, IsPart, part_text}
use Rattle.usi_text.specs.Hands.{IsCount, count_text}
use Rattle.usi_text.specs.Letters.{letter, color_letter, side_letter, piece_text}
use Rattle.usi_text.specs.Scanning.{HasNoDigit}

pub letter_low : (k : Kind) → 65 ≤ letter k
letter_low Pawn = lit≤ tt
letter_low Lance = lit≤ tt
letter_low Knight = lit≤ tt
letter_low Silver = lit≤ tt
letter_low Gold = lit≤ tt
letter_low Bishop = lit≤ tt
letter_low Rook = lit≤ tt
letter_low King = lit≤ tt
letter_low ProPawn = lit≤ tt
letter_low ProLance = lit≤ tt
letter_low ProKnight = lit≤ tt
letter_low ProSilver = lit≤ tt
letter_low Horse = lit≤ tt
letter_low Dragon = lit≤ tt

pub letter_high : (k : Kind) → letter k ≤ 90
letter_high Pawn = lit≤ tt
letter_high Lance = lit≤ tt
letter_high Knight = lit≤ tt
letter_high Silver = lit≤ tt
letter_high Gold = lit≤ tt
letter_high Bishop = lit≤ tt
letter_high Rook = lit≤ tt
letter_high King = lit≤ tt
letter_high ProPawn = lit≤ tt
letter_high ProLance = lit≤ tt
letter_high ProKnight = lit≤ tt
letter_high ProSilver = lit≤ tt
letter_high Horse = lit≤ tt
letter_high Dragon = lit≤ tt

color_low : (c : Color) (k : Kind) → 65 ≤ color_letter c k
color_low Black k = letter_low k
color_low White k = omega (arith, letter_low k)

pub side_low : (p : Piece) → 65 ≤ side_letter p
side_low p = color_low p.color p.kind

abbrev by_letter : ℕ → Kind
by_letter n = cond (n == 80) Pawn (cond (n == 76) Lance (cond (n == 78) Knight (cond (n == 83) Silver (cond (n == 71) Gold (cond (n == 66) Bishop (cond (n == 82) Rook King))))))

abbrev again : Kind → Bool → Kind
again k false = k
again Pawn true = ProPawn
again Lance true = ProLance
again Knight true = ProKnight
again Silver true = ProSilver
again Bishop true = Horse
again Rook true = Dragon
again k true = k

kind_again : (k : Kind) → again (by_letter (letter k)) (is_promoted k) ≡ k
kind_again Pawn = refl
kind_again Lance = refl
kind_again Knight = refl
kind_again Silver = refl
kind_again Gold = refl
kind_again Bishop = refl
kind_again Rook = refl
kind_again King = refl
kind_again ProPawn = refl
kind_again ProLance = refl
kind_again ProKnight = refl
kind_again ProSilver = refl
kind_again Horse = refl
kind_again Dragon = refl

same_kind : (a b : Kind) → letter a ≡ letter b → is_promoted a ≡ is_promoted b → a ≡ b
same_kind a b e d =
    sym (kind_again a) ∙ (ap (λ n. again (by_letter n) (is_promoted a)) e ∙ (ap (again (by_letter (letter b))) d ∙ kind_again b))

same_letters : (c d : Color) (a b : Kind) → color_letter c a ≡ color_letter d b → (c ≡ d) × (letter a ≡ letter b)
same_letters Black Black a b e = (refl, e)
same_letters Black White a b e = absurd (omega (arith, letter_high a, letter_low b))
same_letters White Black a b e = absurd (omega (arith, letter_high b, letter_low a))
same_letters White White a b e = (refl, omega arith)

abbrev made : Color → Kind → Piece
made c k = record { color = c; kind = k }

-- a piece is determined by its letter and whether it is promoted
pub same_piece : (p q : Piece) → side_letter p ≡ side_letter q → is_promoted p.kind ≡ is_promoted q.kind → p ≡ q
same_piece p q e d =
    let s = same_letters p.color q.color p.kind q.kind e in
    ap (λ c. made c p.kind) s.0 ∙ ap (λ k. made q.color k) (same_kind p.kind q.kind s.1 d)

abbrev text_of : Bool → ℕ → List ℕ
text_of true l = 43 ∷ l ∷ []
text_of false l = l ∷ []

text_once : (b c : Bool) (l m : ℕ) (x y : List ℕ) → 65 ≤ l → 65 ≤ m → text_of b l ++ x ≡ text_of c m ++ y → (b ≡ c) × (l ≡ m) × (x ≡ y)
text_once true true l m x y h k e = (refl, cc, cc)
text_once true false l m x y h k e = let f : 43 ≡ m = cc in absurd (omega arith)
text_once false true l m x y h k e = let f : l ≡ 43 = cc in absurd (omega arith)
text_once false false l m x y h k e = (refl, cc, cc)

piece_is : (p : Piece) → piece_text p ≡ text_of (is_promoted p.kind) (side_letter p)
piece_is p = elim (cases_Bool (is_promoted p.kind)) [ inl t ↦ rw t refl | inr f ↦ rw f refl ]

-- the first byte of a piece is not a digit
text_head : (b : Bool) (l n : ℕ) (x y : List ℕ) → 65 ≤ l → 48 ≤ n → n ≤ 57 → n ∷ y ≡ text_of b l ++ x → ⊥
text_head true l n x y h low high e = let f : n ≡ 43 = cc in omega arith
text_head false l n x y h low high e = let f : n ≡ l = cc in omega arith

digit_no_piece : (p : Piece) (n : ℕ) (x y : List ℕ) → 48 ≤ n → n ≤ 57 → n ∷ y ≡ piece_text p ++ x → ⊥
digit_no_piece p n x y low high e =
    let f = rw (piece_is p) at e in text_head (is_promoted p.kind) (side_letter p) n x y (side_low p) low high f

-- no part is the front of another
pub part_once : (p q : Part) (x y : List ℕ) → IsPart p → IsPart q → part_text p ++ x ≡ part_text q ++ y → (p ≡ q) × (x ≡ y)
part_once (empty_squares m) (empty_squares n) x y h k e = let f : 48 + m ≡ 48 + n = cc in let g : m ≡ n = omega arith in (ap empty_squares g, cc)
part_once (empty_squares m) (one_piece q) x y h k e = absurd (digit_no_piece q (48 + m) y x (omega arith) (omega arith) e)
part_once (one_piece p) (empty_squares n) x y h k e = absurd (digit_no_piece p (48 + n) x y (omega arith) (omega arith) (sym e))
part_once (one_piece p) (one_piece q) x y h k e =
    let f = rw (piece_is p, piece_is q) at e in
    let s = text_once (is_promoted p.kind) (is_promoted q.kind) (side_letter p) (side_letter q) x y (side_low p) (side_low q) f in
    (ap one_piece (same_piece p q s.1 s.0), s.2)

letter_same : (k : Kind) → letter (unpromoted k) ≡ letter k
letter_same Pawn = refl
letter_same Lance = refl
letter_same Knight = refl
letter_same Silver = refl
letter_same Gold = refl
letter_same Bishop = refl
letter_same Rook = refl
letter_same King = refl
letter_same ProPawn = refl
letter_same ProLance = refl
letter_same ProKnight = refl
letter_same ProSilver = refl
letter_same Horse = refl
letter_same Dragon = refl

unpromoted_letter : (c : Color) (k : Kind) → color_letter c (unpromoted k) ≡ color_letter c k
unpromoted_letter Black k = letter_same k
unpromoted_letter White k = ap (λ n. n + 32) (letter_same k)

not_promoted : (k : Kind) → is_promoted (unpromoted k) ≡ false
not_promoted Pawn = refl
not_promoted Lance = refl
not_promoted Knight = refl
not_promoted Silver = refl
not_promoted Gold = refl
not_promoted Bishop = refl
not_promoted Rook = refl
not_promoted King = refl
not_promoted ProPawn = refl
not_promoted ProLance = refl
not_promoted ProKnight = refl
not_promoted ProSilver = refl
not_promoted Horse = refl
not_promoted Dragon = refl

-- the letters of unpromoted pieces are all letters
pub no_promoted : (l : ℕ) → ((p : Piece) → is_promoted p.kind ≡ false → side_letter p ≡ l → ⊥) → (p : Piece) → side_letter p ≡ l → ⊥
no_promoted l none p e =
    none (made p.color (unpromoted p.kind)) (not_promoted p.kind) (unpromoted_letter p.color p.kind ∙ e)

pub one_digit : (n : ℕ) → n < 10 → decimal n ≡ (48 + n) ∷ []
one_digit n h = decimal_digit n h

pub two_digits : (n : ℕ) → 10 ≤ n → n ≤ 99 → decimal n ≡ (48 + n / 10) ∷ (48 + n % 10) ∷ []
two_digits n low high =
    decimal_step n low (omega arith) ∙ ap (λ ds. ds ++ (48 + n % 10) ∷ []) (decimal_digit (n / 10) (omega arith))

abbrev pub Only : List ℕ → Option ℕ → List ℕ → Type 0
Only text found rest =
    (count : Option ℕ) (letter : ℕ) (following : List ℕ) → IsCount count → 57 < letter → text ≡ count_text count ++ letter ∷ following → (count ≡ found) × (letter ∷ following ≡ rest)

abbrev pub Read : List ℕ → Option ℕ → List ℕ → Type 0
Read text found rest = IsCount found × (text ≡ count_text found ++ rest)

-- a count begins with a digit other than 0
pub record Leads (n : ℕ) (text tail : List ℕ) : Type 0 where
  pub digit : ℕ
  pub others : List ℕ
  pub low : 1 ≤ digit
  pub high : digit ≤ 9
  pub whole : text ≡ (48 + digit) ∷ others

pub leads : (n : ℕ) (text tail : List ℕ) → 1 ≤ n → n ≤ 99 → text ≡ decimal n ++ tail → Leads n text tail
leads n text tail low high e =
    elim (cases_lt n 10) [
      | inl small ↦ record { digit = n; others = tail; low = low; high = omega arith; whole = e ∙ ap (λ ds. ds ++ tail) (one_digit n small) }
      | inr large ↦ record {
        digit = n / 10;
        others = (48 + n % 10) ∷ tail;
        low = omega arith;
        high = omega arith;
        whole = e ∙ ap (λ ds. ds ++ tail) (two_digits n large high);
      }
    ]

pub only_none : (text : List ℕ) → HasNoDigit text → Only text None text
only_none text none None l b i far e = (refl, sym e)
only_none text none (Some n) l b i far e =
    let k = leads n text (l ∷ b) i.0 i.1 e in absurd (none k.digit k.others (k.high, k.whole))

pub only_zero : (text rest : List ℕ) (d : ℕ) → d ≡ 0 → text ≡ (48 + d) ∷ rest → Only text None text
only_zero text rest d none zero None l b i far e = (refl, sym e)
only_zero text rest d none zero (Some n) l b i far e =
    let k = leads n text (l ∷ b) i.0 i.1 e in
    let w : (48 + d) ∷ rest ≡ (48 + k.digit) ∷ k.others = sym zero ∙ k.whole in
    let f : 48 + d ≡ 48 + k.digit = cc in
    let low = k.low in
    absurd (omega arith)

pub only_one : (text rest : List ℕ) (d : ℕ) → 1 ≤ d → d ≤ 9 → text ≡ (48 + d) ∷ rest → HasNoDigit rest → Only text (Some d) rest
only_one text rest d low high whole none None l b i far e =
    let w : (48 + d) ∷ rest ≡ l ∷ b = sym whole ∙ e in
    let f : 48 + d ≡ l = cc in
    absurd (omega arith)
only_one text rest d low high whole none (Some n) l b i far e =
    elim (cases_lt n 10) [
      | inl small ↦
          let w : (48 + d) ∷ rest ≡ (48 + n) ∷ l ∷ b = sym whole ∙ (e ∙ ap (λ ds. ds ++ l ∷ b) (one_digit n small)) in
          let f : 48 + d ≡ 48 + n = cc in
          let g : n ≡ d = omega arith in
          (ap Some g, cc)
      | inr large ↦
          let w : (48 + d) ∷ rest ≡ (48 + n / 10) ∷ (48 + n % 10) ∷ l ∷ b = sym whole ∙ (e ∙ ap (λ ds. ds ++ l ∷ b) (two_digits n large i.1)) in
          let f : rest ≡ (48 + n % 10) ∷ l ∷ b = cc in
          absurd (none (n % 10) (l ∷ b) (omega arith, f))
    ]

pub only_two : (text rest following : List ℕ) (d o : ℕ) → 1 ≤ d → d ≤ 9 → o ≤ 9 → text ≡ (48 + d) ∷ rest → rest ≡ (48 + o) ∷ following → Only text (Some (d * 10 + o)) following
only_two text rest following d o low high few whole second None l b i far e =
    let w : (48 + d) ∷ rest ≡ l ∷ b = sym whole ∙ e in
    let f : 48 + d ≡ l = cc in
    absurd (omega arith)
only_two text rest following d o low high few whole second (Some n) l b i far e =
    elim (cases_lt n 10) [
      | inl small ↦
          let w : (48 + d) ∷ rest ≡ (48 + n) ∷ l ∷ b = sym whole ∙ (e ∙ ap (λ ds. ds ++ l ∷ b) (one_digit n small)) in
          let f : rest ≡ l ∷ b = cc in
          let v : (48 + o) ∷ following ≡ l ∷ b = sym second ∙ f in
          let g : 48 + o ≡ l = cc in
          absurd (omega arith)
      | inr large ↦
          let w : (48 + d) ∷ rest ≡ (48 + n / 10) ∷ (48 + n % 10) ∷ l ∷ b = sym whole ∙ (e ∙ ap (λ ds. ds ++ l ∷ b) (two_digits n large i.1)) in
          let f : 48 + d ≡ 48 + n / 10 = cc in
          let r : rest ≡ (48 + n % 10) ∷ l ∷ b = cc in
          let v : (48 + o) ∷ following ≡ (48 + n % 10) ∷ l ∷ b = sym second ∙ r in
          let g : 48 + o ≡ 48 + n % 10 = cc in
          let m : n ≡ d * 10 + o = omega arith in
          (ap Some m, cc)
    ]

pub read_one : (text rest : List ℕ) (d : ℕ) → 1 ≤ d → d ≤ 9 → text ≡ (48 + d) ∷ rest → Read text (Some d) rest
read_one text rest d low high whole =
    ((low, omega arith), whole ∙ ap (λ ds. ds ++ rest) (sym (one_digit d (omega arith))))

pub read_two : (text rest following : List ℕ) (d o : ℕ) → 1 ≤ d → d ≤ 9 → o ≤ 9 → text ≡ (48 + d) ∷ rest → rest ≡ (48 + o) ∷ following → Read text (Some (d * 10 + o)) following
read_two text rest following d o low high few whole second =
    let n = d * 10 + o in
    let tens : d ≡ n / 10 = omega arith in
    let ones : o ≡ n % 10 = omega arith in
    let all : text ≡ (48 + d) ∷ (48 + o) ∷ following = whole ∙ ap (λ r. (48 + d) ∷ r) second in (
      (omega arith, omega arith),
      all ∙ (ap (λ x. (48 + x) ∷ (48 + o) ∷ following) tens ∙ (ap (λ x. (48 + n / 10) ∷ (48 + x) ∷ following) ones ∙ ap (λ ds. ds ++ following) (sym (two_digits n (omega arith) (omega arith))))),
    )
