-- Whole lines are not empty, contain no line end and have no space at their end; the bytes of such
-- lines are cut back into them.
use Rattle.std.proofs.Common.{◌≡◌, ◌≢◌, ℕ, zero, suc, ◌+◌, ◌/◌, ◌%◌, ◌<◌, ◌≤◌, ◌++◌, ◌==◌, if◌then◌else◌, inl, inr, Bool, true, false, cond, List, [], ◌∷◌, length, decimal, arith, refl, ap, ◌∙◌, append_assoc}
use Rattle.std.specs.Fmt.{digits, digits_onto, digit_glyph}
use Rattle.std.specs.List.{AllByRecursion}
use Rattle.std.specs.Prelude.{nat_lt}
use Rattle.std.proofs.lemmas.Bool.Decides.{eqb_tells}
use Rattle.shogi_board.specs.declared.color.Color.{Color}
use Rattle.shogi_board.specs.declared.color.Color.TheVariants.{Black, White}
use Rattle.shogi_board.specs.declared.kind.Kind.{Kind}
use Rattle.shogi_board.specs.declared.kind.Kind.TheVariants.{Pawn, Lance, Knight, Silver, Gold, Bishop, Rook, King, ProPawn, ProLance, ProKnight, ProSilver, Horse, Dragon}
use Rattle.shogi_board.specs.declared.square.Square.{Square}
use Rattle.shogi_board.specs.declared.moves.Move.{Move}
use Rattle.shogi_board.specs.declared.moves.Move.TheVariants.{Walk, Put}
use Rattle.csa_text.specs.Codes.{sign, kind_code, square_text, squares_text, move_text}
use Rattle.csa_cutting.specs.Lines.{Lines, IsNextLine, AreLineEnds, HasNoLineEnd, is_line_end}
use Rattle.host_and_sample.specs.Host.{IsLoginWord}
use Rattle.session_lines.specs.Texts.{text_of, without_last_spaces, before_unspaced}

-- 1. Bytes of a line
abbrev pub IsVisible : List ℕ → Type 0
IsVisible bytes = AllByRecursion (λ b. 33 ≤ b) bytes

pub record IsWhole (line : List ℕ) : Type 0 where
  pub some : 0 < length line
  pub run : HasNoLineEnd line
  pub unspaced : without_last_spaces line ≡ line

unlike : (b c : ℕ) → b ≢ c → (b == c) ≡ false
unlike b c h =
    elim (eqb_tells b c) [
      | inl same ↦ absurd (h same.1)
      | inr other ↦ other.0
    ]

no_end : (b : ℕ) → 33 ≤ b → is_line_end b ≡ false
no_end b h = rw (unlike b 13 (λ e. omega (arith, h, e)), unlike b 10 (λ e. omega (arith, h, e))) refl

pub visible_run : (bytes : List ℕ) → IsVisible bytes → HasNoLineEnd bytes
visible_run [] h = tt
visible_run (b ∷ bs) h = (no_end b h.0, visible_run bs h.1)

run_more : (a b : List ℕ) → HasNoLineEnd a → HasNoLineEnd b → HasNoLineEnd (a ++ b)
run_more [] b h k = k
run_more (x ∷ xs) b h k = (h.0, run_more xs b h.1 k)

pub visible_more : (a b : List ℕ) → IsVisible a → IsVisible b → IsVisible (a ++ b)
visible_more [] b h k = k
visible_more (x ∷ xs) b h k = (h.0, visible_more xs b h.1 k)

before_some : (b : ℕ) (bs : List ℕ) → 0 < length bs → before_unspaced b bs ≡ b ∷ bs
before_some b [] h = absurd (omega arith)
before_some b (c ∷ cs) h = refl

before_visible : (b : ℕ) (bs : List ℕ) → 33 ≤ b → before_unspaced b bs ≡ b ∷ bs
before_visible b [] h = ap (λ (same : Bool). cond same [] (b ∷ [])) (unlike b 32 (λ e. omega (arith, h, e)))
before_visible b (c ∷ cs) h = refl

visible_unspaced : (bytes : List ℕ) → IsVisible bytes → without_last_spaces bytes ≡ bytes
visible_unspaced [] h = refl
visible_unspaced (b ∷ bs) h = ap (before_unspaced b) (visible_unspaced bs h.1) ∙ before_visible b bs h.0

some_more : (a b : List ℕ) → 0 < length b → 0 < length (a ++ b)
some_more [] b h = h
some_more (x ∷ xs) b h = omega arith

unspaced_more : (a b : List ℕ) → 0 < length b → without_last_spaces b ≡ b → without_last_spaces (a ++ b) ≡ a ++ b
unspaced_more [] b some h = h
unspaced_more (x ∷ xs) b some h = ap (before_unspaced x) (unspaced_more xs b some h) ∙ before_some x (xs ++ b) (some_more xs b some)

-- 2. Whole lines
pub word : (bytes : List ℕ) → 0 < length bytes → IsVisible bytes → IsWhole bytes
word bytes some h = record { some = some; run = visible_run bytes h; unspaced = visible_unspaced bytes h }

pub following : (a b : List ℕ) → HasNoLineEnd a → IsWhole b → IsWhole (a ++ b)
following a b run h = record { some = some_more a b h.some; run = run_more a b run h.run; unspaced = unspaced_more a b h.some h.unspaced }

abbrev lacks_ends : List ℕ → Bool
lacks_ends [] = true
lacks_ends (b ∷ bs) = cond (is_line_end b) false (lacks_ends bs)

pub stated_run : (bytes : List ℕ) → lacks_ends bytes ≡ true → HasNoLineEnd bytes
stated_run [] h = tt
stated_run (b ∷ bs) h = stated_rest b bs (is_line_end b) refl h (stated_run bs)
  where
    stated_rest : (b : ℕ) (bs : List ℕ) (ends : Bool) → is_line_end b ≡ ends → cond ends false (lacks_ends bs) ≡ true
        → (lacks_ends bs ≡ true → HasNoLineEnd bs) → HasNoLineEnd (b ∷ bs)
    stated_rest b bs true e h rest = absurd cc
    stated_rest b bs false e h rest = (e, rest h)

pub text : (bytes : List ℕ) → lacks_ends bytes ≡ true → without_last_spaces bytes ≡ bytes → 0 < length bytes → IsWhole bytes
text bytes ends spaces some = record { some = some; run = stated_run bytes ends; unspaced = spaces }

-- 3. Parts of lines
pub plain_visible : (bytes : List ℕ) → AllByRecursion (λ b. (0x21 ≤ b) × (b ≤ 0x7E)) bytes → IsVisible bytes
plain_visible [] h = tt
plain_visible (b ∷ bs) h = (h.0.0, plain_visible bs h.1)

pub login_word : (bytes : List ℕ) → IsLoginWord bytes → IsWhole bytes
login_word bytes h = word bytes (omega (arith, h.some)) (plain_visible bytes h.plain)

-- the digits of any number
glyph_visible : (small : Bool) (d : ℕ) → 33 ≤ (if small then 48 + d else 87 + d)
glyph_visible true d = omega arith
glyph_visible false d = omega arith

either : (P : List ℕ → Type 0) (test : Bool) (a b : List ℕ) → P a → P b → P (if test then a else b)
either P true a b p q = p
either P false a b p q = q

onto_visible : (k n : ℕ) (acc : List ℕ) → IsVisible acc → IsVisible (digits_onto k 10 false n acc)
onto_visible zero n acc h = h
onto_visible (suc k) n acc h =
    let more = digit_glyph false (n % 10) ∷ acc in
    let seen : IsVisible more = (glyph_visible (nat_lt (n % 10) 10) (n % 10), h) in
    either IsVisible (n / 10 == 0) more (digits_onto k 10 false (n / 10) more) seen (onto_visible k (n / 10) more seen)

abbrev HasSome : List ℕ → Type 0
HasSome bytes = 0 < length bytes

onto_some : (k n : ℕ) (acc : List ℕ) → HasSome acc → HasSome (digits_onto k 10 false n acc)
onto_some zero n acc h = h
onto_some (suc k) n acc h =
    let more = digit_glyph false (n % 10) ∷ acc in
    either HasSome (n / 10 == 0) more (digits_onto k 10 false (n / 10) more) (omega arith) (onto_some k (n / 10) more (omega arith))

first_some : (k n : ℕ) → HasSome (digits_onto (suc k) 10 false n [])
first_some k n =
    let more = digit_glyph false (n % 10) ∷ [] in
    either HasSome (n / 10 == 0) more (digits_onto k 10 false (n / 10) more) (omega arith) (onto_some k (n / 10) more (omega arith))

pub decimal_visible : (n : ℕ) → IsVisible (decimal n)
unfolding digits
decimal_visible n = onto_visible 64 n [] tt

decimal_some : (n : ℕ) → 0 < length (decimal n)
unfolding digits
decimal_some n = first_some 63 n

pub number : (n : ℕ) → IsWhole (decimal n)
number n = word (decimal n) (decimal_some n) (decimal_visible n)

kind_visible : (kind : Kind) → IsVisible (kind_code kind)
kind_visible Pawn = (omega arith, (omega arith, tt))
kind_visible Lance = (omega arith, (omega arith, tt))
kind_visible Knight = (omega arith, (omega arith, tt))
kind_visible Silver = (omega arith, (omega arith, tt))
kind_visible Gold = (omega arith, (omega arith, tt))
kind_visible Bishop = (omega arith, (omega arith, tt))
kind_visible Rook = (omega arith, (omega arith, tt))
kind_visible King = (omega arith, (omega arith, tt))
kind_visible ProPawn = (omega arith, (omega arith, tt))
kind_visible ProLance = (omega arith, (omega arith, tt))
kind_visible ProKnight = (omega arith, (omega arith, tt))
kind_visible ProSilver = (omega arith, (omega arith, tt))
kind_visible Horse = (omega arith, (omega arith, tt))
kind_visible Dragon = (omega arith, (omega arith, tt))

square_visible : (s : Square) → IsVisible (square_text s)
square_visible s = (omega arith, (omega arith, tt))

squares_visible : (m : Move) → IsVisible (squares_text m)
squares_visible (Walk from to after) =
    visible_more (square_text from) (square_text to ++ kind_code after) (square_visible from)
    (visible_more (square_text to) (kind_code after) (square_visible to) (kind_visible after))
squares_visible (Put to dropped) =
    (omega arith, (omega arith, visible_more (square_text to) (kind_code dropped) (square_visible to) (kind_visible dropped)))

sign_visible : (color : Color) → 33 ≤ sign color
sign_visible Black = omega arith
sign_visible White = omega arith

pub move_visible : (color : Color) (m : Move) → IsVisible (move_text color m)
move_visible color m = (sign_visible color, squares_visible m)

-- 4. Lists of lines, and their bytes, cut into lines
abbrev pub AllWhole : List (List ℕ) → Type 0
AllWhole lines = AllByRecursion IsWhole lines

pub both : (a b : List (List ℕ)) → AllWhole a → AllWhole b → AllWhole (a ++ b)
both [] b h k = k
both (x ∷ xs) b h k = (h.0, both xs b h.1 k)

pub cut_back : (ends : List ℕ) (lines : List (List ℕ)) → AreLineEnds ends → AllWhole lines → Lines (ends ++ text_of lines) lines []
cut_back ends [] e h = (ends, refl, e, tt)
cut_back ends (l ∷ ls) e h =
    let next_line : IsNextLine (ends ++ text_of (l ∷ ls)) l (10 ∷ text_of ls) =
    record {
      ends = ends;
      whole = ap (λ rest. ends ++ rest) (append_assoc l (10 ∷ []) (text_of ls));
      skipped = e;
      some = h.0.some;
      run = h.0.run;
      closed = refl;
    } in
    (10 ∷ text_of ls, next_line, cut_back (10 ∷ []) ls (refl, tt) h.1)

pub unspaced_all : (lines : List (List ℕ)) → AllWhole lines → AllByRecursion (λ line. without_last_spaces line ≡ line) lines
unspaced_all [] h = tt
unspaced_all (l ∷ ls) h = (h.0.unspaced, unspaced_all ls h.1)
