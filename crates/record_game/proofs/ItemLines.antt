-- Each item of a canonical text has such a line.
use Rattle.std.proofs.Common.{◌≡◌, ◌≢◌, ◌⊎◌, ℕ, ◌+◌, ◌<◌, ◌≤◌, ◌==◌, ◌&&◌, ◌||◌, ◌/◌, ◌%◌, Bool, true, false, List, [], ◌∷◌, ◌++◌, length, Option, Some, None, refl, sym, ◌∙◌, append_assoc, subst, arith, inl, inr}
use Rattle.std.specs.Prelude.{nat_lt, if◌then◌else◌}
use Rattle.std.specs.List.{AllByRecursion, flat_map}
use Rattle.std.proofs.lemmas.Bool.{ne_eqb, cases_Bool, cases_lt, eqb-true, lt-ltb, le-ltb}
use Rattle.std.proofs.lemmas.List.{length-append}
use Rattle.shogi_board.specs.declared.color.Color.{Color}
use Rattle.shogi_board.specs.declared.color.Color.TheVariants.{Black, White}
use Rattle.shogi_board.specs.declared.kind.Kind.{Kind}
use Rattle.shogi_board.specs.declared.kind.Kind.TheVariants.{Pawn, Lance, Knight, Silver, Gold, Bishop, Rook, King, ProPawn, ProLance, ProKnight, ProSilver, Horse, Dragon}
use Rattle.shogi_board.specs.declared.kind.Piece.{Piece}
use Rattle.shogi_board.specs.declared.moves.Move.{Move}
use Rattle.shogi_board.specs.declared.moves.Move.TheVariants.{Walk, Put}
use Rattle.csa_text.specs.declared.ending.Ending.{Ending}
use Rattle.csa_text.specs.declared.ending.Ending.TheVariants.{Toryo, Chudan, Sennichite, TimeUp, IllegalMove, BlackIllegalAction, WhiteIllegalAction, Jishogi, Kachi, Hikiwake, MaxMoves, Matta, Tsumi, Fuzumi, Error}
use Rattle.csa_text.specs.declared.pair.Pair.{Pair}
use Rattle.csa_text.specs.Codes.{sign, kind_code, cell_text, squares_text}
use Rattle.csa_text.specs.Endings.{ending_name}
use Rattle.csa_cutting.specs.Cut.{is_end, is_blank, without_last_blanks}
use Rattle.csa_text.specs.Moment.{CalendarMoment, TimeOfDay, moment_text, date_text, after_date}
use Rattle.csa_text.specs.PairTexts.{pairs_text, pair_text, AllOnBoard}
use Rattle.csa_text.specs.Saying.{version, name, even, rank, pieces, turn, walked, ending}
use Rattle.csa_cutting.proofs.Blanks.{kept_last, blank_last}
use Rattle.csa_text.specs.CodesOnce.{kind_length}
use Rattle.csa_text.specs.PairsOnce.{pair_length}
use Rattle.csa_text.proofs.CellTexts.{cell_length}
use Rattle.csa_text.proofs.Texts.{texts_length}
use Rattle.record_game.specs.Game.{Entry, HeaderText, moment, plain}
use Rattle.record_game.specs.Limits.{IsName, IsOneLine, IsEntry, IsMomentKey, MayStandUnder}
use Rattle.record_game.specs.Canon.{header_item, value_text}
use Rattle.record_game.proofs.Bytes.{EndsNothing, IsSolid, all_joined, all_weaker, solid, solid_sign, solid_digit, solid_pairs, solid_squares, goes_cell, all_flat, no_ends, solid_whole}
use Rattle.record_game.proofs.Lined.{IsItemLine}

pub version_line : IsItemLine version
version_line = record { unit = (refl, (refl, (refl, (refl, tt))), refl); spoken = refl; fits = omega arith; spells = inr (inr refl) }

-- names and headers take their whole line
and_false : (b : Bool) → (b && false) ≡ false
and_false true = refl
and_false false = refl

goes_on : (b : ℕ) → (b ≢ 13) × (b ≢ 10) → (b == 13 || b == 10 || (b == 44 && false)) ≡ false
goes_on b h = rw (ne_eqb b 13 h.0, ne_eqb b 10 h.1) (and_false (b == 44))

text_goes_on : (text : List ℕ) → IsOneLine text → AllByRecursion (λ b. (b == 13 || b == 10 || (b == 44 && false)) ≡ false) text
text_goes_on text h = all_weaker (λ b. (b ≢ 13) × (b ≢ 10)) (λ b. (b == 13 || b == 10 || (b == 44 && false)) ≡ false) goes_on text h

sign_goes_on : (color : Color) → is_end 78 (sign color) ≡ false
sign_goes_on Black = refl
sign_goes_on White = refl

pub name_line : (color : Color) (text : List ℕ) → IsName text → IsItemLine (name color text)
name_line color text h = record {
  unit = (refl, (sign_goes_on color, text_goes_on text h.one_line), refl);
  spoken = refl;
  fits = omega (arith, h.fits);
  spells = refl;
}

abbrev IsLate : ℕ → Type 0
IsLate b = (b ≢ 13) × (b ≢ 10)

late : (b : ℕ) → 13 < b → IsLate b
late b h = ((λ e. omega (arith, e, h)), (λ e. omega (arith, e, h)))

digit : (n : ℕ) → IsLate (48 + n)
digit n = late (48 + n) (omega arith)

slash : IsLate 47
slash = late 47 (omega arith)

colon : IsLate 58
colon = late 58 (omega arith)

lines_joined : (xs ys : List ℕ) → IsOneLine xs → IsOneLine ys → IsOneLine (xs ++ ys)
lines_joined xs ys = all_joined (λ b. (b ≢ 13) × (b ≢ 10)) xs ys

after_lines : (t : Option TimeOfDay) → IsOneLine (after_date t)
after_lines None = tt
after_lines (Some t) = (
  late 32 (omega arith),
  (
    digit (t.hour / 10),
    (
      digit (t.hour % 10),
      (
        colon,
        (
          digit (t.minute / 10),
          (
            digit (t.minute % 10),
            (
              colon,
              (digit (t.second / 10), (digit (t.second % 10), tt)),
            ),
          ),
        ),
      ),
    ),
  ),
)

date_lines : (y m d : ℕ) → IsOneLine (date_text y m d)
date_lines y m d = (
  digit (y / 100 / 10),
  (
    digit (y / 100 % 10),
    (
      digit (y % 100 / 10),
      (
        digit (y % 100 % 10),
        (
          slash,
          (digit (m / 10), (digit (m % 10), (slash, (digit (d / 10), (digit (d % 10), tt))))),
        ),
      ),
    ),
  ),
)

moment_lines : (m : CalendarMoment) → IsOneLine (moment_text m)
moment_lines m = lines_joined (date_text m.year m.month m.day) (after_date m.time) (date_lines m.year m.month m.day) (after_lines m.time)

after_length : (t : Option TimeOfDay) → length (after_date t) ≤ 9
after_length None = omega arith
after_length (Some t) = omega arith

moment_length : (m : CalendarMoment) → length (moment_text m) ≤ 19
moment_length m =
    let whole : length (moment_text m) ≡ length (date_text m.year m.month m.day) + length (after_date m.time) = length-append (date_text m.year m.month m.day) (after_date m.time) in
    let date : length (date_text m.year m.month m.day) ≡ 10 = refl in
    omega (arith, whole, date, after_length m.time)

key_length : (key : List ℕ) → IsMomentKey key → length key ≤ 10
key_length key (inl h) = rw h (omega arith)
key_length key (inr h) = rw h (omega arith)

value_lines : (key : List ℕ) (text : HeaderText) → MayStandUnder key text → IsOneLine (value_text text)
value_lines key (moment m) h = moment_lines m
value_lines key (plain text) h = h.one_line

value_fits : (key : List ℕ) (text : HeaderText) → MayStandUnder key text → 2 + length key + length (value_text text) ≤ 4096
value_fits key (moment m) h = omega (arith, key_length key h.0, moment_length m)
value_fits key (plain text) h = h.fits

pub header_line : (e : Entry) → IsEntry e → IsItemLine (header_item e)
header_line e h = record {
  unit = (
    refl,
    text_goes_on (e.key ++ 58 ∷ value_text e.text)
        (lines_joined e.key (58 ∷ value_text e.text) h.one_line (colon, value_lines e.key e.text h.text)),
    refl,
  );
  spoken = refl;
  fits = omega (arith, value_fits e.key e.text h.text, length-append e.key (58 ∷ value_text e.text));
  spells = record { line = e.key ++ 58 ∷ value_text e.text; whole = refl; split = (refl, h.no_colon); some = h.some };
}

-- statements from `P` have no comma and lose nothing, except a blank at their end
pub even_line : (ps : List Pair) → AllOnBoard ps → length ps ≤ 1000 → IsItemLine (even ps)
even_line ps on_board few =
    let parts = solid_pairs ps in
    let all : AllByRecursion IsSolid (80 ∷ 73 ∷ pairs_text ps) = (solid 80 (omega arith), (solid 73 (omega arith), parts)) in
    let same : without_last_blanks (80 ∷ 73 ∷ pairs_text ps) ≡ 80 ∷ 73 ∷ pairs_text ps = solid_whole (80 ∷ 73 ∷ pairs_text ps) all in
    record {
      unit = (refl, no_ends (73 ∷ pairs_text ps) (all_weaker IsSolid EndsNothing (λ b h. h.0) (73 ∷ pairs_text ps) all.1), refl);
      spoken = refl;
      fits = omega (arith, few, texts_length pair_text 4 pair_length ps);
      spells = (same, on_board);
    }

pub pieces_line : (color : Color) (ps : List Pair) → length ps ≤ 1000 → IsItemLine (pieces color ps)
pieces_line color ps few =
    let parts = solid_pairs ps in
    let all : AllByRecursion IsSolid (80 ∷ sign color ∷ pairs_text ps) = (solid 80 (omega arith), (solid_sign color, parts)) in
    let same : without_last_blanks (80 ∷ sign color ∷ pairs_text ps) ≡ 80 ∷ sign color ∷ pairs_text ps = solid_whole (80 ∷ sign color ∷ pairs_text ps) all in
    record {
      unit = (refl, no_ends (sign color ∷ pairs_text ps) (all_weaker IsSolid EndsNothing (λ b h. h.0) (sign color ∷ pairs_text ps) all.1), refl);
      spoken = refl;
      fits = omega (arith, few, texts_length pair_text 4 pair_length ps);
      spells = same;
    }

pub turn_line : (color : Color) → IsItemLine (turn color)
turn_line Black = record { unit = (refl, tt, refl); spoken = refl; fits = omega arith; spells = refl }
turn_line White = record { unit = (refl, tt, refl); spoken = refl; fits = omega arith; spells = refl }

-- the last cell of a rank may end in a blank, which the statement loses
abbrev IsSpaced : List ℕ → Type 0
IsSpaced bytes = (without_last_blanks bytes ≡ bytes) ⊎ (without_last_blanks bytes ++ 32 ∷ [] ≡ bytes)

ends_solid : (front : List ℕ) (last : ℕ) (bytes : List ℕ) → is_blank last ≡ false → bytes ≡ front ++ last ∷ [] → IsSpaced bytes
ends_solid front last bytes h e = inl (rw e (kept_last front last h))

ends_blank : (front : List ℕ) (last : ℕ) (bytes : List ℕ) → is_blank last ≡ false → bytes ≡ (front ++ last ∷ []) ++ 32 ∷ [] → IsSpaced bytes
ends_blank front last bytes h e =
    let less : without_last_blanks bytes ≡ front ++ last ∷ [] = rw e (blank_last (front ++ last ∷ []) 32 refl ∙ kept_last front last h) in
    inr (rw less (sym e))

code_ends : (k : Kind) → (x y : ℕ) × (kind_code k ≡ x ∷ y ∷ []) × (is_blank y ≡ false)
code_ends Pawn = (70, 85, refl, refl)
code_ends Lance = (75, 89, refl, refl)
code_ends Knight = (75, 69, refl, refl)
code_ends Silver = (71, 73, refl, refl)
code_ends Gold = (75, 73, refl, refl)
code_ends Bishop = (75, 65, refl, refl)
code_ends Rook = (72, 73, refl, refl)
code_ends King = (79, 85, refl, refl)
code_ends ProPawn = (84, 79, refl, refl)
code_ends ProLance = (78, 89, refl, refl)
code_ends ProKnight = (78, 75, refl, refl)
code_ends ProSilver = (78, 71, refl, refl)
code_ends Horse = (85, 77, refl, refl)
code_ends Dragon = (82, 89, refl, refl)

cell_ends : (front : List ℕ) (c : Option Piece) → IsSpaced (front ++ (cell_text c ++ []))
cell_ends front None =
    ends_blank (front ++ 32 ∷ []) 42 _ refl
    (sym (append_assoc (front ++ 32 ∷ []) (42 ∷ []) (32 ∷ []) ∙ append_assoc front (32 ∷ []) (42 ∷ 32 ∷ [])))
cell_ends front (Some p) =
    let k = code_ends p.kind in
    ends_solid (front ++ sign p.color ∷ k.0 ∷ []) k.1 _ k.3
    (rw k.2 (sym (append_assoc front (sign p.color ∷ k.0 ∷ []) (k.1 ∷ []))))

cells_end : (front : List ℕ) (c : Option Piece) (cs : List (Option Piece)) → IsSpaced (front ++ flat_map cell_text (c ∷ cs))
cells_end front c [] = cell_ends front c
cells_end front c (d ∷ ds) = subst IsSpaced (append_assoc front (cell_text c) (flat_map cell_text (d ∷ ds))) (cells_end (front ++ cell_text c) d ds)

some_cells : (front : List ℕ) (cs : List (Option Piece)) → length cs ≡ 9 → IsSpaced (front ++ flat_map cell_text cs)
some_cells front [] h = absurd (omega (arith, h))
some_cells front (c ∷ cs) h = cells_end front c cs

goes_cells : (cs : List (Option Piece)) → AllByRecursion EndsNothing (flat_map cell_text cs)
goes_cells cs = all_flat EndsNothing cell_text goes_cell cs

pub rank_line : (number : ℕ) (cells : List (Option Piece)) → 1 ≤ number → number ≤ 9 → length cells ≡ 9 → IsItemLine (rank number cells)
rank_line number cells low high nine = record {
  unit = (refl, no_ends ((48 + number) ∷ flat_map cell_text cells) ((solid_digit number).0, goes_cells cells), refl);
  spoken = refl;
  fits = omega (arith, nine, texts_length cell_text 3 cell_length cells);
  spells = record { low = low; high = high; nine = nine; whole = some_cells (80 ∷ (48 + number) ∷ []) cells nine };
}

-- a statement that is solid
solid_unit : (first : ℕ) (bytes : List ℕ) → AllByRecursion IsSolid bytes → AllByRecursion (λ b. (b == 13 || b == 10 || (b == 44 && true)) ≡ false) bytes
solid_unit first bytes h = no_ends bytes (all_weaker IsSolid EndsNothing (λ b h. h.0) bytes h)

move_length : (m : Move) → length (squares_text m) ≡ 6
move_length (Walk from to k) = omega (arith, kind_length k)
move_length (Put to k) = omega (arith, kind_length k)

pub walked_line : (color : Color) (m : Move) → IsItemLine (walked color m)
walked_line Black m = record {
  unit = (refl, solid_unit 43 (squares_text m) (solid_squares m), refl);
  spoken = refl;
  fits = omega (arith, move_length m);
  spells = solid_whole (43 ∷ squares_text m) (solid_sign Black, solid_squares m);
}
walked_line White m = record {
  unit = (refl, solid_unit 45 (squares_text m) (solid_squares m), refl);
  spoken = refl;
  fits = omega (arith, move_length m);
  spells = solid_whole (45 ∷ squares_text m) (solid_sign White, solid_squares m);
}

-- bytes above the comma
abbrev all_above : List ℕ → Bool
all_above [] = true
all_above (b ∷ bs) = if nat_lt 44 b || b == 43 then all_above bs else false

above : (b : ℕ) (bs : List ℕ) → all_above (b ∷ bs) ≡ true → IsSolid b × (all_above bs ≡ true)
above b bs h =
    elim (cases_lt 44 b) [
      | inl over ↦ let yes : nat_lt 44 b ≡ true = lt-ltb 44 b over in (solid b over, (let more : all_above bs ≡ true = rw yes at h in more))
      | inr under ↦
          elim (cases_Bool (b == 43)) [
            | inl plus ↦
                let is : b ≡ 43 = eqb-true b 43 plus in
                (subst IsSolid (sym is) (solid_sign Black), (let more : all_above bs ≡ true = rw is at h in more))
            | inr other ↦
                let no : nat_lt 44 b ≡ false = le-ltb 44 b under in
                let never : false ≡ true = rw (no, other) at h in
                cc
          ]
    ]

all_solid : (bs : List ℕ) → all_above bs ≡ true → AllByRecursion IsSolid bs
all_solid [] h = tt
all_solid (b ∷ bs) h = let parts = above b bs h in (parts.0, all_solid bs parts.1)

solid_ending : (e : Ending) → (AllByRecursion IsSolid (ending_name e)) × (length (ending_name e) ≤ 20)
solid_ending Toryo = (all_solid (ending_name Toryo) refl, omega arith)
solid_ending Chudan = (all_solid (ending_name Chudan) refl, omega arith)
solid_ending Sennichite = (all_solid (ending_name Sennichite) refl, omega arith)
solid_ending TimeUp = (all_solid (ending_name TimeUp) refl, omega arith)
solid_ending IllegalMove = (all_solid (ending_name IllegalMove) refl, omega arith)
solid_ending BlackIllegalAction = (all_solid (ending_name BlackIllegalAction) refl, omega arith)
solid_ending WhiteIllegalAction = (all_solid (ending_name WhiteIllegalAction) refl, omega arith)
solid_ending Jishogi = (all_solid (ending_name Jishogi) refl, omega arith)
solid_ending Kachi = (all_solid (ending_name Kachi) refl, omega arith)
solid_ending Hikiwake = (all_solid (ending_name Hikiwake) refl, omega arith)
solid_ending MaxMoves = (all_solid (ending_name MaxMoves) refl, omega arith)
solid_ending Matta = (all_solid (ending_name Matta) refl, omega arith)
solid_ending Tsumi = (all_solid (ending_name Tsumi) refl, omega arith)
solid_ending Fuzumi = (all_solid (ending_name Fuzumi) refl, omega arith)
solid_ending Error = (all_solid (ending_name Error) refl, omega arith)

percent : IsSolid 37
percent = (((λ e. omega (arith, e)), (λ e. omega (arith, e)), (λ e. omega (arith, e))), (λ e. omega (arith, e)), (λ e. omega (arith, e)))

pub ending_line : (e : Ending) → IsItemLine (ending e)
ending_line e =
    let h = solid_ending e in
    record {
      unit = (refl, solid_unit 37 (ending_name e) h.0, refl);
      spoken = refl;
      fits = omega (arith, h.1);
      spells = solid_whole (37 ∷ ending_name e) (percent, h.0);
    }
