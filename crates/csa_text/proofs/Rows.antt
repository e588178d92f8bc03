-- The rows of the grammar: bytes that spell something of a row begin as that row does.
use Rattle.std.proofs.Common.{◌≡◌, ◌≢◌, ℕ, zero, suc, ◌+◌, ◌-◌, ◌<◌, ◌≤◌, ◌==◌, ◌||◌, ◌&&◌, arith, List, [], ◌∷◌, ◌++◌, length, Option, Some, None, Ok, Err, refl, sym, ap, ◌∙◌, inl, inr, ◌⊎◌}
use Rattle.std.specs.Prelude.{if◌then◌else◌, nat_lt, Result}
use Rattle.std.specs.Option.{ok_or}
use Rattle.std.specs.Result.{IsErrAnd}
use Rattle.shogi_board.specs.declared.color.Color.{Color}
use Rattle.shogi_board.specs.declared.color.Color.TheVariants.{Black, White}
use Rattle.shogi_board.specs.declared.kind.Piece.{Piece}
use Rattle.shogi_board.specs.declared.moves.Move.{Move}
use Rattle.shogi_board.specs.declared.moves.Move.TheVariants.{Walk, Put}
use Rattle.std.specs.List.{flat_map}
use Rattle.csa_text.specs.declared.ending.Ending.{Ending}
use Rattle.csa_text.specs.declared.fault.TextFault.{TextFault}
use Rattle.csa_text.specs.declared.item.Item.{Item}
use Rattle.csa_text.specs.declared.pair.Pair.{Pair}
use Rattle.csa_text.proofs.CellTexts.{CellsOf}
use Rattle.csa_text.proofs.Moments.{no_split, split_same}
use Rattle.csa_text.proofs.Texts.{head_same, tail_same}
use Rattle.csa_text.specs.Codes.{sign, cell_text, move_text}
use Rattle.csa_text.specs.Endings.{ending_name}
use Rattle.csa_text.specs.Fields.{IsSplit, HasNone}
use Rattle.csa_text.specs.PairTexts.{pairs_text, AllOnBoard}
use Rattle.csa_text.specs.TimeTexts.{IsTime}
use Rattle.csa_text.specs.Saying.{Saying, version, name, header, even, rank, pieces, turn, walked, time, ending}
use Rattle.csa_text.specs.Spelling.{Spells, IsRank, fault_of_row}
use Rattle.csa_text.specs.ItemReading.{IsRead}
use Rattle.csa_text.specs.declared.fault.TextFault.TheVariants.{BadPosition, BadTime}
use Rattle.csa_text.specs.PairsOnce.{pairs_once}

-- after `P`
abbrev pub start_row : List ℕ → ℕ
start_row [] = 10
start_row (b ∷ bs) = if b == 73 then 3 else if b == 43 || b == 45 then 5 else if nat_lt 48 b && nat_lt b 58 then 4 else 10

-- after a sign
abbrev pub signed_row : List ℕ → ℕ
signed_row [] = 6
signed_row (b ∷ bs) = 7

-- after `N`
abbrev pub name_row : List ℕ → ℕ
name_row [] = 10
name_row (b ∷ bs) = if b == 43 || b == 45 then 1 else 10

-- the row that bytes belong to, by how they begin; 10 is none
abbrev pub row_at : List ℕ → ℕ
row_at [] = 10
row_at (a ∷ rest) =
    if a == 86 then 0
    else if a == 78 then name_row rest
    else if a == 36 then 2
    else if a == 80 then start_row rest
    else if a == 43 || a == 45 then signed_row rest
    else if a == 84 then 8
    else if a == 37 then 9
    else 10

abbrev pub row_of : Saying → ℕ
row_of version = 0
row_of (name color text) = 1
row_of (header key text) = 2
row_of (even pairs) = 3
row_of (rank number cells) = 4
row_of (pieces color pairs) = 5
row_of (turn color) = 6
row_of (walked color m) = 7
row_of (time thousandths) = 8
row_of (ending e) = 9

name_begins : (color : Color) (text : List ℕ) → row_at (78 ∷ sign color ∷ text) ≡ 1
name_begins Black text = refl
name_begins White text = refl

pieces_begin : (color : Color) (text : List ℕ) → row_at (80 ∷ sign color ∷ text) ≡ 5
pieces_begin Black text = refl
pieces_begin White text = refl

turn_begins : (color : Color) → row_at (sign color ∷ []) ≡ 6
turn_begins Black = refl
turn_begins White = refl

move_begins : (color : Color) (m : Move) → row_at (move_text color m) ≡ 7
move_begins Black (Walk from to after) = refl
move_begins Black (Put to dropped) = refl
move_begins White (Walk from to after) = refl
move_begins White (Put to dropped) = refl

rank_begins : (number : ℕ) (rest : List ℕ) → 1 ≤ number → number ≤ 9 → row_at (80 ∷ (48 + number) ∷ rest) ≡ 4
rank_begins zero rest low high = absurd (omega arith)
rank_begins (suc zero) rest low high = refl
rank_begins (suc (suc zero)) rest low high = refl
rank_begins (suc (suc (suc zero))) rest low high = refl
rank_begins (suc (suc (suc (suc zero)))) rest low high = refl
rank_begins (suc (suc (suc (suc (suc zero))))) rest low high = refl
rank_begins (suc (suc (suc (suc (suc (suc zero)))))) rest low high = refl
rank_begins (suc (suc (suc (suc (suc (suc (suc zero))))))) rest low high = refl
rank_begins (suc (suc (suc (suc (suc (suc (suc (suc zero)))))))) rest low high = refl
rank_begins (suc (suc (suc (suc (suc (suc (suc (suc (suc zero))))))))) rest low high = refl
rank_begins (suc (suc (suc (suc (suc (suc (suc (suc (suc (suc number)))))))))) rest low high = absurd (omega arith)

-- a rank is `P`, its number, and more
front_of : (bytes text : List ℕ) (number : ℕ) → 1 ≤ number → (bytes ≡ 80 ∷ (48 + number) ∷ text) ⊎ (bytes ++ 32 ∷ [] ≡ 80 ∷ (48 + number) ∷ text) → (rest : List ℕ) × (bytes ≡ 80 ∷ (48 + number) ∷ rest)
front_of bytes text number low (inl e) = (text, e)
front_of [] text number low (inr e) = absurd (omega (arith, head_same 32 80 [] ((48 + number) ∷ text) e))
front_of (a ∷ []) text number low (inr e) = let space : 48 + number ≡ 32 = cc in absurd (omega (arith, space))
front_of (a ∷ b ∷ bs) text number low (inr e) =
    let first : a ≡ 80 = cc in
    let next : b ≡ 48 + number = cc in
    (bs, ap (λ n. n ∷ b ∷ bs) first ∙ ap (λ n. 80 ∷ n ∷ bs) next)

pub rank_whole : (bytes : List ℕ) (number : ℕ) (cells : List (Option Piece)) → IsRank bytes number cells → (rest : List ℕ) × (bytes ≡ 80 ∷ (48 + number) ∷ rest)
rank_whole bytes number cells r = front_of bytes (flat_map cell_text cells) number r.low r.whole

-- the bytes of each saying begin as its row does
pub begins_so : (bytes : List ℕ) (s : Saying) → Spells bytes s → row_at bytes ≡ row_of s
begins_so bytes version (inl e) = ap row_at e
begins_so bytes version (inr (inl e)) = ap row_at e
begins_so bytes version (inr (inr e)) = ap row_at e
begins_so bytes (name color text) e = ap row_at e ∙ name_begins color text
begins_so bytes (header key text) h = ap row_at h.whole
begins_so bytes (even pairs) h = ap row_at h.0
begins_so bytes (rank number cells) r = let whole = rank_whole bytes number cells r in ap row_at whole.1 ∙ rank_begins number whole.0 r.low r.high
begins_so bytes (pieces color pairs) e = ap row_at e ∙ pieces_begin color (pairs_text pairs)
begins_so bytes (turn color) e = ap row_at e ∙ turn_begins color
begins_so bytes (walked color m) e = ap row_at e ∙ move_begins color m
begins_so bytes (time thousandths) h = ap row_at h.1
begins_so bytes (ending e) h = ap row_at h

row_below : (s : Saying) → row_of s < 10
row_below version = omega arith
row_below (name color text) = omega arith
row_below (header key text) = omega arith
row_below (even pairs) = omega arith
row_below (rank number cells) = omega arith
row_below (pieces color pairs) = omega arith
row_below (turn color) = omega arith
row_below (walked color m) = omega arith
row_below (time thousandths) = omega arith
row_below (ending e) = omega arith

pub no_header : (line : List ℕ) → ((key text : List ℕ) → IsSplit 58 line key text → key ≢ [] → ⊥) → (s : Saying) → Spells (36 ∷ line) s → ⊥
no_header line never (header key text) h = let same : line ≡ h.line = tail_same 36 36 line h.line h.whole in never key text (rw same h.split) h.some
no_header line never s p = let row : 2 ≡ row_of s = begins_so (36 ∷ line) s p in absurd (omega (arith, row))

pub no_colon : (line : List ℕ) → HasNone 58 line → (key text : List ℕ) → IsSplit 58 line key text → key ≢ [] → ⊥
no_colon line none key text s some = no_split 58 line key text none s.0

pub no_key : (line first rest : List ℕ) → IsSplit 58 line first rest → length first ≡ 0 → (key text : List ℕ) → IsSplit 58 line key text → key ≢ [] → ⊥
no_key line [] rest split size key text s some = some (sym (split_same 58 line [] rest key text split s.0 s.1).0)
no_key line (b ∷ bs) rest split size key text s some = omega (arith, size)

pub no_time : (text : List ℕ) → ((n : ℕ) → IsTime text n → ⊥) → (s : Saying) → Spells (84 ∷ text) s → ⊥
no_time text never (time n) h = let same : text ≡ h.0 = tail_same 84 84 text h.0 h.1 in never n (rw same h.2)
no_time text never s p = let row : 8 ≡ row_of s = begins_so (84 ∷ text) s p in absurd (omega (arith, row))

pub no_ending : (text : List ℕ) → ((e : Ending) → text ≡ ending_name e → ⊥) → (s : Saying) → Spells (37 ∷ text) s → ⊥
no_ending text never (ending e) h = never e (tail_same 37 37 text (ending_name e) h)
no_ending text never s p = let row : 9 ≡ row_of s = begins_so (37 ∷ text) s p in absurd (omega (arith, row))

pub no_even : (text : List ℕ) → ((pairs : List Pair) → text ≡ pairs_text pairs → AllOnBoard pairs → ⊥) → (s : Saying) → Spells (80 ∷ 73 ∷ text) s → ⊥
no_even text never (even pairs) h = never pairs (tail_same 73 73 text (pairs_text pairs) (tail_same 80 80 (73 ∷ text) (73 ∷ pairs_text pairs) h.0)) h.1
no_even text never s p = let row : 3 ≡ row_of s = begins_so (80 ∷ 73 ∷ text) s p in absurd (omega (arith, row))

pub no_pieces : (color : Color) (text : List ℕ) → ((pairs : List Pair) → text ≡ pairs_text pairs → ⊥) → (s : Saying) → Spells (80 ∷ sign color ∷ text) s → ⊥
no_pieces color text never (pieces other pairs) h = let same : text ≡ pairs_text pairs = cc in never pairs same
no_pieces color text never s p = let row : 5 ≡ row_of s = sym (pieces_begin color text) ∙ begins_so (80 ∷ sign color ∷ text) s p in absurd (omega (arith, row))

after_two : (a b c : ℕ) (x y : List ℕ) → (a ∷ b ∷ x ≡ a ∷ c ∷ y) ⊎ (a ∷ b ∷ (x ++ 32 ∷ []) ≡ a ∷ c ∷ y) → (x ≡ y) ⊎ (x ++ 32 ∷ [] ≡ y)
after_two a b c x y (inl e) = inl cc
after_two a b c x y (inr e) = inr cc

pub no_rank : (digit : ℕ) (text : List ℕ) → 48 < digit → digit < 58 → ((cells : List (Option Piece)) → length cells ≡ 9 → CellsOf text cells → ⊥) → (s : Saying) → Spells (80 ∷ digit ∷ text) s → ⊥
no_rank digit text low high never (rank number cells) r = never cells r.nine (after_two 80 digit (48 + number) text (flat_map cell_text cells) r.whole)
no_rank digit text low high never s p =
    let number : digit ≡ 48 + (digit - 48) = omega arith in
    let begins : row_at (80 ∷ digit ∷ text) ≡ 4 = rw number (rank_begins (digit - 48) text (omega arith) (omega arith)) in
    let row : 4 ≡ row_of s = sym begins ∙ begins_so (80 ∷ digit ∷ text) s p in
    absurd (omega (arith, row))

after_so : (digit : ℕ) (x y : List ℕ) → (x ≡ y) ⊎ (x ++ 32 ∷ [] ≡ y) → (80 ∷ digit ∷ x ≡ 80 ∷ digit ∷ y) ⊎ (80 ∷ digit ∷ (x ++ 32 ∷ []) ≡ 80 ∷ digit ∷ y)
after_so digit x y (inl e) = inl (ap (λ z. 80 ∷ digit ∷ z) e)
after_so digit x y (inr e) = inr (ap (λ z. 80 ∷ digit ∷ z) e)

pub rank_read : (digit : ℕ) (text : List ℕ) (cells : List (Option Piece)) → 48 < digit → digit < 58 → length cells ≡ 9 → CellsOf text cells → IsRank (80 ∷ digit ∷ text) (digit - 48) cells
rank_read digit text cells low high nine whole =
    let number : 48 + (digit - 48) ≡ digit = omega arith in
    record {
      low = omega arith;
      high = omega arith;
      nine = nine;
      whole = rw number (after_so digit text (flat_map cell_text cells) whole);
    }

pub start_fault : (color : Color) (text : List ℕ) → BadPosition ≡ fault_of_row (80 ∷ sign color ∷ text)
start_fault Black text = refl
start_fault White text = refl

pub not_on_board : (text : List ℕ) (ps : List Pair) → text ≡ pairs_text ps → (AllOnBoard ps → ⊥) → (pairs : List Pair) → text ≡ pairs_text pairs → AllOnBoard pairs → ⊥
not_on_board text ps e off pairs f on = off (rw (pairs_once ps pairs (sym e ∙ f)) on)

pub time_fault : (text : List ℕ) → BadTime ≡ fault_of_row (84 ∷ text)
time_fault [] = refl
time_fault (b ∷ bs) = refl

same_fault : {T : Type 0} (stated fault : TextFault) (found : Option T) → Err stated ≡ ok_or found fault → found ≡ None → stated ≡ fault
same_fault stated fault (Some x) e none = cc
same_fault stated fault None e none = cc

-- what a `?` returns if a part was not found
pub refused : {T : Type 0} (bytes : List ℕ) (found : Option T) (stated fault : TextFault) (result : Result Item TextFault) → Err stated ≡ ok_or found fault → found ≡ None → IsErrAnd result (λ e. e ≡ stated) → ((saying : Saying) → Spells bytes saying → ⊥) → fault ≡ fault_of_row bytes → IsRead bytes result
refused bytes found stated fault (Ok item) e none h never row = absurd h
refused bytes found stated fault (Err given) e none h never row = (never, h ∙ same_fault stated fault found e none ∙ row)
