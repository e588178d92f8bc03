-- The statements of a text's lines are those of the text.
use Rattle.std.proofs.Common.{◌≡◌, ℕ, ◌+◌, ◌≤◌, ◌&&◌, ◌⊎◌, inl, inr, Option, codes, Bool, true, false, cond, List, [], ◌∷◌, ◌++◌, length, drop, filter, nat_eq, append_assoc, arith, refl, sym, ap, subst, ◌∙◌}
use Rattle.std.specs.List.{AllByRecursion, AllZip, starts_with}
use Rattle.std.proofs.lemmas.List.{length-append}
use Rattle.std.proofs.lemmas.Bool.Decides.{Decides-eqb}
use Rattle.std.proofs.lemmas.List.Elements.{filter-append}
use Rattle.csa_cutting.proofs.Once.{statements_once}
use Rattle.csa_cutting.proofs.Runs.{found}
use Rattle.csa_cutting.specs.Cut.{TextUnit, IsGap, IsUnit, EndsBefore, Units, Statements, begins_with, is_separator, is_statement, statement_bytes, before_kept, without_last_blanks, mark_length, byte_order_mark}
use Rattle.csa_text.specs.Codes.{sign, move_text}
use Rattle.shogi_board.specs.declared.color.Color.{Color}
use Rattle.shogi_board.specs.declared.color.Color.TheVariants.{Black, White}
use Rattle.shogi_board.specs.declared.kind.Piece.{Piece}
use Rattle.shogi_board.specs.declared.moves.Move.{Move}
use Rattle.shogi_board.specs.declared.moves.Move.TheVariants.{Walk, Put}
use Rattle.csa_text.specs.Saying.{Saying, version, name, header, even, rank, pieces, turn, walked, time, ending}
use Rattle.csa_text.specs.Spelling.{rank_text, Spells}
use Rattle.record_game.specs.Tells.{IsSpelt}

-- from this offset on, the text is statements, and what they say passes a test
pub record Read (P : Saying → Type 0) (offset : ℕ) (text : List ℕ) : Type 0 where
  pub statements : List TextUnit
  pub sayings : List Saying
  pub cut : Statements offset text statements
  pub spelt : AllZip IsSpelt statements sayings
  pub fit : AllByRecursion P sayings

-- 1. Units
gap_more : (gap more : List ℕ) → IsGap gap → IsGap more → IsGap (gap ++ more)
gap_more [] more h k = k
gap_more (b ∷ bs) more h k = (h.0, gap_more bs more h.1 k)

gap_before : (offset : ℕ) (gap rest : List ℕ) (vs : List TextUnit) → IsGap gap → Units (offset + length gap) rest vs → Units offset (gap ++ rest) vs
gap_before offset gap rest [] g h = gap_more gap rest g h
gap_before offset gap rest (v ∷ vs) g h =
    let next = h.1 in (
      h.0,
      record {
        gap = gap ++ next.gap;
        whole = ap (λ xs. gap ++ xs) next.whole ∙ sym (append_assoc gap next.gap (v.bytes ++ h.0));
        separators = gap_more gap next.gap g next.separators;
        place = (let at = next.place in let all = length-append gap next.gap in omega (arith, at, all));
        unit = next.unit;
      },
      h.2,
    )

ends_over : (first : ℕ) (following rest : List ℕ) → EndsBefore first following → EndsBefore first (following ++ 10 ∷ rest)
ends_over first [] rest h = refl
ends_over first (b ∷ bs) rest h = h

unit_over : (unit following rest : List ℕ) → IsUnit unit following → IsUnit unit (following ++ 10 ∷ rest)
unit_over [] following rest h = h
unit_over (first ∷ bytes) following rest h = (h.0, h.1, ends_over first following rest h.2)

units_join : (offset : ℕ) (text rest : List ℕ) (us vs : List TextUnit) → Units offset text us → Units (offset + length text + 1) rest vs
    → Units offset (text ++ 10 ∷ rest) (us ++ vs)
units_join offset text rest [] vs h k =
    let long = length-append text (10 ∷ []) in
    let at : offset + length text + 1 ≡ offset + length (text ++ 10 ∷ []) = omega (arith, long) in
    subst (λ xs. Units offset xs vs) (append_assoc text (10 ∷ []) rest)
    (gap_before offset (text ++ 10 ∷ []) rest vs (gap_more text (10 ∷ []) h (refl, tt)) (subst (λ n. Units n rest vs) at k))
units_join offset text rest (u ∷ us) vs h k =
    let next = h.1 in
    let long = ap length next.whole ∙ (length-append next.gap (u.bytes ++ h.0) ∙ ap (λ n. length next.gap + n) (length-append u.bytes h.0)) in
    let place = next.place in
    let at : offset + length text + 1 ≡ (u.offset + length u.bytes) + length h.0 + 1 = omega (arith, long, place) in (
      h.0 ++ 10 ∷ rest,
      record {
        gap = next.gap;
        whole =
            ap (λ xs. xs ++ 10 ∷ rest) next.whole
            ∙ (append_assoc next.gap (u.bytes ++ h.0) (10 ∷ rest) ∙ ap (λ xs. next.gap ++ xs) (append_assoc u.bytes h.0 (10 ∷ rest)));
        separators = next.separators;
        place = place;
        unit = unit_over u.bytes h.0 rest next.unit;
      },
      units_join (u.offset + length u.bytes) h.0 rest us vs h.2 (subst (λ n. Units n rest vs) at k),
    )

-- 2. Another offset
record Tail (first : Bool) (u : TextUnit) (us : List TextUnit) (ss : List Saying) : Type 0 where
  sayings : List Saying
  spelt : AllZip IsSpelt us sayings
  other : (v : TextUnit) (vs : List TextUnit) → v.bytes ≡ u.bytes → AllZip IsSpelt vs sayings → AllZip IsSpelt (cond first (v ∷ vs) vs) ss

tail_of : (first : Bool) (u : TextUnit) (us : List TextUnit) (ss : List Saying) → AllZip IsSpelt (cond first (u ∷ us) us) ss → Tail first u us ss
tail_of true u us [] z = absurd z
tail_of true u us (s ∷ ss) z = record {
  sayings = ss;
  spelt = z.1;
  other = λ v vs e w. (subst (λ bytes. (length bytes ≤ 4096) × Spells (statement_bytes bytes) s) (sym e) z.0, w);
}
tail_of false u us ss z = record { sayings = ss; spelt = z; other = λ v vs e w. w }

units_moved : (o p : ℕ) (text : List ℕ) (us : List TextUnit) (ss : List Saying) → Units o text us → AllZip IsSpelt (filter is_statement us) ss
    → (vs : List TextUnit) × Units p text vs × AllZip IsSpelt (filter is_statement vs) ss
units_moved o p text [] ss h z = ([], h, z)
units_moved o p text (u ∷ us) ss h z =
    let next = h.1 in
    let v : TextUnit = record { offset = p + length next.gap; bytes = u.bytes } in
    let tail = tail_of (is_statement u) u (filter is_statement us) ss z in
    let rest = units_moved (u.offset + length u.bytes) (v.offset + length v.bytes) h.0 us tail.sayings h.2 tail.spelt in (
      v ∷ rest.0,
      (h.0, record { gap = next.gap; whole = next.whole; separators = next.separators; place = refl; unit = next.unit }, rest.1),
      tail.other v (filter is_statement rest.0) refl rest.2,
    )

pub moved : (P : Saying → Type 0) (o p : ℕ) (text : List ℕ) → Read P o text → Read P p text
moved P o p text r =
    let at = units_moved o p text r.cut.units r.sayings r.cut.cut (subst (λ us. AllZip IsSpelt us r.sayings) r.cut.kept r.spelt) in
    record {
      statements = filter is_statement at.0;
      sayings = r.sayings;
      cut = record { units = at.0; cut = at.1; kept = refl };
      spelt = at.2;
      fit = r.fit;
    }

-- 3. Lists
zip_join : (us vs : List TextUnit) (ss ts : List Saying) → AllZip IsSpelt us ss → AllZip IsSpelt vs ts → AllZip IsSpelt (us ++ vs) (ss ++ ts)
zip_join [] vs [] ts z w = w
zip_join [] vs (s ∷ ss) ts z w = absurd z
zip_join (u ∷ us) vs [] ts z w = absurd z
zip_join (u ∷ us) vs (s ∷ ss) ts z w = (z.0, zip_join us vs ss ts z.1 w)

all_join : (P : Saying → Type 0) (ss ts : List Saying) → AllByRecursion P ss → AllByRecursion P ts → AllByRecursion P (ss ++ ts)
all_join P [] ts h k = k
all_join P (s ∷ ss) ts h k = (h.0, all_join P ss ts h.1 k)

record Parted (P : Saying → Type 0) (us vs : List TextUnit) : Type 0 where
  before : List Saying
  following : List Saying
  front : AllZip IsSpelt us before
  front_fits : AllByRecursion P before
  back : AllZip IsSpelt vs following
  back_fits : AllByRecursion P following

part : (P : Saying → Type 0) (us vs : List TextUnit) (ss : List Saying) → AllZip IsSpelt (us ++ vs) ss → AllByRecursion P ss → Parted P us vs
part P [] vs ss z f = record { before = []; following = ss; front = tt; front_fits = tt; back = z; back_fits = f }
part P (u ∷ us) vs [] z f = absurd z
part P (u ∷ us) vs (s ∷ ss) z f =
    let rest = part P us vs ss z.1 f.1 in
    record {
      before = s ∷ rest.before;
      following = rest.following;
      front = (z.0, rest.front);
      front_fits = (f.0, rest.front_fits);
      back = rest.back;
      back_fits = rest.back_fits;
    }

-- 4. A text and what follows its line end
statements_join : (offset : ℕ) (text rest : List ℕ) (a b : List TextUnit) → Statements offset text a → Statements (offset + length text + 1) rest b
    → Statements offset (text ++ 10 ∷ rest) (a ++ b)
statements_join offset text rest a b p q = record {
  units = p.units ++ q.units;
  cut = units_join offset text rest p.units q.units p.cut q.cut;
  kept = rw (p.kept, q.kept, filter-append) refl;
}

pub read_join : (P : Saying → Type 0) (o p : ℕ) (text rest : List ℕ) → Read P o text → Read P p rest → Read P o (text ++ 10 ∷ rest)
read_join P o p text rest a b =
    let c = moved P p (o + length text + 1) rest b in
    record {
      statements = a.statements ++ c.statements;
      sayings = a.sayings ++ c.sayings;
      cut = statements_join o text rest a.statements c.statements a.cut c.cut;
      spelt = zip_join a.statements c.statements a.sayings c.sayings a.spelt c.spelt;
      fit = all_join P a.sayings c.sayings a.fit c.fit;
    }

pub read_part : (P : Saying → Type 0) (o : ℕ) (text rest : List ℕ) → Read P o (text ++ 10 ∷ rest) → Read P o text × Read P 0 rest
read_part P o text rest r =
    let a = found o text in
    let b = found (o + length text + 1) rest in
    let same = statements_once o (text ++ 10 ∷ rest) r.statements (a.0 ++ b.0) r.cut (statements_join o text rest a.0 b.0 a.1 b.1) in
    let parts = part P a.0 b.0 r.sayings (subst (λ us. AllZip IsSpelt us r.sayings) same r.spelt) r.fit in (
      record { statements = a.0; sayings = parts.before; cut = a.1; spelt = parts.front; fit = parts.front_fits },
      moved P (o + length text + 1) 0 rest (record { statements = b.0; sayings = parts.following; cut = b.1; spelt = parts.back; fit = parts.back_fits }),
    )

pub read_nothing : (P : Saying → Type 0) (o : ℕ) → Read P o []
read_nothing P o = record { statements = []; sayings = []; cut = record { units = []; cut = tt; kept = refl }; spelt = tt; fit = tt }

-- 5. The byte order mark
and_none : (x y : Bool) → (x && (y && false)) ≡ false
and_none true true = refl
and_none true false = refl
and_none false y = refl

short_none : (x : Bool) → (x && false) ≡ false
short_none true = refl
short_none false = refl

abbrev marks : List ℕ → Bool
marks text = starts_with nat_eq text byte_order_mark

drop_none : (b : Bool) (xs ys : List ℕ) → b ≡ false → (drop (cond b 3 0) (xs ++ ys) ≡ xs ++ ys) × (drop (cond b 3 0) xs ≡ xs)
drop_none true xs ys e = absurd cc
drop_none false xs ys e = (refl, refl)

drop_three : (b : Bool) (x y z : ℕ) (xs ys : List ℕ) → drop (cond b 3 0) (x ∷ y ∷ z ∷ (xs ++ ys)) ≡ drop (cond b 3 0) (x ∷ y ∷ z ∷ xs) ++ ys
drop_three true x y z xs ys = refl
drop_three false x y z xs ys = refl

pub record MarkKept (text rest : List ℕ) : Type 0 where
  pub long : mark_length (text ++ 10 ∷ rest) ≡ mark_length text
  pub dropped : drop (mark_length text) (text ++ 10 ∷ rest) ≡ drop (mark_length text) text ++ 10 ∷ rest

pub mark_kept : (text rest : List ℕ) → MarkKept text rest
mark_kept [] rest = record { long = refl; dropped = refl }
mark_kept (x ∷ []) rest =
    let none = short_none (nat_eq 239 x) in
    let d = drop_none (marks (x ∷ [])) (x ∷ []) (10 ∷ rest) none in
    record { long = refl; dropped = d.0 ∙ ap (λ xs. xs ++ 10 ∷ rest) (sym d.1) }
mark_kept (x ∷ y ∷ []) rest =
    let none = and_none (nat_eq 239 x) (nat_eq 187 y) in
    let d = drop_none (marks (x ∷ y ∷ [])) (x ∷ y ∷ []) (10 ∷ rest) none in
    record { long = refl; dropped = d.0 ∙ ap (λ xs. xs ++ 10 ∷ rest) (sym d.1) }
mark_kept (x ∷ y ∷ z ∷ xs) rest = record { long = refl; dropped = drop_three (marks (x ∷ y ∷ z ∷ xs)) x y z xs (10 ∷ rest) }

-- no statement begins with its first byte
other_byte : (bytes text : List ℕ) → 239 ∷ bytes ≡ text → begins_with 239 text ≡ false → ⊥
other_byte bytes text e f = let same : true ≡ begins_with 239 text = ap (begins_with 239) e in absurd cc

other_sign : (color : Color) (text : List ℕ) → begins_with 239 (sign color ∷ text) ≡ false
other_sign Black text = refl
other_sign White text = refl

other_move : (color : Color) (m : Move) → begins_with 239 (move_text color m) ≡ false
other_move Black (Walk from to _) = refl
other_move White (Walk from to _) = refl
other_move Black (Put to _) = refl
other_move White (Put to _) = refl

other_rank : (bytes : List ℕ) (number : ℕ) (cells : List (Option Piece)) → (239 ∷ bytes ≡ rank_text number cells) ⊎ ((239 ∷ bytes) ++ codes " " ≡ rank_text number cells) → ⊥
other_rank bytes number cells (inl e) = other_byte bytes _ e refl
other_rank bytes number cells (inr e) = other_byte (bytes ++ codes " ") _ e refl

no_mark : (bytes : List ℕ) (s : Saying) → Spells (239 ∷ bytes) s → ⊥
no_mark bytes version (inl e) = other_byte bytes _ e refl
no_mark bytes version (inr (inl e)) = other_byte bytes _ e refl
no_mark bytes version (inr (inr e)) = other_byte bytes _ e refl
no_mark bytes (name color text) h = other_byte bytes _ h refl
no_mark bytes (header key text) h = other_byte bytes _ h.whole refl
no_mark bytes (even pairs) h = other_byte bytes _ h.0 refl
no_mark bytes (rank number cells) h = other_rank bytes number cells h.whole
no_mark bytes (pieces color pairs) h = other_byte bytes _ h refl
no_mark bytes (turn color) h = other_byte bytes _ h (other_sign color [])
no_mark bytes (walked color m) h = other_byte bytes _ h (other_move color m)
no_mark bytes (time t) h = other_byte bytes _ h.1 refl
no_mark bytes (ending e) h = other_byte bytes _ h refl

-- a text that begins with the mark begins with the mark's first byte
both_left : (a b : Bool) → (a && b) ≡ true → a ≡ true
both_left true b h = refl
both_left false b h = absurd cc

marked : (text : List ℕ) → marks text ≡ true → (rest : List ℕ) × (text ≡ 239 ∷ rest)
marked [] h = absurd cc
marked (x ∷ xs) h =
    let first : nat_eq 239 x ≡ true = both_left _ _ h in
    (xs, ap (λ n. n ∷ xs) (sym ((Decides-eqb 239 x).0 first)))

kept_first : (bytes : List ℕ) → (rest : List ℕ) × (before_kept 239 bytes ≡ 239 ∷ rest)
kept_first [] = ([], refl)
kept_first (b ∷ bs) = (b ∷ bs, refl)

unit_marked : (unit following text : List ℕ) → IsUnit unit following → 239 ∷ text ≡ unit ++ following → (bytes : List ℕ) × (unit ≡ 239 ∷ bytes)
unit_marked [] following text h e = absurd h
unit_marked (first ∷ bytes) following text h e = let same : first ≡ 239 = cc in (bytes, ap (λ n. n ∷ bytes) same)

next_marked : (gap unit following text : List ℕ) → IsGap gap → IsUnit unit following → 239 ∷ text ≡ gap ++ (unit ++ following) → (bytes : List ℕ) × (unit ≡ 239 ∷ bytes)
next_marked [] unit following text g h e = unit_marked unit following text h e
next_marked (b ∷ gap) unit following text g h e =
    let same : b ≡ 239 = cc in
    let separates : is_separator 239 ≡ true = subst (λ n. is_separator n ≡ true) same g.0 in
    absurd cc

first_spelt : (bytes : List ℕ) (offset : ℕ) (us : List TextUnit) (ss : List Saying)
    → AllZip IsSpelt (filter is_statement (record { offset = offset; bytes = 239 ∷ bytes } ∷ us)) ss → ⊥
first_spelt bytes offset us [] z = absurd z
first_spelt bytes offset us (s ∷ ss) z =
    let kept = kept_first (without_last_blanks bytes) in
    no_mark kept.0 s (subst (λ x. Spells x s) kept.1 z.0.1)

spelt_marked : (u : TextUnit) (us : List TextUnit) (ss : List Saying) (bytes : List ℕ) → u.bytes ≡ 239 ∷ bytes
    → AllZip IsSpelt (filter is_statement (u ∷ us)) ss → ⊥
spelt_marked u us ss bytes e z =
    let v : TextUnit = record { offset = u.offset; bytes = 239 ∷ bytes } in
    let same : u ≡ v = ap (λ (x : List ℕ). record u { bytes = x }) e in
    first_spelt bytes u.offset us ss (subst (λ w. AllZip IsSpelt (filter is_statement (w ∷ us)) ss) same z)

none_read : (P : Saying → Type 0) (o : ℕ) (text : List ℕ) (us : List TextUnit) (ss : List Saying) → Units o (239 ∷ text) us
    → AllZip IsSpelt (filter is_statement us) ss → ⊥
none_read P o text [] ss h z = absurd cc
none_read P o text (u ∷ us) ss h z =
    let unit = next_marked h.1.gap u.bytes h.0 text h.1.separators h.1.unit h.1.whole in
    spelt_marked u us ss unit.0 unit.1 z

-- the mark is no statement at the start of a later line
pub marked_unread : (P : Saying → Type 0) (o : ℕ) (text : List ℕ) → Read P o (239 ∷ text) → ⊥
marked_unread P o text r = none_read P o text r.cut.units r.sayings r.cut.cut (subst (λ us. AllZip IsSpelt us r.sayings) r.cut.kept r.spelt)

-- 6. A whole text
abbrev pub ReadText : (Saying → Type 0) → List ℕ → Type 0
ReadText P text = Read P (mark_length text) (drop (mark_length text) text)

pub text_join : (P : Saying → Type 0) (text rest : List ℕ) → ReadText P text → Read P 0 rest → ReadText P (text ++ 10 ∷ rest)
text_join P text rest a b =
    let kept = mark_kept text rest in
    subst (λ n. Read P n (drop n (text ++ 10 ∷ rest))) (sym kept.long)
    (subst (Read P (mark_length text)) (sym kept.dropped) (read_join P (mark_length text) 0 (drop (mark_length text) text) rest a b))

pub text_part : (P : Saying → Type 0) (text rest : List ℕ) → ReadText P (text ++ 10 ∷ rest) → ReadText P text × Read P 0 rest
text_part P text rest r =
    let kept = mark_kept text rest in
    read_part P (mark_length text) (drop (mark_length text) text) rest
    (subst (Read P (mark_length text)) kept.dropped (subst (λ n. Read P n (drop n (text ++ 10 ∷ rest))) kept.long r))

abbrev ReadMarked : (Saying → Type 0) → Bool → List ℕ → Type 0
ReadMarked P b text = Read P (cond b 3 0) (drop (cond b 3 0) text)

unmarked_by : (P : Saying → Type 0) (b : Bool) (text : List ℕ) → marks text ≡ b → Read P 0 text → ReadMarked P b text
unmarked_by P true text e r = let m = marked text e in absurd (marked_unread P 0 m.0 (subst (Read P 0) m.1 r))
unmarked_by P false text e r = r

pub unmarked : (P : Saying → Type 0) (text : List ℕ) → Read P 0 text → ReadText P text
unmarked P text r = unmarked_by P (marks text) text refl r

marked_or : (P Q : Saying → Type 0) (b : Bool) (text : List ℕ) → marks text ≡ b → Read Q 0 text → ReadMarked P b text → Read P 0 text
marked_or P Q true text e q r = let m = marked text e in absurd (marked_unread Q 0 m.0 (subst (Read Q 0) m.1 q))
marked_or P Q false text e q r = r

pub unmarked_or : (P Q : Saying → Type 0) (text : List ℕ) → Read Q 0 text → ReadText P text → Read P 0 text
unmarked_or P Q text q r = marked_or P Q (marks text) text refl q r
