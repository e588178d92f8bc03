-- Where pieces, one after another, are more than a game has.
use Rattle.std.proofs.Common.{◌≡◌, ℕ, zero, suc, ◌+◌, ◌<◌, ◌≤◌, ◌==◌, ◌&&◌, nat_lt, nat_le, ◌⊎◌, inl, inr, Bool, true, false, cond, List, [], ◌∷◌, ◌++◌, Option, Some, None, arith, refl, sym, ap, ◌∙◌, subst, append_assoc, get_or}
use Rattle.std.proofs.lemmas.Bool.{lt-ltb}
use Rattle.std.proofs.lemmas.Bool.Decides.{eqb_tells, leb_tells}
use Rattle.std.proofs.lemmas.List.{append-nil}
use Rattle.shogi_board.specs.declared.color.Color.{Color}
use Rattle.shogi_board.specs.declared.color.Color.TheVariants.{Black, White}
use Rattle.shogi_board.specs.declared.kind.Kind.{Kind}
use Rattle.shogi_board.specs.declared.kind.Kind.TheVariants.{Pawn, Lance, Knight, Silver, Gold, Bishop, Rook, King, ProPawn, ProLance, ProKnight, ProSilver, Horse, Dragon}
use Rattle.shogi_board.specs.declared.kind.Piece.{Piece}
use Rattle.shogi_board.specs.declared.setup.SetupFault.{SetupFault}
use Rattle.shogi_board.specs.declared.setup.SetupFault.TheVariants.{SquareTaken, TooMany, SecondKing, NotForHand, NotThere, OpponentInCheck, AfterRest}
use Rattle.shogi_board.specs.Pieces.{is_king, place_of, same_color}
use Rattle.shogi_board.specs.Setup.{first_fault}
use Rattle.shogi_board.specs.Totals.{limit}
use Rattle.shogi_board.proofs.Forms.{same_color-self, eq-self}
use Rattle.usi_text.specs.Contents.{kind_total, king_total, NoSecondKing, IsWithinGame, Exceeds, FirstExcess}

abbrev Pieces : Type 0
Pieces = List Piece

kind_joined : (k : Kind) (xs ys : Pieces) → kind_total k (xs ++ ys) ≡ kind_total k xs + kind_total k ys
kind_joined k [] ys = omega arith
kind_joined k (x ∷ xs) ys = let h = kind_joined k xs ys in omega (arith, h)

king_joined : (c : Color) (xs ys : Pieces) → king_total c (xs ++ ys) ≡ king_total c xs + king_total c ys
king_joined c [] ys = omega arith
king_joined c (x ∷ xs) ys = let h = king_joined c xs ys in omega (arith, h)

pub kind_more : (k : Kind) (ps : Pieces) (p : Piece) → kind_total k (ps ++ p ∷ []) ≡ kind_total k ps + cond (place_of p.kind == place_of k) 1 0
kind_more k ps p = let h = kind_joined k ps (p ∷ []) in omega (arith, h)

pub king_more : (c : Color) (ps : Pieces) (p : Piece) → king_total c (ps ++ p ∷ []) ≡ king_total c ps + cond (same_color p.color c && is_king p.kind) 1 0
king_more c ps p = let h = king_joined c ps (p ∷ []) in omega (arith, h)

same_total : (a b : Kind) (ps : Pieces) → place_of a ≡ place_of b → kind_total a ps ≡ kind_total b ps
same_total a b [] e = refl
same_total a b (p ∷ ps) e =
    ap (λ x. cond (place_of p.kind == x) 1 0 + kind_total a ps) e ∙ ap (λ n. cond (place_of p.kind == place_of b) 1 0 + n) (same_total a b ps e)

-- the limits by the places of the kinds
abbrev limits : List ℕ
limits = 18 ∷ 4 ∷ 4 ∷ 4 ∷ 4 ∷ 2 ∷ 2 ∷ 2 ∷ []

limit_there : (k : Kind) → limit k ≡ get_or limits (place_of k) 0
limit_there Pawn = refl
limit_there Lance = refl
limit_there Knight = refl
limit_there Silver = refl
limit_there Gold = refl
limit_there Bishop = refl
limit_there Rook = refl
limit_there King = refl
limit_there ProPawn = refl
limit_there ProLance = refl
limit_there ProKnight = refl
limit_there ProSilver = refl
limit_there Horse = refl
limit_there Dragon = refl

same_limit : (a b : Kind) → place_of a ≡ place_of b → limit a ≡ limit b
same_limit a b e = limit_there a ∙ (ap (λ i. get_or limits i 0) e ∙ sym (limit_there b))

-- why one more piece is refused
abbrev pub next_fault : Pieces → Piece → Option SetupFault
next_fault ps p =
    first_fault ((SecondKing, is_king p.kind && nat_lt 0 (king_total p.color ps)) ∷ (TooMany, nat_le (limit p.kind) (kind_total p.kind ps)) ∷ [])

king_tells : (b : Bool) (n : ℕ) → (((b && nat_lt 0 n) ≡ true) × (b ≡ true) × (0 < n)) ⊎ (((b && nat_lt 0 n) ≡ false) × (b ≡ true → n ≡ 0))
king_tells false n = inr (refl, λ e. cc)
king_tells true zero = inr (refl, λ e. refl)
king_tells true (suc n) = inl (lt-ltb 0 (suc n) (omega arith), refl, omega arith)

data Next (ps : Pieces) (p : Piece) : Type 0 where
  second : next_fault ps p ≡ Some SecondKing → is_king p.kind ≡ true → 0 < king_total p.color ps → Next ps p
  many : next_fault ps p ≡ Some TooMany → (is_king p.kind ≡ true → king_total p.color ps ≡ 0) → limit p.kind ≤ kind_total p.kind ps → Next ps p
  fits : next_fault ps p ≡ None → (is_king p.kind ≡ true → king_total p.color ps ≡ 0) → kind_total p.kind ps < limit p.kind → Next ps p

by_two : (ps : Pieces) (p : Piece) (a b : Bool) → (is_king p.kind && nat_lt 0 (king_total p.color ps)) ≡ a → nat_le (limit p.kind) (kind_total p.kind ps) ≡ b → next_fault ps p ≡ first_fault ((SecondKing, a) ∷ (TooMany, b) ∷ [])
by_two ps p a b h k =
    ap (λ x. first_fault ((SecondKing, x) ∷ (TooMany, nat_le (limit p.kind) (kind_total p.kind ps)) ∷ [])) h ∙ ap (λ x. first_fault ((SecondKing, a) ∷ (TooMany, x) ∷ [])) k

next : (ps : Pieces) (p : Piece) → Next ps p
next ps p =
    elim (king_tells (is_king p.kind) (king_total p.color ps)) [
      | inl king ↦ second (by_two ps p true _ king.0 refl) king.1 king.2
      | inr none ↦
          elim (leb_tells (limit p.kind) (kind_total p.kind ps)) [
            | inl full ↦ many (by_two ps p false true none.0 full.0) none.1 full.1
            | inr room ↦ fits (by_two ps p false false none.0 room.0) none.1 room.1
          ]
    ]

and_true : (a b : Bool) → a ≡ true → b ≡ true → (a && b) ≡ true
and_true true b h k = k
and_true false b h k = cc

own_king : (ps : Pieces) (p : Piece) → is_king p.kind ≡ true → king_total p.color (ps ++ p ∷ []) ≡ king_total p.color ps + 1
own_king ps p king =
    king_more p.color ps p ∙ ap (λ b. king_total p.color ps + cond b 1 0) (and_true (same_color p.color p.color) (is_king p.kind) (same_color-self p.color) king)

own_kind : (ps : Pieces) (p : Piece) → kind_total p.kind (ps ++ p ∷ []) ≡ kind_total p.kind ps + 1
own_kind ps p =
    kind_more p.kind ps p ∙ ap (λ b. kind_total p.kind ps + cond b 1 0) (eq-self (place_of p.kind) (place_of p.kind) refl)

color_tells : (a c : Color) → (a ≡ c) ⊎ (same_color a c ≡ false)
color_tells Black Black = inl refl
color_tells Black White = inr refl
color_tells White Black = inr refl
color_tells White White = inl refl

own_bound : (a b : Bool) (n t : ℕ) → n ≤ 1 → (b ≡ true → n ≡ 0) → t ≡ n + cond (a && b) 1 0 → t ≤ 1
own_bound true true n t h k e = let z = k refl in omega (arith, e, z)
own_bound true false n t h k e = omega (arith, e)
own_bound false b n t h k e = omega (arith, e)

other_bound : (a b : Bool) (n t : ℕ) → n ≤ 1 → a ≡ false → t ≡ n + cond (a && b) 1 0 → t ≤ 1
other_bound true b n t h k e = cc
other_bound false b n t h k e = omega (arith, e)

kings_kept : (ps : Pieces) (p : Piece) → NoSecondKing ps → (is_king p.kind ≡ true → king_total p.color ps ≡ 0) → NoSecondKing (ps ++ p ∷ [])
kings_kept ps p one none c =
    elim (color_tells p.color c) [
      | inl same ↦
          let own = own_bound (same_color p.color p.color) (is_king p.kind) (king_total p.color ps) _ (one p.color) none (king_more p.color ps p) in
          subst (λ d. king_total d (ps ++ p ∷ []) ≤ 1) same own
      | inr other ↦ other_bound (same_color p.color c) (is_king p.kind) (king_total c ps) _ (one c) other (king_more c ps p)
    ]

totals_kept : (ps : Pieces) (p : Piece) → ((k : Kind) → kind_total k ps ≤ limit k) → kind_total p.kind ps < limit p.kind → (k : Kind) → kind_total k (ps ++ p ∷ []) ≤ limit k
totals_kept ps p totals room k =
    elim (eqb_tells (place_of p.kind) (place_of k)) [
      | inl same ↦
          let more = kind_more k ps p ∙ ap (λ b. kind_total k ps + cond b 1 0) same.0 in
          let equal = same_total p.kind k ps same.1 in
          let up = same_limit p.kind k same.1 in
          omega (arith, more, equal, up, room)
      | inr other ↦
          let more = kind_more k ps p ∙ ap (λ b. kind_total k ps + cond b 1 0) other.0 in
          let low = totals k in
          omega (arith, more, low)
    ]

pub one_more_kept : (ps : Pieces) (p : Piece) → IsWithinGame ps → next_fault ps p ≡ None → IsWithinGame (ps ++ p ∷ [])
one_more_kept ps p w h =
    elim (next ps p) [
      | second e king some ↦ let d = sym h ∙ e in cc
      | many e none full ↦ let d = sym h ∙ e in cc
      | fits e none room ↦ record { kings = kings_kept ps p w.kings none; totals = totals_kept ps p w.totals room }
    ]

same_why : (ps : Pieces) (p : Piece) (f g : SetupFault) → next_fault ps p ≡ Some f → next_fault ps p ≡ Some g → g ≡ f
same_why ps p f g h k = let d : Some g ≡ Some f = sym k ∙ h in cc

exceeded : (ps : Pieces) (p : Piece) (f : SetupFault) → IsWithinGame ps → next_fault ps p ≡ Some f → Exceeds (ps ++ p ∷ []) f
exceeded ps p f w h =
    elim (next ps p) [
      | second e king some ↦
          let two : 1 < king_total p.color (ps ++ p ∷ []) = let own = own_king ps p king in omega (arith, own, some) in
          subst (λ g. Exceeds (ps ++ p ∷ []) g) (same_why ps p f SecondKing h e) (p.color, two)
      | many e none full ↦
          let over : limit p.kind < kind_total p.kind (ps ++ p ∷ []) = let own = own_kind ps p in omega (arith, own, full) in
          subst (λ g. Exceeds (ps ++ p ∷ []) g) (same_why ps p f TooMany h e) (kings_kept ps p w.kings none, p.kind, over)
      | fits e none room ↦ let d = sym h ∙ e in cc
    ]

stated : (ps : Pieces) (p : Piece) (f : SetupFault) → IsWithinGame ps → Exceeds (ps ++ p ∷ []) f → next_fault ps p ≡ Some f
stated ps p SecondKing w (c, two) =
    elim (next ps p) [
      | second e king some ↦ e
      | many e none full ↦ let one = kings_kept ps p w.kings none c in absurd (omega (arith, one, two))
      | fits e none room ↦ let one = kings_kept ps p w.kings none c in absurd (omega (arith, one, two))
    ]
stated ps p TooMany w (one, k, over) =
    elim (next ps p) [
      | second e king some ↦ let own = own_king ps p king in let low = one p.color in absurd (omega (arith, own, low, some))
      | many e none full ↦ e
      | fits e none room ↦ let low = totals_kept ps p w.totals room k in absurd (omega (arith, low, over))
    ]
stated ps p SquareTaken w h = absurd h
stated ps p NotForHand w h = absurd h
stated ps p NotThere w h = absurd h
stated ps p OpponentInCheck w h = absurd h
stated ps p AfterRest w h = absurd h

not_refused : (ps : Pieces) (p : Piece) → IsWithinGame (ps ++ p ∷ []) → next_fault ps p ≡ None
not_refused ps p w =
    elim (next ps p) [
      | second e king some ↦ let own = own_king ps p king in let low = w.kings p.color in absurd (omega (arith, own, low, some))
      | many e none full ↦ let own = own_kind ps p in let low = w.totals p.kind in absurd (omega (arith, own, low, full))
      | fits e none room ↦ e
    ]

front_within : (xs ys : Pieces) → IsWithinGame (xs ++ ys) → IsWithinGame xs
front_within xs ys w = record {
  kings = λ c. let h = king_joined c xs ys in let low = w.kings c in omega (arith, h, low);
  totals = λ k. let h = kind_joined k xs ys in let low = w.totals k in omega (arith, h, low);
}

abbrev pub first_of : Option SetupFault → Option SetupFault → Option SetupFault
first_of None next = next
first_of (Some f) next = Some f

-- why these are refused, if they are placed in order after those before them
abbrev pub refusal : Pieces → Pieces → Option SetupFault
refusal front [] = None
refusal front (p ∷ ps) = first_of (next_fault front p) (refusal (front ++ p ∷ []) ps)

first_of_three : (a b c : Option SetupFault) → first_of a (first_of b c) ≡ first_of (first_of a b) c
first_of_three None b c = refl
first_of_three (Some f) b c = refl

pub refusal_joined : (front xs ys : Pieces) → refusal front (xs ++ ys) ≡ first_of (refusal front xs) (refusal (front ++ xs) ys)
refusal_joined front [] ys = ap (λ z. refusal z ys) (sym (append-nil front))
refusal_joined front (x ∷ xs) ys =
    let here = next_fault front x in
    let more = front ++ x ∷ [] in
    ap (first_of here) (refusal_joined more xs ys)
    ∙ (first_of_three here (refusal more xs) (refusal (more ++ xs) ys) ∙ ap (λ z. first_of (refusal front (x ∷ xs)) (refusal z ys)) (append_assoc front (x ∷ []) xs))

cases_fault : (o : Option SetupFault) → (o ≡ None) ⊎ ((f : SetupFault) × (o ≡ Some f))
cases_fault None = inl refl
cases_fault (Some f) = inr (f, refl)

pub all_within : (front ps : Pieces) → IsWithinGame front → refusal front ps ≡ None → IsWithinGame (front ++ ps)
all_within front [] w h = subst IsWithinGame (sym (append-nil front)) w
all_within front (p ∷ ps) w h =
    let more = front ++ p ∷ [] in
    elim (cases_fault (next_fault front p)) [
      | inl e ↦
          let none : refusal more ps ≡ None = sym (ap (λ here. first_of here (refusal more ps)) e) ∙ h in
          subst IsWithinGame (append_assoc front (p ∷ []) ps) (all_within more ps (one_more_kept front p w e) none)
      | inr some ↦ let d = sym (ap (λ here. first_of here (refusal more ps)) some.1) ∙ h in cc
    ]

-- the first excess of pieces, after those before them
record Excess (front ps : Pieces) (fault : SetupFault) : Type 0 where
  mid : Pieces
  last : Piece
  rest : Pieces
  whole : ps ≡ mid ++ last ∷ rest
  within : IsWithinGame (front ++ mid)
  exceeds : Exceeds ((front ++ mid) ++ last ∷ []) fault

excess : (front ps : Pieces) (f : SetupFault) → IsWithinGame front → refusal front ps ≡ Some f → Excess front ps f
excess front [] f w h = cc
excess front (p ∷ ps) f w h =
    let more = front ++ p ∷ [] in
    elim (cases_fault (next_fault front p)) [
      | inl e ↦
          let later : refusal more ps ≡ Some f = sym (ap (λ here. first_of here (refusal more ps)) e) ∙ h in
          let x = excess more ps f (one_more_kept front p w e) later in
          let same = append_assoc front (p ∷ []) x.mid in
          record {
            mid = p ∷ x.mid;
            last = x.last;
            rest = x.rest;
            whole = ap (λ z. p ∷ z) x.whole;
            within = subst IsWithinGame same x.within;
            exceeds = subst (λ z. Exceeds (z ++ x.last ∷ []) f) same x.exceeds;
          }
      | inr some ↦
          let same = sym (append-nil front) in
          let d : Some some.0 ≡ Some f = sym (ap (λ here. first_of here (refusal more ps)) some.1) ∙ h in
          let found : next_fault front p ≡ Some f = some.1 ∙ d in
          record {
            mid = [];
            last = p;
            rest = ps;
            whole = refl;
            within = subst IsWithinGame same w;
            exceeds = subst (λ z. Exceeds (z ++ p ∷ []) f) same (exceeded front p f w found);
          }
    ]

none_within : IsWithinGame []
none_within = record { kings = λ c. omega arith; totals = λ k. omega arith }

pub not_both : (ps : Pieces) (f : SetupFault) → IsWithinGame ps → FirstExcess ps f → ⊥
not_both ps f w x =
    let front = x.front ++ x.last ∷ [] in
    let whole : ps ≡ front ++ x.rest = x.whole ∙ sym (append_assoc x.front (x.last ∷ []) x.rest) in
    let within = front_within front x.rest (subst IsWithinGame whole w) in
    let e = stated x.front x.last f x.within x.exceeds in
    let d : None ≡ Some f = sym (not_refused x.front x.last within) ∙ e in
    cc

pub first_excess : (ps : Pieces) (f : SetupFault) → refusal [] ps ≡ Some f → FirstExcess ps f
first_excess ps f h =
    let x = excess [] ps f none_within h in
    record { front = x.mid; last = x.last; rest = x.rest; whole = x.whole; within = x.within; exceeds = x.exceeds }

pub within_game : (ps : Pieces) → refusal [] ps ≡ None → IsWithinGame ps
within_game ps h = all_within [] ps none_within h

refused_at : (front mid : Pieces) (last : Piece) (rest : Pieces) (f : SetupFault) → IsWithinGame (front ++ mid) → Exceeds ((front ++ mid) ++ last ∷ []) f → refusal front (mid ++ last ∷ rest) ≡ Some f
refused_at front [] last rest f w x =
    let same = append-nil front in
    let e = stated front last f (subst IsWithinGame same w) (subst (λ z. Exceeds (z ++ last ∷ []) f) same x) in
    ap (λ here. first_of here (refusal (front ++ last ∷ []) rest)) e
refused_at front (m ∷ ms) last rest f w x =
    let same = sym (append_assoc front (m ∷ []) ms) in
    let more = front ++ m ∷ [] in
    let w1 = subst IsWithinGame same w in
    let e = not_refused front m (front_within more ms w1) in
    ap (λ here. first_of here (refusal more (ms ++ last ∷ rest))) e
    ∙ refused_at more ms last rest f w1 (subst (λ z. Exceeds (z ++ last ∷ []) f) same x)

pub refused : (ps : Pieces) (f : SetupFault) → FirstExcess ps f → refusal [] ps ≡ Some f
refused ps f x =
    ap (refusal []) x.whole ∙ refused_at [] x.front x.last x.rest f x.within x.exceeds

pub some_excess : (ps : Pieces) → (IsWithinGame ps → ⊥) → (f : SetupFault) × FirstExcess ps f
some_excess ps none =
    elim (cases_fault (refusal [] ps)) [
      | inl e ↦ absurd (none (within_game ps e))
      | inr some ↦ (some.0, first_excess ps some.0 some.1)
    ]
