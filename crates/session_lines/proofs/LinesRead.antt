-- A line of the server spells at most one move or one ending, or has one first fault.
use Rattle.std.proofs.Common.{◌≡◌, ℕ, ◌≤◌, ◌<◌, ◌⊎◌, inl, inr, Bool, true, false, codes, take, List, [], ◌∷◌, length, Option, Some, None, refl, sym, ap, subst, ◌∙◌, arith}
use Rattle.std.specs.Prelude.{◌||◌, nat_eq}
use Rattle.std.specs.List.{AllZip, starts_with}
use Rattle.std.proofs.lemmas.Bool.Decides.{Decides-eqb}
use Rattle.std.proofs.lemmas.Slice.Eq.{slice_eq-Decides}
use Rattle.csa_cutting.proofs.Once.{statements_once}
use Rattle.csa_text.proofs.Sayings.{same_saying}
use Rattle.csa_cutting.specs.Cut.{TextUnit, IsCut, begins_with, statement_bytes}
use Rattle.csa_text.specs.Saying.{Saying, walked, time, ending}
use Rattle.csa_text.specs.declared.ending.Ending.{Ending}
use Rattle.csa_text.specs.declared.fault.TextFault.{TextFault}
use Rattle.record_game.proofs.SaysOnce.{same_items}
use Rattle.record_game.specs.Game.{Timed, Ended}
use Rattle.record_game.specs.Says.{time_items}
use Rattle.record_game.specs.Tells.{IsSpelt}
use Rattle.shogi_board.specs.declared.color.Color.{Color}
use Rattle.shogi_board.specs.declared.moves.Move.{Move}
use Rattle.session_lines.specs.MoveLines.{is_move_line}
use Rattle.session_lines.specs.ServerLines.{is_start_line, is_reject_line, is_ending_line, is_hash_line, IsLineOf, TellsTimed, TellsEnding, IsMove, IsTime, UnitFault, ExtraFault, FirstTextFault, no_move, no_time, more}
use Rattle.session_lines.specs.ServerLines as lines

cut_once : (line : List ℕ) (us vs : List TextUnit) → IsCut line us → IsCut line vs → us ≡ vs
cut_once line us vs a b = statements_once _ _ us vs a b

pub items_once : (line : List ℕ) (ss ts : List Saying) → IsLineOf line ss → IsLineOf line ts → ss ≡ ts
items_once line ss ts a b =
    let units : a.0 ≡ b.0 = cut_once line a.0 b.0 a.1 b.1 in
    same_items a.0 ss ts a.2 (subst (λ us. AllZip IsSpelt us ts) (sym units) b.2)

-- 1. first bytes
abbrev pub head_of : List ℕ → ℕ
head_of [] = 0
head_of (b ∷ bs) = b

pub begins_so : (n : ℕ) (l : List ℕ) → begins_with n l ≡ true → head_of l ≡ n
begins_so n [] h = absurd (let e : false ≡ true = h in cc)
begins_so n (b ∷ bs) h = (Decides-eqb b n).0 h

pub either : (a b : Bool) → (a || b) ≡ true → (a ≡ true) ⊎ (b ≡ true)
either true b h = inl refl
either false b h = inr h

-- a line begins with `+` or `-`, with `%` or with `#`: with one only
pub move_or_ending : (l : List ℕ) → is_move_line l ≡ true → is_ending_line l ≡ true → ⊥
move_or_ending l h k =
    let e = begins_so 37 l k in
    elim (either (begins_with 43 l) (begins_with 45 l) h) [
      | inl x ↦ let f = begins_so 43 l x in omega (arith, e, f)
      | inr x ↦ let f = begins_so 45 l x in omega (arith, e, f)
    ]

pub move_or_hash : (l : List ℕ) → is_move_line l ≡ true → is_hash_line l ≡ true → ⊥
move_or_hash l h k =
    let e = begins_so 35 l k in
    elim (either (begins_with 43 l) (begins_with 45 l) h) [
      | inl x ↦ let f = begins_so 43 l x in omega (arith, e, f)
      | inr x ↦ let f = begins_so 45 l x in omega (arith, e, f)
    ]

pub ending_or_hash : (l : List ℕ) → is_ending_line l ≡ true → is_hash_line l ≡ true → ⊥
ending_or_hash l h k = let e = begins_so 37 l h in let f = begins_so 35 l k in omega (arith, e, f)

front_of : (text l : List ℕ) → starts_with nat_eq l text ≡ true → text ≡ take (length text) l
front_of text l h = (slice_eq-Decides Decides-eqb text (take (length text) l) _ refl).0 h

pub start_or_reject : (l : List ℕ) → is_start_line l ≡ true → is_reject_line l ≡ true → ⊥
start_or_reject [] h k = let e = ap head_of (front_of (codes "START:") [] h) in omega (arith, e)
start_or_reject (b ∷ bs) h k =
    let e : 83 ≡ b = ap head_of (front_of (codes "START:") (b ∷ bs) h) in
    let f : 82 ≡ b = ap head_of (front_of (codes "REJECT:") (b ∷ bs) k) in
    omega (arith, e, f)

-- 2. moves and endings
time_once : (a b : Option ℕ) → time_items a ≡ time_items b → a ≡ b
time_once None None e = refl
time_once None (Some u) e = absurd (let f : [] ≡ time u ∷ [] = e in cc)
time_once (Some t) None e = absurd (let f : time t ∷ [] ≡ [] = e in cc)
time_once (Some t) (Some u) e = let f : time t ∷ [] ≡ time u ∷ [] = e in let g : t ≡ u = cc in ap Some g

same_timed : (m n : Timed) → m.move ≡ n.move → m.time ≡ n.time → m ≡ n
same_timed m n e f = ap (λ (x : Move). record m { move = x }) e ∙ ap (λ (t : Option ℕ). record n { time = t }) f

walked_first : (c d : Color) (m n : Move) (ss ts : List Saying) → walked c m ∷ ss ≡ walked d n ∷ ts → (c ≡ d) × (m ≡ n) × (ss ≡ ts)
walked_first c d m n ss ts e = let f : walked c m ≡ walked d n = cc in (cc, cc, cc)

pub timed_once : (line : List ℕ) (c d : Color) (m n : Timed) → TellsTimed line c m → TellsTimed line d n → (c ≡ d) × (m ≡ n)
timed_once line c d m n a b =
    let all = walked_first c d m.move n.move (time_items m.time) (time_items n.time) (items_once line _ _ a b) in
    (all.0, same_timed m n all.1 (time_once m.time n.time all.2))

same_ended : (m n : Ended) → m.ending ≡ n.ending → m.time ≡ n.time → m ≡ n
same_ended m n e f = ap (λ (x : Ending). record m { ending = x }) e ∙ ap (λ (t : Option ℕ). record n { time = t }) f

ending_first : (c d : Ending) (ss ts : List Saying) → ending c ∷ ss ≡ ending d ∷ ts → (c ≡ d) × (ss ≡ ts)
ending_first c d ss ts e = let f : ending c ≡ ending d = cc in (cc, cc)

pub ending_once : (line : List ℕ) (m n : Ended) → TellsEnding line m → TellsEnding line n → m ≡ n
ending_once line m n a b =
    let all = ending_first m.ending n.ending (time_items m.time) (time_items n.time) (items_once line _ _ a b) in
    same_ended m n all.0 (time_once m.time n.time all.1)

-- 3. faults of one statement
too_short : (n : ℕ) → 4096 < n → n ≤ 4096 → ⊥
too_short n a b = omega (arith, a, b)

unit_once : (Wanted : Saying → Type 0) (u : TextUnit) (f g : TextFault) → UnitFault Wanted u f → UnitFault Wanted u g → f ≡ g
unit_once Wanted u f g a b =
    elim a [
      | lines.too_long l e ↦ elim b [
        | lines.too_long k h ↦ e ∙ sym h
        | lines.unread k n h ↦ absurd (too_short (length u.bytes) l k)
        | lines.another s k n h ↦ absurd (too_short (length u.bytes) l k.0)
      ]
      | lines.unread l n e ↦ elim b [
        | lines.too_long k h ↦ absurd (too_short (length u.bytes) k l)
        | lines.unread k o h ↦ e ∙ sym h
        | lines.another s k o h ↦ absurd (n s k.1)
      ]
      | lines.another s l n e ↦ elim b [
        | lines.too_long k h ↦ absurd (too_short (length u.bytes) k l.0)
        | lines.unread k o h ↦ absurd (o s l.1)
        | lines.another r k o h ↦ e ∙ sym h
      ]
    ]

not_wanted : (Wanted : Saying → Type 0) (u : TextUnit) (f : TextFault) (s : Saying) → UnitFault Wanted u f → IsSpelt u s → Wanted s → ⊥
not_wanted Wanted u f s a spelt wanted =
    elim a [
      | lines.too_long l e ↦ too_short (length u.bytes) l spelt.0
      | lines.unread l n e ↦ n s spelt.1
      | lines.another r l n e ↦ n (subst Wanted (same_saying (statement_bytes u.bytes) s r spelt.1 l.1) wanted)
    ]

extra_once : (u : TextUnit) (f g : TextFault) → ExtraFault u f → ExtraFault u g → f ≡ g
extra_once u f g a b =
    elim a [
      | lines.too_long l e ↦ elim b [ lines.too_long k h ↦ e ∙ sym h | lines.extra k h ↦ absurd (too_short (length u.bytes) l k) ]
      | lines.extra l e ↦ elim b [ lines.too_long k h ↦ absurd (too_short (length u.bytes) k l) | lines.extra k h ↦ e ∙ sym h ]
    ]

-- 4. the first of a line
abbrev Units : Type 0
Units = List TextUnit

heads : (u v : TextUnit) (us vs : Units) → u ∷ us ≡ v ∷ vs → (u ≡ v) × (us ≡ vs)
heads u v us vs e = (cc, cc)

is_move : (c : Color) (m : Move) → IsMove (walked c m)
is_move c m = (c, m, refl)

is_time : (t : ℕ) → IsTime (time t)
is_time t = (t, refl)

-- the first statement has a fault, and spells a move
first_apart : (line : List ℕ) (u v : TextUnit) (us vs : Units) (f : TextFault) (c : Color) (m : Move) → IsCut line (u ∷ us) → IsCut line (v ∷ vs)
    → UnitFault IsMove u f → IsSpelt v (walked c m) → ⊥
first_apart line u v us vs f c m a b fault spelt =
    let e = heads u v us vs (cut_once line (u ∷ us) (v ∷ vs) a b) in
    not_wanted IsMove v f (walked c m) (subst (λ x. UnitFault IsMove x f) e.0 fault) spelt (is_move c m)

-- the second has a fault, and spells a time
second_apart : (line : List ℕ) (u v w x : TextUnit) (us vs : Units) (f : TextFault) (t : ℕ) → IsCut line (u ∷ v ∷ us) → IsCut line (w ∷ x ∷ vs)
    → UnitFault IsTime v f → IsSpelt x (time t) → ⊥
second_apart line u v w x us vs f t a b fault spelt =
    let e = heads u w (v ∷ us) (x ∷ vs) (cut_once line (u ∷ v ∷ us) (w ∷ x ∷ vs) a b) in
    let d = heads v x us vs e.1 in
    not_wanted IsTime x f (time t) (subst (λ y. UnitFault IsTime y f) d.0 fault) spelt (is_time t)

pub fault_once : (line : List ℕ) (f g : TextFault) → FirstTextFault line f → FirstTextFault line g → f ≡ g
fault_once line f g a b =
    elim a [
      | no_move u us cut fault ↦ elim b [
        | no_move v vs put wrong ↦
            let e = heads u v us vs (cut_once line (u ∷ us) (v ∷ vs) cut put) in
            unit_once IsMove v f g (subst (λ x. UnitFault IsMove x f) e.0 fault) wrong
        | no_time v w vs c m put spelt wrong ↦ absurd (first_apart line u v us (w ∷ vs) f c m cut put fault spelt)
        | more v w x vs c m t put spelt timed wrong ↦ absurd (first_apart line u v us (w ∷ x ∷ vs) f c m cut put fault spelt)
      ]
      | no_time u y us d n cut first fault ↦ elim b [
        | no_move v vs put wrong ↦ absurd (first_apart line v u vs (y ∷ us) g d n put cut wrong first)
        | no_time v w vs c m put spelt wrong ↦
            let e = heads u v (y ∷ us) (w ∷ vs) (cut_once line (u ∷ y ∷ us) (v ∷ w ∷ vs) cut put) in
            let k = heads y w us vs e.1 in
            unit_once IsTime w f g (subst (λ x. UnitFault IsTime x f) k.0 fault) wrong
        | more v w x vs c m t put spelt timed wrong ↦ absurd (second_apart line u y v w us (x ∷ vs) f t cut put fault timed)
      ]
      | more u y z us d n r cut first next fault ↦ elim b [
        | no_move v vs put wrong ↦ absurd (first_apart line v u vs (y ∷ z ∷ us) g d n put cut wrong first)
        | no_time v w vs c m put spelt wrong ↦ absurd (second_apart line v w u y vs (z ∷ us) g r put cut wrong next)
        | more v w x vs c m t put spelt timed wrong ↦
            let e = heads u v (y ∷ z ∷ us) (w ∷ x ∷ vs) (cut_once line (u ∷ y ∷ z ∷ us) (v ∷ w ∷ x ∷ vs) cut put) in
            let k = heads y w (z ∷ us) (x ∷ vs) e.1 in
            let l = heads z x us vs k.1 in
            extra_once x f g (subst (λ o. ExtraFault o f) l.0 fault) wrong
      ]
    ]

-- the units of a line that spells a move: one, or a second that spells the time
pub data MoveUnits (line : List ℕ) (c : Color) (m : Timed) : Type 0 where
  alone : (u : TextUnit) → IsCut line (u ∷ []) → IsSpelt u (walked c m.move) → MoveUnits line c m
  timed : (u v : TextUnit) (t : ℕ) → IsCut line (u ∷ v ∷ []) → IsSpelt u (walked c m.move) → IsSpelt v (time t) → MoveUnits line c m

units_are : (line : List ℕ) (c : Color) (m : Timed) (us : Units) (o : Option ℕ) → IsCut line us → AllZip IsSpelt us (walked c m.move ∷ time_items o) → MoveUnits line c m
units_are line c m [] o cut h = absurd h
units_are line c m (u ∷ []) None cut h = alone u cut h.0
units_are line c m (u ∷ v ∷ us) None cut h = absurd h.1
units_are line c m (u ∷ []) (Some t) cut h = absurd h.1
units_are line c m (u ∷ v ∷ []) (Some t) cut h = timed u v t cut h.0 h.1.0
units_are line c m (u ∷ v ∷ w ∷ us) (Some t) cut h = absurd h.1.1

pub move_units : (line : List ℕ) (c : Color) (m : Timed) → TellsTimed line c m → MoveUnits line c m
move_units line c m h = units_are line c m h.0 m.time h.1 h.2

one_two : (line : List ℕ) (u v w : TextUnit) (vs : Units) → IsCut line (u ∷ []) → IsCut line (v ∷ w ∷ vs) → ⊥
one_two line u v w vs a b = let e = heads u v [] (w ∷ vs) (cut_once line (u ∷ []) (v ∷ w ∷ vs) a b) in let f = ap length e.1 in omega (arith, f)

two_three : (line : List ℕ) (u x v w y : TextUnit) (vs : Units) → IsCut line (u ∷ x ∷ []) → IsCut line (v ∷ w ∷ y ∷ vs) → ⊥
two_three line u x v w y vs a b =
    let e = ap length (cut_once line (u ∷ x ∷ []) (v ∷ w ∷ y ∷ vs) a b) in omega (arith, e)

pub fault_or_move : (line : List ℕ) (f : TextFault) (c : Color) (m : Timed) → FirstTextFault line f → TellsTimed line c m → ⊥
fault_or_move line f c m a tells =
    elim (move_units line c m tells) [
      | alone u cut spelt ↦ elim a [
        | no_move v vs put fault ↦ first_apart line v u vs [] f c m.move put cut fault spelt
        | no_time v w vs d n put first fault ↦ one_two line u v w vs cut put
        | more v w x vs d n t put first next fault ↦ one_two line u v w (x ∷ vs) cut put
      ]
      | timed u y t cut spelt at ↦ elim a [
        | no_move v vs put fault ↦ first_apart line v u vs (y ∷ []) f c m.move put cut fault spelt
        | no_time v w vs d n put first fault ↦ second_apart line v w u y vs [] f t put cut fault at
        | more v w x vs d n r put first next fault ↦ two_three line u y v w x vs cut put
      ]
    ]
