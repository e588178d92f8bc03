-- Piles of a hand's text, one after another.
use Rattle.std.proofs.Common.{◌≡◌, ℕ, ◌+◌, ◌≤◌, ◌==◌, ◌/◌, ◌%◌, ◌*◌, Bool, true, false, List, [], ◌∷◌, ◌++◌, Option, Some, None, MatchBool, IsTrue, ◌↔◌, length, length-append, arith, refl, sym, ap, ◌∙◌, subst, inl, inr, append_assoc, codes}
use Rattle.std.specs.List.{flat_map}
use Rattle.std.proofs.lemmas.Bool.{cases_lt}
use Rattle.shogi_board.specs.declared.kind.Kind.{Kind}
use Rattle.shogi_board.specs.declared.kind.Kind.TheVariants.{Pawn, Lance, Knight, Silver, Gold, Bishop, Rook, King, ProPawn, ProLance, ProKnight, ProSilver, Horse, Dragon}
use Rattle.shogi_board.specs.declared.kind.Piece.{Piece}
use Rattle.shogi_board.specs.Pieces.{is_promoted, is_hand_kind}
use Rattle.usi_text.specs.Hands.{Pile, IsPile, IsCount, SpellsPiles, SpellsHands, count_text, pile_text}
use Rattle.usi_text.specs.Letters.{side_letter}
use Rattle.usi_text.proofs.Ranks.{no_bytes, empty_is, some_are}
use Rattle.usi_text.proofs.Spelt.{leads, Only, only_none, only_one, only_two, one_digit, two_digits, side_low, same_piece}
use Rattle.usi_text.specs.Scanning.{HasNoDigit}

letter_no_digit : (l : ℕ) (x : List ℕ) → 65 ≤ l → HasNoDigit (l ∷ x)
letter_no_digit l x low digit following h = let e : l ≡ 48 + digit = cc in let k = h.0 in omega arith

-- a count and a letter are one count and one letter
only_count : (count : Option ℕ) (l : ℕ) (x : List ℕ) → IsCount count → 65 ≤ l → Only (count_text count ++ l ∷ x) count (l ∷ x)
only_count None l x h low = only_none (l ∷ x) (letter_no_digit l x low)
only_count (Some n) l x h low =
    elim (cases_lt n 10) [
      | inl small ↦ only_one (count_text (Some n) ++ l ∷ x) (l ∷ x) n h.0 (omega arith) (ap (λ ds. ds ++ l ∷ x) (one_digit n small)) (letter_no_digit l x low)
      | inr large ↦
          let tens = n / 10 in
          let ones = n % 10 in
          let r = only_two (count_text (Some n) ++ l ∷ x) ((48 + ones) ∷ l ∷ x) (l ∷ x) tens ones (omega arith) (omega arith) (omega arith) (ap (λ ds. ds ++ l ∷ x) (two_digits n large h.1)) refl in
          let e : tens * 10 + ones ≡ n = omega arith in
          subst (λ m. Only (count_text (Some n) ++ l ∷ x) (Some m) (l ∷ x)) e r
    ]

held_plain : (k : Kind) → is_hand_kind k ≡ true → is_promoted k ≡ false
held_plain Pawn h = refl
held_plain Lance h = refl
held_plain Knight h = refl
held_plain Silver h = refl
held_plain Gold h = refl
held_plain Bishop h = refl
held_plain Rook h = refl
held_plain King h = refl
held_plain ProPawn h = cc
held_plain ProLance h = cc
held_plain ProKnight h = cc
held_plain ProSilver h = cc
held_plain Horse h = cc
held_plain Dragon h = cc

abbrev pile : Option ℕ → Piece → Pile
pile count piece = record { count = count; piece = piece }

regroup : (p : Pile) (x : List ℕ) → pile_text p ++ x ≡ count_text p.count ++ side_letter p.piece ∷ x
regroup p x = append_assoc (count_text p.count) (side_letter p.piece ∷ []) x

-- no pile is the front of another
pub pile_once : (p q : Pile) (x y : List ℕ) → IsPile p → IsPile q → pile_text p ++ x ≡ pile_text q ++ y → (p ≡ q) × (x ≡ y)
pile_once p q x y h k e =
    let f : count_text p.count ++ side_letter p.piece ∷ x ≡ count_text q.count ++ side_letter q.piece ∷ y = sym (regroup p x) ∙ (e ∙ regroup q y) in
    let s = only_count p.count (side_letter p.piece) x h.0 (side_low p.piece) q.count (side_letter q.piece) y k.0 (omega (arith, side_low q.piece)) f in
    let l : side_letter p.piece ≡ side_letter q.piece = let g = s.1 in cc in
    let z : x ≡ y = let g = s.1 in cc in
    let same : p.piece ≡ q.piece = same_piece p.piece q.piece l (held_plain p.piece.kind h.1 ∙ sym (held_plain q.piece.kind k.1)) in
    (ap (λ c. pile c p.piece) (sym s.0) ∙ ap (λ r. pile q.count r) same, z)

pub pile_none : (p : Pile) (x : List ℕ) → length (pile_text p ++ x) ≡ 0 → ⊥
pile_none p x h =
    let l = ap length (regroup p x) in omega (arith, h, l, length-append (count_text p.count) (side_letter p.piece ∷ x))

pub pile_some : (p : Pile) (x : List ℕ) → [] ≡ pile_text p ++ x → ⊥
pile_some p x e =
    let l = ap length (e ∙ regroup p x) in omega (arith, l, length-append (count_text p.count) (side_letter p.piece ∷ x))

dash_no_count : (count : Option ℕ) (l : ℕ) (x : List ℕ) → IsCount count → 65 ≤ l → 45 ∷ [] ≡ count_text count ++ l ∷ x → ⊥
dash_no_count None l x h low e = let f : 45 ≡ l = cc in omega arith
dash_no_count (Some n) l x h low e =
    let k = leads n (45 ∷ []) (l ∷ x) h.0 h.1 e in
    let w = k.whole in
    let f : 45 ≡ 48 + k.digit = cc in
    omega arith

pub dash_no_pile : (p : Pile) (x : List ℕ) → IsCount p.count → 45 ∷ [] ≡ pile_text p ++ x → ⊥
dash_no_pile p x h e = dash_no_count p.count (side_letter p.piece) x h (side_low p.piece) (e ∙ regroup p x)

pub pile_before : (p : Pile) (following : List ℕ) (piles : List Pile) → IsPile p → SpellsPiles following piles → SpellsPiles (pile_text p ++ following) (p ∷ piles)
pile_before p following piles h s = ((h, s.0), ap (λ t. pile_text p ++ t) s.1)

pub record First (p : Pile) (following : List ℕ) (piles : List Pile) : Type 0 where
  pub others : List Pile
  pub spelt : SpellsPiles following others
  pub whole : piles ≡ p ∷ others

pub pile_first : (p : Pile) (following : List ℕ) (piles : List Pile) → IsPile p → SpellsPiles (pile_text p ++ following) piles → First p following piles
pile_first p following [] h s = absurd (pile_some p following (sym s.1))
pile_first p following (q ∷ qs) h s =
    let e = pile_once p q following (flat_map pile_text qs) h s.0.0 s.1 in
    record { others = qs; spelt = (s.0.1, e.1); whole = ap (λ r. r ∷ qs) (sym e.0) }

pub no_pile : (rest : List ℕ) (piles : List Pile) → ((p : Pile) (following : List ℕ) → IsPile p → rest ≡ pile_text p ++ following → ⊥) → SpellsPiles rest piles → (piles ≡ []) × (rest ≡ [])
no_pile rest [] none s = (refl, s.1)
no_pile rest (q ∷ qs) none s = absurd (none q (flat_map pile_text qs) s.0.0 s.1)

-- the text is read up to a rest
pub record Reads (text rest : List ℕ) : Type 0 where
  pub forward : (more : List Pile) → SpellsPiles rest more → (piles : List Pile) × SpellsPiles text piles
  pub backward : (piles : List Pile) → SpellsPiles text piles → (more : List Pile) × SpellsPiles rest more

pub reads_start : (text : List ℕ) → Reads text text
reads_start text = record { forward = λ more s. (more, s); backward = λ piles s. (piles, s) }

pub reads_more : (text rest following : List ℕ) (p : Pile) → Reads text rest → IsPile p → rest ≡ pile_text p ++ following → Reads text following
reads_more text rest following p r h e = record {
  forward = λ more s. r.forward (p ∷ more) (rw e (pile_before p following more h s));
  backward = λ piles s.
      let q = r.backward piles s in
      let f = pile_first p following q.0 h (rw e at q.1) in
      (f.others, f.spelt);
}

abbrev pub Answer : Bool → List ℕ → Type 0
Answer b text = MatchBool b ((piles : List Pile) × SpellsHands text piles) ((piles : List Pile) → SpellsHands text piles → ⊥)

spelt_some : (text : List ℕ) (piles : List Pile) → (text ≡ [] → ⊥) → SpellsPiles text piles → (piles : List Pile) × SpellsHands text piles
spelt_some text [] some s = absurd (some s.1)
spelt_some text (p ∷ ps) some s = (p ∷ ps, s)

pub answer_empty : (text : List ℕ) → text ≡ [] → (piles : List Pile) → SpellsHands text piles → ⊥
answer_empty text none [] s = let e : [] ≡ codes "-" = sym none ∙ s in cc
answer_empty text none (p ∷ ps) s = pile_some p (flat_map pile_text ps) (sym none ∙ s.1)

rest_some : (text rest : List ℕ) → Reads text rest → (text ≡ codes "-" → ⊥) → ((p : Pile) (following : List ℕ) → IsPile p → rest ≡ pile_text p ++ following → ⊥) → (rest ≡ [] → ⊥) → (piles : List Pile) → SpellsHands text piles → ⊥
rest_some text rest r dash none some [] s = dash s
rest_some text rest r dash none some (p ∷ ps) s =
    let q = r.backward (p ∷ ps) s in
    some (no_pile rest q.0 none q.1).1

stated : (b : Bool) (text rest : List ℕ) → Reads text rest → (text ≡ codes "-" → ⊥) → (text ≡ [] → ⊥) → ((p : Pile) (following : List ℕ) → IsPile p → rest ≡ pile_text p ++ following → ⊥) → (b ≡ true → rest ≡ []) → (b ≡ false → rest ≡ [] → ⊥) → Answer b text
stated true text rest r dash some none empty _ = let s = r.forward [] (tt, empty refl) in spelt_some text s.0 some s.1
stated false text rest r dash some none _ not_empty = rest_some text rest r dash none (not_empty refl)

pub answer : (b : Bool) (text rest : List ℕ) → Reads text rest → (text ≡ codes "-" → ⊥) → (text ≡ [] → ⊥) → ((p : Pile) (following : List ℕ) → IsPile p → rest ≡ pile_text p ++ following → ⊥) → b ≡ (length rest == 0) → Answer b text
answer b text rest r dash some none e =
    stated b text rest r dash some none (λ t. no_bytes rest (empty_is b (length rest) e t)) (λ f. some_are b rest e f)

pub not_so : {P : Type 0} (b : Bool) → IsTrue b ↔ P → b ≡ false → P → ⊥
not_so b h f p = let t = h.1 p in cc

pub is_so : {P : Type 0} (b : Bool) → IsTrue b ↔ P → b ≡ true → P
is_so b h t = h.0 t
