-- A statement that no byte after it ends extends to the end of its text.
use Rattle.std.proofs.Common.{◌≡◌, ℕ, zero, suc, ◌+◌, ◌<◌, ◌≤◌, Bool, true, false, List, [], ◌∷◌, ◌++◌, filter, length, length-append, append_assoc, replicate, arith, refl, sym, ap, ◌∙◌, inl, inr, drop, ◌&&◌, if◌then◌else◌, subst}
use Rattle.std.proofs.lemmas.Bool.{cases_Bool, cases_lt}
use Rattle.std.proofs.lemmas.List.{length-replicate}
use Rattle.csa_cutting.specs.Cut.{TextUnit, IsNext, IsUnit, Units, Statements, is_statement, is_end}
use Rattle.csa_cutting.specs.Cut.{IsCut, mark_length}
use Rattle.csa_cutting.specs.ClosedStatements.{is_closed}
use Rattle.csa_cutting.proofs.FirstLong.{text_ends}
use Rattle.csa_cutting.proofs.Growing.{filter_kept, filter_dropped, never_none, front_grown, followed, cut_grown, statements_grown, Longer}
use Rattle.csa_cutting.proofs.Leading.{closed_after}
use Rattle.csa_cutting.proofs.Passing.{statements_of}

-- where a statement is: what comes before it and after it
pub record Placed (o : ℕ) (text : List ℕ) (x : TextUnit) : Type 0 where
  pub front : List ℕ
  pub following : List ℕ
  pub whole : text ≡ front ++ (x.bytes ++ following)
  pub place : x.offset ≡ o + length front
  pub unit : IsUnit x.bytes following

placed_first : (o : ℕ) (text : List ℕ) (x : TextUnit) (following : List ℕ) → IsNext o text x following → Placed o text x
placed_first o text x following n = record { front = n.gap; following = following; whole = n.whole; place = n.place; unit = n.unit }

placed_deeper : (o : ℕ) (text : List ℕ) (w x : TextUnit) (following : List ℕ) → IsNext o text w following → Placed (w.offset + length w.bytes) following x → Placed o text x
placed_deeper o text w x following n p = record {
  front = n.gap ++ (w.bytes ++ p.front);
  following = p.following;
  whole =
      n.whole
      ∙ ap (λ b. n.gap ++ (w.bytes ++ b)) p.whole
      ∙ ap (λ b. n.gap ++ b) (sym (append_assoc w.bytes p.front (x.bytes ++ p.following)))
      ∙ sym (append_assoc n.gap (w.bytes ++ p.front) (x.bytes ++ p.following));
  place = omega (arith, p.place, n.place, length-append n.gap (w.bytes ++ p.front), length-append w.bytes p.front);
  unit = p.unit;
}

placed_here : (o : ℕ) (text : List ℕ) (w : TextUnit) (us xs ys : List TextUnit) (x : TextUnit) (cut : Units o text (w ∷ us)) → ((zs : List TextUnit) → zs ++ (x ∷ ys) ≡ filter is_statement us → Placed o text x) → xs ++ (x ∷ ys) ≡ w ∷ filter is_statement us → Placed o text x
placed_here o text w us [] ys x cut later e = let head : x ≡ w = cc in rw head (placed_first o text w cut.0 cut.1)
placed_here o text w us (z ∷ zs) ys x cut later e = let tail : zs ++ (x ∷ ys) ≡ filter is_statement us = cc in later zs tail

placed_in : (o : ℕ) (text : List ℕ) (us ys : List TextUnit) (x : TextUnit) → Units o text us → (xs : List TextUnit) → xs ++ (x ∷ ys) ≡ filter is_statement us → Placed o text x
placed_in o text [] ys x cut xs e = absurd (never_none xs ys x e)
placed_in o text (w ∷ us) ys x cut xs e =
    let later : (zs : List TextUnit) → zs ++ (x ∷ ys) ≡ filter is_statement us → Placed o text x =
    λ zs kept. placed_deeper o text w x cut.0 cut.1 (placed_in (w.offset + length w.bytes) cut.0 us ys x cut.2 zs kept) in
    elim (cases_Bool (is_statement w)) [
      | inl t ↦ placed_here o text w us xs ys x cut later (e ∙ filter_kept w us t)
      | inr f ↦ later xs (e ∙ filter_dropped w us f)
    ]

-- what follows the text is an A
last_is : (n : ℕ) (text front : List ℕ) (b : ℕ) (following : List ℕ) → text ++ replicate n 65 ≡ front ++ (b ∷ following) → length text ≤ length front → b ≡ 65
last_is n (t ∷ text) [] b following whole past = absurd (omega (arith, past))
last_is n (t ∷ text) (f ∷ front) b following whole past = let tail : text ++ replicate n 65 ≡ front ++ (b ∷ following) = cc in last_is n text front b following tail (omega (arith, past))
last_is zero [] [] b following whole past = cc
last_is zero [] (f ∷ front) b following whole past = cc
last_is (suc n) [] [] b following whole past = cc
last_is (suc n) [] (f ∷ front) b following whole past = let tail : replicate n 65 ≡ front ++ (b ∷ following) = cc in last_is n [] front b following tail (omega arith)

-- the letter A ends no unit
goes_on : (n : ℕ) (bytes front following text : List ℕ) → text ++ replicate n 65 ≡ front ++ (bytes ++ following) → length text ≤ length front + length bytes → IsUnit bytes following → length following ≡ 0
goes_on n [] front following text whole past unit = absurd unit
goes_on n (first ∷ bytes) front [] text whole past unit = refl
goes_on n (first ∷ bytes) front (b ∷ following) text whole past unit =
    let a : b ≡ 65 = last_is n text (front ++ (first ∷ bytes)) b following (whole ∙ sym (append_assoc front (first ∷ bytes) (b ∷ following))) (omega (arith, past, length-append front (first ∷ bytes))) in
    let end : is_end first b ≡ true = unit.2 in
    let no : is_end first 65 ≡ true = rw a at end in
    cc

-- of a text and so many As after it, a statement that does not end in the text takes all As
pub open_to_end : (o n : ℕ) (text : List ℕ) (xs ys : List TextUnit) (x : TextUnit) → Statements o (text ++ replicate n 65) (xs ++ (x ∷ ys)) → o + length text ≤ x.offset + length x.bytes → x.offset + length x.bytes ≡ o + length text + n
open_to_end o n text xs ys x s past =
    let p = placed_in o (text ++ replicate n 65) s.units ys x s.cut xs s.kept in
    let all : length text + n ≡ length p.front + (length x.bytes + length p.following) =
    ap (λ k. length text + k) (sym (length-replicate n 65)) ∙ sym (length-append text (replicate n 65)) ∙ ap length p.whole ∙ length-append p.front (x.bytes ++ p.following) ∙ ap (λ k. length p.front + k) (length-append x.bytes p.following) in
    let place = p.place in
    let none = goes_on n x.bytes p.front p.following text p.whole (omega (arith, past, place)) p.unit in
    omega (arith, all, none, place)

begins_within : (o : ℕ) (text : List ℕ) (xs ys : List TextUnit) (x : TextUnit) → Statements o text (xs ++ (x ∷ ys)) → x.offset ≤ o + length text
begins_within o text xs ys x s =
    let p = placed_in o text s.units ys x s.cut xs s.kept in
    let all : length text ≡ length p.front + length (x.bytes ++ p.following) = ap length p.whole ∙ length-append p.front (x.bytes ++ p.following) in
    let place = p.place in
    omega (arith, all, place)

pub cut_begins : (source : List ℕ) (xs ys : List TextUnit) (x : TextUnit) → IsCut source (xs ++ (x ∷ ys)) → x.offset ≤ length source
cut_begins source xs ys x s = let low = begins_within (mark_length source) (drop (mark_length source) source) xs ys x s in omega (arith, low, text_ends source)

-- the same for a record's bytes
pub open_in_cut : (source : List ℕ) (n : ℕ) (xs ys : List TextUnit) (x : TextUnit) → 3 ≤ length source → IsCut (source ++ replicate n 65) (xs ++ (x ∷ ys)) → length source ≤ x.offset + length x.bytes → x.offset + length x.bytes ≡ length source + n
open_in_cut [] n xs ys x size s past = absurd (omega (arith, size))
open_in_cut (a ∷ []) n xs ys x size s past = absurd (omega (arith, size))
open_in_cut (a ∷ b ∷ []) n xs ys x size s past = absurd (omega (arith, size))
open_in_cut (a ∷ b ∷ c ∷ w) n xs ys x size s past =
    let m = mark_length (a ∷ b ∷ c ∷ w) in
    let ends = text_ends (a ∷ b ∷ c ∷ w) in
    let t : Statements m (drop m (a ∷ b ∷ c ∷ w) ++ replicate n 65) (xs ++ (x ∷ ys)) = statements_of m _ _ (xs ++ (x ∷ ys)) (sym (front_grown _ a b c w (replicate n 65))) s in
    let all = open_to_end m n (drop m (a ∷ b ∷ c ∷ w)) xs ys x t (omega (arith, ends, past)) in
    omega (arith, all, ends)

-- all statements before another one are closed
fronts : (o : ℕ) (text : List ℕ) (end : ℕ) (done xs ys : List TextUnit) (u : TextUnit) → end ≡ o + length text → Statements o text (done ++ (xs ++ (u ∷ ys))) → filter (is_closed end) xs ≡ xs
fronts o text end done [] ys u e s = refl
fronts o text end done (x ∷ []) ys u e s =
    let low : x.offset + length x.bytes < end = rw e (followed o text done ys x u s) in
    let shut : is_closed end x ≡ true = closed_after (x.offset + length x.bytes) end (length x.bytes) low in
    rw shut refl
fronts o text end done (x ∷ z ∷ xs) ys u e s =
    let low : x.offset + length x.bytes < end = rw e (followed o text done (xs ++ (u ∷ ys)) x z s) in
    let shut : is_closed end x ≡ true = closed_after (x.offset + length x.bytes) end (length x.bytes) low in
    let rest = fronts o text end (done ++ x ∷ []) (z ∷ xs) ys u e (subst (Statements o text) (sym (append_assoc done (x ∷ []) ((z ∷ xs) ++ (u ∷ ys)))) s) in
    rw shut (ap (λ (l : List TextUnit). x ∷ l) rest)

pub fronts_closed : (source : List ℕ) (xs ys : List TextUnit) (u : TextUnit) → IsCut source (xs ++ (u ∷ ys)) → filter (is_closed (length source)) xs ≡ xs
fronts_closed source xs ys u s = fronts (mark_length source) (drop (mark_length source) source) (length source) [] xs ys u (text_ends source) s

-- bytes too few for a mark have none, nor have they with As after them
and_false : (b : Bool) → (b && false) ≡ false
and_false true = refl
and_false false = refl

no_mark : (b : Bool) (three none : ℕ) → b ≡ false → (if b then three else none) ≡ none
no_mark true three none e = cc
no_mark false three none e = refl

second_false : (a b : Bool) → (a && (b && false)) ≡ false
second_false true b = and_false b
second_false false b = refl

short_mark : (source : List ℕ) → length source < 3 → mark_length source ≡ 0
short_mark [] few = refl
short_mark (a ∷ []) few = no_mark _ 3 0 (and_false _)
short_mark (a ∷ b ∷ []) few = no_mark _ 3 0 (second_false _ _)
short_mark (a ∷ b ∷ c ∷ w) few = absurd (omega (arith, few))

short_mark_as : (source rest : List ℕ) → length source < 3 → mark_length (source ++ (65 ∷ rest)) ≡ 0
short_mark_as [] rest few = refl
short_mark_as (a ∷ []) rest few = no_mark _ 3 0 (and_false _)
short_mark_as (a ∷ b ∷ []) rest few = no_mark _ 3 0 (second_false _ _)
short_mark_as (a ∷ b ∷ c ∷ w) rest few = absurd (omega (arith, few))

-- so a statement is in the bytes with As after them, in its place, and is no shorter
pub as_grown : (source : List ℕ) (n : ℕ) (xs ys : List TextUnit) (u : TextUnit) → IsCut source (xs ++ (u ∷ ys)) → (all : List TextUnit) × IsCut (source ++ replicate (suc n) 65) all × Longer xs u all
as_grown source n xs ys u s =
    elim (cases_lt (length source) 3) [
      | inl few ↦
          let plain : Statements 0 source (xs ++ (u ∷ ys)) = subst (λ (m : ℕ). Statements m (drop m source) (xs ++ (u ∷ ys))) (short_mark source few) s in
          let grown = statements_grown 0 source (replicate (suc n) 65) xs ys u plain in
          (grown.0, subst (λ (m : ℕ). Statements m (drop m (source ++ replicate (suc n) 65)) grown.0) (sym (short_mark_as source (replicate n 65) few)) grown.1, grown.2)
      | inr many ↦ cut_grown source (replicate (suc n) 65) xs ys u (omega (arith, many)) s
    ]

pub open_as : (source : List ℕ) (n : ℕ) (xs ys : List TextUnit) (x : TextUnit) → IsCut (source ++ replicate (suc n) 65) (xs ++ (x ∷ ys)) → length source ≤ x.offset + length x.bytes → x.offset + length x.bytes ≡ length source + suc n
open_as source n xs ys x s past =
    elim (cases_lt (length source) 3) [
      | inl few ↦
          let plain : Statements 0 (source ++ replicate (suc n) 65) (xs ++ (x ∷ ys)) =
          subst (λ (m : ℕ). Statements m (drop m (source ++ replicate (suc n) 65)) (xs ++ (x ∷ ys))) (short_mark_as source (replicate n 65) few) s in
          let all = open_to_end 0 (suc n) source xs ys x plain (omega (arith, past)) in
          omega (arith, all)
      | inr many ↦ open_in_cut source (suc n) xs ys x (omega (arith, many)) s past
    ]
