-- The first statement that is too long, in a text that goes on.
use Rattle.std.proofs.Common.{◌≡◌, ℕ, ◌+◌, ◌<◌, ◌≤◌, ◌&&◌, Bool, true, false, List, [], ◌∷◌, ◌++◌, filter, length, drop, length-drop, length-append, None, Err, if◌then◌else◌, arith, refl, sym, ap, ◌∙◌, subst, inl, inr}
use Rattle.std.proofs.lemmas.Bool.{cases_Bool}
use Rattle.csa_cutting.specs.Cut.{TextUnit, Statements, IsCut, mark_length}
use Rattle.csa_cutting.specs.Cutting.{Cutting, ToCome, IsTooLong}
use Rattle.csa_cutting.specs.ClosedStatements.{is_closed}
use Rattle.csa_cutting.specs.PieceCutting.{PieceCutting, Closes, Leads, fresh}
use Rattle.csa_cutting.specs.PieceSteps.{Stepped, IsTooLongAt}
use Rattle.csa_cutting.specs.TooLong.{AreShort, FirstTooLong, HasCutOf}
use Rattle.csa_cutting.specs.declared.cutter.CutFault.{CutFault}
use Rattle.csa_cutting.proofs.Growing.{Longer, cut_grown, fits, followed}
use Rattle.csa_cutting.proofs.Joining.{pieces_whole}
use Rattle.csa_cutting.proofs.Leading.{closed_after, one_kept, nothing_left}
use Rattle.csa_cutting.proofs.Once.{statements_once}

-- the cutter has yielded these statements of its source, and none of them is too long
pub record HasCut (c : Cutting) (handed : List TextUnit) : Type 0 where
  pub onward : (others : List TextUnit) → ToCome c others → IsCut c.source (handed ++ others)
  pub counted : c.number ≡ length handed
  pub short : AreShort handed

never_both : (b : Bool) → (b && false) ≡ true → ⊥
never_both true h = cc
never_both false h = cc

mark_fits : (t : Bool) (n : ℕ) → (t ≡ true → 3 ≤ n) → (if t then 3 else 0) ≤ n
mark_fits true n h = h refl
mark_fits false n h = omega arith

second : (a b : Bool) → (a && (b && false)) ≡ true → ⊥
second true b h = never_both b h
second false b h = cc

mark_within : (source : List ℕ) → mark_length source ≤ length source
mark_within [] = omega arith
mark_within (a ∷ []) = mark_fits _ _ (λ h. absurd (never_both _ h))
mark_within (a ∷ b ∷ []) = mark_fits _ _ (λ h. absurd (second _ _ h))
mark_within (a ∷ b ∷ c ∷ source) = mark_fits _ _ (λ h. omega arith)

pub text_ends : (source : List ℕ) → length source ≡ mark_length source + length (drop (mark_length source) source)
text_ends source = omega (arith, mark_within source, length-drop (mark_length source) source)

-- the first of the closed statements is the first of all, since only the last may not be closed
head_is : (o : ℕ) (text : List ℕ) (end : ℕ) (closed all others : List TextUnit) (unit : TextUnit) → end ≡ o + length text → Statements o text (closed ++ all) → unit ∷ others ≡ filter (is_closed end) all → (rest : List TextUnit) × (all ≡ unit ∷ rest)
head_is o text end closed [] others unit e s kept = cc
head_is o text end closed (x ∷ []) others unit e s kept =
    elim (cases_Bool (is_closed end x)) [
      | inl t ↦ let same : unit ∷ others ≡ x ∷ [] = kept ∙ sym (one_kept (is_closed end) x [] t) in ([], cc)
      | inr f ↦ let none : unit ∷ others ≡ [] = rw f at kept in cc
    ]
head_is o text end closed (x ∷ y ∷ zs) others unit e s kept =
    let order : x.offset + length x.bytes < end = rw e (followed o text closed zs x y s) in
    let shut : is_closed end x ≡ true = closed_after (x.offset + length x.bytes) end (length x.bytes) order in
    let same : unit ∷ others ≡ x ∷ filter (is_closed end) (y ∷ zs) = kept ∙ sym (one_kept (is_closed end) x (y ∷ zs) shut) in
    (y ∷ zs, cc)

-- a statement that is too long is too long in each longer source
long_stays : (source piece more : List ℕ) (closed others : List TextUnit) (p : PieceCutting) (unit : TextUnit) → Leads fresh source closed p → Closes p piece (unit ∷ others) → 4096 < length unit.bytes → (all : List TextUnit) × IsCut ((source ++ piece) ++ more) all × Longer closed unit all
long_stays source piece more closed others p unit h c long =
    let w = source ++ piece in
    let m = mark_length w in
    let s : IsCut w (closed ++ c.0) = pieces_whole source piece closed c.0 p h c.1 in
    let end : p.fed + length piece ≡ m + length (drop m w) = omega (arith, h.took, length-append source piece, text_ends w) in
    let head = head_is m (drop m w) (p.fed + length piece) closed c.0 others unit end s c.2 in
    let here : IsCut w (closed ++ (unit ∷ head.0)) = subst (λ zs. IsCut w (closed ++ zs)) head.1 s in
    let size : length unit.bytes ≤ length (drop m w) = fits m (drop m w) closed head.0 unit here in
    cut_grown w more closed head.0 unit (omega (arith, size, long, text_ends w)) here

first_long : (source : List ℕ) (all handed : List TextUnit) (unit : TextUnit) (number offset : ℕ) → IsCut source all → Longer handed unit all → AreShort handed → 4096 < length unit.bytes → number ≡ length handed + 1 → offset ≡ unit.offset → FirstTooLong source number offset
first_long source all handed unit number offset cut longer short long numbered place = record {
  before = handed;
  unit = longer.long;
  others = longer.rest;
  cut = subst (IsCut source) (sym longer.whole) cut;
  short = short;
  long = omega (arith, long, longer.size);
  number_is = numbered;
  place = place ∙ sym longer.place;
}

pub too_long_whole : (source piece more : List ℕ) (handed : List TextUnit) (p new : PieceCutting) (fault : CutFault) → HasCutOf source p handed → Stepped p piece (Err fault) new → FirstTooLong ((source ++ piece) ++ more) fault.number fault.offset
too_long_whole source piece more handed p new fault h s =
    let met : IsTooLongAt None p piece fault.offset = rw h.0.going at s.place in
    let stays = long_stays source piece more handed met.1 p met.0 h.0 met.2 met.3 in
    first_long ((source ++ piece) ++ more) stays.0 handed met.0 fault.number fault.offset stays.1 stays.2 h.1 met.3 (omega (arith, s.number_is, h.0.counted)) met.4

pub not_short : (xs others : List TextUnit) (u : TextUnit) → AreShort (xs ++ (u ∷ others)) → length u.bytes ≤ 4096
not_short [] others u h = h.0
not_short (x ∷ xs) others u h = not_short xs others u h.1

same_first : (xs ys others rest : List TextUnit) (u v : TextUnit) → AreShort xs → AreShort ys → 4096 < length u.bytes → 4096 < length v.bytes → xs ++ (u ∷ others) ≡ ys ++ (v ∷ rest) → (length xs ≡ length ys) × (u ≡ v)
same_first [] [] others rest u v h k l m e = (refl, cc)
same_first [] (y ∷ ys) others rest u v h k l m e = let same : u ≡ y = cc in let short : length u.bytes ≤ 4096 = rw same k.0 in absurd (omega (arith, l, short))
same_first (x ∷ xs) [] others rest u v h k l m e = let same : v ≡ x = cc in let short : length v.bytes ≤ 4096 = rw same h.0 in absurd (omega (arith, m, short))
same_first (x ∷ xs) (y ∷ ys) others rest u v h k l m e =
    let tail : xs ++ (u ∷ others) ≡ ys ++ (v ∷ rest) = cc in
    let more = same_first xs ys others rest u v h.1 k.1 l m tail in
    (omega (arith, more.0), more.1)

pub too_long_once : (source : List ℕ) (m n i j : ℕ) → FirstTooLong source m i → FirstTooLong source n j → (m ≡ n) × (i ≡ j)
too_long_once source m n i j f g =
    let same = same_first f.before g.before f.others g.others f.unit g.unit f.short g.short f.long g.long (statements_once _ _ _ _ f.cut g.cut) in
    (omega (arith, f.number_is, g.number_is, same.0), f.place ∙ ap (λ (u : TextUnit). u.offset) same.1 ∙ sym g.place)

pub nothing_fed : HasCutOf [] fresh []
nothing_fed = (
  record {
    took = refl;
    counted = refl;
    closes = ([], nothing_left 0, refl);
    onward = λ more others s. s;
    going = refl;
  },
  tt,
)

pub nothing_cut : (c : Cutting) → c.at ≡ mark_length c.source → c.number ≡ 0 → HasCut c []
nothing_cut c at number = record { onward = λ others s. rw at at s; counted = number; short = tt }

pub cutter_refuses : (c : Cutting) (handed : List TextUnit) (number offset : ℕ) → HasCut c handed → IsTooLong c number offset → FirstTooLong c.source number offset
cutter_refuses c handed number offset h t = record {
  before = handed;
  unit = t.unit;
  others = t.others;
  cut = h.onward (t.unit ∷ t.others) t.first;
  short = h.short;
  long = t.long;
  number_is = omega (arith, t.number_is, h.counted);
  place = t.place;
}
