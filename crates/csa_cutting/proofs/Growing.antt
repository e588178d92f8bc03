-- A text that goes on: of its units only the last may grow.
use Rattle.std.proofs.Common.{◌≡◌, ℕ, ◌+◌, ◌<◌, ◌≤◌, ◌⊎◌, Bool, true, false, not, List, [], ◌∷◌, ◌++◌, filter, length, take, drop, length-append, append_assoc, append-nil, if◌then◌else◌, arith, refl, sym, ap, ◌∙◌, inl, inr}
use Rattle.std.proofs.lemmas.Bool.{cases_Bool}
use Rattle.std.proofs.lemmas.List.{take-append-drop}
use Rattle.std.specs.List.{position_or_len}
use Rattle.csa_cutting.specs.Cut.{TextUnit, IsNext, IsUnit, EndsBefore, Units, Statements, IsCut, is_statement, is_end, mark_length}
use Rattle.csa_cutting.proofs.Finding.{rest_unit, first_of_held, begins_still, unit_some}
use Rattle.csa_cutting.proofs.Passing.{unit_before, statements_of}
use Rattle.csa_cutting.proofs.Runs.{found}

-- the units of a longer text: the same, but the last may be longer, and more may follow it
abbrev pub Grown : List TextUnit → List TextUnit → Type 0
Grown [] vs = Unit {0}
Grown (u ∷ us) [] = ⊥
Grown (u ∷ us) (v ∷ vs) =
    (v.offset ≡ u.offset) × (is_statement v ≡ is_statement u) × (length u.bytes ≤ length v.bytes) × ((us ≡ []) ⊎ ((v ≡ u) × Grown us vs))

ends_longer : (first : ℕ) (following more : List ℕ) → 0 < length following → EndsBefore first following → EndsBefore first (following ++ more)
ends_longer first [] more some e = absurd (omega arith)
ends_longer first (b ∷ bs) more some e = e

next_longer : (o : ℕ) (text more : List ℕ) (u : TextUnit) (following : List ℕ) → 0 < length following → IsNext o text u following → IsNext o (text ++ more) u (following ++ more)
next_longer o text more u following some n = record {
  gap = n.gap;
  whole = ap (λ xs. xs ++ more) n.whole ∙ append_assoc n.gap (u.bytes ++ following) more ∙ ap (λ xs. n.gap ++ xs) (append_assoc u.bytes following more);
  separators = n.separators;
  place = n.place;
  unit = unit_before u.bytes following (following ++ more) n.unit (λ first e. ends_longer first following more some e);
}

grown_unit : (unit more : List ℕ) → IsUnit unit [] → (n : ℕ) × IsUnit (unit ++ take n more) (drop n more)
grown_unit [] more h = absurd h
grown_unit (first ∷ body) more h =
    let n = position_or_len (is_end first) more in
    (n, rest_unit (first ∷ body) more first n h (first_of_held (first ∷ body) (omega arith)) refl)

-- where a unit ends, and how much follows it
pub unit_size : (o : ℕ) (text : List ℕ) (u : TextUnit) (following : List ℕ) → IsNext o text u following → (u.offset + length u.bytes + length following ≡ o + length text) × (length following < length text) × (length u.bytes ≤ length text)
unit_size o text u following n =
    let whole : length text ≡ length n.gap + (length u.bytes + length following) =
    ap length n.whole ∙ length-append n.gap (u.bytes ++ following) ∙ ap (λ k. length n.gap + k) (length-append u.bytes following) in
    let some = unit_some u.bytes following n.unit in
    (omega (arith, whole, n.place), omega (arith, whole, some), omega (arith, whole))

grow_last : (o : ℕ) (text more : List ℕ) (u : TextUnit) (following : List ℕ) → IsNext o text u following → (vs : List TextUnit) × Units o (text ++ more) vs × Grown (u ∷ []) vs
grow_last o text more u [] n =
    let g = grown_unit u.bytes more n.unit in
    let v : TextUnit = record { offset = u.offset; bytes = u.bytes ++ take g.0 more } in
    let rest = found (v.offset + length v.bytes) (drop g.0 more) in
    let back : (u.bytes ++ []) ++ more ≡ v.bytes ++ drop g.0 more =
    ap (λ xs. xs ++ more) (append-nil u.bytes) ∙ ap (λ xs. u.bytes ++ xs) (sym (take-append-drop g.0 more)) ∙ sym (append_assoc u.bytes (take g.0 more) (drop g.0 more)) in
    let next : IsNext o (text ++ more) v (drop g.0 more) = record {
      gap = n.gap;
      whole = ap (λ xs. xs ++ more) n.whole ∙ append_assoc n.gap (u.bytes ++ []) more ∙ ap (λ xs. n.gap ++ xs) back;
      separators = n.separators;
      place = n.place;
      unit = g.1;
    } in (
      v ∷ rest.1.units,
      (drop g.0 more, next, rest.1.cut),
      (
        refl,
        ap not (begins_still 39 u.bytes (take g.0 more) (unit_some u.bytes [] n.unit)),
        omega (arith, length-append u.bytes (take g.0 more)),
        inl refl,
      ),
    )
grow_last o text more u (b ∷ bs) n =
    let following = b ∷ bs in
    let rest = found (u.offset + length u.bytes) (following ++ more) in
    (u ∷ rest.1.units, (following ++ more, next_longer o text more u following (omega arith) n, rest.1.cut), (refl, refl, omega arith, inl refl))

some_units : (o : ℕ) (text : List ℕ) (u : TextUnit) (us : List TextUnit) → Units o text (u ∷ us) → 0 < length text
some_units o text u us cut = omega (arith, (unit_size o text u cut.0 cut.1).1)

grow : (o : ℕ) (text more : List ℕ) (us : List TextUnit) → Units o text us → (vs : List TextUnit) × Units o (text ++ more) vs × Grown us vs
grow o text more [] cut = let s = found o (text ++ more) in (s.1.units, s.1.cut, tt)
grow o text more (u ∷ []) cut = grow_last o text more u cut.0 cut.1
grow o text more (u ∷ v ∷ us) cut =
    let following = cut.0 in
    let some = some_units (u.offset + length u.bytes) following v us cut.2 in
    let rest = grow (u.offset + length u.bytes) following more (v ∷ us) cut.2 in
    (u ∷ rest.0, (following ++ more, next_longer o text more u following some cut.1, rest.1), (refl, refl, omega arith, inr (refl, rest.2)))

pub never_none : {A : Type 0} (xs ys : List A) (x : A) → xs ++ (x ∷ ys) ≡ [] → ⊥
never_none [] ys x e = cc
never_none (z ∷ zs) ys x e = cc

pub filter_kept : (u : TextUnit) (us : List TextUnit) → is_statement u ≡ true → filter is_statement (u ∷ us) ≡ u ∷ filter is_statement us
filter_kept u us h = rw h refl

pub filter_dropped : (u : TextUnit) (us : List TextUnit) → is_statement u ≡ false → filter is_statement (u ∷ us) ≡ filter is_statement us
filter_dropped u us h = rw h refl

-- the statement of a longer text in the place of this one
pub record Longer (xs : List TextUnit) (u : TextUnit) (all : List TextUnit) : Type 0 where
  pub long : TextUnit
  pub rest : List TextUnit
  pub whole : xs ++ (long ∷ rest) ≡ all
  pub place : long.offset ≡ u.offset
  pub size : length u.bytes ≤ length long.bytes

-- the same for each front of the statements
abbrev Later : List TextUnit → List TextUnit → TextUnit → List TextUnit → Type 0
Later us vs u ys = (xs : List TextUnit) → Grown us vs → xs ++ (u ∷ ys) ≡ filter is_statement us → Longer xs u (filter is_statement vs)

grown_tail : (w v : TextUnit) (us vs xs ys : List TextUnit) (u : TextUnit) → Later us vs u ys → (us ≡ []) ⊎ ((v ≡ w) × Grown us vs) → xs ++ (u ∷ ys) ≡ filter is_statement us → (v ≡ w) × Longer xs u (filter is_statement vs)
grown_tail w v us vs xs ys u later (inl none) e = absurd (never_none xs ys u (e ∙ ap (filter is_statement) none))
grown_tail w v us vs xs ys u later (inr more) e = (more.0, later xs more.1 e)

grown_first : (w v : TextUnit) (us vs xs ys : List TextUnit) (u : TextUnit) → Later us vs u ys → Grown (w ∷ us) (v ∷ vs) → is_statement w ≡ true → xs ++ (u ∷ ys) ≡ w ∷ filter is_statement us → Longer xs u (filter is_statement (v ∷ vs))
grown_first w v us vs [] ys u later g t e =
    let same : u ≡ w = cc in
    record {
      long = v;
      rest = filter is_statement vs;
      whole = sym (filter_kept v vs (g.1 ∙ t));
      place = g.0 ∙ ap (λ (x : TextUnit). x.offset) (sym same);
      size = rw same g.2;
    }
grown_first w v us vs (x ∷ xs) ys u later g t e =
    let head : x ≡ w = cc in
    let tail : xs ++ (u ∷ ys) ≡ filter is_statement us = cc in
    let found = grown_tail w v us vs xs ys u later g.3 tail in
    let rest = found.1 in
    record {
      long = rest.long;
      rest = rest.rest;
      whole = ap (λ (y : TextUnit). y ∷ (xs ++ (rest.long ∷ rest.rest))) (head ∙ sym found.0) ∙ ap (λ (zs : List TextUnit). v ∷ zs) rest.whole ∙ sym (filter_kept v vs (g.1 ∙ t));
      place = rest.place;
      size = rest.size;
    }

kept_grown : (us vs ys : List TextUnit) (u : TextUnit) → Later us vs u ys
kept_grown [] vs ys u xs g e = absurd (never_none xs ys u e)
kept_grown (w ∷ us) [] ys u xs g e = absurd g
kept_grown (w ∷ us) (v ∷ vs) ys u xs g e =
    elim (cases_Bool (is_statement w)) [
      | inl t ↦ grown_first w v us vs xs ys u (kept_grown us vs ys u) g t (e ∙ filter_kept w us t)
      | inr f ↦
          let rest = (grown_tail w v us vs xs ys u (kept_grown us vs ys u) g.3 (e ∙ filter_dropped w us f)).1 in
          record {
            long = rest.long;
            rest = rest.rest;
            whole = rest.whole ∙ sym (filter_dropped v vs (g.1 ∙ f));
            place = rest.place;
            size = rest.size;
          }
    ]

pub statements_grown : (o : ℕ) (text more : List ℕ) (xs ys : List TextUnit) (u : TextUnit) → Statements o text (xs ++ (u ∷ ys)) → (all : List TextUnit) × Statements o (text ++ more) all × Longer xs u all
statements_grown o text more xs ys u s =
    let g = grow o text more s.units s.cut in
    (filter is_statement g.0, record { units = g.0; cut = g.1; kept = refl }, kept_grown s.units g.0 ys u xs g.2 s.kept)

pub front_grown : (mark : Bool) (a b c : ℕ) (w more : List ℕ) → drop (if mark then 3 else 0) (a ∷ b ∷ c ∷ w) ++ more ≡ drop (if mark then 3 else 0) (a ∷ b ∷ c ∷ (w ++ more))
front_grown true a b c w more = refl
front_grown false a b c w more = refl

-- a statement of so many bytes that no mark can still come is in each longer text, in its place,
-- and is no shorter
pub cut_grown : (source more : List ℕ) (xs ys : List TextUnit) (u : TextUnit) → 3 ≤ length source → IsCut source (xs ++ (u ∷ ys)) → (all : List TextUnit) × IsCut (source ++ more) all × Longer xs u all
cut_grown [] more xs ys u size s = absurd (omega arith)
cut_grown (a ∷ []) more xs ys u size s = absurd (omega arith)
cut_grown (a ∷ b ∷ []) more xs ys u size s = absurd (omega arith)
cut_grown (a ∷ b ∷ c ∷ w) more xs ys u size s =
    let m = mark_length (a ∷ b ∷ c ∷ w) in
    let grown = statements_grown m (drop m (a ∷ b ∷ c ∷ w)) more xs ys u s in
    (grown.0, statements_of m _ _ grown.0 (front_grown _ a b c w more) grown.1, grown.2)

-- where a statement is in its text
record Standing (o : ℕ) (text : List ℕ) (x : TextUnit) (ys : List TextUnit) : Type 0 where
  following : List ℕ
  later : Statements (x.offset + length x.bytes) following ys
  size : x.offset + length x.bytes + length following ≡ o + length text
  within : length x.bytes ≤ length text

standing_first : (o : ℕ) (text : List ℕ) (w : TextUnit) (us ys : List TextUnit) (x : TextUnit) → Units o text (w ∷ us) → x ≡ w → ys ≡ filter is_statement us → Standing o text x ys
standing_first o text w us ys x cut same kept =
    let size = unit_size o text w cut.0 cut.1 in
    rw same (record { following = cut.0; later = record { units = us; cut = cut.2; kept = kept }; size = size.0; within = size.2 })

deeper : (o : ℕ) (text : List ℕ) (w : TextUnit) (us ys : List TextUnit) (x : TextUnit) (cut : Units o text (w ∷ us)) → Standing (w.offset + length w.bytes) cut.0 x ys → Standing o text x ys
deeper o text w us ys x cut s =
    let size = unit_size o text w cut.0 cut.1 in
    record { following = s.following; later = s.later; size = s.size ∙ size.0; within = omega (arith, s.within, size.1) }

stands_later : (o : ℕ) (text : List ℕ) (w : TextUnit) (us xs ys : List TextUnit) (x : TextUnit) (cut : Units o text (w ∷ us)) → ((zs : List TextUnit) → zs ++ (x ∷ ys) ≡ filter is_statement us → Standing (w.offset + length w.bytes) cut.0 x ys) → xs ++ (x ∷ ys) ≡ w ∷ filter is_statement us → Standing o text x ys
stands_later o text w us [] ys x cut later e =
    let head : x ≡ w = cc in
    let tail : ys ≡ filter is_statement us = cc in
    standing_first o text w us ys x cut head tail
stands_later o text w us (z ∷ zs) ys x cut later e =
    let tail : zs ++ (x ∷ ys) ≡ filter is_statement us = cc in
    deeper o text w us ys x cut (later zs tail)

stands : (o : ℕ) (text : List ℕ) (us ys : List TextUnit) (x : TextUnit) → Units o text us → (xs : List TextUnit) → xs ++ (x ∷ ys) ≡ filter is_statement us → Standing o text x ys
stands o text [] ys x cut xs e = absurd (never_none xs ys x e)
stands o text (w ∷ us) ys x cut xs e =
    let later : (zs : List TextUnit) → zs ++ (x ∷ ys) ≡ filter is_statement us → Standing (w.offset + length w.bytes) cut.0 x ys =
    stands (w.offset + length w.bytes) cut.0 us ys x cut.2 in
    elim (cases_Bool (is_statement w)) [
      | inl t ↦ stands_later o text w us xs ys x cut later (e ∙ filter_kept w us t)
      | inr f ↦ deeper o text w us ys x cut (later xs (e ∙ filter_dropped w us f))
    ]

pub fits : (o : ℕ) (text : List ℕ) (xs ys : List TextUnit) (x : TextUnit) → Statements o text (xs ++ (x ∷ ys)) → length x.bytes ≤ length text
fits o text xs ys x s = let p = stands o text s.units ys x s.cut xs s.kept in p.within

some_after : (o : ℕ) (text : List ℕ) (us : List TextUnit) (y : TextUnit) (zs : List TextUnit) → Units o text us → y ∷ zs ≡ filter is_statement us → 0 < length text
some_after o text [] y zs cut e = cc
some_after o text (u ∷ us) y zs cut e = some_units o text u us cut

-- something follows each statement but the last
pub followed : (o : ℕ) (text : List ℕ) (xs zs : List TextUnit) (x y : TextUnit) → Statements o text (xs ++ (x ∷ y ∷ zs)) → x.offset + length x.bytes < o + length text
followed o text xs zs x y s =
    let p = stands o text s.units (y ∷ zs) x s.cut xs s.kept in
    let later = p.later in
    let some = some_after (x.offset + length x.bytes) p.following later.units y zs later.cut later.kept in
    omega (arith, p.size, some)
