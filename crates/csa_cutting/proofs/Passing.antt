-- Gaps and comments in a piece.
use Rattle.std.proofs.Common.{◌≡◌, ◌≢◌, eq-eqb, ℕ, zero, suc, ◌+◌, ◌-◌, ◌<◌, ◌≤◌, true, false, not, List, [], ◌∷◌, ◌++◌, filter, length, take, drop, get_or, slice_range, length-drop, length-append, append_assoc, append-nil, arith, refl, sym, ap, ◌∙◌, subst}
use Rattle.std.proofs.lemmas.Bool.{ne_eqb, eqb-true}
use Rattle.std.proofs.lemmas.List.{drop-drop, drop_all, take_all}
use Rattle.std.proofs.Math.Seq.{drop-cons, take-append_seam, take-add}
use Rattle.std.specs.List.{AllByRecursion}
use Rattle.csa_cutting.specs.Cut.{TextUnit, IsNext, IsGap, IsUnit, EndsBefore, Units, Statements, is_statement, is_separator, is_end, begins_with}
use Rattle.csa_cutting.specs.Cutting.{unit_between}
use Rattle.csa_cutting.specs.PieceCutting.{Follows}
use Rattle.csa_cutting.specs.Places.{Passes, PassesTo, IsPart, begins, open_of}
use Rattle.csa_cutting.specs.declared.units.Origin.TheVariants.{ThisPiece}
use Rattle.csa_cutting.specs.declared.units.Place.{Place}
use Rattle.csa_cutting.proofs.Fronts.{first_between, length_between}
use Rattle.csa_cutting.proofs.LineCutting.{all_joined}
use Rattle.csa_cutting.proofs.Runs.{comment_first}

pub statements_at : (o p : ℕ) (text : List ℕ) (others : List TextUnit) → o ≡ p → Statements o text others → Statements p text others
statements_at o p text others e s = subst (λ n. Statements n text others) e s

pub statements_of : (o : ℕ) (text other : List ℕ) (others : List TextUnit) → text ≡ other → Statements o text others → Statements o other others
statements_of o text other others e s = subst (λ t. Statements o t others) e s

units_after_gap : (o : ℕ) (gap text : List ℕ) (units : List TextUnit) → IsGap gap → Units (o + length gap) text units → Units o (gap ++ text) units
units_after_gap o gap text [] h cut = all_joined (λ b. is_separator b ≡ true) gap text h cut
units_after_gap o gap text (u ∷ us) h cut =
    let n = cut.1 in (
      cut.0,
      record {
        gap = gap ++ n.gap;
        whole = ap (λ xs. gap ++ xs) n.whole ∙ sym (append_assoc gap n.gap (u.bytes ++ cut.0));
        separators = all_joined (λ b. is_separator b ≡ true) gap n.gap h n.separators;
        place = omega (arith, n.place, length-append gap n.gap);
        unit = n.unit;
      },
      cut.2,
    )

-- a gap before the text changes nothing
pub after_gap : (o : ℕ) (gap text : List ℕ) (others : List TextUnit) → IsGap gap → Statements (o + length gap) text others → Statements o (gap ++ text) others
after_gap o gap text others h s = record { units = s.units; cut = units_after_gap o gap text s.units h s.cut; kept = s.kept }

pub unit_at : (o : ℕ) (bytes following : List ℕ) → IsUnit bytes following → IsNext o (bytes ++ following) (record { offset = o; bytes = bytes }) following
unit_at o bytes following h = record { gap = []; whole = refl; separators = tt; place = omega arith; unit = h }

-- the same unit before another text that begins alike
pub unit_before : (bytes following other : List ℕ) → IsUnit bytes following → ((first : ℕ) → EndsBefore first following → EndsBefore first other) → IsUnit bytes other
unit_before [] following other h same = absurd h
unit_before (first ∷ bytes) following other h same = (h.0, h.1, same first h.2)

-- a comment before what ends it changes nothing
pub after_comment : (o : ℕ) (bytes following : List ℕ) (others : List TextUnit) → IsUnit bytes following → begins_with 39 bytes ≡ true → Statements (o + length bytes) following others → Statements o (bytes ++ following) others
after_comment o bytes following others h c s =
    comment_first o (bytes ++ following) (record { offset = o; bytes = bytes }) following others (unit_at o bytes following h) (ap not c) s

no_separator : IsGap (39 ∷ []) → ⊥
no_separator h = let e = h.0 in cc

quoted : (gap unit following more : List ℕ) → IsGap gap → 39 ∷ more ≡ gap ++ (unit ++ following) → gap ≡ []
quoted [] unit following more h e = refl
quoted (g ∷ gap) unit following more h e =
    let same : g ≡ 39 = cc in
    let t : is_separator g ≡ true = h.0 in
    let s : is_separator 39 ≡ true = rw same at t in
    absurd (no_separator (s, tt))

longer_unit : (body rest following : List ℕ) → AllByRecursion (λ b. is_end 39 b ≡ false) body → AllByRecursion (λ b. is_end 39 b ≡ false) rest → EndsBefore 39 following → IsUnit (39 ∷ (body ++ rest)) following
longer_unit body rest following h k e = (refl, all_joined (λ b. is_end 39 b ≡ false) body rest h k, e)

kept_rest : (u : TextUnit) (us others : List TextUnit) → is_statement u ≡ false → others ≡ filter is_statement (u ∷ us) → others ≡ filter is_statement us
kept_rest u us others silent same = rw silent at same

comment_unit : (o at : ℕ) (body more bytes following : List ℕ) (us others : List TextUnit) → AllByRecursion (λ b. is_end 39 b ≡ false) body → 39 ∷ more ≡ bytes ++ following → IsUnit bytes following → at ≡ o + length body → Units (at + length bytes) following us → others ≡ filter is_statement us → Statements o (39 ∷ (body ++ more)) others
comment_unit o at body more [] following us others solid same h place cut kept = absurd h
comment_unit o at body more (b ∷ rest) following us others solid same h place cut kept =
    let first : b ≡ 39 = cc in
    let tail : more ≡ rest ++ following = cc in
    let here : IsUnit (39 ∷ rest) following = rw first at h in
    let whole : (39 ∷ (body ++ rest)) ++ following ≡ 39 ∷ (body ++ more) =
    ap (λ xs. 39 ∷ xs) (append_assoc body rest following ∙ ap (λ xs. body ++ xs) (sym tail)) in
    let end : at + length (b ∷ rest) ≡ o + length (39 ∷ (body ++ rest)) = omega (arith, length-append body rest) in
    let later : Statements (o + length (39 ∷ (body ++ rest))) following others =
    record { units = us; cut = subst (λ n. Units n following us) end cut; kept = kept } in
    statements_of o _ _ others whole
    (after_comment o (39 ∷ (body ++ rest)) following others (longer_unit body rest following solid here.1 here.2) refl later)

begins_same : (bytes following more : List ℕ) → 39 ∷ more ≡ bytes ++ following → IsUnit bytes following → begins_with 39 bytes ≡ true
begins_same [] following more same h = absurd h
begins_same (b ∷ bytes) following more same h = let first : b ≡ 39 = cc in rw first refl

comment_units : (o : ℕ) (body more : List ℕ) (units others : List TextUnit) → AllByRecursion (λ b. is_end 39 b ≡ false) body → Units (o + length body) (39 ∷ more) units → others ≡ filter is_statement units → Statements o (39 ∷ (body ++ more)) others
comment_units o body more [] others solid cut kept = absurd (no_separator (cut.0, tt))
comment_units o body more (u ∷ us) others solid cut kept =
    let n = cut.1 in
    let none : n.gap ≡ [] = quoted n.gap u.bytes cut.0 more n.separators n.whole in
    let whole : 39 ∷ more ≡ u.bytes ++ cut.0 = n.whole ∙ ap (λ g. g ++ (u.bytes ++ cut.0)) none in
    let silent : is_statement u ≡ false = ap not (begins_same u.bytes cut.0 more whole n.unit) in
    comment_unit o u.offset body more u.bytes cut.0 us others solid whole n.unit (omega (arith, n.place, ap length none)) cut.2 (kept_rest u us others silent kept)

-- of a comment that has begun, only the first byte matters
pub after_open_comment : (o : ℕ) (bytes more : List ℕ) (others : List TextUnit) → IsUnit bytes [] → begins_with 39 bytes ≡ true → Statements (o + length bytes - 1) (39 ∷ more) others → Statements o (bytes ++ more) others
after_open_comment o [] more others h c s = absurd h
after_open_comment o (b ∷ body) more others h c s =
    let first : b ≡ 39 = eqb-true b 39 c in
    let here : IsUnit (39 ∷ body) [] = rw first at h in
    let place : o + length (b ∷ body) - 1 ≡ o + length body = omega arith in
    let cut : Units (o + length body) (39 ∷ more) s.units = subst (λ n. Units n (39 ∷ more) s.units) place s.cut in
    rw first (comment_units o body more s.units others here.1 cut s.kept)

-- a part of the piece in two
pub split_range : (piece : List ℕ) (a b c : ℕ) → a ≤ b → b ≤ c → slice_range piece a c ≡ slice_range piece a b ++ slice_range piece b c
split_range piece a b c p q =
    let count : c - a ≡ b - a + (c - b) = omega arith in
    let place : a + (b - a) ≡ b = omega arith in
    ap (λ n. take n (drop a piece)) count ∙ take-add (b - a) (c - b) (drop a piece)
    ∙ ap (λ xs. slice_range piece a b ++ take (c - b) xs) (drop-drop (b - a) a piece ∙ ap (λ n. drop n piece) place)

pub range_size : (piece : List ℕ) (a b c : ℕ) → a ≤ b → b ≤ c → length (slice_range piece a c) ≡ length (slice_range piece a b) + length (slice_range piece b c)
range_size piece a b c p q = ap length (split_range piece a b c p q) ∙ length-append (slice_range piece a b) (slice_range piece b c)

-- up to the end of the piece
pub range_end : (piece : List ℕ) (a b : ℕ) → length piece ≤ b → slice_range piece a b ≡ drop a piece
range_end piece a b all = take_all (b - a) (drop a piece) (omega (arith, length-drop a piece))

-- the gap before the next unit lies between places
pub gap_between : (piece : List ℕ) (at start end : ℕ) → start < end → end ≤ length piece → IsNext at (drop at piece) (unit_between piece start end) (drop end piece) → (at ≤ start) × IsGap (slice_range piece at start)
gap_between piece at start end some more n =
    let order : at ≤ start = omega (arith, n.place) in
    let size : length n.gap ≡ start - at = omega (arith, n.place) in
    let same : slice_range piece at start ≡ n.gap =
    ap (take (start - at)) n.whole ∙ ap (λ k. take k (n.gap ++ (slice_range piece start end ++ drop end piece))) (sym size) ∙ take-append_seam n.gap (slice_range piece start end ++ drop end piece) in
    (order, subst IsGap (sym same) n.separators)

pub next_byte : (piece : List ℕ) (at : ℕ) → at < length piece → slice_range piece at (at + 1) ≡ get_or piece at 0 ∷ []
next_byte piece at some =
    let count : at + 1 - at ≡ suc zero = omega arith in
    ap (λ n. take n (drop at piece)) count ∙ ap (take (suc zero)) (drop-cons piece at 0 some)

-- what ends a unit is in the next byte
pub ends_with_next : (piece : List ℕ) (end first : ℕ) (more : List ℕ) → end < length piece → EndsBefore first (drop end piece) → EndsBefore first (slice_range piece end (end + 1) ++ more)
ends_with_next piece end first more some h =
    let e : is_end first (get_or piece end 0) ≡ true = subst (EndsBefore first) (drop-cons piece end 0 some) h in
    rw (next_byte piece end some) e

-- with more bytes
longer : (place : Place) (held front unfinished next : List ℕ) → Passes place held front unfinished → Passes place held (front ++ next) (unfinished ++ next)
longer place held front unfinished next p fed more others few s =
    let same : fed + length (front ++ next) - length (unfinished ++ next) ≡ fed + length front - length unfinished =
    omega (arith, length-append front next, length-append unfinished next) in
    subst (λ t. Follows (begins place) fed (open_of place held) t others) (sym (append_assoc front next more))
    (p fed (next ++ more) others few (statements_at _ _ _ others same (statements_of _ _ _ others (append_assoc unfinished next more) s)))

-- on to a later place of the piece
on_to : (place : Place) (held piece : List ℕ) (from at end : ℕ) → from ≤ at → at ≤ end → PassesTo place held piece from at → Passes place held (slice_range piece from (end + 1)) (slice_range piece at (end + 1))
on_to place held piece from at end low order p =
    subst (λ xs. Passes place held xs (slice_range piece at (end + 1))) (sym (split_range piece from (at + 1) (end + 1) (omega arith) (omega arith)))
    (subst (Passes place held (slice_range piece from (at + 1) ++ slice_range piece (at + 1) (end + 1))) (sym (split_range piece at (at + 1) (end + 1) (omega arith) (omega arith)))
    (longer place held (slice_range piece from (at + 1)) (slice_range piece at (at + 1)) (slice_range piece (at + 1) (end + 1)) p))

-- over a gap
pub over_gap : (place : Place) (held front gap unfinished : List ℕ) → IsGap gap → length gap + length unfinished ≤ length (open_of place held) + length front → Passes place held front (gap ++ unfinished) → Passes place held front unfinished
over_gap place held front gap unfinished h room p fed more others few s =
    let o = fed + length front - length (gap ++ unfinished) in
    let same : fed + length front - length unfinished ≡ o + length gap = omega (arith, length-append gap unfinished) in
    p fed more others few (statements_of o _ _ others (sym (append_assoc gap unfinished more))
    (after_gap o gap (unfinished ++ more) others h (statements_at _ _ _ others same s)))

-- past a comment, and what ends it follows it
pub over_comment : (place : Place) (held front comment unfinished : List ℕ) → ((more : List ℕ) → IsUnit comment (unfinished ++ more)) → begins_with 39 comment ≡ true → length comment + length unfinished ≤ length (open_of place held) + length front → Passes place held front (comment ++ unfinished) → Passes place held front unfinished
over_comment place held front comment unfinished unit silent room p fed more others few s =
    let o = fed + length front - length (comment ++ unfinished) in
    let same : fed + length front - length unfinished ≡ o + length comment = omega (arith, length-append comment unfinished) in
    p fed more others few (statements_of o _ _ others (sym (append_assoc comment unfinished more))
    (after_comment o comment (unfinished ++ more) others (unit more) silent (statements_at _ _ _ others same s)))

-- past a comment that has begun
pub over_open_comment : (place : Place) (held front comment : List ℕ) → IsUnit comment [] → begins_with 39 comment ≡ true → length comment ≤ length (open_of place held) + length front → Passes place held front comment → Passes place held front (39 ∷ [])
over_open_comment place held front comment unit silent room p fed more others few s =
    let o = fed + length front - length comment in
    p fed more others few (after_open_comment o comment more others unit silent (statements_at _ _ _ others (omega arith) s))

-- over the gap before a unit
to_unit : (place : Place) (held piece : List ℕ) (from at start end : ℕ) → from ≤ at → PassesTo place held piece from at → start < end → end ≤ length piece → IsNext at (drop at piece) (unit_between piece start end) (drop end piece) → Passes place held (slice_range piece from (end + 1)) (slice_range piece start (end + 1))
to_unit place held piece from at start end low p some inside n =
    let gap = gap_between piece at start end some inside n in
    let split = split_range piece at start (end + 1) gap.0 (omega arith) in
    let size = range_size piece from at (end + 1) low (omega (arith, gap.0)) in
    let sizes = range_size piece at start (end + 1) gap.0 (omega arith) in
    over_gap place held (slice_range piece from (end + 1)) (slice_range piece at start) (slice_range piece start (end + 1)) gap.1 (omega arith)
    (subst (Passes place held (slice_range piece from (end + 1))) split (on_to place held piece from at end low (omega (arith, gap.0)) p))

pub unit_found : (place : Place) (held piece : List ℕ) (from at start end : ℕ) → from ≤ at → PassesTo place held piece from at → start < end → end ≤ length piece → IsNext at (drop at piece) (unit_between piece start end) (drop end piece) → get_or piece start 0 ≢ 39 → IsPart place held piece from ThisPiece start end
unit_found place held piece from at start end low p some inside n says = record {
  order = omega (arith, (gap_between piece at start end some inside n).0);
  first = λ h. cc;
  unit = record {
    order = omega arith;
    within = inside;
    unit = n.unit;
    spoken = first_between piece start end 39 some inside ∙ ne_eqb (get_or piece start 0) 39 says;
  };
  passed = to_unit place held piece from at start end low p some inside n;
}

pub comment_passed : (place : Place) (held piece : List ℕ) (from at start end : ℕ) → from ≤ at → PassesTo place held piece from at → start < end → end < length piece → IsNext at (drop at piece) (unit_between piece start end) (drop end piece) → get_or piece start 0 ≡ 39 → PassesTo place held piece from end
comment_passed place held piece from at start end low p some left n quote =
    let inside : end ≤ length piece = omega arith in
    let order : start ≤ end = omega arith in
    let up : end ≤ end + 1 = omega arith in
    let gap = gap_between piece at start end some inside n in
    let body = slice_range piece start end in
    let silent : begins_with 39 body ≡ true = first_between piece start end 39 some inside ∙ eq-eqb (get_or piece start 0) 39 quote in
    let size = range_size piece from start (end + 1) (omega (arith, gap.0)) (omega arith) in
    let sizes = range_size piece start end (end + 1) order up in
    over_comment place held (slice_range piece from (end + 1)) body (slice_range piece end (end + 1))
    (λ more. unit_before body (drop end piece) _ n.unit (λ first e. ends_with_next piece end first more left e)) silent (omega arith)
    (subst (Passes place held (slice_range piece from (end + 1))) (split_range piece start end (end + 1) order up) (to_unit place held piece from at start end low p some inside n))

-- a comment that extends to the end of the piece
pub comment_open : (place : Place) (held piece : List ℕ) (from at start end : ℕ) → from ≤ at → PassesTo place held piece from at → start < end → end ≡ length piece → IsNext at (drop at piece) (unit_between piece start end) (drop end piece) → get_or piece start 0 ≡ 39 → Passes place held (drop from piece) (39 ∷ [])
comment_open place held piece from at start end low p some all n quote =
    let inside : end ≤ length piece = omega arith in
    let gap = gap_between piece at start end some inside n in
    let body = slice_range piece start end in
    let size = length_between piece start end (omega arith) inside in
    let silent : begins_with 39 body ≡ true = first_between piece start end 39 some inside ∙ eq-eqb (get_or piece start 0) 39 quote in
    let none : drop end piece ≡ [] = drop_all end piece (omega arith) in
    let same : slice_range piece start (end + 1) ≡ body = range_end piece start (end + 1) (omega arith) ∙ sym (range_end piece start end (omega arith)) in
    over_open_comment place held (drop from piece) body (subst (IsUnit body) none n.unit) silent (omega (arith, length-drop from piece, gap.0))
    (subst (λ xs. Passes place held xs body) (range_end piece from (end + 1) (omega arith))
    (subst (Passes place held (slice_range piece from (end + 1))) same (to_unit place held piece from at start end low p some inside n)))

pub gap_open : (place : Place) (held piece : List ℕ) (from at : ℕ) → from ≤ at → PassesTo place held piece from at → at ≤ length piece → IsGap (drop at piece) → Passes place held (drop from piece) []
gap_open place held piece from at low p within gap =
    let end = length piece in
    let same : slice_range piece at (end + 1) ≡ drop at piece ++ [] = range_end piece at (end + 1) (omega arith) ∙ sym (append-nil _) in
    over_gap place held (drop from piece) (drop at piece) [] gap (omega (arith, length-drop at piece, length-drop from piece))
    (subst (λ xs. Passes place held xs (drop at piece ++ [])) (range_end piece from (end + 1) (omega arith))
    (subst (Passes place held (slice_range piece from (end + 1))) same (on_to place held piece from at end low within p)))
