-- What a piece holds next, depending on where the cutter is.
use Rattle.std.proofs.Common.{◌≡◌, ◌≢◌, ℕ, zero, suc, ◌+◌, ◌-◌, ◌<◌, ◌≤◌, ◌==◌, ◌&&◌, nat_eq, eq-eqb, Bool, true, false, not, List, [], ◌∷◌, ◌++◌, length, take, drop, get_or, slice_range, length-drop, length-append, append_assoc, arith, refl, sym, ap, ◌∙◌, subst, inl, inr}
use Rattle.std.proofs.lemmas.Bool.{cases_lt, cases_Bool, eqb-true, ne_eqb}
use Rattle.std.proofs.lemmas.Bool.Decides.{nat_tests, Decides-eqb}
use Rattle.std.proofs.lemmas.List.{length-take, take_all, take-append-drop, append_cancel_left, get_or-take, get_or-drop}
use Rattle.std.proofs.lemmas.List.Sums.{prefix_len_stops, prefix_len-le-length}
use Rattle.std.proofs.Math.Seq.{drop-cons, drop-length, take-length, take-add}
use Rattle.std.specs.List.{AllByRecursion, position_or_len, starts_with}
use Rattle.std.specs.Cmp.Lexicographic.{pointwise}
use Rattle.std.proofs.lemmas.Slice.Eq.{slice_eq-Decides}
use Rattle.csa_cutting.specs.Cut.{TextUnit, IsUnit, EndsBefore, Statements, is_end, begins_with, byte_order_mark, mark_length}
use Rattle.csa_cutting.specs.PieceCutting.{Follows, mark_of}
use Rattle.csa_cutting.specs.Places.{IsPart, IsFoundIn, Passes, PassesTo, begins, open_of}
use Rattle.csa_cutting.specs.declared.units.Origin.TheVariants.{EarlierPiece}
use Rattle.csa_cutting.specs.declared.units.Place.{Place}
use Rattle.csa_cutting.specs.declared.units.Found.TheVariants.{LeadsTo}
use Rattle.csa_cutting.specs.declared.units.Place.TheVariants.{Mark, Gap, Unit as InUnit, Comment}
use Rattle.csa_cutting.proofs.Fronts.{passes, weaker, turned_true, turned_false, ends_before, unit_front, length_between}
use Rattle.csa_cutting.proofs.LineCutting.{all_joined}
use Rattle.csa_cutting.proofs.Passing.{statements_at, statements_of, unit_before, ends_with_next, split_range, range_size, over_comment, over_open_comment}

-- from the front
pub first_range : (piece : List ℕ) (k : ℕ) → slice_range piece 0 k ≡ take k piece
first_range piece k = let count : k - 0 ≡ k = omega arith in ap (λ n. take n piece) count

-- after the mark
pub follows_plain : (fed o : ℕ) (held text : List ℕ) (others : List TextUnit) → o ≡ fed - length held → Statements o (held ++ text) others → Follows false fed held text others
follows_plain fed o held text others e s = statements_at o _ _ others (omega arith) s

-- what is unfinished, and the piece after it, if both begin with no mark
pub passes_open : (place : Place) (held front : List ℕ) → ((more : List ℕ) → mark_of (begins place) (open_of place held ++ (front ++ more)) ≡ 0) → Passes place held front (open_of place held ++ front)
passes_open place held front none fed more others few s =
    let begun = open_of place held in
    let same : fed + length front - length (begun ++ front) ≡ fed - length begun + 0 = omega (arith, length-append begun front) in
    subst (λ m. Statements (fed - length begun + m) (drop m (begun ++ (front ++ more))) others) (sym (none more))
    (statements_at _ _ _ others same (statements_of _ _ _ others (append_assoc begun front more) s))

pub passes_gap : (held piece : List ℕ) (from : ℕ) → PassesTo Gap held piece from from
passes_gap held piece from = passes_open Gap held (slice_range piece from (from + 1)) (λ more. refl)

-- the rest of a unit whose first byte is held
pub rest_unit : (held piece : List ℕ) (first n : ℕ) → IsUnit held [] → begins_with first held ≡ true → n ≡ position_or_len (is_end first) piece → IsUnit (held ++ take n piece) (drop n piece)
rest_unit [] piece first n h b e = absurd h
rest_unit (c ∷ held) piece first n h b e =
    let same : c ≡ first = eqb-true c first b in
    let solid : AllByRecursion (λ x. is_end first x ≡ false) held = rw same at h.1 in
    let more : AllByRecursion (λ x. is_end first x ≡ false) (take n piece) =
    rw e (weaker (λ x. not (is_end first x) ≡ true) (λ x. is_end first x ≡ false) (λ x. turned_true (is_end first x)) _ (passes (λ x. not (is_end first x)) piece)) in
    let stops : EndsBefore first (drop n piece) = rw e (ends_before first piece) in
    rw same (rw same at h.0, all_joined (λ x. is_end first x ≡ false) held (take n piece) solid more, stops)

pub begins_still : (c : ℕ) (held more : List ℕ) → 0 < length held → begins_with c (held ++ more) ≡ begins_with c held
begins_still c [] more some = absurd (omega arith)
begins_still c (b ∷ held) more some = refl

pub unit_some : (held following : List ℕ) → IsUnit held following → 0 < length held
unit_some [] following h = absurd h
unit_some (b ∷ held) following h = omega arith

pub first_of_held : (held : List ℕ) → 0 < length held → begins_with (get_or held 0 0) held ≡ true
first_of_held [] some = absurd (omega arith)
first_of_held (b ∷ held) some = grind (arith, nat_tests)

pub found_in_unit : (held piece : List ℕ) (n : ℕ) → IsUnit held [] → begins_with 39 held ≡ false → n ≡ position_or_len (is_end (get_or held 0 0)) piece → IsPart InUnit held piece 0 EarlierPiece 0 n
found_in_unit held piece n h says e =
    let first = get_or held 0 0 in
    let some = unit_some held [] h in
    record {
      order = omega arith;
      first = λ _. (refl, refl);
      unit = record {
        order = omega arith;
        within = rw e (prefix_len-le-length (λ x. not (is_end first x)) piece);
        unit = rw (first_range piece n) (rest_unit held piece first n h (first_of_held held some) e);
        spoken = begins_still 39 held (slice_range piece 0 n) some ∙ says;
      };
      passed = passes_open InUnit held (slice_range piece 0 (n + 1)) (λ more. refl);
    }

comment_line : (piece : List ℕ) (n : ℕ) → n ≡ position_or_len (is_end 39) piece → IsUnit (39 ∷ take n piece) (drop n piece)
comment_line piece n e = rest_unit (39 ∷ []) piece 39 n (refl, tt, tt) refl e

-- the whole piece is in a comment
pub found_in_comment : (piece : List ℕ) (n : ℕ) → n ≡ position_or_len (is_end 39) piece → n ≡ length piece → IsFoundIn Comment [] piece 0 (LeadsTo Comment)
found_in_comment piece n e all =
    let whole : take n piece ≡ piece = rw all (take-length piece) in
    let rest : drop n piece ≡ [] = rw all (drop-length piece) in
    let unit : IsUnit (39 ∷ piece) [] = rw (whole, rest) at (comment_line piece n e) in
    (inl refl, over_open_comment Comment [] piece (39 ∷ piece) unit refl (omega arith) (passes_open Comment [] piece (λ more. refl)))

-- after the comment's line
pub passes_comment : (piece : List ℕ) (n : ℕ) → n ≡ position_or_len (is_end 39) piece → n < length piece → PassesTo Comment [] piece 0 n
passes_comment piece n e some =
    let up : n ≤ n + 1 = omega arith in
    let front = slice_range piece 0 (n + 1) in
    let body = slice_range piece 0 n in
    let line : IsUnit (39 ∷ body) (drop n piece) = rw (first_range piece n) (comment_line piece n e) in
    let unit : (more : List ℕ) → IsUnit (39 ∷ body) (slice_range piece n (n + 1) ++ more) =
    λ more. unit_before (39 ∷ body) (drop n piece) _ line (λ first h. ends_with_next piece n first more some h) in
    over_comment Comment [] front (39 ∷ body) (slice_range piece n (n + 1)) unit refl (omega (arith, range_size piece 0 n (n + 1) (omega arith) up))
    (subst (λ xs. Passes Comment [] front (39 ∷ xs)) (split_range piece 0 n (n + 1) (omega arith) up) (passes_open Comment [] front (λ more. refl)))

-- the whole mark
with_mark : (fed : ℕ) (held text rest : List ℕ) (others : List TextUnit) → held ++ text ≡ byte_order_mark ++ rest → Statements (fed - length held + 3) rest others → Follows true fed held text others
with_mark fed held text rest others e s = rw e s

-- no mark
pub without_mark : (fed o : ℕ) (held text : List ℕ) (others : List TextUnit) → mark_length (held ++ text) ≡ 0 → o ≡ fed - length held → Statements o (held ++ text) others → Follows true fed held text others
without_mark fed o held text others none e s = rw none (statements_at o _ _ others (omega arith) s)

other_byte : (m b : ℕ) (rest : List ℕ) → m < 3 → (get_or byte_order_mark m 0 == b) ≡ false → mark_length (take m byte_order_mark ++ b ∷ rest) ≡ 0
other_byte zero b rest less h = rw h refl
other_byte (suc zero) b rest less h = rw h refl
other_byte (suc (suc zero)) b rest less h = rw h refl
other_byte (suc (suc (suc m))) b rest less h = absurd (omega arith)

-- the text after the bytes of the mark
in_mark : (held piece mark more : List ℕ) (n k : ℕ) → held ++ take n piece ≡ mark → n ≤ k → held ++ (slice_range piece 0 k ++ more) ≡ mark ++ (slice_range piece n k ++ more)
in_mark held piece mark more n k same order =
    ap (λ xs. held ++ (xs ++ more)) (split_range piece 0 n k (omega arith) order ∙ ap (λ xs. xs ++ slice_range piece n k) (first_range piece n))
    ∙ ap (λ xs. held ++ xs) (append_assoc (take n piece) (slice_range piece n k) more)
    ∙ sym (append_assoc held (take n piece) (slice_range piece n k ++ more))
    ∙ ap (λ xs. xs ++ (slice_range piece n k ++ more)) same

-- the mark is complete after n bytes of the piece
pub record WholeMark (held piece : List ℕ) (n : ℕ) : Type 0 where
  pub size : length held + n ≡ 3
  pub within : n ≤ length piece
  pub same : held ++ take n piece ≡ byte_order_mark

pub passes_mark : (held piece : List ℕ) (n : ℕ) → WholeMark held piece n → PassesTo Mark held piece 0 n
passes_mark held piece n w fed more others few s =
    let size = w.size in
    let taken = length_between piece 0 n (omega arith) w.within in
    let front = range_size piece 0 n (n + 1) (omega arith) (omega arith) in
    with_mark fed held (slice_range piece 0 (n + 1) ++ more) (slice_range piece n (n + 1) ++ more) others (in_mark held piece byte_order_mark more n (n + 1) w.same (omega arith))
    (statements_at _ _ _ others (omega arith) s)

-- the byte after n bytes of the piece is not the mark's
pub record NoMark (held piece : List ℕ) (n : ℕ) : Type 0 where
  pub less : length held + n < 3
  pub within : n < length piece
  pub same : held ++ take n piece ≡ take (length held + n) byte_order_mark
  pub differs : (get_or byte_order_mark (length held + n) 0 == get_or piece n 0) ≡ false

no_mark : (held piece more : List ℕ) (n k : ℕ) → NoMark held piece n → n < k → mark_length (held ++ (slice_range piece 0 k ++ more)) ≡ 0
no_mark held piece more n k w order =
    let opened : drop n piece ≡ get_or piece n 0 ∷ drop (suc n) piece = drop-cons piece n 0 w.within in
    let count : k - n ≡ suc (k - n - 1) = omega arith in
    let head : slice_range piece n k ≡ get_or piece n 0 ∷ take (k - n - 1) (drop (suc n) piece) =
    ap (λ i. take i (drop n piece)) count ∙ ap (take (suc (k - n - 1))) opened in
    let whole : held ++ (slice_range piece 0 k ++ more) ≡ take (length held + n) byte_order_mark ++ (get_or piece n 0 ∷ (take (k - n - 1) (drop (suc n) piece) ++ more)) =
    in_mark held piece _ more n k w.same (omega arith) ∙ ap (λ xs. take (length held + n) byte_order_mark ++ (xs ++ more)) head in
    ap mark_length whole ∙ other_byte (length held + n) (get_or piece n 0) _ w.less w.differs

pub passes_no_mark : (held piece : List ℕ) (n k : ℕ) → NoMark held piece n → n < k → Passes Mark held (slice_range piece 0 k) (held ++ slice_range piece 0 k)
passes_no_mark held piece n k w order = passes_open Mark held (slice_range piece 0 k) (λ more. no_mark held piece more n k w order)

mark_has_no_end : (m : ℕ) → m < 3 → is_end 0xEF (get_or byte_order_mark m 0) ≡ false
mark_has_no_end zero less = refl
mark_has_no_end (suc zero) less = refl
mark_has_no_end (suc (suc zero)) less = refl
mark_has_no_end (suc (suc (suc m))) less = absurd (omega arith)

pub mark_unit : (m : ℕ) → 0 < m → m < 3 → IsUnit (take m byte_order_mark) []
mark_unit zero some less = absurd (omega arith)
mark_unit (suc zero) some less = (refl, tt, tt)
mark_unit (suc (suc zero)) some less = (refl, (refl, tt), tt)
mark_unit (suc (suc (suc m))) some less = absurd (omega arith)

mark_first : (m : ℕ) → 0 < m → begins_with 0xEF (take m byte_order_mark) ≡ true
mark_first zero some = absurd (omega arith)
mark_first (suc m) some = refl

pub mark_silent : (m : ℕ) → 0 < m → begins_with 39 (take m byte_order_mark) ≡ false
mark_silent zero some = absurd (omega arith)
mark_silent (suc m) some = refl

same_bytes : (xs ys : List ℕ) → pointwise nat_eq xs ys ≡ true → xs ≡ ys
same_bytes xs ys h = (slice_eq-Decides Decides-eqb xs ys _ refl).0 h

front_of : (xs needle : List ℕ) → starts_with nat_eq xs needle ≡ true → needle ≡ take (length needle) xs
front_of xs needle h = same_bytes needle (take (length needle) xs) h

begins_itself : (xs : List ℕ) → starts_with nat_eq xs xs ≡ true
begins_itself xs = (slice_eq-Decides Decides-eqb xs (take (length xs) xs) _ refl).1 (sym (take-length xs))

pub mark_whole : (held piece missing : List ℕ) → length held < 3 → held ≡ take (length held) byte_order_mark → missing ≡ drop (length held) byte_order_mark → starts_with nat_eq piece missing ≡ true → WholeMark held piece (length missing)
mark_whole held piece missing less is_mark is_rest begins_so =
    let front = front_of piece missing begins_so in
    let size : length missing ≡ 3 - length held = ap length is_rest ∙ length-drop (length held) byte_order_mark in
    record {
      size = omega (arith, size);
      within = omega (arith, ap length front, length-take (length missing) piece);
      same = ap (λ xs. xs ++ take (length missing) piece) is_mark ∙ ap (λ xs. take (length held) byte_order_mark ++ xs) (sym front ∙ is_rest) ∙ take-append-drop (length held) byte_order_mark;
    }

pub mark_begun : (held piece missing : List ℕ) → length held < 3 → held ≡ take (length held) byte_order_mark → missing ≡ drop (length held) byte_order_mark → starts_with nat_eq piece missing ≡ false → starts_with nat_eq missing piece ≡ true → (length held + length piece < 3) × (held ++ piece ≡ take (length held + length piece) byte_order_mark)
mark_begun held piece missing less is_mark is_rest other begins_so =
    let front = front_of missing piece begins_so in
    let size : length missing ≡ 3 - length held = ap length is_rest ∙ length-drop (length held) byte_order_mark in
    let most : length piece ≤ length missing = omega (arith, ap length front, length-take (length piece) missing) in
    let shorter : length piece < length missing = elim (cases_lt (length piece) (length missing)) [
      | inl h ↦ h
      | inr h ↦
          let same : piece ≡ missing = front ∙ take_all (length piece) missing h in
          let whole : starts_with nat_eq piece missing ≡ true = subst (λ xs. starts_with nat_eq xs missing ≡ true) (sym same) (begins_itself missing) in
          absurd (cc)
    ] in (
      omega (arith, size),
      ap (λ xs. xs ++ piece) is_mark ∙ ap (λ xs. take (length held) byte_order_mark ++ xs) (front ∙ ap (take (length piece)) is_rest) ∙ sym (take-add (length held) (length piece) byte_order_mark),
    )

-- the first byte that differs
record Differ (a b : List ℕ) (n : ℕ) : Type 0 where
  in_a : n < length a
  in_b : n < length b
  same : take n a ≡ take n b
  differs : (get_or a n 0 == get_or b n 0) ≡ false

rest_too : (p q : Bool) → p ≡ true → (p && q) ≡ false → q ≡ false
rest_too p q t h = rw t at h

differ : (a b : List ℕ) → starts_with nat_eq b a ≡ false → starts_with nat_eq a b ≡ false → (n : ℕ) × Differ a b n
differ [] b h k = cc
differ (x ∷ a) [] h k = cc
differ (x ∷ a) (y ∷ b) h k =
    elim (cases_Bool (x == y)) [
      | inl t ↦
          let same : x ≡ y = eqb-true x y t in
          let more = differ a b (rest_too (x == y) _ t h) (rest_too (y == x) _ (eq-eqb y x (sym same)) k) in
          let d = more.1 in
          (suc more.0, record { in_a = omega (arith, d.in_a); in_b = omega (arith, d.in_b); same = ap (λ n. n ∷ take more.0 a) same ∙ ap (λ ns. y ∷ ns) d.same; differs = d.differs })
      | inr f ↦ (0, record { in_a = omega arith; in_b = omega arith; same = refl; differs = f })
    ]

pub mark_missed : (held piece missing : List ℕ) → length held < 3 → held ≡ take (length held) byte_order_mark → missing ≡ drop (length held) byte_order_mark → starts_with nat_eq piece missing ≡ false → starts_with nat_eq missing piece ≡ false → (n : ℕ) × NoMark held piece n
mark_missed held piece missing less is_mark is_rest h k =
    let found = differ missing piece h k in
    let n = found.0 in
    let d = found.1 in
    let size : length missing ≡ 3 - length held = ap length is_rest ∙ length-drop (length held) byte_order_mark in
    let front : take n piece ≡ take n (drop (length held) byte_order_mark) = sym d.same ∙ ap (take n) is_rest in
    let byte : get_or missing n 0 ≡ get_or byte_order_mark (length held + n) 0 =
    ap (λ xs. get_or xs n 0) is_rest ∙ get_or-drop (length held) byte_order_mark n 0 in (
      n,
      record {
        less = omega (arith, size, d.in_a);
        within = d.in_b;
        same = ap (λ xs. xs ++ take n piece) is_mark ∙ ap (λ xs. take (length held) byte_order_mark ++ xs) front ∙ sym (take-add (length held) n byte_order_mark);
        differs = subst (λ b. (b == get_or piece n 0) ≡ false) byte d.differs;
      },
    )

pub first_missed : (piece : List ℕ) → 0 < length piece → get_or piece 0 0 ≢ 0xEF → NoMark [] piece 0
first_missed piece some other = record { less = omega arith; within = some; same = refl; differs = ne_eqb 0xEF (get_or piece 0 0) (λ e. other (sym e)) }

-- if the first byte is the mark's, something was passed
pub some_passed : (held piece : List ℕ) (n : ℕ) → NoMark held piece n → held ≡ [] → get_or piece 0 0 ≡ 0xEF → 0 < length held + n
some_passed held piece zero w none first =
    let differs : (0xEF == get_or piece 0 0) ≡ false = rw none at w.differs in
    let same : (0xEF == get_or piece 0 0) ≡ true = eq-eqb 0xEF (get_or piece 0 0) (sym first) in
    absurd (cc)
some_passed held piece (suc n) w none first = omega arith

-- no byte of the mark ends a unit
no_end_before : (held piece : List ℕ) (n e : ℕ) → NoMark held piece n → held ≡ take (length held) byte_order_mark → e ≡ position_or_len (is_end 0xEF) piece → n ≤ e
no_end_before held piece n e w is_mark is_run =
    elim (cases_lt e n) [
      | inl h ↦
          let inside : e < length piece = let within = w.within in omega arith in
          let ends : is_end 0xEF (get_or piece e 0) ≡ true =
          subst (λ k. is_end 0xEF (get_or piece k 0) ≡ true) (sym is_run) (turned_false _ (prefix_len_stops (λ b. not (is_end 0xEF b)) piece 0 (rw (← is_run) inside))) in
          let front : take (length held) byte_order_mark ++ take n piece ≡ take (length held) byte_order_mark ++ take n (drop (length held) byte_order_mark) =
          ap (λ xs. xs ++ take n piece) (sym is_mark) ∙ w.same ∙ take-add (length held) n byte_order_mark in
          let same : take n piece ≡ take n (drop (length held) byte_order_mark) = append_cancel_left (take (length held) byte_order_mark) _ _ front in
          let byte : get_or piece e 0 ≡ get_or byte_order_mark (length held + e) 0 =
          sym (get_or-take n piece e 0 h) ∙ ap (λ xs. get_or xs e 0) same ∙ get_or-take n (drop (length held) byte_order_mark) e 0 h ∙ get_or-drop (length held) byte_order_mark e 0 in
          let less = w.less in
          let none : is_end 0xEF (get_or piece e 0) ≡ false = rw byte (mark_has_no_end (length held + e) (omega arith)) in
          absurd (cc)
      | inr h ↦ h
    ]

lead_unit : (ps : List ℕ) (e : ℕ) → e ≡ position_or_len (is_end 0xEF) (0xEF ∷ ps) → IsUnit (take e (0xEF ∷ ps)) (drop e (0xEF ∷ ps)) × (begins_with 39 (take e (0xEF ∷ ps)) ≡ false)
lead_unit ps e h =
    let out : e ≡ suc (position_or_len (is_end 0xEF) ps) = omega (arith, h) in
    rw out (unit_front 0xEF ps refl, refl)

mark_part : (held piece : List ℕ) (n e : ℕ) → NoMark held piece n → held ≡ take (length held) byte_order_mark → 0 < length held + n → e ≡ position_or_len (is_end 0xEF) piece → IsUnit (held ++ take e piece) (drop e piece) × (begins_with 39 (held ++ take e piece) ≡ false)
mark_part [] [] n e w is_mark some is_run = let within = w.within in absurd (omega arith)
mark_part [] (p ∷ ps) zero e w is_mark some is_run = absurd (omega arith)
mark_part [] (p ∷ ps) (suc n) e w is_mark some is_run =
    let plus : 0 + suc n ≡ suc n = omega arith in
    let same : p ∷ take n ps ≡ take (suc n) byte_order_mark = w.same ∙ ap (λ k. take k byte_order_mark) plus in
    let first : p ≡ 0xEF = cc in
    rw first (lead_unit ps e (rw first at is_run))
mark_part (c ∷ held) piece n e w is_mark some is_run =
    let less = w.less in
    let whole = c ∷ held in
    let unit : IsUnit whole [] = subst (λ xs. IsUnit xs []) (sym is_mark) (mark_unit (length whole) (omega arith) (omega arith)) in
    let first : begins_with 0xEF whole ≡ true = ap (begins_with 0xEF) is_mark ∙ mark_first (length whole) (omega arith) in
    let silent : begins_with 39 whole ≡ false = ap (begins_with 39) is_mark ∙ mark_silent (length whole) (omega arith) in
    (rest_unit whole piece 0xEF e unit first is_run, begins_still 39 whole (take e piece) (omega arith) ∙ silent)

pub part_no_mark : (held piece : List ℕ) (n e : ℕ) → NoMark held piece n → held ≡ take (length held) byte_order_mark → 0 < length held + n → e ≡ position_or_len (is_end 0xEF) piece → IsPart Mark held piece 0 EarlierPiece 0 e
part_no_mark held piece n e w is_mark some is_run =
    let part = mark_part held piece n e w is_mark some is_run in
    let following = no_end_before held piece n e w is_mark is_run in
    record {
      order = omega arith;
      first = λ _. (refl, refl);
      unit = record {
        order = omega arith;
        within = rw is_run (prefix_len-le-length (λ x. not (is_end 0xEF x)) piece);
        unit = rw (first_range piece e) part.0;
        spoken = rw (first_range piece e) part.1;
      };
      passed = passes_no_mark held piece n (e + 1) w (omega arith);
    }
