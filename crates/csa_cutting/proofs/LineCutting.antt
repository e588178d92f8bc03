-- A line that arrives in pieces.
use Rattle.std.proofs.Common.{◌≡◌, ℕ, ◌+◌, ◌-◌, ◌<◌, ◌≤◌, ◌==◌, true, false, not, List, [], ◌∷◌, ◌++◌, length, take, drop, get_or, slice_range, length-drop, length-append, append_assoc, append-nil, arith, refl, sym, ap, ◌∙◌, subst, inl, inr, ◌⊎◌}
use Rattle.std.proofs.lemmas.Bool.{cases_lt, false≢true, eqb-true}
use Rattle.std.proofs.lemmas.List.{take-append-drop, length-take-le, take_more, get_or-drop}
use Rattle.std.proofs.lemmas.List.Folds.{drop_split}
use Rattle.std.proofs.lemmas.List.Sums.{prefix_len_stops, prefix_len-le-length}
use Rattle.std.proofs.Math.Seq.{drop-cons, take-add, take-length}
use Rattle.std.specs.List.{AllByRecursion, prefix_len, position_or_len}
use Rattle.csa_cutting.specs.Lines.{is_line_end, AreLineEnds, HasNoLineEnd, BeginsWithLineEnd, Lines}
use Rattle.csa_cutting.specs.LineCutting.{BeginsTooLong}
use Rattle.csa_cutting.specs.LineHolding.{IsRun}
use Rattle.csa_cutting.proofs.Fronts.{passes, weaker, turned_true, turned_false}

pub all_joined : (P : ℕ → Type 0) (xs ys : List ℕ) → AllByRecursion P xs → AllByRecursion P ys → AllByRecursion P (xs ++ ys)
all_joined P [] ys h k = k
all_joined P (x ∷ xs) ys h k = (h.0, all_joined P xs ys h.1 k)

pub nothing : (xs : List ℕ) → (length xs == 0) ≡ true → xs ≡ []
nothing [] h = refl
nothing (x ∷ xs) h = absurd (omega (arith, eqb-true (length (x ∷ xs)) 0 h))

pub something : (xs : List ℕ) → (length xs == 0) ≡ false → 0 < length xs
something [] h = absurd (false≢true (sym h))
something (x ∷ xs) h = omega arith

pub skipped_front : (text : List ℕ) → AreLineEnds (take (prefix_len is_line_end text) text)
skipped_front text = passes is_line_end text

-- a run begins after the line ends, or at the front if a line is held
pub a_run : (held piece : List ℕ) (start n : ℕ) → start ≤ length piece → AreLineEnds (take start piece) → (0 < start → held ≡ []) → (0 < length held) ⊎ (start < length piece → is_line_end (get_or piece start 0) ≡ false) → n ≡ position_or_len is_line_end (drop start piece) → IsRun held piece start (start + n)
a_run held piece start n order skipped first begins is_run =
    let rest = drop start piece in
    let few : n ≤ length rest = rw is_run (prefix_len-le-length (λ b. not (is_line_end b)) rest) in
    let count : start + n - start ≡ n = omega arith in
    let stops : start + n < length piece → is_line_end (get_or piece (start + n) 0) ≡ true =
    λ h. rw (← get_or-drop start piece n 0) (subst (λ k. is_line_end (get_or rest k 0) ≡ true) (sym is_run)
    (turned_false _ (prefix_len_stops (λ b. not (is_line_end b)) rest 0 (rw (← is_run) (omega (arith, length-drop start piece)))))) in
    record {
      order = omega arith;
      within = omega (arith, length-drop start piece);
      skipped = skipped;
      first = first;
      run = rw (count, is_run) (weaker (λ b. not (is_line_end b) ≡ true) (λ b. is_line_end b ≡ false) (λ b. turned_true (is_line_end b)) _ (passes (λ b. not (is_line_end b)) rest));
      ends = λ h. subst BeginsWithLineEnd (sym (drop-cons piece (start + n) 0 h)) (stops h);
      some = λ h. elim begins [
        | inl some ↦ omega arith
        | inr solid ↦ elim (cases_lt 0 n) [
          | inl some ↦ omega arith
          | inr none ↦
              let at : start + n ≡ start = omega arith in
              let f : is_line_end (get_or piece start 0) ≡ false = solid (omega arith) in
              let t : is_line_end (get_or piece start 0) ≡ true = rw at at (stops h) in
              absurd (cc)
        ]
      ];
    }

pub run_skipping : (piece : List ℕ) (start n : ℕ) → start ≡ prefix_len is_line_end piece → n ≡ position_or_len is_line_end (drop start piece) → IsRun [] piece start (start + n)
run_skipping piece start n is_start is_run =
    let within : start ≤ length piece = rw is_start (prefix_len-le-length is_line_end piece) in
    a_run [] piece start n within (rw is_start (skipped_front piece)) (λ _. refl)
    (inr (λ h. rw is_start (prefix_len_stops is_line_end piece 0 (rw (← is_start) h)))) is_run

pub run_on : (held piece : List ℕ) (n : ℕ) → 0 < length held → n ≡ position_or_len is_line_end piece → IsRun held piece 0 (0 + n)
run_on held piece n some is_run = a_run held piece 0 n (omega arith) tt (λ h. absurd (omega arith)) (inl some) is_run

parts : (piece : List ℕ) (start end : ℕ) → start ≤ end → piece ≡ take start piece ++ (slice_range piece start end ++ drop end piece)
parts piece start end order =
    sym (take-append-drop start piece) ∙ ap (λ xs. take start piece ++ xs) (drop_split piece start end order)

none_taken : (piece : List ℕ) (start : ℕ) → start ≡ 0 → take start piece ≡ []
none_taken piece start h = rw h refl

-- what is held comes before the run, since nothing is held if line ends are skipped
front : (held piece run : List ℕ) (start : ℕ) → (0 < start → held ≡ []) → held ++ (take start piece ++ run) ≡ take start piece ++ (held ++ run)
front held piece run start first =
    elim (cases_lt 0 start) [
      | inl h ↦ rw (first h) refl
      | inr h ↦ rw (none_taken piece start (omega arith)) refl
    ]

held_first : (held piece : List ℕ) (start end : ℕ) → IsRun held piece start end → held ++ piece ≡ take start piece ++ ((held ++ slice_range piece start end) ++ drop end piece)
held_first held piece start end r =
    ap (λ xs. held ++ xs) (parts piece start end r.order)
    ∙ front held piece (slice_range piece start end ++ drop end piece) start r.first
    ∙ ap (λ xs. take start piece ++ xs) (sym (append_assoc held (slice_range piece start end) (drop end piece)))

take_between : (piece : List ℕ) (start end : ℕ) → start ≤ end → take end piece ≡ take start piece ++ slice_range piece start end
take_between piece start end order =
    let count : end ≡ start + (end - start) = omega arith in
    ap (λ n. take n piece) count ∙ take-add start (end - start) piece

pub line_waits : (held piece : List ℕ) (start end : ℕ) → IsRun held piece start end → HasNoLineEnd held → Lines (held ++ take end piece) [] (held ++ slice_range piece start end)
line_waits held piece start end r solid =
    let run = slice_range piece start end in (
      take start piece,
      ap (λ xs. held ++ xs) (take_between piece start end r.order) ∙ front held piece run start r.first,
      r.skipped,
      all_joined (λ b. is_line_end b ≡ false) held run solid r.run,
    )

pub line_unfinished : (held piece : List ℕ) (start end : ℕ) → IsRun held piece start end → HasNoLineEnd held → end ≡ length piece → Lines (held ++ piece) [] (held ++ slice_range piece start end)
line_unfinished held piece start end r solid all =
    let whole : take end piece ≡ piece = ap (λ n. take n piece) all ∙ take-length piece in
    subst (λ xs. Lines (held ++ xs) [] (held ++ slice_range piece start end)) whole (line_waits held piece start end r solid)

-- the piece up to the byte that ends the line, and with it
used : (piece : List ℕ) (start end : ℕ) → start ≤ end → end < length piece → take (end + 1) piece ≡ take start piece ++ (slice_range piece start end ++ get_or piece end 0 ∷ [])
used piece start end order more =
    let before : take end piece ≡ take start piece ++ slice_range piece start end = take_between piece start end order in
    take_more piece end 0 more ∙ ap (λ xs. xs ++ get_or piece end 0 ∷ []) before ∙ append_assoc (take start piece) _ _

ending : (piece : List ℕ) (end : ℕ) → end < length piece → BeginsWithLineEnd (drop end piece) → is_line_end (get_or piece end 0) ≡ true
ending piece end more h = subst BeginsWithLineEnd (drop-cons piece end 0 more) h

pub length_range : (piece : List ℕ) (start end : ℕ) → end ≤ length piece → length (slice_range piece start end) ≡ end - start
length_range piece start end within = length-take-le (end - start) (drop start piece) (omega (arith, length-drop start piece))

pub line_closed : (held piece : List ℕ) (start end : ℕ) → IsRun held piece start end → HasNoLineEnd held → end < length piece → Lines (held ++ take (end + 1) piece) ((held ++ slice_range piece start end) ∷ []) []
line_closed held piece start end r solid more =
    let run = slice_range piece start end in
    let last = get_or piece end 0 ∷ [] in
    let whole : held ++ take (end + 1) piece ≡ take start piece ++ ((held ++ run) ++ last) =
    ap (λ xs. held ++ xs) (used piece start end r.order more) ∙ front held piece (run ++ last) start r.first
    ∙ ap (λ xs. take start piece ++ xs) (sym (append_assoc held run last)) in
    let ends : is_line_end (get_or piece end 0) ≡ true = ending piece end more (r.ends more) in (
      last,
      record {
        ends = take start piece;
        whole = whole;
        skipped = r.skipped;
        some = omega (arith, r.some more, length-append held run, length_range piece start end r.within);
        run = all_joined (λ b. is_line_end b ≡ false) held run solid r.run;
        closed = ends;
      },
      (last, sym (append-nil last), (ends, tt), tt),
    )

pub line_long : (held piece : List ℕ) (start end limit : ℕ) → IsRun held piece start end → HasNoLineEnd held → limit < length held + (end - start) → BeginsTooLong limit (held ++ piece)
line_long held piece start end limit r solid long =
    let run = slice_range piece start end in (
      take start piece,
      held ++ run,
      drop end piece,
      held_first held piece start end r,
      r.skipped,
      all_joined (λ b. is_line_end b ≡ false) held run solid r.run,
      omega (arith, length-append held run, length_range piece start end r.within),
    )

abbrev pub StopsLine : List ℕ → Type 0
StopsLine [] = Unit {0}
StopsLine (b ∷ bytes) = is_line_end b ≡ true

pub no_longer_run : (run following line more : List ℕ) → HasNoLineEnd line → StopsLine following → run ++ following ≡ line ++ more → length line ≤ length run
no_longer_run run following [] more solid stops same = omega arith
no_longer_run [] [] (l ∷ line) more solid stops same = cc
no_longer_run [] (b ∷ following) (l ∷ line) more solid stops same =
    let e : b ≡ l = cc in
    let f : is_line_end l ≡ false = solid.0 in
    let t : is_line_end l ≡ true = rw e at stops in
    absurd (cc)
no_longer_run (r ∷ run) following (l ∷ line) more solid stops same =
    let rest : run ++ following ≡ line ++ more = cc in
    omega (arith, no_longer_run run following line more solid.1 stops rest)

-- after line ends no line is longer than the run, which extends to a line end or to the end of the
-- text
no_longer : (skipped ends run following line more : List ℕ) → AreLineEnds skipped → AreLineEnds ends → HasNoLineEnd run → HasNoLineEnd line → StopsLine following → (run ≡ [] → following ≡ []) → skipped ++ (run ++ following) ≡ ends ++ (line ++ more) → length line ≤ length run
no_longer [] [] run following line more s e f g stops begins same = no_longer_run run following line more g stops same
no_longer [] (x ∷ ends) [] following line more s e f g stops begins same =
    let none : following ≡ [] = begins refl in
    cc
no_longer [] (x ∷ ends) (r ∷ run) following line more s e f g stops begins same =
    let here : r ≡ x = cc in
    let t : is_line_end x ≡ true = e.0 in
    let h : is_line_end x ≡ false = rw here at f.0 in
    absurd (cc)
no_longer (x ∷ skipped) [] run following [] more s e f g stops begins same = omega arith
no_longer (x ∷ skipped) [] run following (l ∷ line) more s e f g stops begins same =
    let here : x ≡ l = cc in
    let h : is_line_end l ≡ false = g.0 in
    let t : is_line_end l ≡ true = rw here at s.0 in
    absurd (cc)
no_longer (x ∷ skipped) (y ∷ ends) run following line more s e f g stops begins same =
    let rest : skipped ++ (run ++ following) ≡ ends ++ (line ++ more) = cc in
    no_longer skipped ends run following line more s.1 e.1 f g stops begins rest

stops_after : (xs : List ℕ) → (0 < length xs → BeginsWithLineEnd xs) → StopsLine xs
stops_after [] h = tt
stops_after (x ∷ xs) h = h (omega arith)

no_bytes : (xs : List ℕ) → length xs ≡ 0 → xs ≡ []
no_bytes [] h = refl
no_bytes (x ∷ xs) h = absurd (omega arith)

pub line_short : (held piece : List ℕ) (start end limit : ℕ) → IsRun held piece start end → HasNoLineEnd held → length held + (end - start) ≤ limit → BeginsTooLong limit (held ++ piece) → ⊥
line_short held piece start end limit r solid few (ends, line, more, whole, skipped, inside, long) =
    let run = slice_range piece start end in
    let size = length_range piece start end r.within in
    let stops = stops_after (drop end piece) (λ h. r.ends (omega (arith, length-drop end piece))) in
    let begins : held ++ run ≡ [] → drop end piece ≡ [] =
    λ none. no_bytes (drop end piece) (elim (cases_lt end (length piece)) [
      | inl h ↦ absurd (omega (arith, r.some h, length-append held run, ap length none))
      | inr h ↦ omega (arith, length-drop end piece)
    ]) in
    let less = no_longer (take start piece) ends (held ++ run) (drop end piece) line more r.skipped skipped
    (all_joined (λ b. is_line_end b ≡ false) held run solid r.run) inside stops begins (sym (held_first held piece start end r) ∙ whole) in
    omega (arith, less, length-append held run)
