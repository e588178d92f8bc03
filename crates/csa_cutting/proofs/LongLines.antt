-- A line over the limit is found in pieces as in the whole.
use Rattle.std.proofs.Common.{◌≡◌, ℕ, ◌<◌, ◌⊎◌, true, false, List, [], ◌∷◌, ◌++◌, Some, None, Ok, length, take, drop, length-append, append_assoc, append-nil, arith, sym, ap, ◌∙◌, inl, inr}
use Rattle.std.proofs.lemmas.List.{take-append-drop}
use Rattle.std.proofs.Math.Seq.{take-length}
use Rattle.csa_cutting.specs.Lines.{is_line_end, AreLineEnds, HasNoLineEnd, BeginsWithLineEnd, IsNextLine, Lines}
use Rattle.csa_cutting.specs.LineCutting.{LineCutting, BeginsTooLong, HasLongLine, LineAnswer, LineStep, LinesAfter}
use Rattle.csa_cutting.proofs.LineCutting.{StopsLine, no_longer_run}
use Rattle.csa_cutting.proofs.LinesOnce.{lines_joined}

stops_at : (following : List ℕ) → BeginsWithLineEnd following → StopsLine following
stops_at [] h = tt
stops_at (b ∷ following) h = h

-- a long line is in the line that comes first, or after it
in_line : (limit : ℕ) (line following before long after : List ℕ) → HasNoLineEnd long → limit < length long → StopsLine following → line ++ following ≡ before ++ (long ++ after) → (limit < length line) ⊎ HasLongLine limit following
in_line limit [] following before long after solid more stops same = inr (before, long, after, same, solid, more)
in_line limit (l ∷ line) following [] long after solid more stops same =
    inl (omega (arith, more, no_longer_run (l ∷ line) following long after solid stops same))
in_line limit (l ∷ line) following (b ∷ before) long after solid more stops same =
    let rest : line ++ following ≡ before ++ (long ++ after) = cc in
    elim (in_line limit line following before long after solid more stops rest) [
      | inl h ↦ inl (omega (arith, h))
      | inr h ↦ inr h
    ]

-- line ends contain none
after_ends : (limit : ℕ) (ends bytes before long after : List ℕ) → AreLineEnds ends → HasNoLineEnd long → limit < length long → ends ++ bytes ≡ before ++ (long ++ after) → HasLongLine limit bytes
after_ends limit [] bytes before long after skipped solid more same = (before, long, after, same, solid, more)
after_ends limit (e ∷ ends) bytes [] [] after skipped solid more same = absurd (omega (arith, more))
after_ends limit (e ∷ ends) bytes [] (x ∷ long) after skipped solid more same =
    let here : e ≡ x = cc in
    let t : is_line_end e ≡ true = skipped.0 in
    let f : is_line_end e ≡ false = rw here solid.0 in
    absurd (cc)
after_ends limit (e ∷ ends) bytes (b ∷ before) long after skipped solid more same =
    let rest : ends ++ bytes ≡ before ++ (long ++ after) = cc in
    after_ends limit ends bytes before long after skipped.1 solid more rest

in_next : (limit : ℕ) (bytes line following : List ℕ) → IsNextLine bytes line following → HasLongLine limit bytes → (limit < length line) ⊎ HasLongLine limit following
in_next limit bytes line following n (before, long, after, whole, solid, more) =
    let (first, held, later, same, unbroken, over) = after_ends limit n.ends (line ++ following) before long after n.skipped solid more (sym n.whole ∙ whole) in
    in_line limit line following first held later unbroken over (stops_at following n.closed) same

in_rest : (limit : ℕ) (rest : List ℕ) → HasLongLine limit rest → limit < length rest
in_rest limit rest (before, long, after, whole, solid, more) =
    omega (arith, more, ap length whole, length-append before (long ++ after), length-append long after)

-- one of the lines is over the limit
abbrev OneIsLong : ℕ → List (List ℕ) → Type 0
OneIsLong limit [] = ⊥
OneIsLong limit (line ∷ lines) = (limit < length line) ⊎ OneIsLong limit lines

in_lines : (limit : ℕ) (bytes : List ℕ) (lines : List (List ℕ)) (rest : List ℕ) → Lines bytes lines rest → HasLongLine limit bytes → OneIsLong limit lines ⊎ (limit < length rest)
in_lines limit bytes [] rest (ends, whole, skipped, run) (before, long, after, same, solid, more) =
    inr (in_rest limit rest (after_ends limit ends rest before long after skipped solid more (sym whole ∙ same)))
in_lines limit bytes (line ∷ lines) rest (following, next, others) h =
    elim (in_next limit bytes line following next h) [
      | inl one ↦ inl (inl one)
      | inr later ↦ elim (in_lines limit following lines rest others later) [
        | inl one ↦ inl (inr one)
        | inr more ↦ inr more
      ]
    ]

further : (limit : ℕ) (front bytes : List ℕ) → HasLongLine limit bytes → HasLongLine limit (front ++ bytes)
further limit front bytes (before, long, after, whole, solid, more) =
    (front ++ before, long, after, ap (λ xs. front ++ xs) whole ∙ sym (append_assoc front before (long ++ after)), solid, more)

of_line : (limit : ℕ) (bytes line following : List ℕ) → IsNextLine bytes line following → limit < length line → HasLongLine limit bytes
of_line limit bytes line following n more = (n.ends, line, following, n.whole, n.run, more)

of_lines : (limit : ℕ) (bytes : List ℕ) (lines : List (List ℕ)) (rest : List ℕ) → Lines bytes lines rest → OneIsLong limit lines → HasLongLine limit bytes
of_lines limit bytes [] rest p h = absurd h
of_lines limit bytes (line ∷ lines) rest (following, next, others) (inl more) = of_line limit bytes line following next more
of_lines limit bytes (line ∷ lines) rest (following, next, others) (inr one) =
    let later = of_lines limit following lines rest others one in
    rw next.whole (further limit next.ends (line ++ following) (further limit line following later))

-- the rest is at the end of the bytes
rest_last : (bytes : List ℕ) (lines : List (List ℕ)) (rest : List ℕ) → Lines bytes lines rest → (front : List ℕ) × (bytes ≡ front ++ rest)
rest_last bytes [] rest (ends, whole, skipped, run) = (ends, whole)
rest_last bytes (line ∷ lines) rest (following, next, others) =
    let last = rest_last following lines rest others in
    let inner : line ++ following ≡ (line ++ last.0) ++ rest = ap (λ xs. line ++ xs) last.1 ∙ sym (append_assoc line last.0 rest) in
    (next.ends ++ (line ++ last.0), next.whole ∙ ap (λ xs. next.ends ++ xs) inner ∙ sym (append_assoc next.ends (line ++ last.0) rest))

begins_long : (limit : ℕ) (bytes : List ℕ) → BeginsTooLong limit bytes → HasLongLine limit bytes
begins_long limit bytes (ends, line, following, whole, skipped, run, more) = (ends, line, following, whole, run, more)

pub long_found : (limit : ℕ) (first piece : List ℕ) (lines : List (List ℕ)) (rest : List ℕ) → Lines first lines rest → BeginsTooLong limit (rest ++ piece) → HasLongLine limit (first ++ piece)
long_found limit first piece lines rest p h =
    let last = rest_last first lines rest p in
    let same : first ++ piece ≡ last.0 ++ (rest ++ piece) = ap (λ xs. xs ++ piece) last.1 ∙ append_assoc last.0 rest piece in
    rw same (further limit last.0 (rest ++ piece) (begins_long limit (rest ++ piece) h))

-- with the next bytes one of the lines before is long, or one that ends in them, or the new rest
in_step : (limit : ℕ) (a b : List (List ℕ)) → OneIsLong limit (a ++ b) → OneIsLong limit a ⊎ OneIsLong limit b
in_step limit [] b h = inr h
in_step limit (x ∷ a) b (inl more) = inl (inl more)
in_step limit (x ∷ a) b (inr h) =
    elim (in_step limit a b h) [
      | inl one ↦ inl (inr one)
      | inr one ↦ inr one
    ]

none_longer : (limit : ℕ) (first more : List ℕ) (lines ended : List (List ℕ)) (rest left : List ℕ) → Lines first lines rest → Lines (rest ++ more) ended left → (HasLongLine limit first → ⊥) → (OneIsLong limit ended → ⊥) → (limit < length left → ⊥) → HasLongLine limit (first ++ more) → ⊥
none_longer limit first more lines ended rest left p q few short small h =
    elim (in_lines limit (first ++ more) (lines ++ ended) left (lines_joined first more lines ended rest left p q) h) [
      | inl one ↦ elim (in_step limit lines ended one) [
        | inl before ↦ few (of_lines limit first lines rest p before)
        | inr now ↦ short now
      ]
      | inr over ↦ small over
    ]

begins_ended : (limit : ℕ) (held piece line : List ℕ) (n : ℕ) → Lines (held ++ take n piece) (line ∷ []) [] → limit < length line → BeginsTooLong limit (held ++ piece)
begins_ended limit held piece line n (following, next, others) more =
    let parts : held ++ piece ≡ (held ++ take n piece) ++ drop n piece =
    ap (λ xs. held ++ xs) (sym (take-append-drop n piece)) ∙ sym (append_assoc held (take n piece) (drop n piece)) in
    let whole : (next.ends ++ (line ++ following)) ++ drop n piece ≡ next.ends ++ (line ++ (following ++ drop n piece)) =
    append_assoc next.ends (line ++ following) (drop n piece) ∙ ap (λ xs. next.ends ++ xs) (append_assoc line following (drop n piece)) in
    (next.ends, line, following ++ drop n piece, parts ∙ ap (λ xs. xs ++ drop n piece) next.whole ∙ whole, next.skipped, next.run, more)

begins_open : (limit : ℕ) (bytes left : List ℕ) → Lines bytes [] left → limit < length left → BeginsTooLong limit bytes
begins_open limit bytes left (ends, whole, skipped, run) more =
    (ends, left, [], whole ∙ ap (λ xs. ends ++ xs) (sym (append-nil left)), skipped, run, more)

pub none_missed : (old new : LineCutting) (first piece : List ℕ) (lines : List (List ℕ)) (r : LineAnswer) → Lines first lines old.held → (HasLongLine old.limit first → ⊥) → (BeginsTooLong old.limit (old.held ++ piece) → ⊥) → LineStep old.held piece r → LinesAfter old piece (Ok r) new → HasLongLine old.limit (first ++ take r.0 piece) → ⊥
none_missed old new first piece lines (n, None) p few short step after =
    let all : take n piece ≡ piece = ap (λ k. take k piece) step.1 ∙ take-length piece in
    rw all (none_longer old.limit first piece lines [] old.held new.held p after.2 few (λ h. h) (λ h. short (begins_open old.limit (old.held ++ piece) new.held after.2 h)))
none_missed old new first piece lines (n, Some line) p few short step after =
    none_longer old.limit first (take n piece) lines (line.now ∷ []) old.held [] p step.1.1 few
    (λ h. elim h [
      | inl more ↦ short (begins_ended old.limit old.held piece line.now n step.1.1 more)
      | inr none ↦ none
    ])
    (λ h. absurd (omega (arith, h)))
