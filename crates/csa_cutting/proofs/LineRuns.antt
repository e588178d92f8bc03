-- A whole run of a cutter of lines; and the statements of a source are unique.
use Rattle.std.proofs.Common.{◌≡◌, ℕ, ◌+◌, ◌↔◌, ◌⊎◌, Bool, true, false, List, [], ◌∷◌, ◌++◌, length, length-append, take, append_assoc, append-nil, Option, Some, None, Ok, IsErrOf, inl, inr, arith, refl, sym, ap, ◌∙◌, subst}
use Rattle.std.specs.Borrow.{Bor}
use Rattle.std.proofs.Math.Seq.{take-length}
use Rattle.csa_cutting.specs.Cut.{TextUnit}
use Rattle.csa_cutting.specs.Lines.{Lines, HasNoLineEnd}
use Rattle.csa_cutting.specs.LineCutting.{LineCutting, BeginsTooLong, HasLongLine, LineAnswer, LineStep, LinesAfter, LastLine}
use Rattle.csa_cutting.specs.PieceSteps.{IsNumbered}
use Rattle.csa_cutting.specs.WholeRun.{AreNumbered, AreStatementsOf, stated, all_stated, LineAnswers, all_taken, line_given, all_lines}
use Rattle.csa_cutting.specs.declared.cutter.Statement.{Statement}
use Rattle.csa_cutting.specs.declared.line.LineFault.TheVariants.{TooLong}
use Rattle.csa_cutting.proofs.LinesOnce.{lines_joined}
use Rattle.csa_cutting.proofs.LongLines.{long_found, none_missed}
use Rattle.csa_cutting.proofs.Once.{statements_once}

one_taken : (old new : LineCutting) (first piece : List ℕ) (lines : List (List ℕ)) (r : LineAnswer) → Lines first lines old.held → LineStep old.held piece r → LinesAfter old piece (Ok r) new → Lines (first ++ take r.0 piece) (lines ++ line_given r.1) new.held
one_taken old new first piece lines (n, None) p step after =
    let all : take n piece ≡ piece = ap (λ k. take k piece) step.1 ∙ take-length piece in
    rw all (lines_joined first piece lines [] old.held new.held p after.2)
one_taken old new first piece lines (n, Some line) p step after =
    let empty : new.held ≡ [] = after.2 in
    rw empty (lines_joined first (take n piece) lines (line.now ∷ []) old.held [] p step.1.1)

lines_stated : (steps : List (List ℕ × LineAnswer)) (first : List ℕ) (lines : List (List ℕ)) (old new : LineCutting) → Lines first lines old.held → (HasLongLine old.limit first → ⊥) → LineAnswers old steps new → Lines (first ++ all_taken steps) (lines ++ all_lines steps) new.held × (HasLongLine old.limit (first ++ all_taken steps) → ⊥)
lines_stated [] first lines old new p few r =
    let here : Lines first lines new.held = subst (λ (v : LineCutting). Lines first lines v.held) r p in (
      subst (λ t. Lines t (lines ++ []) new.held) (sym (append-nil first)) (subst (λ t. Lines first t new.held) (sym (append-nil lines)) here),
      subst (λ t. HasLongLine old.limit t → ⊥) (sym (append-nil first)) few,
    )
lines_stated (s ∷ steps) first lines old new p few (next, short, step, after, r) =
    let n = take s.1.0 s.0 in
    let limit : next.limit ≡ old.limit = after.0 in
    let none : HasLongLine old.limit (first ++ n) → ⊥ = none_missed old next first s.0 lines s.1 p few short step after in
    let all = lines_stated steps (first ++ n) (lines ++ line_given s.1.1) next new (one_taken old next first s.0 lines s.1 p step after) (subst (λ m. HasLongLine m (first ++ n) → ⊥) (sym limit) none) r in
    let text : (first ++ n) ++ all_taken steps ≡ first ++ (n ++ all_taken steps) = append_assoc first n (all_taken steps) in
    let list : (lines ++ line_given s.1.1) ++ all_lines steps ≡ lines ++ (line_given s.1.1 ++ all_lines steps) = append_assoc lines (line_given s.1.1) (all_lines steps) in (
      subst (λ t. Lines t (lines ++ (line_given s.1.1 ++ all_lines steps)) new.held) text (subst (λ t. Lines ((first ++ n) ++ all_taken steps) t new.held) list all.0),
      subst (λ t. HasLongLine old.limit t → ⊥) text (subst (λ m. HasLongLine m ((first ++ n) ++ all_taken steps) → ⊥) limit all.1),
    )

none_at_first : (limit : ℕ) → HasLongLine limit [] → ⊥
none_at_first limit (before, long, after, whole, solid, more) =
    let size : 0 ≡ length (before ++ (long ++ after)) = ap length whole in
    absurd (omega (arith, more, size, length-append before (long ++ after), length-append long after))

pub line_run : (steps : List (List ℕ × LineAnswer)) (old new : LineCutting) → old.held ≡ [] → LineAnswers old steps new → Lines (all_taken steps) (all_lines steps) new.held × (HasLongLine old.limit (all_taken steps) → ⊥)
line_run steps old new empty r =
    let start : Lines [] [] old.held = rw empty ([], refl, tt, tt) in
    lines_stated steps [] [] old new start (none_at_first old.limit) r

same_limit : (steps : List (List ℕ × LineAnswer)) (old new : LineCutting) → LineAnswers old steps new → new.limit ≡ old.limit
same_limit [] old new r = ap (λ (v : LineCutting). v.limit) (sym r)
same_limit (s ∷ steps) old new (next, short, step, after, r) = same_limit steps next new r ∙ after.0

pub line_run_long : (steps : List (List ℕ × LineAnswer)) (old new : LineCutting) (piece : List ℕ) → old.held ≡ [] → LineAnswers old steps new → BeginsTooLong new.limit (new.held ++ piece) → HasLongLine old.limit (all_taken steps ++ piece)
line_run_long steps old new piece empty r h =
    let limit = same_limit steps old new r in
    long_found old.limit (all_taken steps) piece (all_lines steps) new.held (line_run steps old new empty r).0 (subst (λ m. BeginsTooLong m (new.held ++ piece)) limit h)

rest_solid : (bytes : List ℕ) (lines : List (List ℕ)) (rest : List ℕ) → Lines bytes lines rest → HasNoLineEnd rest
rest_solid bytes [] rest p = p.3
rest_solid bytes (line ∷ lines) rest p = rest_solid p.0 lines rest p.2

-- LF ends what is unfinished
last_ended : (held : List ℕ) (last : Option (Bor (List ℕ))) → HasNoLineEnd held → LastLine held last → Lines (held ++ 10 ∷ []) (line_given last) []
last_ended held None solid empty = rw empty (10 ∷ [], refl, (refl, tt), tt)
last_ended held (Some line) solid (same, some) =
    rw same (10 ∷ [], record { ends = []; whole = refl; skipped = tt; some = some; run = solid; closed = refl }, (10 ∷ [], refl, (refl, tt), tt))

pub line_run_finished : (steps : List (List ℕ × LineAnswer)) (old new : LineCutting) (last : Option (Bor (List ℕ))) → old.held ≡ [] → LineAnswers old steps new → LastLine new.held last → Lines (all_taken steps ++ 10 ∷ []) (all_lines steps ++ line_given last) []
line_run_finished steps old new last empty r l =
    let so_far = (line_run steps old new empty r).0 in
    let solid = rest_solid (all_taken steps) (all_lines steps) new.held so_far in
    lines_joined (all_taken steps) (10 ∷ []) (all_lines steps) (line_given last) new.held [] so_far (last_ended new.held last solid l)

same_three : (a b c d : ℕ) (x y : List ℕ) → a ≡ b → c ≡ d → x ≡ y → (let u : ℕ × ℕ × List ℕ = (a, c, x) in let v : ℕ × ℕ × List ℕ = (b, d, y) in u ≡ v)
same_three a b c d x y p q r = rw (p, q, r) refl

same_stated : (n : ℕ) (u : TextUnit) (s t : Statement) → IsNumbered n u s → IsNumbered n u t → stated s ≡ stated t
same_stated n u s t h k = same_three s.number t.number s.offset t.offset s.bytes.now t.bytes.now (h.number_is ∙ sym k.number_is) (h.place ∙ sym k.place) (h.slice ∙ sym k.slice)

numbered_same : (n : ℕ) (us : List TextUnit) (ss ts : List Statement) → AreNumbered n us ss → AreNumbered n us ts → all_stated ss ≡ all_stated ts
numbered_same n [] [] [] h k = refl
numbered_same n [] [] (t ∷ ts) h k = absurd k
numbered_same n [] (s ∷ ss) ts h k = absurd h
numbered_same n (u ∷ us) [] ts h k = absurd h
numbered_same n (u ∷ us) (s ∷ ss) [] h k = absurd k
numbered_same n (u ∷ us) (s ∷ ss) (t ∷ ts) h k =
    ap (λ x. x ∷ all_stated ss) (same_stated n u s t h.0 k.0) ∙ ap (λ xs. stated t ∷ xs) (numbered_same (n + 1) us ss ts h.1 k.1)

pub stated_alike : (source : List ℕ) (a b : List Statement) → AreStatementsOf source a → AreStatementsOf source b → all_stated a ≡ all_stated b
stated_alike source a b (us, cut, h) (vs, other, k) =
    let same : vs ≡ us = statements_once _ _ vs us other cut in
    numbered_same 0 us a b h (subst (λ ws. AreNumbered 0 ws b) same k)

never_true : (b : Bool) → (b ≡ true → ⊥) → b ≡ false
never_true true h = absurd (h refl)
never_true false h = refl

pub line_step_whole : (old new : LineCutting) (piece : List ℕ) (answer : LineAnswer) → ((IsErrOf (Ok answer) TooLong ↔ ((old.failed ≡ true) ⊎ BeginsTooLong old.limit (old.held ++ piece))) × LineStep old.held piece answer × LinesAfter old piece (Ok answer) new) ↔ ((old.failed ≡ false) × LineAnswers old ((piece, answer) ∷ []) new)
line_step_whole old new piece answer = (
  λ h.
      let going : (old.failed ≡ true) ⊎ BeginsTooLong old.limit (old.held ++ piece) → ⊥ = λ long. let fault = h.0.1 long in cc in
      (never_true old.failed (λ t. going (inl t)), (new, λ long. going (inr long), h.1, h.2, refl)),
  λ (going, (next, short, step, after, last)).
      let never : (old.failed ≡ true) ⊎ BeginsTooLong old.limit (old.held ++ piece) → ⊥ = λ long. elim long [
        | inl t ↦ cc
        | inr begins ↦ short begins
      ] in
      ((λ fault. cc, λ long. absurd (never long)), step, subst (λ v. LinesAfter old piece (Ok answer) v) last after),
)
