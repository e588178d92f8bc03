-- A cutter that goes on holds no line that is too long.
use Rattle.std.proofs.Common.{◌≡◌, inl, inr, ℕ, ◌<◌, ◌≤◌, List, [], ◌∷◌, ◌++◌, length, take, drop, Option, None, Some, Ok, sym, ◌∙◌, ap, subst, arith, append-nil, append_assoc, take-append-drop}
use Rattle.std.proofs.lemmas.Bool.{cases_lt}
use Rattle.std.specs.Borrow.{Bor}
use Rattle.csa_cutting.specs.Lines.{Lines}
use Rattle.csa_cutting.specs.LineCutting.{LineCutting, BeginsTooLong, LineStep, LinesAfter}
use Rattle.record_commands.specs.IncomingPieces.{IsReading}
use Rattle.record_commands.proofs.LineReading.{rest_run}

at_most : (a b : ℕ) → (a < b → ⊥) → b ≤ a
at_most a b h = elim (cases_lt a b) [
  | inl less ↦ absurd (h less)
  | inr not ↦ omega arith
]

-- the front of the piece, and what is left of it
pub parted : (used piece : List ℕ) (k : ℕ) → (used ++ take k piece) ++ drop k piece ≡ used ++ piece
parted used piece k = append_assoc used (take k piece) (drop k piece) ∙ ap (λ xs. used ++ xs) (take-append-drop k piece)

-- a line that has ended at the front is no longer than the limit
line_short : (limit : ℕ) (bytes front after line : List ℕ) → bytes ≡ front ++ after → Lines front (line ∷ []) [] → (BeginsTooLong limit bytes → ⊥) → length line ≤ limit
line_short limit bytes front after line is (left, n, others) few = at_most limit (length line) (λ long.
    let whole : bytes ≡ n.ends ++ (line ++ (left ++ after)) =
    is ∙ ap (λ xs. xs ++ after) n.whole ∙ append_assoc n.ends (line ++ left) after ∙ ap (λ xs. n.ends ++ xs) (append_assoc line left after) in
    few (n.ends, line, left ++ after, whole, n.skipped, n.run, long))

-- nor is what is held of an unfinished one
pub held_short : (limit : ℕ) (bytes held : List ℕ) → Lines bytes [] held → (BeginsTooLong limit bytes → ⊥) → length held ≤ limit
held_short limit bytes held (ends, whole, skipped, run) few = at_most limit (length held) (λ long.
    few (ends, held, [], whole ∙ ap (λ xs. ends ++ xs) (sym (append-nil held)), skipped, run, long))

pub next_short : (old : LineCutting) (piece : List ℕ) (k : ℕ) (line : Bor (List ℕ)) → old.limit ≡ 65536 → (BeginsTooLong old.limit (old.held ++ piece) → ⊥)
    → LineStep old.held piece (k, Some line) → length line.now ≤ 65536
next_short old piece k line limit few step =
    subst (λ j. length line.now ≤ j) limit (line_short old.limit (old.held ++ piece) (old.held ++ take k piece) (drop k piece) line.now (sym (parted old.held piece k)) step.1.1 few)

-- a line that ended has no more bytes than the limit
pub ended_short : (old : LineCutting) (piece : List ℕ) (r : ℕ × Option (Bor (List ℕ))) (line : Bor (List ℕ))
    → r.1 ≡ Some line → IsReading old → (BeginsTooLong old.limit (old.held ++ piece) → ⊥) → LineStep old.held piece r → length line.now ≤ 65536
ended_short old piece r line is reading few step =
    next_short old piece r.0 line reading.limit few (subst (λ o. LineStep old.held piece (r.0, o)) is step)

-- nor has one that is unfinished
pub goes_on : (old new : LineCutting) (piece : List ℕ) (r : ℕ × Option (Bor (List ℕ)))
    → r.1 ≡ None → IsReading old → (BeginsTooLong old.limit (old.held ++ piece) → ⊥) → LinesAfter old piece (Ok r) new → IsReading new
goes_on old new piece r is reading few stepped =
    let after = subst (λ o. LinesAfter old piece (Ok (r.0, o)) new) is stepped in
    record {
      limit = after.0 ∙ reading.limit;
      run = rest_run (old.held ++ piece) [] new.held after.2;
      short = subst (λ j. length new.held ≤ j) reading.limit (held_short old.limit (old.held ++ piece) new.held after.2 few);
      sound = after.1;
    }
