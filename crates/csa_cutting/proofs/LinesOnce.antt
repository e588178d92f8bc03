-- The lines of bytes are one list, and the lines of two pieces are those of the whole.
use Rattle.std.proofs.Common.{◌≡◌, ℕ, ◌<◌, true, false, List, [], ◌∷◌, ◌++◌, length, append_assoc, arith, refl, sym, ap, ◌∙◌, subst}
use Rattle.csa_cutting.specs.Lines.{is_line_end, AreLineEnds, HasNoLineEnd, BeginsWithLineEnd, IsNextLine, Lines}
use Rattle.csa_cutting.proofs.Once.{Stops, same_front}
use Rattle.csa_cutting.proofs.LineCutting.{all_joined}

no_end : (b : ℕ) → is_line_end b ≡ false → is_line_end b ≡ true → ⊥
no_end b f t = cc

no_run : (b : ℕ) → is_line_end b ≡ true → is_line_end b ≡ false → ⊥
no_run b t f = cc

run_stops : (rest : List ℕ) → HasNoLineEnd rest → Stops is_line_end true rest
run_stops [] h = tt
run_stops (b ∷ rest) h = no_end b h.0

line_stops : (line following : List ℕ) → 0 < length line → HasNoLineEnd line → Stops is_line_end true (line ++ following)
line_stops [] following some h = absurd (omega arith)
line_stops (b ∷ line) following some h = no_end b h.0

end_stops : (following : List ℕ) → BeginsWithLineEnd following → Stops is_line_end false following
end_stops [] h = tt
end_stops (b ∷ following) h = no_run b h

has_end : (line following : List ℕ) → BeginsWithLineEnd following → HasNoLineEnd (line ++ following) → ⊥
has_end [] [] h k = h
has_end [] (b ∷ following) h k = no_run b h k.0
has_end (b ∷ line) following h k = has_end line following h k.1

unfinished : (bytes line following ends rest : List ℕ) → IsNextLine bytes line following → bytes ≡ ends ++ rest → AreLineEnds ends → HasNoLineEnd rest → ⊥
unfinished bytes line following ends rest n whole skipped run =
    let same = same_front is_line_end true ends n.ends rest (line ++ following) skipped n.skipped (run_stops rest run) (line_stops line following n.some n.run) (sym whole ∙ n.whole) in
    has_end line following n.closed (subst HasNoLineEnd same.1 run)

next_line_once : (bytes a b x y : List ℕ) → IsNextLine bytes a x → IsNextLine bytes b y → (a ≡ b) × (x ≡ y)
next_line_once bytes a b x y p q =
    let fronts = same_front is_line_end true p.ends q.ends (a ++ x) (b ++ y) p.skipped q.skipped
    (line_stops a x p.some p.run) (line_stops b y q.some q.run) (sym p.whole ∙ q.whole) in
    same_front is_line_end false a b x y p.run q.run (end_stops x p.closed) (end_stops y q.closed) fronts.1

pub lines_once : (bytes : List ℕ) (xs ys : List (List ℕ)) (r s : List ℕ) → Lines bytes xs r → Lines bytes ys s → (xs ≡ ys) × (r ≡ s)
lines_once bytes [] [] r s (e, whole, skipped, run) (f, other, jumped, on) =
    let same = same_front is_line_end true e f r s skipped jumped (run_stops r run) (run_stops s on) (sym whole ∙ other) in
    (refl, same.1)
lines_once bytes [] (y ∷ ys) r s (e, whole, skipped, run) q = absurd (unfinished bytes y q.0 e r q.1 whole skipped run)
lines_once bytes (x ∷ xs) [] r s p (f, other, jumped, on) = absurd (unfinished bytes x p.0 f s p.1 other jumped on)
lines_once bytes (x ∷ xs) (y ∷ ys) r s p q =
    let same = next_line_once bytes x y p.0 q.0 p.1 q.1 in
    let rest : Lines p.0 ys s = rw same.1 q.2 in
    let others = lines_once p.0 xs ys r s p.2 rest in
    (ap (λ (l : List ℕ). l ∷ xs) same.0 ∙ ap (λ (ls : List (List ℕ)). y ∷ ls) others.0, others.1)

goes_on : (following more : List ℕ) → BeginsWithLineEnd following → BeginsWithLineEnd (following ++ more)
goes_on [] more h = absurd h
goes_on (b ∷ following) more h = h

next_line_on : (bytes line following more : List ℕ) → IsNextLine bytes line following → IsNextLine (bytes ++ more) line (following ++ more)
next_line_on bytes line following more n = record {
  ends = n.ends;
  whole = ap (λ xs. xs ++ more) n.whole ∙ append_assoc n.ends (line ++ following) more ∙ ap (λ xs. n.ends ++ xs) (append_assoc line following more);
  skipped = n.skipped;
  some = n.some;
  run = n.run;
  closed = goes_on following more n.closed;
}

-- line ends before the bytes change nothing
after_ends : (ends bytes : List ℕ) (lines : List (List ℕ)) (rest : List ℕ) → AreLineEnds ends → Lines bytes lines rest → Lines (ends ++ bytes) lines rest
after_ends ends bytes [] rest h (e, whole, skipped, run) =
    (ends ++ e, ap (λ xs. ends ++ xs) whole ∙ sym (append_assoc ends e rest), all_joined (λ b. is_line_end b ≡ true) ends e h skipped, run)
after_ends ends bytes (line ∷ lines) rest h p =
    let n = p.1 in (
      p.0,
      record {
        ends = ends ++ n.ends;
        whole = ap (λ xs. ends ++ xs) n.whole ∙ sym (append_assoc ends n.ends (line ++ p.0));
        skipped = all_joined (λ b. is_line_end b ≡ true) ends n.ends h n.skipped;
        some = n.some;
        run = n.run;
        closed = n.closed;
      },
      p.2,
    )

pub lines_joined : (a b : List ℕ) (xs ys : List (List ℕ)) (r s : List ℕ) → Lines a xs r → Lines (r ++ b) ys s → Lines (a ++ b) (xs ++ ys) s
lines_joined a b [] ys r s (e, whole, skipped, run) q =
    let same : a ++ b ≡ e ++ (r ++ b) = ap (λ zs. zs ++ b) whole ∙ append_assoc e r b in
    rw same (after_ends e (r ++ b) ys s skipped q)
lines_joined a b (x ∷ xs) ys r s p q =
    (p.0 ++ b, next_line_on a x p.0 b p.1, lines_joined p.0 b xs ys r s p.2 q)
