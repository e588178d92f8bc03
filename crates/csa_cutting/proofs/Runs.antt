-- The statements of a text: from one unit to the next, and that each text has them.
use Rattle.std.proofs.Common.{◌≡◌, ℕ, zero, suc, ◌+◌, ◌<◌, ◌≤◌, true, false, List, [], ◌∷◌, filter, length, take, drop, get_or, slice_range, length-drop, arith, refl, ap, ◌∙◌, subst, inl, inr, ◌⊎◌}
use Rattle.std.proofs.lemmas.Bool.{cases_lt, cases_Bool}
use Rattle.std.proofs.lemmas.List.Sums.{prefix_len-le-length}
use Rattle.std.proofs.Math.Seq.{take-length}
use Rattle.std.specs.List.{prefix_len, position_or_len}
use Rattle.csa_cutting.specs.Cut.{TextUnit, IsNext, IsGap, Statements, is_statement, is_separator, is_end}
use Rattle.csa_cutting.proofs.Fronts.{gap_front, next_place}

kept_first : (u : TextUnit) (others units : List TextUnit) → is_statement u ≡ true → others ≡ filter is_statement units → u ∷ others ≡ filter is_statement (u ∷ units)
kept_first u others units says same = rw says (ap (λ us. u ∷ us) same)

dropped_first : (u : TextUnit) (others units : List TextUnit) → is_statement u ≡ false → others ≡ filter is_statement units → others ≡ filter is_statement (u ∷ units)
dropped_first u others units silent same = rw silent same

pub no_statements : (offset : ℕ) (text : List ℕ) → IsGap text → Statements offset text []
no_statements offset text gap = record { units = []; cut = gap; kept = refl }

pub statement_first : (offset : ℕ) (text : List ℕ) (u : TextUnit) (following : List ℕ) (others : List TextUnit) → IsNext offset text u following → is_statement u ≡ true → Statements (u.offset + length u.bytes) following others → Statements offset text (u ∷ others)
statement_first offset text u following others next says rest =
    record { units = u ∷ rest.units; cut = (following, next, rest.cut); kept = kept_first u others rest.units says rest.kept }

pub comment_first : (offset : ℕ) (text : List ℕ) (u : TextUnit) (following : List ℕ) (others : List TextUnit) → IsNext offset text u following → is_statement u ≡ false → Statements (u.offset + length u.bytes) following others → Statements offset text others
comment_first offset text u following others next silent rest =
    record { units = u ∷ rest.units; cut = (following, next, rest.cut); kept = dropped_first u others rest.units silent rest.kept }

-- a unit, and less of the text after it
record Step (offset : ℕ) (text : List ℕ) : Type 0 where
  unit : TextUnit
  following : List ℕ
  next : IsNext offset text unit following
  less : length following < length text

gap_or_step : (offset : ℕ) (text : List ℕ) → IsGap text ⊎ Step offset text
gap_or_step offset text =
    let g = prefix_len is_separator text in
    let within : g ≤ length text = prefix_len-le-length is_separator text in
    elim (cases_lt g (length text)) [
      | inl h ↦
          let m = position_or_len (is_end (get_or text (0 + g) 0)) (drop (0 + g + 1) text) in
          inr (record {
            unit = record { offset = offset + g; bytes = slice_range text (0 + g) (0 + g + 1 + m) };
            following = drop (0 + g + 1 + m) text;
            next = next_place offset text 0 g m refl (omega arith) refl;
            less = omega (arith, length-drop (0 + g + 1 + m) text);
          })
      | inr h ↦ let all : g ≡ length text = omega arith in inl (subst IsGap (ap (λ n. take n text) all ∙ take-length text) (gap_front text))
    ]

-- the statements of a text of at most this many bytes
found_within : (n : ℕ) (offset : ℕ) (text : List ℕ) → length text ≤ n → (statements : List TextUnit) × Statements offset text statements
found_within zero offset text few =
    elim (gap_or_step offset text) [
      | inl gap ↦ ([], no_statements offset text gap)
      | inr step ↦ absurd (omega (arith, step.less))
    ]
found_within (suc n) offset text few =
    elim (gap_or_step offset text) [
      | inl gap ↦ ([], no_statements offset text gap)
      | inr step ↦
          let rest = found_within n (step.unit.offset + length step.unit.bytes) step.following (omega (arith, step.less)) in
          elim (cases_Bool (is_statement step.unit)) [
            | inl says ↦ (step.unit ∷ rest.0, statement_first offset text step.unit step.following rest.0 step.next says rest.1)
            | inr silent ↦ (rest.0, comment_first offset text step.unit step.following rest.0 step.next silent rest.1)
          ]
    ]

-- each text has its statements
pub found : (offset : ℕ) (text : List ℕ) → (statements : List TextUnit) × Statements offset text statements
found offset text = found_within (length text) offset text (omega arith)
