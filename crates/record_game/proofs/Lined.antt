-- Lines of items are cut into exactly these statements, and each spells its item.
use Rattle.std.proofs.Common.{◌≡◌, ℕ, ◌+◌, ◌≤◌, true, false, not, List, [], ◌∷◌, ◌++◌, length, filter, refl, sym, ap, append_assoc, subst}
use Rattle.std.specs.List.{AllByRecursion, AllZip, flat_map}
use Rattle.std.proofs.lemmas.List.{append-nil}
use Rattle.csa_cutting.specs.Cut.{TextUnit, IsGap, IsUnit, IsNext, Units, is_statement, begins_with, statement_bytes}
use Rattle.csa_text.specs.Saying.{Saying}
use Rattle.csa_text.specs.Spelling.{Spells}
use Rattle.csa_text.specs.Statements.{statement_of}
use Rattle.record_game.specs.Canon.{ended_line}
use Rattle.record_game.specs.Tells.{IsSpelt}

-- the line of an item is one unit and not a comment, is short, and spells the item
pub record IsItemLine (s : Saying) : Type 0 where
  pub unit : IsUnit (statement_of s) (10 ∷ [])
  pub spoken : begins_with 39 (statement_of s) ≡ false
  pub fits : length (statement_of s) ≤ 4096
  pub spells : Spells (statement_bytes (statement_of s)) s

abbrev pub units_of : ℕ → List Saying → List TextUnit
units_of offset [] = []
units_of offset (s ∷ ss) = record { offset = offset; bytes = statement_of s } ∷ units_of (offset + length (statement_of s) + 1) ss

ended_by : (line rest : List ℕ) → IsUnit line (10 ∷ []) → IsUnit line (10 ∷ rest)
ended_by [] rest h = h
ended_by (first ∷ bytes) rest h = h

next_line : (offset : ℕ) (gap line rest : List ℕ) → IsGap gap → IsUnit line (10 ∷ []) → IsNext offset (gap ++ ((line ++ 10 ∷ []) ++ rest)) (record { offset = offset + length gap; bytes = line }) (10 ∷ rest)
next_line offset gap line rest g l = record {
  gap = gap;
  whole = ap (λ xs. gap ++ xs) (append_assoc line (10 ∷ []) rest);
  separators = g;
  place = refl;
  unit = ended_by line rest l;
}

pub lines_cut : (offset : ℕ) (gap : List ℕ) (ss : List Saying) → IsGap gap → AllByRecursion IsItemLine ss → Units offset (gap ++ flat_map ended_line ss) (units_of (offset + length gap) ss)
lines_cut offset gap [] g h = subst IsGap (sym (append-nil gap)) g
lines_cut offset gap (s ∷ ss) g h = (
  10 ∷ flat_map ended_line ss,
  next_line offset gap (statement_of s) (flat_map ended_line ss) g h.0.unit,
  lines_cut (offset + length gap + length (statement_of s)) (10 ∷ []) ss (refl, tt) h.1,
)

pub all_statements : (offset : ℕ) (ss : List Saying) → AllByRecursion IsItemLine ss → units_of offset ss ≡ filter is_statement (units_of offset ss)
all_statements offset [] h = refl
all_statements offset (s ∷ ss) h =
    let u : TextUnit = record { offset = offset; bytes = statement_of s } in
    let says : is_statement u ≡ true = ap not h.0.spoken in
    rw says (ap (λ us. u ∷ us) (all_statements (offset + length (statement_of s) + 1) ss h.1))

pub units_spelt : (offset : ℕ) (ss : List Saying) → AllByRecursion IsItemLine ss → AllZip IsSpelt (units_of offset ss) ss
units_spelt offset [] h = tt
units_spelt offset (s ∷ ss) h = ((h.0.fits, h.0.spells), units_spelt (offset + length (statement_of s) + 1) ss h.1)
