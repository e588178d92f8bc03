-- The first statement of a source, by what it holds as a piece.
use Rattle.std.proofs.Common.{◌≡◌, ℕ, ◌+◌, ◌-◌, ◌<◌, not, false, List, [], ◌∷◌, ◌++◌, length, drop, slice_range, sym, arith, refl, ap, subst}
use Rattle.csa_cutting.specs.Cut.{TextUnit, Statements}
use Rattle.csa_cutting.specs.Cutting.{IsStatementUnit, IsFirstStatement, unit_between}
use Rattle.csa_cutting.specs.PieceCutting.{Follows}
use Rattle.csa_cutting.specs.Places.{IsPart, IsFoundIn, kept_of}
use Rattle.csa_cutting.specs.declared.units.Found.TheVariants.{LeadsTo}
use Rattle.csa_cutting.specs.declared.units.Origin.{Origin}
use Rattle.csa_cutting.specs.declared.units.Origin.TheVariants.{EarlierPiece, ThisPiece}
use Rattle.csa_cutting.specs.declared.units.Place.{Place}
use Rattle.csa_cutting.specs.declared.units.Place.TheVariants.{Mark, Gap, Unit as InUnit, Comment}
use Rattle.std.proofs.lemmas.List.Folds.{drop_split}
use Rattle.csa_cutting.proofs.Finding.{unit_some}
use Rattle.csa_cutting.proofs.Fronts.{length_between}
use Rattle.csa_cutting.proofs.Runs.{statement_first}
use Rattle.csa_cutting.proofs.Leading.{nothing_left, comment_alone, to_whole}
use Rattle.csa_cutting.proofs.Passing.{statements_at, statements_of, unit_at, range_size}

none_kept : (origin : Origin) → kept_of origin [] ≡ []
none_kept EarlierPiece = refl
none_kept ThisPiece = refl

-- what follows a gap is the rest of the source
from_gap : (source : List ℕ) (from : ℕ) (others : List TextUnit) → Follows false from [] (drop from source) others → Statements from (drop from source) others
from_gap source from others s = statements_at (from - 0 + 0) from _ others (omega arith) s

pub first_statement : (source : List ℕ) (from start end : ℕ) (origin : Origin) → IsPart Gap [] source from origin start end → IsFirstStatement source from start end
first_statement source from start end origin p =
    let front = slice_range source from (end + 1) in
    let unit = slice_range source start (end + 1) in
    let more = drop (end + 1) source in
    let none = none_kept origin in
    let inner = p.unit.order in
    let size = range_size source from start (end + 1) p.order (omega arith) in
    let place = length_between source from start p.order (omega (arith, p.unit.order, p.unit.within)) in
    let all = drop_split source from (end + 1) (omega arith) in
    record {
      order = p.order;
      unit = subst (λ kept. IsStatementUnit kept source start end) none p.unit;
      first = λ others s.
          let here = statements_of start _ _ others (drop_split source start (end + 1) (omega arith)) s in
          let there : Statements (from + length front - length (kept_of origin [] ++ unit)) ((kept_of origin [] ++ unit) ++ more) others =
          rw none (statements_at start _ _ others (omega arith) here) in
          from_gap source from others (subst (λ text. Follows false from [] text others) (sym all) (p.passed from more others (omega arith) there));
    }

-- a unit has bytes
pub unit_has_some : (source : List ℕ) (start end : ℕ) → IsStatementUnit [] source start end → start < end
unit_has_some source start end h =
    let some = unit_some _ _ h.unit in
    let place = length_between source start end h.order h.within in
    omega arith

-- the unit is the first statement, and those after it follow
pub stated_first : (source : List ℕ) (from start end : ℕ) (others : List TextUnit) → IsFirstStatement source from start end → Statements end (drop end source) others → Statements from (drop from source) (unit_between source start end ∷ others)
stated_first source from start end others h s =
    let unit = h.unit in
    let following = drop end source in
    let place = length_between source start end unit.order unit.within in
    let next = unit_at start (slice_range source start end) following unit.unit in
    h.first (unit_between source start end ∷ others) (statements_of start _ _ _ (sym (drop_split source start end unit.order))
    (statement_first start (slice_range source start end ++ following) (unit_between source start end) following others next (ap not unit.spoken) (statements_at end _ _ others (omega arith) s)))

-- if the source holds no statement's unit, it has no statement
pub none_spoken : (source : List ℕ) (from : ℕ) (place : Place) → IsFoundIn Gap [] source from (LeadsTo place) → Statements from (drop from source) []
none_spoken source from Mark h = let e = h.0 in cc
none_spoken source from InUnit h = absurd h
none_spoken source from Gap h =
    from_gap source from [] (to_whole false from [] (drop from source) [] (h from [] [] (omega arith) (nothing_left _)))
none_spoken source from Comment h =
    from_gap source from [] (to_whole false from [] (drop from source) [] (h.1 from [] [] (omega arith) (comment_alone _)))
