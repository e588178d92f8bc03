-- Each statement of a cut is a unit.
use Rattle.std.proofs.Common.{ℕ, Bool, true, false, cond, ◌+◌, List, [], ◌∷◌, length, filter}
use Rattle.std.specs.List.{AllByRecursion}
use Rattle.csa_cutting.specs.Cut.{TextUnit, IsUnit, Units, Statements, is_statement}

-- the bytes of a unit, whatever follows it
abbrev pub IsSomeUnit : TextUnit → Type 0
IsSomeUnit u = (following : List ℕ) × IsUnit u.bytes following

pub units_are : (offset : ℕ) (text : List ℕ) (us : List TextUnit) → Units offset text us → AllByRecursion IsSomeUnit us
units_are offset text [] h = tt
units_are offset text (u ∷ us) h = ((h.0, h.1.unit), units_are (u.offset + length u.bytes) h.0 us h.2)

kept_one : (b : Bool) (u : TextUnit) (us : List TextUnit) → IsSomeUnit u → AllByRecursion IsSomeUnit us → AllByRecursion IsSomeUnit (cond b (u ∷ us) us)
kept_one true u us h k = (h, k)
kept_one false u us h k = k

pub kept_units : (p : TextUnit → Bool) (us : List TextUnit) → AllByRecursion IsSomeUnit us → AllByRecursion IsSomeUnit (filter p us)
kept_units p [] h = tt
kept_units p (u ∷ us) h = kept_one (p u) u (filter p us) h.0 (kept_units p us h.1)

pub statements_are : (offset : ℕ) (text : List ℕ) (statements : List TextUnit) → Statements offset text statements → AllByRecursion IsSomeUnit statements
statements_are offset text statements cut = rw cut.kept (kept_units is_statement cut.units (units_are _ _ cut.units cut.cut))
