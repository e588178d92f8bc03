-- What a line of the server spells, by what its cutter yields.
use Rattle.std.proofs.Common.{◌≡◌, ◌||◌, ◌==◌, ℕ, true, false, not, filter, List, [], ◌∷◌, ◌++◌, length, Option, Some, None, Ok, Err, ◌⊎◌, inl, inr, arith, refl, ap, subst}
use Rattle.std.proofs.lemmas.Bool.{cases_Bool}
use Rattle.std.proofs.lemmas.Bool.Decides.{Decides-eqb}
use Rattle.std.specs.List.{AllZip}
use Rattle.csa_cutting.proofs.Once.{statements_once}
use Rattle.csa_text.proofs.Sayings.{same_saying}
use Rattle.csa_cutting.specs.Cut.{TextUnit, IsCut, Units, IsGap, is_separator, IsUnit, is_statement, begins_with, statement_bytes}
use Rattle.csa_cutting.specs.Cutting.{Cutting, ToCome}
use Rattle.csa_text.specs.Saying.{Saying, walked, time, ending}
use Rattle.csa_text.specs.declared.fault.TextFault.{TextFault}
use Rattle.csa_record.specs.Game.{Ended}
use Rattle.csa_record.specs.Says.{time_items}
use Rattle.csa_record.specs.Tells.{IsSpelt}
use Rattle.shogi_board.specs.declared.color.Color.{Color}
use Rattle.shogi_board.specs.declared.moves.Move.{Move}
use Rattle.session_lines.proofs.OneStatement.{AtStart, whole}
use Rattle.session_lines.specs.MoveLines.{is_move_line}
use Rattle.shogi_session.specs.NextItems.{StepsOver, FaultAt, LastTime, IsEnding}
use Rattle.session_lines.specs.ServerLines.{IsLineOf, IsMove, IsTime, TellsEnding, UnitFault, too_long, unread, another, FirstTextFault, no_move, no_time, more}

-- 1. What is read
-- a statement, and then all that is left
pub then_last : (line : List ℕ) (c d : Cutting) (u : TextUnit) (s : Saying) (t : Option ℕ) → AtStart line c → IsSpelt u s → StepsOver c u d
    → LastTime d (Ok t) → IsLineOf line (s ∷ time_items t)
then_last line c d u s None start spelt leads last = (u ∷ [], whole line c (u ∷ []) start (leads [] last), (spelt, tt))
then_last line c d u s (Some t) start spelt leads last =
    (u ∷ last.0 ∷ [], whole line c (u ∷ last.0 ∷ []) start (leads (last.0 ∷ []) last.2), (spelt, (last.1, tt)))

-- 2. Faults
pub first_fault : (line : List ℕ) (c : Cutting) (fault : TextFault) → AtStart line c → FaultAt c IsMove fault → FirstTextFault line fault
first_fault line c fault start at = no_move at.0 at.1 (whole line c (at.0 ∷ at.1) start at.2) at.3

pub later_fault : (line : List ℕ) (c d : Cutting) (u : TextUnit) (color : Color) (m : Move) (fault : TextFault) → AtStart line c
    → IsSpelt u (walked color m) → StepsOver c u d → LastTime d (Err fault) → FirstTextFault line fault
later_fault line c d u color m fault start spelt leads (inl at) =
    no_time u at.0 at.1 color m (whole line c (u ∷ at.0 ∷ at.1) start (leads (at.0 ∷ at.1) at.2)) spelt at.3
later_fault line c d u color m fault start spelt leads (inr at) =
    more u at.0 at.1 at.2 color m at.3 (whole line c (u ∷ at.0 ∷ at.1 ∷ at.2) start (leads (at.0 ∷ at.1 ∷ at.2) at.4)) spelt at.5 at.6

-- 3. No ending
-- a statement with a fault spells nothing that is expected
not_wanted : (Wanted : Saying → Type 0) (u : TextUnit) (fault : TextFault) (s : Saying) → UnitFault Wanted u fault → Wanted s → IsSpelt u s → ⊥
not_wanted Wanted u fault s (too_long long e) wanted spelt = let short = spelt.0 in absurd (omega (arith, long, short))
not_wanted Wanted u fault s (unread short none e) wanted spelt = none s spelt.1
not_wanted Wanted u fault s (another other is unwanted e) wanted spelt =
    unwanted (subst Wanted (same_saying (statement_bytes u.bytes) s other spelt.1 is.1) wanted)

cut_same : (line : List ℕ) (us vs : List TextUnit) → IsCut line us → IsCut line vs → us ≡ vs
cut_same line us vs a b = statements_once _ _ us vs a b

-- the items that a line spells, if its statements are these
at_these : (line : List ℕ) (us : List TextUnit) (ss : List Saying) → IsCut line us → IsLineOf line ss → AllZip IsSpelt us ss
at_these line us ss cut stated = subst (λ vs. AllZip IsSpelt vs ss) (cut_same line stated.0 us stated.1 cut) stated.2

pub nothing_said : (line : List ℕ) (c : Cutting) → AtStart line c → ToCome c [] → (e : Ended) → TellsEnding line e → ⊥
nothing_said line c start end e stated = absurd (at_these line [] (ending e.ending ∷ time_items e.time) (whole line c [] start end) stated)

pub no_ending : (line : List ℕ) (c : Cutting) (fault : TextFault) → AtStart line c → FaultAt c IsEnding fault → (e : Ended) → TellsEnding line e → ⊥
no_ending line c fault start at e stated =
    let all = at_these line (at.0 ∷ at.1) (ending e.ending ∷ time_items e.time) (whole line c (at.0 ∷ at.1) start at.2) stated in
    not_wanted IsEnding at.0 fault (ending e.ending) at.3 (e.ending, refl) all.0

-- after the first statement, the items of a time
no_time_there : (v : TextUnit) (vs : List TextUnit) (fault : TextFault) (t : Option ℕ) → UnitFault IsTime v fault → AllZip IsSpelt (v ∷ vs) (time_items t) → ⊥
no_time_there v vs fault None at all = absurd all
no_time_there v vs fault (Some t) at all = not_wanted IsTime v fault (time t) at (t, refl) all.0

two_there : (v w : TextUnit) (vs : List TextUnit) (t : Option ℕ) → AllZip IsSpelt (v ∷ w ∷ vs) (time_items t) → ⊥
two_there v w vs None all = absurd all
two_there v w vs (Some t) all = absurd all.1

pub no_last_time : (line : List ℕ) (c d : Cutting) (u : TextUnit) (fault : TextFault) → AtStart line c → StepsOver c u d
    → LastTime d (Err fault) → (e : Ended) → TellsEnding line e → ⊥
no_last_time line c d u fault start leads (inl at) e stated =
    let cut = whole line c (u ∷ at.0 ∷ at.1) start (leads (at.0 ∷ at.1) at.2) in
    let all = at_these line (u ∷ at.0 ∷ at.1) (ending e.ending ∷ time_items e.time) cut stated in
    no_time_there at.0 at.1 fault e.time at.3 all.1
no_last_time line c d u fault start leads (inr at) e stated =
    let cut = whole line c (u ∷ at.0 ∷ at.1 ∷ at.2) start (leads (at.0 ∷ at.1 ∷ at.2) at.4) in
    let all = at_these line (u ∷ at.0 ∷ at.1 ∷ at.2) (ending e.ending ∷ time_items e.time) cut stated in
    two_there at.0 at.1 at.2 e.time all.1

-- 4. A line that begins with `+` or `-` has a statement
gap_none : (x : ℕ) (bs gap others : List ℕ) → is_separator x ≡ false → IsGap gap → x ∷ bs ≡ gap ++ others → gap ≡ []
gap_none x bs [] others s gap e = refl
gap_none x bs (g ∷ gs) others s gap e = let same : x ≡ g = cc in let separates = rw (← same) at gap.0 in absurd cc

unit_says : (x : ℕ) (bs bytes rest : List ℕ) → (x == 39) ≡ false → IsUnit bytes rest → x ∷ bs ≡ bytes ++ rest → not (begins_with 39 bytes) ≡ true
unit_says x bs [] rest n unit e = absurd unit
unit_says x bs (b ∷ bytes) rest n unit e = let same : x ≡ b = cc in rw (← same, n) refl

none_said : (x : ℕ) (bs : List ℕ) (units : List TextUnit) → is_separator x ≡ false → (x == 39) ≡ false → Units 0 (x ∷ bs) units → [] ≡ filter is_statement units → ⊥
none_said x bs [] s n cut kept = let separates = cut.0 in absurd cc
none_said x bs (u ∷ us) s n (following, next, rest) kept =
    let none = gap_none x bs next.gap (u.bytes ++ following) s next.separators next.whole in
    let front : x ∷ bs ≡ u.bytes ++ following = subst (λ g. x ∷ bs ≡ g ++ (u.bytes ++ following)) none next.whole in
    let says : is_statement u ≡ true = unit_says x bs u.bytes following n next.unit front in
    let k : [] ≡ u ∷ filter is_statement us = rw says at kept in
    absurd (omega (arith, ap length k))

sign_said : (x : ℕ) (bs : List ℕ) → (x ≡ 43) ⊎ (x ≡ 45) → IsCut (x ∷ bs) [] → ⊥
sign_said x bs (inl e) cut = let c : IsCut (43 ∷ bs) [] = subst (λ b. IsCut (b ∷ bs) []) e cut in none_said 43 bs c.units refl refl c.cut c.kept
sign_said x bs (inr e) cut = let c : IsCut (45 ∷ bs) [] = subst (λ b. IsCut (b ∷ bs) []) e cut in none_said 45 bs c.units refl refl c.cut c.kept

two_signs : (x : ℕ) → (x == 43 || x == 45) ≡ true → (x ≡ 43) ⊎ (x ≡ 45)
two_signs x h =
    elim (cases_Bool (x == 43)) [
      | inl t ↦ inl ((Decides-eqb x 43).0 t)
      | inr f ↦ inr ((Decides-eqb x 45).0 (rw f at h))
    ]

cut_of_signs : (line : List ℕ) → is_move_line line ≡ true → IsCut line [] → ⊥
cut_of_signs [] from cut = absurd cc
cut_of_signs (x ∷ bs) from cut = sign_said x bs (two_signs x from) cut

pub some_statement : (line : List ℕ) (c : Cutting) → AtStart line c → is_move_line line ≡ true → ToCome c [] → ⊥
some_statement line c start from end = cut_of_signs line from (whole line c [] start end)
