-- Why the next item does not fit after the items before it.
use Rattle.std.specs.Prelude.{ℕ, ◌==◌, nat_le, nat_eq, not, Bool, true, false, List, [], ◌∷◌, length, filter, Option}
use Rattle.std.specs.Cmp.Lexicographic.{pointwise}
use Rattle.shogi_board.specs.Setup.{first_fault}
use Rattle.shogi_rules.specs.Positions.{max_moves}
use Rattle.csa_text.specs.Saying.{Saying, version, name, header, even, rank, pieces, turn, walked, time, ending}
use Rattle.record_game.specs.Limits.{most_headers}
use Rattle.record_game.specs.Items.{names, headers, is_even, ranks, positions, sides, moves, is_ending, body}
use Rattle.record_game.specs.declared.fault.OrderFault.{OrderFault}
use Rattle.record_game.specs.declared.fault.OrderFault.TheVariants.{VersionOutOfPlace, RepeatedName, RepeatedHeader, TooManyHeaders, MixedStart, PositionLate, MoveBeforeTurn, RepeatedTurn, LooseTime, AfterEnding, TooManyMoves}

-- the list is not empty
abbrev pub stands : {X : Type 0} → List X → Bool
stands [] = false
stands (x ∷ xs) = true

-- the headers with this key
abbrev pub headers_with_key : List ℕ → List Saying → List (List ℕ × List ℕ)
headers_with_key key sayings = filter (λ h. pointwise nat_eq h.0 key) (headers sayings)

abbrev pub endings : List Saying → List Saying
endings sayings = filter is_ending sayings

-- a move or an ending, which may have a time
abbrev pub may_have_time : Saying → Bool
may_have_time version = false
may_have_time (name color text) = false
may_have_time (header key text) = false
may_have_time (even pairs) = false
may_have_time (rank number cells) = false
may_have_time (pieces color pairs) = false
may_have_time (turn color) = false
may_have_time (walked color m) = true
may_have_time (time t) = false
may_have_time (ending e) = true

-- the last of these items may have a time
abbrev pub last_may_have_time : List Saying → Bool
last_may_have_time [] = false
last_may_have_time (s ∷ []) = may_have_time s
last_may_have_time (s ∷ t ∷ ss) = last_may_have_time (t ∷ ss)

-- the order faults of the next item, in the order in which they are looked for; an empty name or
-- text has none
abbrev pub order_faults : List Saying → Saying → List (OrderFault × Bool)
order_faults before version = (VersionOutOfPlace, stands before) ∷ []
order_faults before (name color []) = []
order_faults before (name color (b ∷ bs)) = (RepeatedName, stands (names color before)) ∷ []
order_faults before (header key []) = []
order_faults before (header key (b ∷ bs)) =
    (RepeatedHeader, stands (headers_with_key key before))
    ∷ (TooManyHeaders, nat_le most_headers (length (headers before))) ∷ []
order_faults before (even pairs) =
    (AfterEnding, stands (endings before)) ∷ (PositionLate, stands (sides before))
    ∷ (MixedStart, stands (positions before)) ∷ []
order_faults before (rank number cells) =
    (AfterEnding, stands (endings before)) ∷ (PositionLate, stands (sides before))
    ∷ (MixedStart, stands (filter is_even before))
    ∷ (MixedStart, stands (filter (λ n. n == number) (ranks before))) ∷ []
order_faults before (pieces color pairs) =
    (AfterEnding, stands (endings before)) ∷ (PositionLate, stands (sides before)) ∷ []
order_faults before (turn color) = (AfterEnding, stands (endings before))
    ∷ (RepeatedTurn, stands (sides before)) ∷ []
order_faults before (walked color m) =
    (AfterEnding, stands (endings before)) ∷ (MoveBeforeTurn, not (stands (sides before)))
    ∷ (TooManyMoves, nat_le max_moves (length (moves before))) ∷ []
order_faults before (time t) = (LooseTime, not (last_may_have_time (body before))) ∷ []
order_faults before (ending e) = (AfterEnding, stands (endings before))
    ∷ (MoveBeforeTurn, not (stands (sides before))) ∷ []

abbrev pub order_fault : List Saying → Saying → Option OrderFault
order_fault before saying = first_fault (order_faults before saying)
