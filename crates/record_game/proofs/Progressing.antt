-- A reader's parts return the answer to the next item.
use Rattle.std.proofs.Common.{◌≡◌, ℕ, Bool, true, List, [], ◌∷◌, ◌++◌, Option, None, Result, Ok, Err, refl, sym, ap, subst}
use Rattle.std.specs.Prelude.{OnOk, MatchResult}
use Rattle.shogi_board.specs.declared.color.Color.{Color}
use Rattle.shogi_board.specs.declared.kind.Piece.{Piece}
use Rattle.shogi_board.specs.Setup.{position_of}
use Rattle.shogi_board.specs.declared.moves.Move.{Move}
use Rattle.csa_text.specs.declared.ending.Ending.{Ending}
use Rattle.csa_text.specs.declared.pair.Pair.{Pair}
use Rattle.csa_text.specs.Saying.{Saying, name, header, even, rank, pieces, turn, walked, time, ending}
use Rattle.record_game.specs.declared.fault.Why.{Why}
use Rattle.record_game.specs.Answer.{IsAnswer}
use Rattle.record_game.specs.Course.{Course, PlayAnswers, close_fault, time_fault, with_time, with_ending, untimed}
use Rattle.record_game.specs.Items.{sides}
use Rattle.record_game.specs.Keeping.{Stage, laying, playing, Kept, HasKept}
use Rattle.record_game.specs.Taking.{TakenOrRefused}
use Rattle.record_game.specs.Laying.{Laid, Lays}
use Rattle.record_game.specs.Taking.{LaidOrRefused}
use Rattle.record_game.specs.Order.{endings}
use Rattle.record_game.specs.Refused.{Finishes}
use Rattle.record_game.specs.Titles.{Titled, name_fault, header_fault, with_name, IsWithHeader}
use Rattle.record_game.proofs.Answering.{name_step, header_step, even_step, rank_step, pieces_step, turn_taken, turn_refused, move_step, time_step, ending_step, is_laying, lays_now}

where_ok : {A : Type 0} (P Q : Type 0) (r : Result A Why) → (P → Q) → OnOk r P → OnOk r Q
where_ok P Q (Ok u) f h = f h
where_ok P Q (Err why) f h = tt

always_ok : {A : Type 0} (P : Type 0) (r : Result A Why) → P → OnOk r P
always_ok P (Ok u) h = h
always_ok P (Err why) h = tt

-- what is kept, from its parts
abbrev pub kept : Bool → Titled → Stage → Kept
kept b t g = record { begun = b; titles = t; stage = g }

pub take_name : (before : List Saying) (k : Kept) (t : Titled) (color : Color) (text : List ℕ) (result : Result (Unit {0}) Why) → HasKept before k → IsAnswer (name_fault k.titles color text) result → OnOk result (t ≡ with_name k.titles color text)
    → TakenOrRefused before (name color text) result (kept true t k.stage)
take_name before k t color text result h answer changed =
    name_step before k (kept true t k.stage) color text result h answer (where_ok _ _ result (λ e. ap (λ (u : Titled). kept true u k.stage) e) changed)

pub take_header : (before : List Saying) (k : Kept) (t : Titled) (key text : List ℕ) (result : Result (Unit {0}) Why) → HasKept before k → IsAnswer (header_fault k.titles key text) result → OnOk result (IsWithHeader k.titles key text t)
    → TakenOrRefused before (header key text) result (kept true t k.stage)
take_header before k t key text result h answer changed =
    header_step before k (kept true t k.stage) key text result h answer (where_ok _ _ result (λ with. (t, with, refl)) changed)

abbrev pub LaysNext : Laid → Saying → Result (Unit {0}) Why → Laid → Type 0
LaysNext l s result m = (before : List Saying) → Lays before l → sides before ≡ [] → endings before ≡ [] → LaidOrRefused before s result m

laid_next : (before : List Saying) (k : Kept) (l m : Laid) (s : Saying) (result : Result (Unit {0}) Why) → HasKept before k → k.stage ≡ laying l → LaysNext l s result m → LaidOrRefused before s result m
laid_next before k l m s result h is next = let none = is_laying before k l h is in next before (lays_now before k l h is) none.sides none.endings

pub take_even : (before : List Saying) (k : Kept) (l m : Laid) (pairs : List Pair) (result : Result (Unit {0}) Why) → HasKept before k → k.stage ≡ laying l → LaysNext l (even pairs) result m → TakenOrRefused before (even pairs) result (kept true k.titles (laying m))
take_even before k l m pairs result h is next =
    even_step before k (kept true k.titles (laying m)) l m pairs result h is (laid_next before k l m (even pairs) result h is next) (always_ok _ result refl)

pub take_rank : (before : List Saying) (k : Kept) (l m : Laid) (number : ℕ) (cells : List (Option Piece)) (result : Result (Unit {0}) Why) → HasKept before k → k.stage ≡ laying l → LaysNext l (rank number cells) result m → TakenOrRefused before (rank number cells) result (kept true k.titles (laying m))
take_rank before k l m number cells result h is next =
    rank_step before k (kept true k.titles (laying m)) l m number cells result h is (laid_next before k l m (rank number cells) result h is next) (always_ok _ result refl)

pub take_pieces : (before : List Saying) (k : Kept) (l m : Laid) (color : Color) (pairs : List Pair) (result : Result (Unit {0}) Why) → HasKept before k → k.stage ≡ laying l → LaysNext l (pieces color pairs) result m → TakenOrRefused before (pieces color pairs) result (kept true k.titles (laying m))
take_pieces before k l m color pairs result h is next =
    pieces_step before k (kept true k.titles (laying m)) l m color pairs result h is (laid_next before k l m (pieces color pairs) result h is next) (always_ok _ result refl)

-- what is played from the start with that side to move, or why it cannot be
abbrev pub IsCourseFrom : Laid → Color → Result Course Why → Type 0
IsCourseFrom l side result = MatchResult result
    (λ c. Finishes (Ok l.layout) side None × (c ≡ record { start = position_of l.layout side; moves = []; ending = None }))
    (λ why. (answer : Option Why) × Finishes (Ok l.layout) side answer × IsAnswer answer (Err why))

pub take_turn : (before : List Saying) (k : Kept) (l : Laid) (c : Course) (color : Color) → HasKept before k → k.stage ≡ laying l → IsCourseFrom l color (Ok c) → TakenOrRefused before (turn color) (Ok tt) (kept true k.titles (playing c))
take_turn before k l c color h is started = turn_taken before k (kept true k.titles (playing c)) l c color h is started.0 started.1 refl

pub refuse_turn : (before : List Saying) (k new : Kept) (l : Laid) (color : Color) (why : Why) → HasKept before k → k.stage ≡ laying l → IsCourseFrom l color (Err why) → TakenOrRefused before (turn color) (Err why) new
refuse_turn before k new l color why h is started = turn_refused before k new l color started.0 why h is started.1 started.2

pub take_move : (before : List Saying) (k : Kept) (c d : Course) (color : Color) (m : Move) (result : Result (Unit {0}) Why) → HasKept before k → k.stage ≡ playing c → ((answer : Option Why) × PlayAnswers c color m answer × IsAnswer answer result)
    → OnOk result (d ≡ record c { moves = c.moves ++ untimed m ∷ [] }) → TakenOrRefused before (walked color m) result (kept true k.titles (playing d))
take_move before k c d color m result h is answered changed =
    move_step before k (kept true k.titles (playing d)) c color m answered.0 result h is answered.1 answered.2
    (where_ok _ _ result (λ e. ap (λ (x : Course). kept true k.titles (playing x)) e) changed)

pub take_time : (before : List Saying) (k : Kept) (c d : Course) (n : ℕ) (result : Result (Unit {0}) Why) → HasKept before k → k.stage ≡ playing c → IsAnswer (time_fault c) result
    → OnOk result (d ≡ with_time c n) → TakenOrRefused before (time n) result (kept true k.titles (playing d))
take_time before k c d n result h is answer changed =
    time_step before k (kept true k.titles (playing d)) c n result h is answer (where_ok _ _ result (λ e. ap (λ (x : Course). kept true k.titles (playing x)) e) changed)

pub take_ending : (before : List Saying) (k : Kept) (c d : Course) (e : Ending) (result : Result (Unit {0}) Why) → HasKept before k → k.stage ≡ playing c → IsAnswer (close_fault c) result
    → OnOk result (d ≡ with_ending c e) → TakenOrRefused before (ending e) result (kept true k.titles (playing d))
take_ending before k c d e result h is answer changed =
    ending_step before k (kept true k.titles (playing d)) c e result h is answer (where_ok _ _ result (λ p. ap (λ (x : Course). kept true k.titles (playing x)) p) changed)

-- over what a reader keeps now
pub as_kept : (before : List Saying) (k now : Kept) → k ≡ now → HasKept before now → HasKept before k
as_kept before k now is h = subst (HasKept before) (sym is) h
