-- How the next item is answered, depending on what is kept.
use Rattle.std.proofs.Common.{◌≡◌, ℕ, ◌==◌, Bool, true, false, List, [], ◌∷◌, ◌++◌, length, map, Option, Some, None, Result, Ok, Err, refl, sym, ap, ◌∙◌, subst, inl, inr}
use Rattle.std.specs.Prelude.{filter, is_some, nat_le, OnOk, if◌then◌else◌}
use Rattle.std.specs.List.{AllByRecursion}
use Rattle.std.specs.Option.{option_to_list}
use Rattle.std.proofs.lemmas.Bool.{eqb-true}
use Rattle.std.proofs.lemmas.List.{length-map}
use Rattle.shogi_board.specs.declared.color.Color.{Color}
use Rattle.shogi_board.specs.declared.color.Color.TheVariants.{Black, White}
use Rattle.shogi_board.specs.declared.kind.Piece.{Piece}
use Rattle.shogi_board.specs.Setup.{position_of, first_fault}
use Rattle.shogi_board.specs.declared.moves.Move.{Move}
use Rattle.shogi_rules.specs.declared.line.PlayFault.{PlayFault}
use Rattle.shogi_rules.specs.declared.line.PlayFault.TheVariants as faults
use Rattle.shogi_rules.specs.Play as plays
use Rattle.shogi_rules.specs.Positions.{Played, position_after, now_of}
use Rattle.shogi_rules.specs.Rules as rules
use Rattle.shogi_board.specs.Rules.{all_rules, IsFirstBroken}
use Rattle.csa_text.specs.declared.ending.Ending.{Ending}
use Rattle.csa_text.specs.declared.pair.Pair.{Pair}
use Rattle.csa_text.specs.Saying.{Saying, version, name, header, even, rank, pieces, turn, walked, time, ending}
use Rattle.record_game.specs.declared.fault.OrderFault.{OrderFault}
use Rattle.record_game.specs.declared.fault.OrderFault.TheVariants.{VersionOutOfPlace, RepeatedName, RepeatedHeader, TooManyHeaders, MixedStart, PositionLate, MoveBeforeTurn, RepeatedTurn, LooseTime, AfterEnding, TooManyMoves}
use Rattle.record_game.specs.declared.fault.Why.{Why}
use Rattle.record_game.specs.declared.fault.Why.TheVariants.{Order}
use Rattle.record_game.specs.Answer.{IsAnswer}
use Rattle.record_game.specs.Course.{Course, course_line, play_fault, PlayAnswers, PlayAnswersAfter, close_fault, time_fault, with_time, awaits_time}
use Rattle.record_game.specs.Game.{Ended, move_of}
use Rattle.record_game.specs.Items.{names, headers, is_even, ranks, positions, sides, moves, body}
use Rattle.record_game.specs.Keeping.{laying, playing, Kept, HasKept, KeepsStage}
use Rattle.record_game.specs.Taking.{TakenOrRefused}
use Rattle.record_game.specs.Laying.{Laid, Lays}
use Rattle.record_game.specs.Taking.{LaidOrRefused}
use Rattle.record_game.specs.Order.{stands, order_fault, order_faults, endings, last_may_have_time}
use Rattle.record_game.specs.Outcome.{late}
use Rattle.record_game.specs.Refused.{AnswersItem, AnswersAfter, AnswersInOrder, Finishes, IsLineOf, IsJudged}
use Rattle.record_game.specs.Titles.{Titled, name_of, name_fault, header_fault, with_name, IsWithHeader, under}
use Rattle.record_game.proofs.Headers.{as_many, same_keys}
use Rattle.record_game.proofs.Keeping.{with_version, with_name_kept, with_no_name, with_no_header, with_header, with_even, with_rank, with_pieces, with_turn, with_walked, with_ending, with_time_kept}
use Rattle.record_game.proofs.Played.{laying_body, playing_body, IsLaying, IsPlaying}

-- an item in order is answered by this, any other by the first order fault
in_order : (before : List Saying) (s : Saying) (answer : Option Why) → order_fault before s ≡ None → AnswersInOrder before s answer → AnswersItem before s answer
in_order before s answer none h = subst (λ f. AnswersAfter f before s answer) (sym none) h

out_of_order : (before : List Saying) (s : Saying) (fault : OrderFault) → order_fault before s ≡ Some fault → AnswersItem before s (Some (Order fault))
out_of_order before s fault is = subst (λ f. AnswersAfter f before s (Some (Order fault))) (sym is) refl

taken_by : (before : List Saying) (s : Saying) (fault : Option OrderFault) → AnswersAfter fault before s None → fault ≡ None
taken_by before s None h = refl
taken_by before s (Some fault) h = cc

-- what is taken has no order fault
pub taken_in_order : (before : List Saying) (s : Saying) → AnswersItem before s None → order_fault before s ≡ None
taken_in_order before s h = taken_by before s (order_fault before s) h

none_first : (b : Bool) (fault : OrderFault) (rest : List (OrderFault × Bool)) → first_fault ((fault, b) ∷ rest) ≡ None → (b ≡ false) × (first_fault rest ≡ None)
none_first true fault rest h = cc
none_first false fault rest h = (refl, h)

-- no test of these holds
none_hold : (fs : List (OrderFault × Bool)) → first_fault fs ≡ None → AllByRecursion (λ (f : OrderFault × Bool). f.1 ≡ false) fs
none_hold [] h = tt
none_hold (f ∷ fs) h = let both = none_first f.1 f.0 fs h in (both.0, none_hold fs both.1)

refused : (before : List Saying) (s : Saying) (fault : OrderFault) (new : Kept) → order_fault before s ≡ Some fault → TakenOrRefused before s (Err (Order fault)) new
refused before s fault new is = (Some (Order fault), out_of_order before s fault is, refl, tt)

-- versions
pub version_taken : (before : List Saying) (k : Kept) → HasKept before k → k.begun ≡ false → TakenOrRefused before version (Ok tt) (record k { begun = true })
version_taken before k h none =
    let first : stands before ≡ false = sym h.begun ∙ none in
    (None, in_order before version None (rw first refl) refl, tt, with_version before k first h)

pub version_refused : (before : List Saying) (k new : Kept) → HasKept before k → k.begun ≡ true → TakenOrRefused before version (Err (Order VersionOutOfPlace)) new
version_refused before k new h some = refused before version VersionOutOfPlace new (rw (sym h.begun ∙ some) refl)

-- names
names_stand : (ns : List (List ℕ)) (o : Option (List ℕ)) → ns ≡ option_to_list o → stands ns ≡ is_some o
names_stand ns None h = ap stands h
names_stand ns (Some t) h = ap stands h

has_name : (before : List Saying) (k : Kept) (color : Color) → HasKept before k → stands (names color before) ≡ is_some (name_of k.titles color)
has_name before k Black h = names_stand (names Black before) k.titles.black h.black
has_name before k White h = names_stand (names White before) k.titles.white h.white

-- one test
by_one : (b c : Bool) (fault : OrderFault) (before : List Saying) (s : Saying) → order_fault before s ≡ first_fault ((fault, b) ∷ []) → b ≡ c → AnswersInOrder before s None → AnswersItem before s (if c then Some (Order fault) else None)
by_one true true fault before s is same h = out_of_order before s fault is
by_one true false fault before s is same h = cc
by_one false true fault before s is same h = cc
by_one false false fault before s is same h = in_order before s None is h

name_kept : (before : List Saying) (k : Kept) (color : Color) (text : List ℕ) (b : ℕ) (bs : List ℕ) → text ≡ b ∷ bs → is_some (name_of k.titles color) ≡ false → HasKept before k → HasKept (before ++ name color text ∷ []) (record k { begun = true; titles = with_name k.titles color text })
name_kept before k Black text b bs is none h = with_name_kept before k Black text b bs is (λ _. none) (λ e. cc) h
name_kept before k White text b bs is none h = with_name_kept before k White text b bs is (λ e. cc) (λ _. none) h

-- Ok is returned only if there is no fault
no_fault : (answer : Option Why) → IsAnswer answer (Ok tt) → answer ≡ None
no_fault None h = refl
no_fault (Some why) h = absurd h

test_fails : (b : Bool) (why : Why) → (if b then Some why else None) ≡ None → b ≡ false
test_fails true why h = cc
test_fails false why h = refl

pub name_step : (before : List Saying) (k new : Kept) (color : Color) (text : List ℕ) (result : Result (Unit {0}) Why) → HasKept before k → IsAnswer (name_fault k.titles color text) result
    → OnOk result (new ≡ record k { begun = true; titles = with_name k.titles color text }) → TakenOrRefused before (name color text) result new
name_step before k new color [] (Ok u) h answer is = (None, refl, tt, subst (HasKept (before ++ name color [] ∷ [])) (sym is) (with_no_name before k color h))
name_step before k new color [] (Err why) h answer is = (None, refl, answer, tt)
name_step before k new color (b ∷ bs) (Ok u) h answer is =
    let none = test_fails (is_some (name_of k.titles color)) (Order RepeatedName) (no_fault (name_fault k.titles color (b ∷ bs)) answer) in (
      name_fault k.titles color (b ∷ bs),
      by_one (stands (names color before)) (is_some (name_of k.titles color)) RepeatedName before (name color (b ∷ bs)) refl (has_name before k color h) refl,
      answer,
      subst (HasKept (before ++ name color (b ∷ bs) ∷ [])) (sym is) (name_kept before k color (b ∷ bs) b bs refl none h),
    )
name_step before k new color (b ∷ bs) (Err why) h answer is = (
  name_fault k.titles color (b ∷ bs),
  by_one (stands (names color before)) (is_some (name_of k.titles color)) RepeatedName before (name color (b ∷ bs)) refl (has_name before k color h) refl,
  answer,
  tt,
)

-- headers
by_two : (a b c d : Bool) (f g : OrderFault) (before : List Saying) (s : Saying) → order_fault before s ≡ first_fault ((f, a) ∷ (g, b) ∷ []) → a ≡ c → b ≡ d → AnswersInOrder before s None
    → AnswersItem before s (if c then Some (Order f) else if d then Some (Order g) else None)
by_two true b true d f g before s is same other h = out_of_order before s f is
by_two true b false d f g before s is same other h = cc
by_two false b true d f g before s is same other h = cc
by_two false b false d f g before s is same other h = by_one b d g before s is other h

header_answers : (before : List Saying) (k : Kept) (key : List ℕ) (b : ℕ) (bs : List ℕ) → HasKept before k → AnswersItem before (header key (b ∷ bs)) (header_fault k.titles key (b ∷ bs))
header_answers before k key b bs h =
    by_two _ _ (stands (under key k.titles.headers)) (nat_le 64 (length k.titles.headers)) RepeatedHeader TooManyHeaders before (header key (b ∷ bs)) refl
    (same_keys key (headers before) k.titles.headers h.headers) (ap (nat_le 64) (as_many (headers before) k.titles.headers h.headers)) refl

pub header_step : (before : List Saying) (k new : Kept) (key text : List ℕ) (result : Result (Unit {0}) Why) → HasKept before k → IsAnswer (header_fault k.titles key text) result
    → OnOk result ((t : Titled) × IsWithHeader k.titles key text t × (new ≡ record k { begun = true; titles = t })) → TakenOrRefused before (header key text) result new
header_step before k new key [] (Ok u) h answer (t, same, is) =
    (None, refl, tt, subst (HasKept (before ++ header key [] ∷ [])) (sym (is ∙ ap (λ (x : Titled). record k { begun = true; titles = x }) same)) (with_no_header before k key h))
header_step before k new key [] (Err why) h answer is = (None, refl, answer, tt)
header_step before k new key (b ∷ bs) (Ok u) h answer (t, with, is) = (
  header_fault k.titles key (b ∷ bs),
  header_answers before k key b bs h,
  answer,
  subst (HasKept (before ++ header key (b ∷ bs) ∷ [])) (sym is) (with_header before k key b bs t with h),
)
header_step before k new key (b ∷ bs) (Err why) h answer is = (header_fault k.titles key (b ∷ bs), header_answers before k key b bs h, answer, tt)

-- position statements, while the start is laid out
pub even_step : (before : List Saying) (k new : Kept) (l m : Laid) (pairs : List Pair) (result : Result (Unit {0}) Why) → HasKept before k → k.stage ≡ laying l → LaidOrRefused before (even pairs) result m
    → OnOk result (new ≡ record k { begun = true; stage = laying m }) → TakenOrRefused before (even pairs) result new
even_step before k new l m pairs (Err why) h is (answer, answers, is_answer, lays) same = (answer, answers, is_answer, tt)
even_step before k new l m pairs (Ok u) h is (answer, answers, is_answer, lays) same =
    let none = taken_in_order before (even pairs) (subst (AnswersItem before (even pairs)) (no_fault answer is_answer) answers) in
    let all = none_hold (order_faults before (even pairs)) none in
    (answer, answers, is_answer, subst (HasKept (before ++ even pairs ∷ [])) (sym same) (with_even before pairs k l m is all.1.1.0 lays h))

pub rank_step : (before : List Saying) (k new : Kept) (l m : Laid) (number : ℕ) (cells : List (Option Piece)) (result : Result (Unit {0}) Why) → HasKept before k → k.stage ≡ laying l → LaidOrRefused before (rank number cells) result m
    → OnOk result (new ≡ record k { begun = true; stage = laying m }) → TakenOrRefused before (rank number cells) result new
rank_step before k new l m number cells (Err why) h is (answer, answers, is_answer, lays) same = (answer, answers, is_answer, tt)
rank_step before k new l m number cells (Ok u) h is (answer, answers, is_answer, lays) same =
    let none = taken_in_order before (rank number cells) (subst (AnswersItem before (rank number cells)) (no_fault answer is_answer) answers) in
    let all = none_hold (order_faults before (rank number cells)) none in (
      answer,
      answers,
      is_answer,
      subst (HasKept (before ++ rank number cells ∷ [])) (sym same)
          (with_rank before number cells k l m is all.1.1.0 all.1.1.1.0 (λ other hit. eqb-true number other hit) lays h),
    )

pub pieces_step : (before : List Saying) (k new : Kept) (l m : Laid) (color : Color) (pairs : List Pair) (result : Result (Unit {0}) Why) → HasKept before k → k.stage ≡ laying l → LaidOrRefused before (pieces color pairs) result m
    → OnOk result (new ≡ record k { begun = true; stage = laying m }) → TakenOrRefused before (pieces color pairs) result new
pieces_step before k new l m color pairs (Err why) h is (answer, answers, is_answer, lays) same = (answer, answers, is_answer, tt)
pieces_step before k new l m color pairs (Ok u) h is (answer, answers, is_answer, lays) same =
    (answer, answers, is_answer, subst (HasKept (before ++ pieces color pairs ∷ [])) (sym same) (with_pieces before color pairs k l m is lays h))

-- the items while the start is laid out, and from the side to move on
pub is_laying : (before : List Saying) (k : Kept) (l : Laid) → HasKept before k → k.stage ≡ laying l → IsLaying before
is_laying before k l h is = let now : KeepsStage before (laying l) = subst (KeepsStage before) is h.stage in laying_body before now.1

pub lays_now : (before : List Saying) (k : Kept) (l : Laid) → HasKept before k → k.stage ≡ laying l → Lays before l
lays_now before k l h is = let now : KeepsStage before (laying l) = subst (KeepsStage before) is h.stage in now.0

is_playing : (before : List Saying) (k : Kept) (c : Course) → HasKept before k → k.stage ≡ playing c → IsPlaying before c.start.side c.moves c.ending
is_playing before k c h is = let now : KeepsStage before (playing c) = subst (KeepsStage before) is h.stage in playing_body before c.start.side c.moves c.ending now.3

-- a position statement or a side after a side
first_late : (e : Option Ended) (a b : Bool) (fault : OrderFault) (rest : Option OrderFault) → a ≡ is_some e → b ≡ true → (if a then Some AfterEnding else if b then Some fault else rest) ≡ Some (late e fault)
first_late None a b fault rest p q = rw (p, q) refl
first_late (Some e) a b fault rest p q = rw p refl

side_stands : (before : List Saying) (k : Kept) (c : Course) → HasKept before k → k.stage ≡ playing c → stands (sides before) ≡ true
side_stands before k c h is = ap stands (is_playing before k c h is).sides

is_late : (before : List Saying) (k : Kept) (c : Course) (fault : OrderFault) (rest : List (OrderFault × Bool)) → HasKept before k → k.stage ≡ playing c → first_fault ((AfterEnding, stands (endings before)) ∷ (fault, stands (sides before)) ∷ rest) ≡ Some (late c.ending fault)
is_late before k c fault rest h is = first_late c.ending (stands (endings before)) (stands (sides before)) fault (first_fault rest) (is_playing before k c h is).endings (side_stands before k c h is)

pub even_late : (before : List Saying) (k new : Kept) (c : Course) (pairs : List Pair) → HasKept before k → k.stage ≡ playing c → TakenOrRefused before (even pairs) (Err (Order (late c.ending PositionLate))) new
even_late before k new c pairs h is = refused before (even pairs) _ new (is_late before k c PositionLate ((MixedStart, stands (positions before)) ∷ []) h is)

pub rank_late : (before : List Saying) (k new : Kept) (c : Course) (number : ℕ) (cells : List (Option Piece)) → HasKept before k → k.stage ≡ playing c → TakenOrRefused before (rank number cells) (Err (Order (late c.ending PositionLate))) new
rank_late before k new c number cells h is = refused before (rank number cells) _ new (is_late before k c PositionLate ((MixedStart, stands (filter is_even before)) ∷ (MixedStart, stands (filter (λ n. n == number) (ranks before))) ∷ []) h is)

pub pieces_late : (before : List Saying) (k new : Kept) (c : Course) (color : Color) (pairs : List Pair) → HasKept before k → k.stage ≡ playing c → TakenOrRefused before (pieces color pairs) (Err (Order (late c.ending PositionLate))) new
pieces_late before k new c color pairs h is = refused before (pieces color pairs) _ new (is_late before k c PositionLate [] h is)

pub turn_late : (before : List Saying) (k new : Kept) (c : Course) (color : Color) → HasKept before k → k.stage ≡ playing c → TakenOrRefused before (turn color) (Err (Order (late c.ending RepeatedTurn))) new
turn_late before k new c color h is = refused before (turn color) _ new (is_late before k c RepeatedTurn [] h is)

-- the side to move
turn_in_order : (before : List Saying) (k : Kept) (l : Laid) (color : Color) → HasKept before k → k.stage ≡ laying l → order_fault before (turn color) ≡ None
turn_in_order before k l color h is = let none = is_laying before k l h is in rw (none.endings, none.sides) refl

pub turn_answers : (before : List Saying) (k : Kept) (l : Laid) (color : Color) (answer : Option Why) → HasKept before k → k.stage ≡ laying l → Finishes (Ok l.layout) color answer → AnswersItem before (turn color) answer
turn_answers before k l color answer h is finishes =
    in_order before (turn color) answer (turn_in_order before k l color h is) (subst (λ laid. Finishes laid color answer) (sym (lays_now before k l h is).laid) finishes)

pub turn_taken : (before : List Saying) (k new : Kept) (l : Laid) (c : Course) (color : Color) → HasKept before k → k.stage ≡ laying l → Finishes (Ok l.layout) color None
    → c ≡ record { start = position_of l.layout color; moves = []; ending = None } → new ≡ record k { begun = true; stage = playing c } → TakenOrRefused before (turn color) (Ok tt) new
turn_taken before k new l c color h is finishes is_course same =
    (None, turn_answers before k l color None h is finishes, tt, subst (HasKept (before ++ turn color ∷ [])) (sym same) (with_turn before color k l c is is_course h))

pub turn_refused : (before : List Saying) (k new : Kept) (l : Laid) (color : Color) (answer : Option Why) (why : Why) → HasKept before k → k.stage ≡ laying l → Finishes (Ok l.layout) color answer → IsAnswer answer (Err why) → TakenOrRefused before (turn color) (Err why) new
turn_refused before k new l color answer why h is finishes is_answer = (answer, turn_answers before k l color answer h is finishes, is_answer, tt)

-- moves and endings before the side to move
pub move_early : (before : List Saying) (k new : Kept) (l : Laid) (color : Color) (m : Move) → HasKept before k → k.stage ≡ laying l → TakenOrRefused before (walked color m) (Err (Order MoveBeforeTurn)) new
move_early before k new l color m h is = let none = is_laying before k l h is in refused before (walked color m) MoveBeforeTurn new (rw (none.endings, none.sides) refl)

pub ending_early : (before : List Saying) (k new : Kept) (l : Laid) (e : Ending) → HasKept before k → k.stage ≡ laying l → TakenOrRefused before (ending e) (Err (Order MoveBeforeTurn)) new
ending_early before k new l e h is = let none = is_laying before k l h is in refused before (ending e) MoveBeforeTurn new (rw (none.endings, none.sides) refl)

pub time_early : (before : List Saying) (k new : Kept) (l : Laid) (n : ℕ) → HasKept before k → k.stage ≡ laying l → TakenOrRefused before (time n) (Err (Order LooseTime)) new
time_early before k new l n h is = let none = is_laying before k l h is in refused before (time n) LooseTime new (rw none.awaits refl)

-- times
time_answers : (before : List Saying) (k : Kept) (c : Course) (n : ℕ) → HasKept before k → k.stage ≡ playing c → AnswersItem before (time n) (time_fault c)
time_answers before k c n h is = by_awaits (awaits_time c) (is_playing before k c h is).awaits
  where
    by_awaits : (b : Bool) → last_may_have_time (body before) ≡ b → AnswersItem before (time n) (if b then None else Some (Order LooseTime))
    by_awaits true e = in_order before (time n) None (rw e refl) refl
    by_awaits false e = out_of_order before (time n) LooseTime (rw e refl)

test_holds : (b : Bool) (why : Why) → (if b then None else Some why) ≡ None → b ≡ true
test_holds true why h = refl
test_holds false why h = cc

pub time_step : (before : List Saying) (k new : Kept) (c : Course) (n : ℕ) (result : Result (Unit {0}) Why) → HasKept before k → k.stage ≡ playing c → IsAnswer (time_fault c) result
    → OnOk result (new ≡ record k { begun = true; stage = playing (with_time c n) }) → TakenOrRefused before (time n) result new
time_step before k new c n (Ok u) h is answer same =
    let can = test_holds (awaits_time c) (Order LooseTime) (no_fault (time_fault c) answer) in
    (time_fault c, time_answers before k c n h is, answer, subst (HasKept (before ++ time n ∷ [])) (sym same) (with_time_kept before n k c is can h))
time_step before k new c n (Err why) h is answer same = (time_fault c, time_answers before k c n h is, answer, tt)

-- endings
ending_answers : (before : List Saying) (k : Kept) (c : Course) (e : Ending) → HasKept before k → k.stage ≡ playing c → AnswersItem before (ending e) (close_fault c)
ending_answers before k c e h is = by_ending (is_some c.ending) (is_playing before k c h is).endings
  where
    by_ending : (b : Bool) → stands (endings before) ≡ b → AnswersItem before (ending e) (if b then Some (Order AfterEnding) else None)
    by_ending true p = out_of_order before (ending e) AfterEnding (rw p refl)
    by_ending false p = in_order before (ending e) None (rw (p, side_stands before k c h is) refl) refl

unended : (o : Option Ended) → is_some o ≡ false → o ≡ None
unended None h = refl
unended (Some e) h = cc

pub ending_step : (before : List Saying) (k new : Kept) (c : Course) (e : Ending) (result : Result (Unit {0}) Why) → HasKept before k → k.stage ≡ playing c → IsAnswer (close_fault c) result
    → OnOk result (new ≡ record k { begun = true; stage = playing (record c { ending = Some (record { ending = e; time = None }) }) }) → TakenOrRefused before (ending e) result new
ending_step before k new c e (Ok u) h is answer same =
    let none = unended c.ending (test_fails (is_some c.ending) (Order AfterEnding) (no_fault (close_fault c) answer)) in
    (close_fault c, ending_answers before k c e h is, answer, subst (HasKept (before ++ ending e ∷ [])) (sym same) (with_ending before e k c is none h))
ending_step before k new c e (Err why) h is answer same = (close_fault c, ending_answers before k c e h is, answer, tt)

-- moves
play_in_order : (before : List Saying) (k : Kept) (c : Course) (color : Color) (m : Move) → HasKept before k → k.stage ≡ playing c → order_fault before (walked color m) ≡ play_fault c
play_in_order before k c color m h is =
    let now = is_playing before k c h is in
    let as_many : length (moves before) ≡ length c.moves = ap length now.moves ∙ length-map c.moves move_of in
    rw (now.endings, now.sides, as_many) refl

play_answers_by : (before : List Saying) (c : Course) (color : Color) (m : Move) (answer : Option Why) (fault : Option OrderFault) → (line : IsLineOf before (course_line c)) → PlayAnswersAfter fault c color m answer → AnswersAfter fault before (walked color m) answer
play_answers_by before c color m answer (Some fault) line h = h
play_answers_by before c color m answer None line (played, answers, judged) = (course_line c, line, played, answers, judged)

line_now : (before : List Saying) (k : Kept) (c : Course) → HasKept before k → k.stage ≡ playing c → IsLineOf before (course_line c)
line_now before k c h is =
    let stage : KeepsStage before (playing c) = subst (KeepsStage before) is h.stage in
    let now = is_playing before k c h is in
    record { layout = stage.0; side = c.start.side; laid = stage.1; side_is = now.sides; start = stage.2; moves_are = sym now.moves }

move_answers : (before : List Saying) (k : Kept) (c : Course) (color : Color) (m : Move) (answer : Option Why) → HasKept before k → k.stage ≡ playing c → PlayAnswers c color m answer → AnswersItem before (walked color m) answer
move_answers before k c color m answer h is answers =
    subst (λ f. AnswersAfter f before (walked color m) answer) (sym (play_in_order before k c color m h is))
    (play_answers_by before c color m answer (play_fault c) (line_now before k c h is) answers)

-- a move that is played belongs to the side to move
mover_first : (line : Played) (color : Color) (m : Move) → IsFirstBroken (rules.Kept line color m) all_rules None → color ≡ (now_of line).side
mover_first line color m (inl broken) = cc
mover_first line color m (inr both) = both.0

mover_by : (c : Course) (color : Color) (m : Move) (played : Option PlayFault) → plays.Answers (course_line c) color m played → IsJudged played None → color ≡ (position_after c.start (map move_of c.moves)).side
mover_by c color m None answers judged = mover_first (course_line c) color m answers.1
mover_by c color m (Some (faults.Broken rule)) answers judged = cc
mover_by c color m (Some faults.TooManyMoves) answers judged = absurd judged
mover_by c color m (Some faults.OutOfMemory) answers judged = absurd judged

play_of : (fault : Option OrderFault) (c : Course) (color : Color) (m : Move) → PlayAnswersAfter fault c color m None → (fault ≡ None) × (color ≡ (position_after c.start (map move_of c.moves)).side)
play_of (Some fault) c color m h = cc
play_of None c color m (played, answers, judged) = (refl, mover_by c color m played answers judged)

no_ending : (c : Course) → play_fault c ≡ None → c.ending ≡ None
no_ending c h = unended c.ending (none_hold ((AfterEnding, is_some c.ending) ∷ (TooManyMoves, nat_le 10000 (length c.moves)) ∷ []) h).0

pub move_step : (before : List Saying) (k new : Kept) (c : Course) (color : Color) (m : Move) (answer : Option Why) (result : Result (Unit {0}) Why) → HasKept before k → k.stage ≡ playing c → PlayAnswers c color m answer → IsAnswer answer result
    → OnOk result (new ≡ record k { begun = true; stage = playing (record c { moves = c.moves ++ record { move = m; time = None } ∷ [] }) }) → TakenOrRefused before (walked color m) result new
move_step before k new c color m answer (Ok u) h is answers is_answer same =
    let played = play_of (play_fault c) c color m (subst (PlayAnswers c color m) (no_fault answer is_answer) answers) in (
      answer,
      move_answers before k c color m answer h is answers,
      is_answer,
      subst (HasKept (before ++ walked color m ∷ [])) (sym same) (with_walked before color m k c is (no_ending c played.0) played.1 h),
    )
move_step before k new c color m answer (Err why) h is answers is_answer same = (answer, move_answers before k c color m answer h is answers, is_answer, tt)
