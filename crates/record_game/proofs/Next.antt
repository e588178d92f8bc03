-- Each next item is taken, and what is kept stays valid, or it is refused.
use Rattle.std.proofs.Common.{◌≡◌, ◌≢◌, ◌⊎◌, ℕ, ◌+◌, ◌-◌, ◌≤◌, ◌||◌, Bool, true, false, List, [], ◌∷◌, ◌++◌, length, map, get_or, set, Option, Some, None, Result, Ok, Err, refl, sym, ap, ◌∙◌, subst, arith, inl, inr}
use Rattle.std.specs.Prelude.{is_some, nat_le, if◌then◌else◌}
use Rattle.std.proofs.lemmas.Bool.{cases_Bool, leb-false}
use Rattle.std.proofs.lemmas.List.{length-append, length-map, length-set}
use Rattle.shogi_board.specs.declared.color.Color.{Color}
use Rattle.shogi_board.specs.declared.color.Color.TheVariants.{Black, White}
use Rattle.shogi_board.specs.declared.kind.Piece.{Piece}
use Rattle.shogi_board.specs.declared.setup.SetupFault.{SetupFault}
use Rattle.shogi_board.specs.declared.setup.SetupFault.TheVariants.{OpponentInCheck}
use Rattle.shogi_board.specs.Layout.{Layout}
use Rattle.shogi_board.specs.Pieces.{opponent}
use Rattle.shogi_board.specs.Setup.{position_of, first_fault}
use Rattle.shogi_board.proofs.Decided.{decide-in_check}
use Rattle.shogi_rules.specs.declared.line.PlayFault.{PlayFault}
use Rattle.shogi_rules.specs.declared.line.PlayFault.TheVariants as faults
use Rattle.shogi_board.specs.declared.moves.Move.{Move}
use Rattle.shogi_rules.specs.Play as plays
use Rattle.shogi_rules.specs.Lines.{IsLine}
use Rattle.shogi_rules.specs.Positions.{begun}
use Rattle.shogi_rules.proofs.Games.{line-more}
use Rattle.shogi_rules.proofs.Standing.{some-answer}
use Rattle.csa_text.specs.declared.ending.Ending.{Ending}
use Rattle.csa_text.specs.declared.pair.Pair.{Pair}
use Rattle.csa_text.specs.Saying.{Saying, version, name, header, even, rank, pieces, turn, walked, time, ending}
use Rattle.record_game.specs.declared.fault.OrderFault.{OrderFault}
use Rattle.record_game.specs.declared.fault.OrderFault.TheVariants.{VersionOutOfPlace, RepeatedName, RepeatedHeader, TooManyHeaders, MixedStart, LooseTime, AfterEnding, TooManyMoves}
use Rattle.record_game.specs.declared.fault.Why.{Why}
use Rattle.record_game.specs.declared.fault.Why.TheVariants.{Order, Start, Rule, OutOfMemory}
use Rattle.record_game.specs.Answer.{IsAnswer}
use Rattle.record_game.specs.Course.{Course, course_line, untimed, play_fault, PlayAnswers, PlayAnswersAfter, close_fault, awaits_time, time_fault, with_last_time, with_time, with_time_after, with_ending}
use Rattle.record_game.specs.Validity.{IsCourse}
use Rattle.record_game.specs.Fits.{Fits, IsHeaderLine}
use Rattle.record_game.specs.Game.{Timed, Ended, Entry, move_of}
use Rattle.record_game.specs.Items.{is_even, is_position, sides}
use Rattle.record_game.specs.Keeping.{Stage, laying, playing, Kept, HasKept}
use Rattle.record_game.specs.Taking.{TakenOrRefused}
use Rattle.record_game.specs.Laying.{Laid, Lays}
use Rattle.record_game.specs.Limits.{IsOneLine}
use Rattle.record_game.specs.Order.{stands, endings, order_fault}
use Rattle.shogi_board.specs.Placing.{place_all}
use Rattle.record_game.specs.Placings.{placings_of}
use Rattle.record_game.specs.Refused.{AnswersItem}
use Rattle.record_game.specs.Titles.{Titled, name_fault, header_fault, with_name, with_entry, under}
use Rattle.record_game.specs.Validity.{IsTitled}
use Rattle.record_game.proofs.Answering as answers
use Rattle.record_game.proofs.PlayAnswered.{answer_fault}
use Rattle.record_game.proofs.Keeping.{nothing_stands}
use Rattle.record_game.proofs.LaidNext as laid
use Rattle.record_game.proofs.LaidNext.{begins, RanksMore, laid_as, or_none, or_one, same_ranks, one_rank}
use Rattle.record_game.proofs.Progressing.{kept, LaysNext, take_name, take_header, take_even, take_rank, take_pieces, take_turn, refuse_turn, take_move, take_time, take_ending}
use Rattle.record_game.proofs.FitTimes.{fit_more, fit_last}
use Rattle.record_game.proofs.EntriesWith.{titled_with}
use Rattle.record_game.proofs.Values.{value_under, entry_fits}
use Rattle.record_game.proofs.Within.{Within, all_within, item_on_board, none_within, all_even_within}

abbrev pub IsWellStage : Stage → Type 0
IsWellStage (laying l) = Within l.layout × (length l.ranks ≡ 9)
IsWellStage (playing c) = IsCourse c

-- valid titles, a start within the totals, a course that may be played
abbrev pub IsWell : Kept → Type 0
IsWell k = IsTitled k.titles × IsWellStage k.stage

pub record Takes (before : List Saying) (s : Saying) : Type 0 where
  pub kept : Kept
  pub answer : AnswersItem before s None
  pub keeps : HasKept (before ++ s ∷ []) kept
  pub well : IsWell kept

-- refused, or taken
abbrev pub Next : List Saying → Saying → Type 0
Next before s = ((why : Why) × AnswersItem before s (Some why)) ⊎ Takes before s

taken_so : (before : List Saying) (s : Saying) (new : Kept) → TakenOrRefused before s (Ok tt) new → IsWell new → Next before s
taken_so before s new (None, answer, is, keeps) well = inr (record { kept = new; answer = answer; keeps = keeps; well = well })
taken_so before s new (Some why, answer, is, keeps) well = absurd is

refused_so : (before : List Saying) (s : Saying) (why : Why) (new : Kept) → TakenOrRefused before s (Err why) new → why ≢ OutOfMemory → Next before s
refused_so before s why new (None, answer, is, keeps) other = absurd (other is)
refused_so before s why new (Some w, answer, is, keeps) other = inl (w, answer)

-- faults are not lack of memory
test_why : (b : Bool) (x w : Why) (next : Option Why) → (if b then Some x else next) ≡ Some w → (x ≡ w) ⊎ (next ≡ Some w)
test_why true x w next h = let same : x ≡ w = cc in inl same
test_why false x w next h = inr h

order_only : (fault : OrderFault) (w : Why) → Order fault ≡ w → w ≢ OutOfMemory
order_only fault w h e = let clash : Order fault ≡ OutOfMemory = h ∙ e in cc

name_why : (t : Titled) (color : Color) (text : List ℕ) (w : Why) → name_fault t color text ≡ Some w → w ≢ OutOfMemory
name_why t color [] w h = cc
name_why t color (b ∷ bs) w h =
    elim (test_why _ (Order RepeatedName) w None h) [
      | inl same ↦ order_only RepeatedName w same
      | inr none ↦ cc
    ]

header_why : (t : Titled) (key text : List ℕ) (w : Why) → header_fault t key text ≡ Some w → w ≢ OutOfMemory
header_why t key [] w h = cc
header_why t key (b ∷ bs) w h =
    elim (test_why (stands (under key t.headers)) (Order RepeatedHeader) w _ h) [
      | inl same ↦ order_only RepeatedHeader w same
      | inr more ↦ elim (test_why (nat_le 64 (length t.headers)) (Order TooManyHeaders) w None more) [
        | inl same ↦ order_only TooManyHeaders w same
        | inr none ↦ cc
      ]
    ]

-- versions
version_next : (before : List Saying) (k : Kept) → HasKept before k → IsWell k → Next before version
version_next before k h well =
    elim (cases_Bool k.begun) [
      | inl some ↦ refused_so before version (Order VersionOutOfPlace) k (answers.version_refused before k k h some) (order_only _ _ refl)
      | inr none ↦ taken_so before version (record k { begun = true }) (answers.version_taken before k h none) well
    ]

-- names
titled_name : (t : Titled) (color : Color) (text : List ℕ) → IsOneLine text → 2 + length text ≤ 4096 → IsTitled t → IsTitled (with_name t color text)
titled_name t Black [] line few h = h
titled_name t White [] line few h = h
titled_name t Black (b ∷ bs) line few h = record {
  black = record { some = λ e. cc; one_line = line; fits = few };
  white = h.white;
  entries = h.entries;
  rising = h.rising;
  few_headers = h.few_headers;
}
titled_name t White (b ∷ bs) line few h = record {
  black = h.black;
  white = record { some = λ e. cc; one_line = line; fits = few };
  entries = h.entries;
  rising = h.rising;
  few_headers = h.few_headers;
}

name_by : (before : List Saying) (k : Kept) (color : Color) (text : List ℕ) (fault : Option Why) → name_fault k.titles color text ≡ fault → Fits (name color text) → HasKept before k → IsWell k → Next before (name color text)
name_by before k color text None e fits h well =
    taken_so before (name color text) (kept true (with_name k.titles color text) k.stage)
    (take_name before k (with_name k.titles color text) color text (Ok tt) h (subst (λ f. IsAnswer f (Ok tt)) (sym e) tt) refl)
    (titled_name k.titles color text fits.0 fits.1 well.0, well.1)
name_by before k color text (Some w) e fits h well =
    refused_so before (name color text) w (kept true k.titles k.stage)
    (take_name before k k.titles color text (Err w) h (subst (λ f. IsAnswer f (Err w)) (sym e) refl) tt) (name_why k.titles color text w e)

-- headers
no_fault : (a b : Bool) (v w : Why) → (if a then Some v else if b then Some w else None) ≡ None → (a ≡ false) × (b ≡ false)
no_fault true b v w h = cc
no_fault false true v w h = cc
no_fault false false v w h = (refl, refl)

header_by : (before : List Saying) (k : Kept) (key text : List ℕ) (fault : Option Why) → header_fault k.titles key text ≡ fault → IsHeaderLine key text → HasKept before k → IsWell k → Next before (header key text)
header_by before k key [] None e fits h well =
    taken_so before (header key []) (kept true k.titles k.stage)
    (take_header before k k.titles key [] (Ok tt) h tt refl) well
header_by before k key (b ∷ bs) None e fits h well =
    let none = no_fault (stands (under key k.titles.headers)) (nat_le 64 (length k.titles.headers)) (Order RepeatedHeader) (Order TooManyHeaders) e in
    let value = value_under key (b ∷ bs) in
    let entry : Entry = record { key = key; text = value.0 } in
    let new : Titled = record k.titles { headers = with_entry k.titles.headers entry } in
    taken_so before (header key (b ∷ bs)) (kept true new k.stage)
    (take_header before k new key (b ∷ bs) (Ok tt) h (subst (λ f. IsAnswer f (Ok tt)) (sym e) tt) (value.0, value.1, refl))
    (titled_with k.titles entry well.0 (entry_fits key (b ∷ bs) value.0 (λ p. cc) fits value.1) (nothing_stands _ none.0) (leb-false 64 (length k.titles.headers) none.1), well.1)
header_by before k key text (Some w) e fits h well =
    refused_so before (header key text) w (kept true k.titles k.stage)
    (take_header before k k.titles key text (Err w) h (subst (λ f. IsAnswer f (Err w)) (sym e) refl) tt) (header_why k.titles key text w e)

-- position statements
begins_within : (b : Bool) (t : Layout) (s : Saying) → Within t → Within (begins b t s)
begins_within true t s w = w
begins_within false t s w =
    elim (cases_Bool (is_even s)) [
      | inl hit ↦ rw hit all_even_within
      | inr miss ↦ rw miss none_within
    ]

record LaysOn (before : List Saying) (k : Kept) (l : Laid) (s : Saying) (even_now : Bool) (ranks_now : List Bool) : Type 0 where
  on_start : is_position s ≡ true
  in_order : (b : List Saying) → Lays b l → sides b ≡ [] → endings b ≡ [] → order_fault b s ≡ None
  even_is : even_now ≡ (l.even || is_even s)
  ranks_are : (t : Layout) → RanksMore l s (laid_as t true even_now ranks_now)
  nine : length ranks_now ≡ 9
  take : (m : Laid) (result : Result (Unit {0}) Why) → LaysNext l s result m → TakenOrRefused before s result (kept true k.titles (laying m))

lay_by : (before : List Saying) (k : Kept) (l : Laid) (s : Saying) (even_now : Bool) (ranks_now : List Bool) (result : Result Layout SetupFault) → LaysOn before k l s even_now ranks_now → place_all (begins l.positioned l.layout s) (placings_of s) ≡ result → Fits s → Within l.layout → IsTitled k.titles → Next before s
lay_by before k l s even_now ranks_now (Err f) o e fits w titled =
    refused_so before s (Start f) (kept true k.titles (laying l))
    (o.take l (Err (Start f)) (λ b lays sides_none endings_none. laid.refused b l l s f lays o.on_start (o.in_order b lays sides_none endings_none) e)) (λ p. cc)
lay_by before k l s even_now ranks_now (Ok t) o e fits w titled =
    let new = laid_as t true even_now ranks_now in
    taken_so before s (kept true k.titles (laying new))
    (o.take new (Ok tt) (λ b lays sides_none endings_none. laid.taken b l new s lays o.on_start (o.in_order b lays sides_none endings_none) e refl o.even_is (o.ranks_are t)))
    (titled, (all_within (begins l.positioned l.layout s) t (placings_of s) (item_on_board s fits) (begins_within l.positioned l.layout s w) e, o.nine))

mixed_so : (before : List Saying) (k : Kept) (l : Laid) (s : Saying) → ((b : List Saying) → Lays b l → sides b ≡ [] → endings b ≡ [] → order_fault b s ≡ Some MixedStart)
    → ((m : Laid) (result : Result (Unit {0}) Why) → LaysNext l s result m → TakenOrRefused before s result (kept true k.titles (laying m))) → Next before s
mixed_so before k l s late take =
    refused_so before s (Order MixedStart) (kept true k.titles (laying l))
    (take l (Err (Order MixedStart)) (λ b lays sides_none endings_none. laid.mixed b s l (late b lays sides_none endings_none))) (order_only _ _ refl)

even_laying : (before : List Saying) (k : Kept) (l : Laid) (pairs : List Pair) → k.stage ≡ laying l → HasKept before k → IsTitled k.titles → IsWellStage (laying l) → Next before (even pairs)
even_laying before k l pairs is h titled w =
    elim (cases_Bool l.positioned) [
      | inl stood ↦ mixed_so before k l (even pairs) (λ b lays s e. laid.even_late b l pairs lays s e stood) (λ m result next. take_even before k l m pairs result h is next)
      | inr free ↦ lay_by before k l (even pairs) true l.ranks _
          (record {
            on_start = refl;
            in_order = λ b lays s e. laid.even_fits b l pairs lays s e free;
            even_is = or_one l.even;
            ranks_are = λ t. same_ranks l (laid_as t true true l.ranks) (even pairs) refl refl;
            nine = w.1;
            take = λ m result next. take_even before k l m pairs result h is next;
          }) refl tt w.0 titled
    ]

rank_laying : (before : List Saying) (k : Kept) (l : Laid) (number : ℕ) (cells : List (Option Piece)) → k.stage ≡ laying l → 1 ≤ number → number ≤ 9 → HasKept before k → IsTitled k.titles → IsWellStage (laying l) → Next before (rank number cells)
rank_laying before k l number cells is low high h titled w =
    elim (cases_Bool l.even) [
      | inl stood ↦ mixed_so before k l (rank number cells) (λ b lays s e. laid.rank_beside_even b l number cells lays s e stood) (λ m result next. take_rank before k l m number cells result h is next)
      | inr no_even ↦ elim (cases_Bool (get_or l.ranks (number - 1) false)) [
        | inl stood ↦ mixed_so before k l (rank number cells) (λ b lays s e. laid.rank_twice b l number cells low high lays s e stood) (λ m result next. take_rank before k l m number cells result h is next)
        | inr free ↦ lay_by before k l (rank number cells) l.even (set l.ranks (number - 1) true) _
            (record {
              on_start = refl;
              in_order = λ b lays s e. laid.rank_fits b l number cells low high lays s e no_even free;
              even_is = or_none l.even;
              ranks_are = λ t. one_rank l (laid_as t true l.even (set l.ranks (number - 1) true)) number cells low high w.1 refl;
              nine = length-set l.ranks (number - 1) true ∙ w.1;
              take = λ m result next. take_rank before k l m number cells result h is next;
            }) refl (low, high) w.0 titled
      ]
    ]

pieces_laying : (before : List Saying) (k : Kept) (l : Laid) (color : Color) (pairs : List Pair) → k.stage ≡ laying l → HasKept before k → IsTitled k.titles → IsWellStage (laying l) → Next before (pieces color pairs)
pieces_laying before k l color pairs is h titled w =
    lay_by before k l (pieces color pairs) l.even l.ranks _
    (record {
      on_start = refl;
      in_order = λ b lays s e. laid.pieces_fit b color pairs s e;
      even_is = or_none l.even;
      ranks_are = λ t. same_ranks l (laid_as t true l.even l.ranks) (pieces color pairs) refl refl;
      nine = w.1;
      take = λ m result next. take_pieces before k l m color pairs result h is next;
    }) refl tt w.0 titled

-- the side to move
turn_laying : (before : List Saying) (k : Kept) (l : Laid) (color : Color) → k.stage ≡ laying l → HasKept before k → IsTitled k.titles → IsWellStage (laying l) → Next before (turn color)
turn_laying before k l color is h titled w =
    elim (decide-in_check l.layout.material.board (opponent color)) [
      | inl check ↦ refused_so before (turn color) (Start OpponentInCheck) k
          (refuse_turn before k k l color (Start OpponentInCheck) h is (Some (Start OpponentInCheck), (check, refl), refl)) (λ p. cc)
      | inr safe ↦
          let c : Course = record { start = position_of l.layout color; moves = []; ending = None } in
          taken_so before (turn color) (kept true k.titles (playing c)) (take_turn before k l c color h is (safe, refl)) (
            titled,
            record {
              sound = record { within = w.0; safe = safe };
              line = begun;
              few_moves = omega arith;
              times = tt;
              last_time = tt;
            },
          )
    ]

-- moves
moves_more : (ts : List Timed) (m : Move) → map move_of (ts ++ untimed m ∷ []) ≡ map move_of ts ++ m ∷ []
moves_more [] m = refl
moves_more (t ∷ ts) m = ap (λ (ms : List Move). t.move ∷ ms) (moves_more ts m)

course_more : (c : Course) (color : Color) (m : Move) → IsCourse c → plays.Answers (course_line c) color m None → IsCourse (record c { moves = c.moves ++ untimed m ∷ [] })
course_more c color m h (few, none) =
    let as_long : length (map move_of c.moves) ≡ length c.moves = length-map c.moves move_of in
    let limit = h.few_moves in
    let line : IsLine c.start (map move_of c.moves) =
    record { game = h.line; few = omega (arith, as_long, limit) } in
    let longer = line-more c.start (map move_of c.moves) color m line few none in
    record {
      sound = h.sound;
      line = rw (moves_more c.moves m) longer.game;
      few_moves = let added = length-append c.moves (untimed m ∷ []) in omega (arith, added, as_long, few);
      times = fit_more c.moves m h.times;
      last_time = h.last_time;
    }

free_ones : (a b : Bool) → first_fault ((AfterEnding, a) ∷ (TooManyMoves, b) ∷ []) ≡ None → (a ≡ false) × (b ≡ false)
free_ones true b h = cc
free_ones false true h = cc
free_ones false false h = (refl, refl)

judged_so : (c : Course) (color : Color) (m : Move) (answer : Option Why) → play_fault c ≡ None → PlayAnswersAfter None c color m answer → PlayAnswers c color m answer
judged_so c color m answer e h = subst (λ f. PlayAnswersAfter f c color m answer) (sym e) h

walked_by : (before : List Saying) (k : Kept) (c : Course) (color : Color) (m : Move) (played : Option PlayFault) → plays.Answers (course_line c) color m played → play_fault c ≡ None → k.stage ≡ playing c → HasKept before k → IsTitled k.titles → IsCourse c → Next before (walked color m)
walked_by before k c color m None a e is h titled course =
    let d : Course = record c { moves = c.moves ++ untimed m ∷ [] } in
    taken_so before (walked color m) (kept true k.titles (playing d))
    (take_move before k c d color m (Ok tt) h is (None, judged_so c color m None e (None, a, refl), tt) refl)
    (titled, course_more c color m course a)
walked_by before k c color m (Some (faults.Broken rule)) a e is h titled course =
    refused_so before (walked color m) (Rule rule) (kept true k.titles (playing c))
    (take_move before k c c color m (Err (Rule rule)) h is (Some (Rule rule), judged_so c color m (Some (Rule rule)) e (Some (faults.Broken rule), a, refl), refl) tt) (λ p. cc)
walked_by before k c color m (Some faults.TooManyMoves) a e is h titled course =
    let few = leb-false 10000 (length c.moves) (free_ones (is_some c.ending) (nat_le 10000 (length c.moves)) e).1 in
    let as_long : length (map move_of c.moves) ≡ length c.moves = length-map c.moves move_of in
    absurd (omega (arith, few, as_long, a))
walked_by before k c color m (Some faults.OutOfMemory) a e is h titled course = absurd a

walked_playing : (before : List Saying) (k : Kept) (c : Course) (color : Color) (m : Move) (fault : Option OrderFault) → play_fault c ≡ fault → k.stage ≡ playing c → HasKept before k → IsTitled k.titles → IsCourse c → Next before (walked color m)
walked_playing before k c color m (Some fault) e is h titled course =
    refused_so before (walked color m) (Order fault) (kept true k.titles (playing c))
    (take_move before k c c color m (Err (Order fault)) h is (answer_fault c color m fault e) tt) (order_only _ _ refl)
walked_playing before k c color m None e is h titled course =
    let answer = some-answer (course_line c) color m in
    walked_by before k c color m answer.0 answer.1 e is h titled course

-- times
moves_last : (ts : List Timed) (n : ℕ) → map move_of (with_last_time ts n) ≡ map move_of ts
moves_last [] n = refl
moves_last (t ∷ []) n = refl
moves_last (t ∷ u ∷ ts) n = ap (λ (ms : List Move). t.move ∷ ms) (moves_last (u ∷ ts) n)

as_long_last : (ts : List Timed) (n : ℕ) → length (with_last_time ts n) ≡ length ts
as_long_last [] n = refl
as_long_last (t ∷ []) n = refl
as_long_last (t ∷ u ∷ ts) n = let more = as_long_last (u ∷ ts) n in omega (arith, more)

course_timed : (e : Option Ended) (c : Course) (n : ℕ) → n ≤ 4294967295999 → IsCourse c → IsCourse (with_time_after e c n)
course_timed None c n small h = record {
  sound = h.sound;
  line = rw (moves_last c.moves n) h.line;
  few_moves = let same = as_long_last c.moves n in let few = h.few_moves in omega (arith, same, few);
  times = fit_last c.moves n small h.times;
  last_time = h.last_time;
}
course_timed (Some e) c n small h = record { sound = h.sound; line = h.line; few_moves = h.few_moves; times = h.times; last_time = small }

time_playing : (before : List Saying) (k : Kept) (c : Course) (n : ℕ) → n ≤ 4294967295999 → k.stage ≡ playing c → HasKept before k → IsTitled k.titles → IsCourse c → Next before (time n)
time_playing before k c n small is h titled course =
    elim (cases_Bool (awaits_time c)) [
      | inl can ↦
          let free : time_fault c ≡ None = rw can refl in
          taken_so before (time n) (kept true k.titles (playing (with_time c n)))
          (take_time before k c (with_time c n) n (Ok tt) h is (subst (λ f. IsAnswer f (Ok tt)) (sym free) tt) refl)
          (titled, course_timed c.ending c n small course)
      | inr cannot ↦
          let loose : time_fault c ≡ Some (Order LooseTime) = rw cannot refl in
          refused_so before (time n) (Order LooseTime) (kept true k.titles (playing c))
          (take_time before k c c n (Err (Order LooseTime)) h is (subst (λ f. IsAnswer f (Err (Order LooseTime))) (sym loose) refl) tt) (order_only _ _ refl)
    ]

-- endings
ending_playing : (before : List Saying) (k : Kept) (c : Course) (e : Ending) → k.stage ≡ playing c → HasKept before k → IsTitled k.titles → IsCourse c → Next before (ending e)
ending_playing before k c e is h titled course =
    elim (cases_Bool (is_some c.ending)) [
      | inl some ↦
          let closed : close_fault c ≡ Some (Order AfterEnding) = rw some refl in
          refused_so before (ending e) (Order AfterEnding) (kept true k.titles (playing c))
          (take_ending before k c c e (Err (Order AfterEnding)) h is (subst (λ f. IsAnswer f (Err (Order AfterEnding))) (sym closed) refl) tt) (order_only _ _ refl)
      | inr none ↦
          let free : close_fault c ≡ None = rw none refl in
          taken_so before (ending e) (kept true k.titles (playing (with_ending c e)))
          (take_ending before k c (with_ending c e) e (Ok tt) h is (subst (λ f. IsAnswer f (Ok tt)) (sym free) tt) refl)
          (titled, record { sound = course.sound; line = course.line; few_moves = course.few_moves; times = course.times; last_time = tt })
    ]

by_stage : (before : List Saying) (k : Kept) (s : Saying) (g : Stage) → k.stage ≡ g → Fits s → HasKept before k → IsTitled k.titles → IsWellStage g → IsWell k → Next before s
by_stage before k version g is fits h titled w well = version_next before k h well
by_stage before k (name color text) g is fits h titled w well = name_by before k color text _ refl fits h well
by_stage before k (header key text) g is fits h titled w well = header_by before k key text _ refl fits h well
by_stage before k (even pairs) (laying l) is fits h titled w well = even_laying before k l pairs is h titled w
by_stage before k (even pairs) (playing c) is fits h titled w well = refused_so before (even pairs) _ k (answers.even_late before k k c pairs h is) (order_only _ _ refl)
by_stage before k (rank number cells) (laying l) is fits h titled w well = rank_laying before k l number cells is fits.0 fits.1 h titled w
by_stage before k (rank number cells) (playing c) is fits h titled w well = refused_so before (rank number cells) _ k (answers.rank_late before k k c number cells h is) (order_only _ _ refl)
by_stage before k (pieces color pairs) (laying l) is fits h titled w well = pieces_laying before k l color pairs is h titled w
by_stage before k (pieces color pairs) (playing c) is fits h titled w well = refused_so before (pieces color pairs) _ k (answers.pieces_late before k k c color pairs h is) (order_only _ _ refl)
by_stage before k (turn color) (laying l) is fits h titled w well = turn_laying before k l color is h titled w
by_stage before k (turn color) (playing c) is fits h titled w well = refused_so before (turn color) _ k (answers.turn_late before k k c color h is) (order_only _ _ refl)
by_stage before k (walked color m) (laying l) is fits h titled w well = refused_so before (walked color m) _ k (answers.move_early before k k l color m h is) (order_only _ _ refl)
by_stage before k (walked color m) (playing c) is fits h titled w well = walked_playing before k c color m _ refl is h titled w
by_stage before k (time n) (laying l) is fits h titled w well = refused_so before (time n) _ k (answers.time_early before k k l n h is) (order_only _ _ refl)
by_stage before k (time n) (playing c) is fits h titled w well = time_playing before k c n fits is h titled w
by_stage before k (ending e) (laying l) is fits h titled w well = refused_so before (ending e) _ k (answers.ending_early before k k l e h is) (order_only _ _ refl)
by_stage before k (ending e) (playing c) is fits h titled w well = ending_playing before k c e is h titled w

-- each item that fits is taken or refused after those of which this is kept
pub next_item : (before : List Saying) (k : Kept) (s : Saying) → Fits s → HasKept before k → IsWell k → Next before s
next_item before k s fits h well = by_stage before k s k.stage refl fits h well.0 well.1 well
