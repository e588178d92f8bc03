-- Courses, and the lines and times that make them.
use Rattle.std.proofs.Common.{◌≡◌, ℕ, ◌<◌, ◌≤◌, Bool, true, false, List, [], ◌∷◌, ◌++◌, length, map, replicate, get_or, Option, Some, None, Ok, Err, arith, refl, sym, ap, subst, ◌∙◌, inl, inr, ◌⊎◌}
use Rattle.std.specs.Prelude.{is_some, nat_le}
use Rattle.std.proofs.lemmas.Bool.{leb-false, le-leb, lt-leb}
use Rattle.std.proofs.lemmas.List.{length-replicate, length-append}
use Rattle.shogi_board.specs.declared.color.Color.{Color}
use Rattle.shogi_board.specs.Placed.{Placed}
use Rattle.shogi_board.specs.Sound.{IsSound}
use Rattle.shogi_rules.specs.declared.line.PlayFault.TheVariants as playing
use Rattle.shogi_rules.specs.declared.line.PlayFault.{PlayFault}
use Rattle.shogi_board.specs.declared.moves.Move.{Move}
use Rattle.shogi_rules.specs.Lines.{IsLine}
use Rattle.shogi_rules.specs.Play.{Answers}
use Rattle.shogi_rules.specs.Positions.{Played, IsGame}
use Rattle.shogi_rules.proofs.Games.{line-more}
use Rattle.csa_record.specs.declared.course.Ended as stored
use Rattle.record_game.specs.declared.fault.OrderFault.{OrderFault}
use Rattle.record_game.specs.declared.fault.OrderFault.TheVariants.{AfterEnding, TooManyMoves}
use Rattle.record_game.specs.declared.fault.Why.{Why}
use Rattle.record_game.specs.declared.fault.Why.TheVariants.{Rule}
use Rattle.record_game.specs.Answer.{IsAnswer}
use Rattle.record_game.specs.Course.{Course, course_line, untimed, play_fault, PlayAnswers, awaits_time, with_time, time_at}
use Rattle.csa_record.specs.Coursing.{timed, ended, course_of, IsKept, lacks_last, with_last, NotPlayed}
use Rattle.record_game.specs.Game.{Timed, Ended}
use Rattle.record_game.specs.Limits.{EndsInTime}
use Rattle.record_game.specs.PlayFaults.{why_of}
use Rattle.shogi_board.specs.Setup.{first_fault}
use Rattle.record_game.proofs.FitTimes.{AllFit, fit_more, fit_none, fit_last}
use Rattle.record_game.proofs.PlayAnswered.{after}
use Rattle.csa_record.proofs.Timing.{moves_timed, times_timed, length_timed, timed_more, timed_none, awaits_timed, timed_last, length_with_last}

pub line_is : (line : Played) (ts : List (Option ℕ)) (e : Option stored.Ended) → length ts ≡ length line.moves → course_line (course_of line ts e) ≡ line
line_is line ts e h = ap (λ (ms : List Move). record line { moves = ms }) (moves_timed line.moves ts h)

pub line_seen : (line : Played) (ts : List (Option ℕ)) (e : Option stored.Ended) (c : Course) → length ts ≡ length line.moves → course_of line ts e ≡ c → line ≡ course_line c
line_seen line ts e c h v = sym (line_is line ts e h) ∙ ap course_line v

pub time_seen : (line : Played) (ts : List (Option ℕ)) (e : Option stored.Ended) (c : Course) (i : ℕ) → length ts ≡ length line.moves → course_of line ts e ≡ c → get_or ts i None ≡ time_at c.moves i
time_seen line ts e c i h v =
    ap (λ (us : List (Option ℕ)). get_or us i None) (sym (times_timed line.moves ts h)) ∙ ap (λ (x : Course). time_at x.moves i) v

-- what is kept
kept : (line : Played) (ts : List (Option ℕ)) (e : Option stored.Ended) → length ts ≡ length line.moves → IsSound line.start → IsGame line.start line.moves → length line.moves ≤ 10000 → AllFit (timed line.moves ts) → EndsInTime (ended e) → IsKept line ts e
kept line ts e long sound game few fit last = record {
  long = long;
  course = record {
    sound = sound;
    line = rw (moves_timed line.moves ts long) game;
    few_moves = let k = length_timed line.moves ts long in omega (arith, k, few);
    times = fit;
    last_time = last;
  };
}

-- the moves of what is kept are a game
game_of : (line : Played) (ts : List (Option ℕ)) (e : Option stored.Ended) → IsKept line ts e → IsGame line.start line.moves
game_of line ts e k = rw (moves_timed line.moves ts k.long) at k.course.line

few_of : (line : Played) (ts : List (Option ℕ)) (e : Option stored.Ended) → IsKept line ts e → length line.moves ≤ 10000
few_of line ts e k = let n = length_timed line.moves ts k.long in let f = k.course.few_moves in omega (arith, n, f)

pub kept_untimed : (line : Played) (ts : List (Option ℕ)) → ts ≡ replicate (length line.moves) None → IsSound line.start → IsGame line.start line.moves → length line.moves ≤ 10000 → IsKept line ts None
kept_untimed line ts is sound game few =
    rw is (kept line (replicate (length line.moves) None) None (length-replicate (length line.moves) None) sound game few (rw (timed_none line.moves) (fit_none line.moves)) tt)

pub course_untimed : (line : Played) (ts : List (Option ℕ)) → ts ≡ replicate (length line.moves) None → course_of line ts None ≡ record { start = line.start; moves = map untimed line.moves; ending = None }
course_untimed line ts is = rw is (ap (λ (xs : List Timed). course line.start xs None) (timed_none line.moves))
  where
    course : Placed → List Timed → Option Ended → Course
    course p xs e = record { start = p; moves = xs; ending = e }

pub kept_more : (line next : Played) (ts us : List (Option ℕ)) (e : Option stored.Ended) (color : Color) (m : Move) → IsKept line ts e → next ≡ record line { moves = line.moves ++ m ∷ [] } → us ≡ ts ++ None ∷ [] → Answers line color m None → IsKept next us e
kept_more line next ts us e color m k is more played =
    let long = k.long in
    let few = played.0 in
    let before : IsLine line.start line.moves = record { game = game_of line ts e k; few = few_of line ts e k } in
    let game = (line-more line.start line.moves color m before few played.1).game in
    let a = length-append line.moves (m ∷ []) in
    let b = length-append ts (None ∷ []) in
    rw (is, more) (kept (record line { moves = line.moves ++ m ∷ [] }) (ts ++ None ∷ []) e
    (omega (arith, a, b, long)) k.course.sound game (omega (arith, a, few))
    (rw (timed_more line.moves ts m k.long) (fit_more (timed line.moves ts) m k.course.times)) k.course.last_time)

pub course_more : (line next : Played) (ts us : List (Option ℕ)) (e : Option stored.Ended) (m : Move) (c : Course) → length ts ≡ length line.moves → course_of line ts e ≡ c → next ≡ record line { moves = line.moves ++ m ∷ [] } → us ≡ ts ++ None ∷ [] → course_of next us e ≡ record c { moves = c.moves ++ untimed m ∷ [] }
course_more line next ts us e m c long v is more =
    rw (is, more, ← v) (ap (λ (xs : List Timed). record (course_of line ts e) { moves = xs }) (timed_more line.moves ts m long))

pub kept_last : (line : Played) (ts us : List (Option ℕ)) (e : Option stored.Ended) (time : ℕ) → IsKept line ts e → us ≡ with_last ts time → time ≤ 4294967295999 → IsKept line us e
kept_last line ts us e time k is small =
    let long = k.long in
    let a = length_with_last ts time in
    rw is (kept line (with_last ts time) e (omega (arith, a, long)) k.course.sound (game_of line ts e k) (few_of line ts e k)
    (rw (timed_last line.moves ts time k.long) (fit_last (timed line.moves ts) time small k.course.times)) k.course.last_time)

pub course_last : (line : Played) (ts us : List (Option ℕ)) (time : ℕ) (c : Course) → length ts ≡ length line.moves → course_of line ts None ≡ c → us ≡ with_last ts time → course_of line us None ≡ with_time c time
course_last line ts us time c long v is =
    rw (is, ← v) (ap (λ (xs : List Timed). record (course_of line ts None) { moves = xs }) (timed_last line.moves ts time long))

pub awaits_seen : (line : Played) (ts : List (Option ℕ)) (c : Course) → length ts ≡ length line.moves → course_of line ts None ≡ c → lacks_last ts ≡ awaits_time c
awaits_seen line ts c long v = sym (awaits_timed line.moves ts long) ∙ ap awaits_time v

-- why no further move is played
ended_some : (e : Option stored.Ended) → is_some (ended e) ≡ is_some e
ended_some None = refl
ended_some (Some e) = refl

abbrev faults : Bool → Bool → Option OrderFault
faults closed full = first_fault ((AfterEnding, closed) ∷ (TooManyMoves, full) ∷ [])

fault_seen : (line : Played) (ts : List (Option ℕ)) (e : Option stored.Ended) (c : Course) → length ts ≡ length line.moves → course_of line ts e ≡ c → play_fault c ≡ faults (is_some e) (nat_le 10000 (length ts))
fault_seen line ts e c long v =
    ap play_fault (sym v) ∙ (ap (λ b. faults b (nat_le 10000 (length (timed line.moves ts)))) (ended_some e)
    ∙ ap (λ n. faults (is_some e) (nat_le 10000 n)) (length_timed line.moves ts long ∙ sym long))

pub full_seen : (line : Played) (ts : List (Option ℕ)) (e : Option stored.Ended) (c : Course) → length ts ≡ length line.moves → course_of line ts e ≡ c → is_some e ≡ false → 10000 ≤ length ts → play_fault c ≡ Some TooManyMoves
full_seen line ts e c long v unended many = fault_seen line ts e c long v ∙ (ap (λ b. faults b (nat_le 10000 (length ts))) unended ∙ ap (λ b. faults false b) (le-leb 10000 (length ts) many))

pub free_seen : (line : Played) (ts : List (Option ℕ)) (e : Option stored.Ended) (c : Course) → length ts ≡ length line.moves → course_of line ts e ≡ c → is_some e ≡ false → length ts < 10000 → play_fault c ≡ None
free_seen line ts e c long v unended few = fault_seen line ts e c long v ∙ (ap (λ b. faults b (nat_le 10000 (length ts))) unended ∙ ap (λ b. faults false b) (lt-leb 10000 (length ts) few))

not_full : (closed full : Bool) → faults closed full ≡ None → full ≡ false
not_full true full h = cc
not_full false true h = cc
not_full false false h = refl

few_played : (line : Played) (ts : List (Option ℕ)) (e : Option stored.Ended) (c : Course) → length ts ≡ length line.moves → course_of line ts e ≡ c → play_fault c ≡ None → length line.moves < 10000
few_played line ts e c long v free =
    let few = leb-false 10000 (length ts) (not_full (is_some e) (nat_le 10000 (length ts)) (sym (fault_seen line ts e c long v) ∙ free)) in
    omega (arith, few, long)

-- what playing a move returns

pub answer_played : (line : Played) (ts : List (Option ℕ)) (e : Option stored.Ended) (c : Course) (color : Color) (m : Move) → length ts ≡ length line.moves → course_of line ts e ≡ c → play_fault c ≡ None → Answers line color m None → (answer : Option Why) × PlayAnswers c color m answer × IsAnswer answer (Ok (tt {0}))
answer_played line ts e c color m long v free h =
    (None, after None c color m None free (None, subst (λ (l : Played). Answers l color m None) (line_seen line ts e c long v) h, refl), tt)

answer_why : (line : Played) (c : Course) (color : Color) (m : Move) (why : Why) → line ≡ course_line c → length line.moves < 10000 → play_fault c ≡ None → NotPlayed line color m why → (answer : Option Why) × PlayAnswers c color m answer × IsAnswer answer (Err why)
answer_why line c color m why is few free (None, h, w) = (None, after None c color m None free (None, subst (λ (l : Played). Answers l color m None) is h, refl), w)
answer_why line c color m why is few free (Some playing.TooManyMoves, h, w) = absurd (omega (arith, few, h))
answer_why line c color m why is few free (Some (playing.Broken rule), h, w) = (Some (Rule rule), after None c color m (Some (Rule rule)) free (Some (playing.Broken rule), subst (λ (l : Played). Answers l color m (Some (playing.Broken rule))) is h, refl), w)
answer_why line c color m why is few free (Some playing.OutOfMemory, h, w) = absurd h

pub answer_refused : (line : Played) (ts : List (Option ℕ)) (e : Option stored.Ended) (c : Course) (color : Color) (m : Move) (why : Why) → length ts ≡ length line.moves → course_of line ts e ≡ c → play_fault c ≡ None → NotPlayed line color m why → (answer : Option Why) × PlayAnswers c color m answer × IsAnswer answer (Err why)
answer_refused line ts e c color m why long v free h =
    answer_why line c color m why (line_seen line ts e c long v) (few_played line ts e c long v free) free h

-- what `Line::play` returns, for a move that is not played
pub not_played : (line : Played) (color : Color) (m : Move) (fault : PlayFault) → ((fault ≡ playing.OutOfMemory) × Answers line color m None) ⊎ Answers line color m (Some fault) → (why : Why) → why ≡ why_of fault → NotPlayed line color m why
not_played line color m fault (inl h) why is = (None, h.1, is ∙ ap why_of h.0)
not_played line color m fault (inr h) why is = (Some fault, h, is)
