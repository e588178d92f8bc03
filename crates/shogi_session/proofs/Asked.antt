-- When the engine is asked, and how much time it has left.
use Rattle.std.proofs.Common.{◌≡◌, ◌↔◌, ℕ, ◌+◌, ◌-◌, ◌<◌, List, [], ◌∷◌, ◌++◌, Bool, true, false, IsTrue, not, Option, None, length, map, drop, get_or, arith, refl, sym, ap, ◌∙◌, subst, append_assoc, if◌then◌else◌}
use Rattle.std.proofs.lemmas.List.{length-map, append-nil, drop_more, get_or-map}
use Rattle.shogi_board.specs.declared.color.Color.{Color}
use Rattle.shogi_board.specs.Pieces.{opponent, same_color}
use Rattle.shogi_rules.specs.Positions.{Played, now_of}
use Rattle.shogi_rules.specs.Positions.{Over}
use Rattle.usi_text.specs.LineText.{LineText}
use Rattle.csa_record.specs.Course.{time_at, time_of}
use Rattle.csa_record.specs.Game.{Game, Timed, move_of}
use Rattle.bridge_table.specs.declared.config.Config.{Config}
use Rattle.shogi_session.specs.Asked.{IsAsked}
use Rattle.shogi_session.specs.declared.asking.Question.TheVariants.{Asked}
use Rattle.bridge_table.specs.Asking.{MayAsk, go_line, thousandths, used}
use Rattle.bridge_table.specs.State.{Match, match_line}
use Rattle.session_lines.specs.Texts.{ended_line, text_of}

abbrev played_of : Game → Played
played_of x = record { start = x.start; moves = map move_of x.moves }

-- the side to move is the client's and there is room: all depends on the repetition
pub may_ask_now : (g : Match) (game : Game) (client side : Color) (l : Played) (over : Bool) → g.client ≡ client → g.game ≡ game → l ≡ played_of game → side ≡ (now_of l).side → side ≡ client → length l.moves < 10000 → (IsTrue over ↔ Over l) → (IsTrue (not over) ↔ MayAsk g)
may_ask_now g game client side l over cl e is s c few stated =
    let same : match_line g ≡ l = ap played_of e ∙ sym is in
    let moves : length l.moves ≡ length g.game.moves = ap (λ (t : Played). length t.moves) (sym same) ∙ length-map g.game.moves move_of in
    let turn : (now_of (match_line g)).side ≡ g.client = ap (λ t. (now_of t).side) same ∙ (sym s ∙ (c ∙ sym cl)) in
    may_ask_by over stated same turn (omega (arith, few, moves))
  where
    may_ask_by : (b : Bool) → (IsTrue b ↔ Over l) → match_line g ≡ l → (now_of (match_line g)).side ≡ g.client → length g.game.moves < 10000 → (IsTrue (not b) ↔ MayAsk g)
    may_ask_by true stated same turn room = (λ h. cc, λ (may : MayAsk g). absurd (may.not_over (subst (λ t. Over t) (sym same) (stated.0 refl))))
    may_ask_by false stated same turn room = (
      λ h. record {
        to_move = turn;
        not_over = λ o. let x = stated.1 (subst (λ t. Over t) same o) in cc;
        few = room;
      },
      λ may. refl,
    )

-- the position line and then the go line
pub asked_text : (c : Config) (g : Match) (game : Game) (l : Played) (position before middle after : List ℕ) → MayAsk g → g.game ≡ game → l ≡ played_of game → LineText l.start l.moves position → middle ≡ before ++ ended_line position → after ≡ middle ++ ended_line (go_line c g) → (text : List ℕ) × (after ≡ before ++ text) × IsAsked c g Asked text
asked_text c g game l position before middle after may e is stated first second =
    let same : match_line g ≡ l = ap played_of e ∙ sym is in
    let lines : List (List ℕ) = position ∷ go_line c g ∷ [] in
    let both : text_of lines ≡ ended_line position ++ ended_line (go_line c g) = ap (λ t. ended_line position ++ t) (append-nil (ended_line (go_line c g))) in (
      text_of lines,
      second ∙ (ap (λ t. t ++ ended_line (go_line c g)) first ∙ (append_assoc before (ended_line position) (ended_line (go_line c g)) ∙ ap (λ t. before ++ t) (sym both))),
      (
        may,
        lines,
        record {
          position = position;
          of_game = subst (λ (t : Played). LineText t.start t.moves position) (sym same) stated;
          whole = refl;
        },
        refl,
      ),
    )

time_there : (moves : List Timed) (m : Timed) (i : ℕ) → i < length moves → time_at moves i ≡ (get_or moves i m).time
time_there moves m i low = get_or-map time_of moves i m None low

used_at : (color side : Color) (moves : List Timed) (m : Timed) (i : ℕ) → i < length moves → used color side (drop i moves) ≡ (if same_color color side then thousandths (time_at moves i) else 0) + used color (opponent side) (drop (i + 1) moves)
used_at color side moves m i low =
    ap (used color side) (drop_more moves i m low)
    ∙ ap (λ t. (if same_color color side then thousandths t else 0) + used color (opponent side) (drop (i + 1) moves)) (sym (time_there moves m i low))

pub used_more : (color side : Color) (moves : List Timed) (i : ℕ) → i < length moves → used color side (drop i moves) ≡ (if same_color color side then thousandths (time_at moves i) else 0) + used color (opponent side) (drop (i + 1) moves)
used_more color side [] i low = absurd (omega (arith, low))
used_more color side (m ∷ ms) i low = used_at color side (m ∷ ms) m i low

less_more : (have new a r u s total : ℕ) → u ≡ a + r → s ≡ r → new ≡ have - a → have - u ≡ total → new - s ≡ total
less_more have new a r u s total more same less old = omega (arith, more, same, less, old)

pub left_more : (color side next : Color) (moves : List Timed) (i have new total : ℕ) (time : Option ℕ) → i < length moves → time ≡ time_at moves i → new ≡ have - (if same_color color side then thousandths time else 0) → next ≡ opponent side → have - used color side (drop i moves) ≡ total → new - used color next (drop (i + 1) moves) ≡ total
left_more color side next moves i have new total time low there less turn old =
    less_more have new (if same_color color side then thousandths (time_at moves i) else 0) (used color (opponent side) (drop (i + 1) moves)) (used color side (drop i moves)) (used color next (drop (i + 1) moves)) total
    (used_more color side moves i low)
    (ap (λ t. used color t (drop (i + 1) moves)) turn)
    (less ∙ ap (λ t. have - (if same_color color side then thousandths t else 0)) there)
    old
