-- What the body of a record's items contributes to each of the filters.
use Rattle.std.proofs.Common.{◌≡◌, ℕ, Bool, true, false, not, List, [], ◌∷◌, ◌++◌, map, Option, Some, None, refl, sym, ap, ◌∙◌, append_assoc}
use Rattle.std.specs.Prelude.{is_some}
use Rattle.std.proofs.lemmas.List.{append-nil}
use Rattle.std.proofs.lemmas.List.Elements.{filter-append, filter_map-append}
use Rattle.shogi_board.specs.declared.color.Color.{Color}
use Rattle.shogi_board.specs.Pieces.{opponent}
use Rattle.shogi_board.specs.Placed.{Placed}
use Rattle.shogi_board.specs.declared.moves.Move.{Move}
use Rattle.shogi_board.specs.After.{after}
use Rattle.shogi_rules.specs.Positions.{position_after}
use Rattle.csa_text.specs.Saying.{Saying, version, name, header, even, rank, pieces, turn, walked, time, ending}
use Rattle.record_game.specs.Course.{awaits, awaits_after_it, with_last_time}
use Rattle.record_game.specs.Game.{Timed, Ended, move_of}
use Rattle.record_game.specs.Items.{positions, side_given, sides, move_given, moves, is_ending, body}
use Rattle.record_game.specs.Order.{stands, endings, may_have_time, last_may_have_time}
use Rattle.record_game.specs.Says.{time_items, move_items, ending_items}
use Rattle.record_game.proofs.SaysOnce.{sides_positions, sides_body, sides_moves, sides_ending}

-- moves
move_body : (s : Saying) (ss : List Saying) → moves (body (s ∷ ss)) ≡ moves (s ∷ []) ++ moves (body ss)
move_body version ss = refl
move_body (name c t) ss = refl
move_body (header k t) ss = refl
move_body (even ps) ss = refl
move_body (rank n cs) ss = refl
move_body (pieces c ps) ss = refl
move_body (turn c) ss = refl
move_body (walked c m) ss = refl
move_body (time t) ss = refl
move_body (ending e) ss = refl

moves_body : (ss : List Saying) → moves (body ss) ≡ moves ss
moves_body [] = refl
moves_body (s ∷ ss) =
    move_body s ss ∙ (ap (λ ms. moves (s ∷ []) ++ ms) (moves_body ss) ∙ sym (filter_map-append move_given (s ∷ []) ss))

move_positions : (s : Saying) (ss : List Saying) → moves (positions (s ∷ ss)) ≡ moves (positions ss)
move_positions version ss = refl
move_positions (name c t) ss = refl
move_positions (header k t) ss = refl
move_positions (even ps) ss = refl
move_positions (rank n cs) ss = refl
move_positions (pieces c ps) ss = refl
move_positions (turn c) ss = refl
move_positions (walked c m) ss = refl
move_positions (time t) ss = refl
move_positions (ending e) ss = refl

moves_positions : (ss : List Saying) → moves (positions ss) ≡ []
moves_positions [] = refl
moves_positions (s ∷ ss) = move_positions s ss ∙ moves_positions ss

moves_time : (t : Option ℕ) (ss : List Saying) → moves (time_items t ++ ss) ≡ moves ss
moves_time None ss = refl
moves_time (Some t) ss = refl

moves_moves : (c : Color) (ts : List Timed) (ss : List Saying) → moves (move_items c ts ++ ss) ≡ map move_of ts ++ moves ss
moves_moves c [] ss = refl
moves_moves c (t ∷ ts) ss =
    ap (λ ms. t.move ∷ ms) (ap moves (append_assoc (time_items t.time) (move_items (opponent c) ts) ss)
    ∙ (moves_time t.time (move_items (opponent c) ts ++ ss) ∙ moves_moves (opponent c) ts ss))

moves_ending : (e : Option Ended) → moves (ending_items e) ≡ []
moves_ending None = refl
moves_ending (Some e) = timed e.time
  where
    timed : (t : Option ℕ) → moves (time_items t) ≡ []
    timed None = refl
    timed (Some t) = refl

-- endings
ending_body : (s : Saying) (ss : List Saying) → endings (body (s ∷ ss)) ≡ endings (s ∷ []) ++ endings (body ss)
ending_body version ss = refl
ending_body (name c t) ss = refl
ending_body (header k t) ss = refl
ending_body (even ps) ss = refl
ending_body (rank n cs) ss = refl
ending_body (pieces c ps) ss = refl
ending_body (turn c) ss = refl
ending_body (walked c m) ss = refl
ending_body (time t) ss = refl
ending_body (ending e) ss = refl

endings_body : (ss : List Saying) → endings (body ss) ≡ endings ss
endings_body [] = refl
endings_body (s ∷ ss) =
    ending_body s ss ∙ (ap (λ es. endings (s ∷ []) ++ es) (endings_body ss) ∙ sym (filter-append is_ending (s ∷ []) ss))

ending_positions : (s : Saying) (ss : List Saying) → endings (positions (s ∷ ss)) ≡ endings (positions ss)
ending_positions version ss = refl
ending_positions (name c t) ss = refl
ending_positions (header k t) ss = refl
ending_positions (even ps) ss = refl
ending_positions (rank n cs) ss = refl
ending_positions (pieces c ps) ss = refl
ending_positions (turn c) ss = refl
ending_positions (walked c m) ss = refl
ending_positions (time t) ss = refl
ending_positions (ending e) ss = refl

endings_positions : (ss : List Saying) → endings (positions ss) ≡ []
endings_positions [] = refl
endings_positions (s ∷ ss) = ending_positions s ss ∙ endings_positions ss

endings_time : (t : Option ℕ) (ss : List Saying) → endings (time_items t ++ ss) ≡ endings ss
endings_time None ss = refl
endings_time (Some t) ss = refl

endings_moves : (c : Color) (ts : List Timed) (ss : List Saying) → endings (move_items c ts ++ ss) ≡ endings ss
endings_moves c [] ss = refl
endings_moves c (t ∷ ts) ss =
    ap endings (append_assoc (time_items t.time) (move_items (opponent c) ts) ss)
    ∙ (endings_time t.time (move_items (opponent c) ts ++ ss) ∙ endings_moves (opponent c) ts ss)

ending_stands : (e : Option Ended) → stands (endings (ending_items e)) ≡ is_some e
ending_stands None = refl
ending_stands (Some e) = refl

-- times
awaits_front : (s : Saying) (ss : List Saying) → may_have_time s ≡ false → last_may_have_time ss ≡ false → last_may_have_time (s ∷ ss) ≡ false
awaits_front s [] h k = h
awaits_front s (t ∷ ts) h k = k

awaits_positions : (ss : List Saying) → last_may_have_time (positions ss) ≡ false
awaits_positions [] = refl
awaits_positions (version ∷ ss) = awaits_positions ss
awaits_positions (name c t ∷ ss) = awaits_positions ss
awaits_positions (header k t ∷ ss) = awaits_positions ss
awaits_positions (even ps ∷ ss) = awaits_front (even ps) (positions ss) refl (awaits_positions ss)
awaits_positions (rank n cs ∷ ss) = awaits_front (rank n cs) (positions ss) refl (awaits_positions ss)
awaits_positions (pieces c ps ∷ ss) = awaits_front (pieces c ps) (positions ss) refl (awaits_positions ss)
awaits_positions (turn c ∷ ss) = awaits_positions ss
awaits_positions (walked c m ∷ ss) = awaits_positions ss
awaits_positions (time t ∷ ss) = awaits_positions ss
awaits_positions (ending e ∷ ss) = awaits_positions ss

awaits_after : (xs : List Saying) (y : Saying) (ys : List Saying) → last_may_have_time (xs ++ y ∷ ys) ≡ last_may_have_time (y ∷ ys)
awaits_after [] y ys = refl
awaits_after (x ∷ []) y ys = refl
awaits_after (x ∷ z ∷ xs) y ys = awaits_after (z ∷ xs) y ys

awaits_last : (s : Saying) (c : Color) (m : Move) (o : Option ℕ) → last_may_have_time (s ∷ walked c m ∷ (time_items o ++ [])) ≡ not (is_some o)
awaits_last s c m None = refl
awaits_last s c m (Some n) = refl

awaits_next : (s : Saying) (c d : Color) (m : Move) (o : Option ℕ) (u : Timed) (us : List Timed) (b : Bool) → ((r : Saying) → last_may_have_time (r ∷ move_items d (u ∷ us)) ≡ b) → last_may_have_time (s ∷ walked c m ∷ (time_items o ++ move_items d (u ∷ us))) ≡ b
awaits_next s c d m None u us b h = h (walked c m)
awaits_next s c d m (Some n) u us b h = h (time n)

awaits_moves : (s : Saying) (c : Color) (t : Timed) (ts : List Timed) → last_may_have_time (s ∷ move_items c (t ∷ ts)) ≡ awaits (t ∷ ts)
awaits_moves s c t [] = awaits_last s c t.move t.time
awaits_moves s c t (u ∷ us) = awaits_next s c (opponent c) t.move t.time u us (awaits (u ∷ us)) (λ r. awaits_moves r (opponent c) u us)

awaits_ended : (s : Saying) (ss : List Saying) (e : Ended) → last_may_have_time (s ∷ (ss ++ ending_items (Some e))) ≡ not (is_some e.time)
awaits_ended s ss e = awaits_after (s ∷ ss) (ending e.ending) (time_items e.time) ∙ timed e.ending e.time
  where
    timed : (k : _) (t : Option ℕ) → last_may_have_time (ending k ∷ time_items t) ≡ not (is_some t)
    timed k None = refl
    timed k (Some n) = refl

awaits_played : (c : Color) (ts : List Timed) (e : Option Ended) → last_may_have_time (turn c ∷ (move_items c ts ++ ending_items e)) ≡ awaits_after_it ts e
awaits_played c [] None = refl
awaits_played c (t ∷ ts) None = ap (λ ss. last_may_have_time (turn c ∷ ss)) (append-nil (move_items c (t ∷ ts))) ∙ awaits_moves (turn c) c t ts
awaits_played c ts (Some e) = awaits_ended (turn c) (move_items c ts) e

-- a body of position statements
pub record IsLaying (ss : List Saying) : Type 0 where
  pub sides : sides ss ≡ []
  pub moves : moves ss ≡ []
  pub endings : endings ss ≡ []
  pub awaits : last_may_have_time (body ss) ≡ false

pub laying_body : (ss : List Saying) → body ss ≡ positions ss → IsLaying ss
laying_body ss h = record {
  sides = sym (sides_body ss) ∙ (ap sides h ∙ sides_positions ss);
  moves = sym (moves_body ss) ∙ (ap moves h ∙ moves_positions ss);
  endings = sym (endings_body ss) ∙ (ap endings h ∙ endings_positions ss);
  awaits = ap last_may_have_time h ∙ awaits_positions ss;
}

-- a body with a side, and what was played
pub record IsPlaying (ss : List Saying) (side : Color) (ts : List Timed) (e : Option Ended) : Type 0 where
  pub sides : sides ss ≡ side ∷ []
  pub moves : moves ss ≡ map move_of ts
  pub endings : stands (endings ss) ≡ is_some e
  pub awaits : last_may_have_time (body ss) ≡ awaits_after_it ts e

pub playing_body : (ss : List Saying) (side : Color) (ts : List Timed) (e : Option Ended) → body ss ≡ positions ss ++ turn side ∷ (move_items side ts ++ ending_items e) → IsPlaying ss side ts e
playing_body ss side ts e h =
    let all = turn side ∷ (move_items side ts ++ ending_items e) in
    record {
      sides = sym (sides_body ss) ∙ (ap sides h ∙ (filter_map-append side_given (positions ss) all
          ∙ (ap (λ cs. cs ++ sides all) (sides_positions ss) ∙ ap (λ cs. side ∷ cs) (sides_moves side ts (ending_items e) ∙ sides_ending e))));
      moves = sym (moves_body ss) ∙ (ap moves h ∙ (filter_map-append move_given (positions ss) all
          ∙ (ap (λ ms. ms ++ moves all) (moves_positions ss) ∙ (moves_moves side ts (ending_items e)
          ∙ (ap (λ ms. map move_of ts ++ ms) (moves_ending e) ∙ append-nil (map move_of ts))))));
      endings = ap stands (sym (endings_body ss) ∙ (ap endings h ∙ (filter-append is_ending (positions ss) all
          ∙ (ap (λ es. es ++ endings all) (endings_positions ss) ∙ endings_moves side ts (ending_items e))))) ∙ ending_stands e;
      awaits = ap last_may_have_time h ∙ (awaits_after (positions ss) (turn side) (move_items side ts ++ ending_items e) ∙ awaits_played side ts e);
    }

-- what is played, with one more item
pub with_move : (p : Placed) (ts : List Timed) (m : Move) → move_items p.side (ts ++ record { move = m; time = None } ∷ []) ≡ move_items p.side ts ++ walked (position_after p (map move_of ts)).side m ∷ []
with_move p [] m = refl
with_move p (t ∷ ts) m =
    ap (λ ss. walked p.side t.move ∷ ss) (ap (λ ss. time_items t.time ++ ss) (with_move (after p t.move) ts m)
    ∙ sym (append_assoc (time_items t.time) (move_items (opponent p.side) ts) _))

timed_more : (c : Color) (m : Move) (o : Option ℕ) (n : ℕ) → not (is_some o) ≡ true → walked c m ∷ (time n ∷ []) ≡ (walked c m ∷ (time_items o ++ [])) ++ time n ∷ []
timed_more c m None n h = refl
timed_more c m (Some k) n h = cc

pub with_time_of_move : (c : Color) (ts : List Timed) (n : ℕ) → awaits ts ≡ true → move_items c (with_last_time ts n) ≡ move_items c ts ++ time n ∷ []
with_time_of_move c [] n h = cc
with_time_of_move c (t ∷ []) n h = timed_more c t.move t.time n h
with_time_of_move c (t ∷ u ∷ us) n h =
    ap (λ ss. walked c t.move ∷ ss) (ap (λ ss. time_items t.time ++ ss) (with_time_of_move (opponent c) (u ∷ us) n h)
    ∙ sym (append_assoc (time_items t.time) (move_items (opponent c) (u ∷ us)) (time n ∷ [])))

pub with_time_of_ending : (e : Ended) (n : ℕ) → not (is_some e.time) ≡ true → ending_items (Some (record e { time = Some n })) ≡ ending_items (Some e) ++ time n ∷ []
with_time_of_ending e n h = timed e.time h
  where
    timed : (o : Option ℕ) → not (is_some o) ≡ true → ending e.ending ∷ (time n ∷ []) ≡ (ending e.ending ∷ time_items o) ++ time n ∷ []
    timed None k = refl
    timed (Some m) k = cc
