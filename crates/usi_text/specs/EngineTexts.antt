-- The texts that lines to and from a USI engine are made of.
use Rattle.std.specs.Prelude.{ℕ, List, codes}

-- 1. What an engine is sent
abbrev pub usi : List ℕ
usi = codes "usi"

abbrev pub is_ready : List ℕ
is_ready = codes "isready"

abbrev pub new_game : List ℕ
new_game = codes "usinewgame"

abbrev pub position : List ℕ
position = codes "position"

abbrev pub position_front : List ℕ
position_front = codes "position "

abbrev pub go : List ℕ
go = codes "go"

abbrev pub go_black_time : List ℕ
go_black_time = codes "go btime "

abbrev pub white_time : List ℕ
white_time = codes " wtime "

abbrev pub byoyomi : List ℕ
byoyomi = codes " byoyomi "

abbrev pub game_won : List ℕ
game_won = codes "gameover win"

abbrev pub game_lost : List ℕ
game_lost = codes "gameover lose"

abbrev pub game_drawn : List ℕ
game_drawn = codes "gameover draw"

abbrev pub quit : List ℕ
quit = codes "quit"

-- 2. What an engine answers
abbrev pub id_name : List ℕ
id_name = codes "id name shogi"

abbrev pub id_author : List ℕ
id_author = codes "id author shogi"

abbrev pub usi_ok : List ℕ
usi_ok = codes "usiok"

abbrev pub ready_ok : List ℕ
ready_ok = codes "readyok"

abbrev pub best_move_word : List ℕ
best_move_word = codes "bestmove"

abbrev pub best_move : List ℕ
best_move = codes "bestmove "

abbrev pub no_best_move : List ℕ
no_best_move = codes "bestmove resign"

abbrev pub engine_resigns : List ℕ
engine_resigns = codes "resign"

abbrev pub engine_wins : List ℕ
engine_wins = codes "win"
