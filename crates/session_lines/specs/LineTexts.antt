-- The texts that lines of the CSA server protocol are made of.
use Rattle.std.specs.Prelude.{ℕ, List, codes}

-- 1. What a client sends
abbrev pub login : List ℕ
login = codes "LOGIN"

abbrev pub login_front : List ℕ
login_front = codes "LOGIN "

abbrev pub agree : List ℕ
agree = codes "AGREE"

abbrev pub reject : List ℕ
reject = codes "REJECT"

abbrev pub toryo : List ℕ
toryo = codes "%TORYO"

abbrev pub kachi : List ℕ
kachi = codes "%KACHI"

abbrev pub logout : List ℕ
logout = codes "LOGOUT"

-- 2. What a server answers to these: whole lines, and the parts of others
abbrev pub login_answer : List ℕ
login_answer = codes "LOGIN:"

abbrev pub ok : List ℕ
ok = codes " OK"

abbrev pub login_incorrect : List ℕ
login_incorrect = codes "LOGIN:incorrect"

abbrev pub start : List ℕ
start = codes "START:"

abbrev pub rejected : List ℕ
rejected = codes "REJECT:"

abbrev pub by : List ℕ
by = codes " by "

abbrev pub time : List ℕ
time = codes ",T"

abbrev pub logout_completed : List ℕ
logout_completed = codes "LOGOUT:completed"

-- 3. Its reasons
abbrev pub resign : List ℕ
resign = codes "#RESIGN"

abbrev pub time_up : List ℕ
time_up = codes "#TIME_UP"

abbrev pub illegal_move : List ℕ
illegal_move = codes "#ILLEGAL_MOVE"

abbrev pub sennichite : List ℕ
sennichite = codes "#SENNICHITE"

abbrev pub oute_sennichite : List ℕ
oute_sennichite = codes "#OUTE_SENNICHITE"

abbrev pub jishogi : List ℕ
jishogi = codes "#JISHOGI"

abbrev pub max_moves : List ℕ
max_moves = codes "#MAX_MOVES"

-- 4. Its results
abbrev pub win : List ℕ
win = codes "#WIN"

abbrev pub lose : List ℕ
lose = codes "#LOSE"

abbrev pub draw : List ℕ
draw = codes "#DRAW"

abbrev pub censored : List ℕ
censored = codes "#CENSORED"

abbrev pub chudan : List ℕ
chudan = codes "#CHUDAN"

-- 5. Its game summary
abbrev pub begin : List ℕ
begin = codes "BEGIN "

abbrev pub end : List ℕ
end = codes "END "

abbrev pub begin_summary : List ℕ
begin_summary = codes "BEGIN Game_Summary"

abbrev pub end_summary : List ℕ
end_summary = codes "END Game_Summary"

abbrev pub position_title : List ℕ
position_title = codes "Position"

abbrev pub begin_position : List ℕ
begin_position = codes "BEGIN Position"

abbrev pub end_position : List ℕ
end_position = codes "END Position"

abbrev pub game_id : List ℕ
game_id = codes "Game_ID:"

abbrev pub black_name : List ℕ
black_name = codes "Name+:"

abbrev pub white_name : List ℕ
white_name = codes "Name-:"

abbrev pub your_turn : List ℕ
your_turn = codes "Your_Turn:"

abbrev pub black_to_move : List ℕ
black_to_move = codes "To_Move:+"

abbrev pub most_moves : List ℕ
most_moves = codes "Max_Moves:"

abbrev pub even_start : List ℕ
even_start = codes "PI"

abbrev pub black : List ℕ
black = codes "+"

-- 6. What separates words
abbrev pub space : List ℕ
space = codes " "
