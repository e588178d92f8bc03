-- Which values are games.
use Rattle.std.specs.Prelude.{◌≡◌, ◌≢◌, ◌⊎◌, ℕ, ◌+◌, ◌≤◌, nat_lt, Bool, true, false, List, [], ◌∷◌, length, map, pos, codes, Option, Some, None, IfSome, if◌then◌else◌}
use Rattle.std.specs.List.{AllByRecursion}
use Rattle.jiff_core.specs.Calendar.{IsCivilDate}
use Rattle.shogi_board.specs.Sound.{IsSound}
use Rattle.shogi_rules.specs.Positions as rules
use Rattle.csa_text.specs.Fields.{HasNone}
use Rattle.csa_text.specs.Moment.{CalendarMoment, TimeOfDay, SpellsMoment}
use Rattle.record_game.specs.Game.{Game, Timed, Ended, HeaderText, moment, plain, Entry, move_of}
use Rattle.csa_cutting.specs.Cut.{longest_statement}
use Rattle.shogi_rules.specs.Positions.{max_moves}

-- the most headers that a record may have
abbrev pub most_headers : ℕ
most_headers = 64

-- a text without a line end
abbrev pub IsOneLine : List ℕ → Type 0
IsOneLine text = AllByRecursion (λ b. (b ≢ 13) × (b ≢ 10)) text

-- a name, which is not empty, and fits into a statement after its `N+` or `N-`
pub record IsName (text : List ℕ) : Type 0 where
  pub some : text ≢ []
  pub one_line : IsOneLine text
  pub fits : 2 + length text ≤ longest_statement

-- the keys whose value may be a moment
abbrev pub IsMomentKey : List ℕ → Type 0
IsMomentKey key = (key ≡ codes "START_TIME") ⊎ (key ≡ codes "END_TIME")

abbrev pub IsInDay : Option TimeOfDay → Type 0
IsInDay None = Unit {0}
IsInDay (Some t) = (t.hour ≤ 23) × (t.minute ≤ 59) × (t.second ≤ 59)

-- a day of the calendar, and a time in it
pub record IsMoment (m : CalendarMoment) : Type 0 where
  pub year : m.year ≤ 9999
  pub day : IsCivilDate (pos m.year) m.month m.day
  pub time : IsInDay m.time

-- another text, which is not empty, fits into a statement after `$`, the key and `:`, and does not
-- spell a moment if the key is one of those
pub record IsPlain (key text : List ℕ) : Type 0 where
  pub some : text ≢ []
  pub one_line : IsOneLine text
  pub fits : 2 + length key + length text ≤ longest_statement
  pub no_moment : IsMomentKey key → (m : CalendarMoment) → SpellsMoment text m → ⊥

abbrev pub MayStandUnder : List ℕ → HeaderText → Type 0
MayStandUnder key (moment m) = IsMomentKey key × IsMoment m
MayStandUnder key (plain text) = IsPlain key text

-- a key, which is not empty and has no colon, and a value that it may have
pub record IsEntry (e : Entry) : Type 0 where
  pub some : e.key ≢ []
  pub one_line : IsOneLine e.key
  pub no_colon : HasNone 58 e.key
  pub text : MayStandUnder e.key e.text

-- the first of two texts comes before the other in the order of their bytes
abbrev pub is_below : List ℕ → List ℕ → Bool
is_below [] [] = false
is_below [] (c ∷ cs) = true
is_below (b ∷ bs) [] = false
is_below (b ∷ bs) (c ∷ cs) =
    if nat_lt b c then true else if nat_lt c b then false else is_below bs cs

-- each key comes before the next one, so no two are equal and the entries have one order
abbrev pub Rising : List Entry → Type 0
Rising [] = Unit {0}
Rising (e ∷ []) = Unit {0}
Rising (e ∷ f ∷ es) = (is_below e.key f.key ≡ true) × Rising (f ∷ es)

-- the longest time, in thousandths of a second: 4,294,967,295 seconds and 999 thousandths
abbrev pub longest_time : ℕ
longest_time = 4294967295999

-- a time, if there is one, is at most that
abbrev pub IsTimed : Option ℕ → Type 0
IsTimed None = Unit {0}
IsTimed (Some t) = t ≤ longest_time

abbrev pub EndsInTime : Option Ended → Type 0
EndsInTime None = Unit {0}
EndsInTime (Some e) = IsTimed e.time

-- each move is legal after those before it, and none is played in a position that occurs for the
-- fourth time
pub record IsGame (g : Game) : Type 0 where
  pub black : IfSome g.black IsName
  pub white : IfSome g.white IsName
  pub entries : AllByRecursion IsEntry g.headers
  pub rising : Rising g.headers
  pub few_headers : length g.headers ≤ most_headers
  pub sound : IsSound g.start
  pub line : rules.IsGame g.start (map move_of g.moves)
  pub few_moves : length g.moves ≤ max_moves
  pub times : AllByRecursion (λ (t : Timed). IsTimed t.time) g.moves
  pub last_time : EndsInTime g.ending
