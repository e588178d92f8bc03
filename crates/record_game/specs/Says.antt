-- What a whole list of items says.
use Rattle.std.specs.Prelude.{◌≡◌, ◌⊎◌, ℕ, ◌==◌, List, [], ◌∷◌, ◌++◌, drop, filter, Option, Some, None}
use Rattle.std.specs.Option.{option_to_list}
use Rattle.shogi_board.specs.declared.color.Color.{Color}
use Rattle.shogi_board.specs.declared.color.Color.TheVariants.{Black, White}
use Rattle.shogi_board.specs.Pieces.{opponent}
use Rattle.csa_text.specs.Moment.{CalendarMoment, SpellsMoment}
use Rattle.csa_text.specs.Saying.{Saying, turn, walked, time, ending}
use Rattle.record_game.specs.Game.{Game, Timed, Ended, HeaderText, moment, plain, Entry}
use Rattle.record_game.specs.Items.{is_version, names, headers, is_even, ranks, positions, body, AtMostOne}
use Rattle.record_game.specs.Limits.{IsMomentKey, IsGame}
use Rattle.record_game.specs.Union.{GiveStart}

-- the moment that the text spells, if the key is one of those and it spells one; else the text
abbrev pub IsValue : List ℕ → List ℕ → HeaderText → Type 0
IsValue key text (moment m) = IsMomentKey key × SpellsMoment text m
IsValue key text (plain other) = (other ≡ text)
    × (IsMomentKey key → (m : CalendarMoment) → SpellsMoment text m → ⊥)

-- these keys and texts are those of the entries, in any order: one entry is that of the first
-- header, and the others are those of the rest
abbrev pub AreEntries : List (List ℕ × List ℕ) → List Entry → Type 0
AreEntries [] entries = entries ≡ []
AreEntries (h ∷ hs) entries =
    (front : List Entry) × (e : Entry) × (following : List Entry)
    × (entries ≡ front ++ e ∷ following)
    × (e.key ≡ h.0) × IsValue h.0 h.1 e.text × AreEntries hs (front ++ following)

-- the items of the moves, each with its time, and of the ending
abbrev pub time_items : Option ℕ → List Saying
time_items None = []
time_items (Some t) = time t ∷ []

abbrev pub move_items : Color → List Timed → List Saying
move_items color [] = []
move_items color (t ∷ ts) = walked color t.move
    ∷ (time_items t.time ++ move_items (opponent color) ts)

abbrev pub ending_items : Option Ended → List Saying
ending_items None = []
ending_items (Some e) = ending e.ending ∷ time_items e.time

abbrev pub played_items : Game → List Saying
played_items g = move_items g.start.side g.moves ++ ending_items g.ending

-- no rank is given twice
abbrev pub RanksOnce : List Saying → Type 0
RanksOnce sayings = (number : ℕ) → AtMostOne (filter (λ n. n == number) (ranks sayings))

-- the items say this game
pub record Says (sayings : List Saying) (g : Game) : Type 0 where
  -- a version is the first item, or there is none
  pub version_first : filter is_version (drop 1 sayings) ≡ []
  -- at most one name of each side, anywhere
  pub black : names Black sayings ≡ option_to_list g.black
  pub white : names White sayings ≡ option_to_list g.white
  -- headers, anywhere
  pub headers : AreEntries (headers sayings) g.headers
  -- `PI` is the first position statement or there is none, and no rank is given beside it or twice
  pub even_first : filter is_even (drop 1 (positions sayings)) ≡ []
  pub even_or_ranks : (filter is_even sayings ≡ []) ⊎ (ranks sayings ≡ [])
  pub ranks_once : RanksOnce sayings
  pub start : GiveStart (positions sayings) g.start
  -- the position statements, the side to move, the moves, the ending
  pub in_order : body sayings ≡ positions sayings ++ turn g.start.side ∷ played_items g
  pub game : IsGame g
