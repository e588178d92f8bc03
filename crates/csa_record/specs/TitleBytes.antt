-- For private functions and fields of `Titles`: headers in memory, seen as entries.
-- A reader of the public contracts may skip this file.
use Rattle.std.specs.Prelude.{ℕ, List, [], ◌∷◌}
use Rattle.std.specs.Global.{Vec}
use Rattle.csa_text.specs.Moment.{moment_of}
use Rattle.csa_record.specs.declared.titles.HeaderText.{HeaderText}
use Rattle.csa_record.specs.declared.titles.HeaderText.TheVariants as texts
use Rattle.record_game.specs.Game as games

abbrev pub text_of : HeaderText → games.HeaderText
text_of (texts.Moment m) = games.moment (moment_of m)
text_of (texts.Plain bytes) = games.plain bytes.items

abbrev pub entry_of : Vec ℕ → HeaderText → games.Entry
entry_of key text = record { key = key.items; text = text_of text }

-- the entries with these keys and texts
abbrev pub entries_of : List (Vec ℕ × HeaderText) → List games.Entry
entries_of [] = []
entries_of (e ∷ es) = entry_of e.0 e.1 ∷ entries_of es
