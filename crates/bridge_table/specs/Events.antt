-- What happens to a bridge, and the lines that it sends.
use Rattle.std.specs.Prelude.{ℕ, List, [], ◌∷◌}
use Rattle.session_lines.specs.Texts.{without_last_spaces}

pub data Event : Type 0 where
  begin : Event
  engine_line : List ℕ → Event
  server_line : List ℕ → Event
  engine_end : Event
  server_end : Event
  engine_long : Event
  server_long : Event

-- the event, without the spaces at the end of its line
abbrev pub trimmed : Event → Event
trimmed begin = begin
trimmed (engine_line line) = engine_line (without_last_spaces line)
trimmed (server_line line) = server_line (without_last_spaces line)
trimmed engine_end = engine_end
trimmed server_end = server_end
trimmed engine_long = engine_long
trimmed server_long = server_long

-- the lines to the engine and to the server
pub record Out : Type 0 where
  pub to_engine : List (List ℕ)
  pub to_server : List (List ℕ)

abbrev pub no_lines : Out
no_lines = record { to_engine = []; to_server = [] }

abbrev pub engine : List (List ℕ) → Out
engine lines = record { to_engine = lines; to_server = [] }

abbrev pub server : List ℕ → Out
server line = record { to_engine = []; to_server = line ∷ [] }
