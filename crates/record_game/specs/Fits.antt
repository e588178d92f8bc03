-- For private functions of `csa_record`: what the bytes of a statement may contain.
-- A reader of the public contracts may skip this file.
use Rattle.std.specs.Prelude.{◌≡◌, ◌≢◌, ℕ, ◌+◌, ◌≤◌, List, [], length}
use Rattle.csa_cutting.specs.Cut.{IsUnit, statement_bytes, longest_statement}
use Rattle.csa_text.specs.Fields.{HasNone}
use Rattle.csa_text.specs.Saying.{Saying, version, name, header, even, rank, pieces, turn, walked, time, ending}
use Rattle.record_game.specs.Limits.{IsOneLine, longest_time}

-- bytes of a statement whose unit has at most 4,096 bytes
pub record IsOfStatement (bytes : List ℕ) : Type 0 where
  pub unit : List ℕ
  pub following : List ℕ
  pub is_unit : IsUnit unit following
  pub short : length unit ≤ longest_statement
  pub whole : bytes ≡ statement_bytes unit

-- a key, which is not empty and has no colon, and a text, on one line of at most 4,096 bytes
pub record IsHeaderLine (key text : List ℕ) : Type 0 where
  pub some : key ≢ []
  pub key_line : IsOneLine key
  pub text_line : IsOneLine text
  pub no_colon : HasNone 58 key
  pub fits : 2 + length key + length text ≤ longest_statement

-- texts on one line and numbers within their limits
abbrev pub Fits : Saying → Type 0
Fits version = Unit {0}
Fits (name color text) = IsOneLine text × (2 + length text ≤ longest_statement)
Fits (header key text) = IsHeaderLine key text
Fits (even pairs) = Unit {0}
Fits (rank number cells) = (1 ≤ number) × (number ≤ 9)
Fits (pieces color pairs) = Unit {0}
Fits (turn color) = Unit {0}
Fits (walked color m) = Unit {0}
Fits (time t) = t ≤ longest_time
Fits (ending e) = Unit {0}
