-- What counts of a summary's lines and one more, as a plain function for the code.
use Rattle.std.specs.Prelude.{ℕ, ◌++◌, List, [], length, drop, Option, Some, None, nat_eq, bytes_eq, if◌then◌else◌}
use Rattle.std.specs.List.{starts_with}
use Rattle.session_lines.specs.LineTexts as texts
use Rattle.bridge_table.specs.Summary.{SummaryContent, PositionBlocks, none, one, several, end_line, is_position}
use Rattle.session_lines.specs.Texts.{ended_line}

-- a position block begins
abbrev pub one_more : PositionBlocks → PositionBlocks
one_more none = one []
one_more (one text) = several
one_more several = several

-- a line of the position block
abbrev pub extended : PositionBlocks → List ℕ → PositionBlocks
extended none line = none
extended (one text) line = one (text ++ ended_line line)
extended several line = several

-- what follows the key; or, if the line has another, the value before
abbrev pub value_or : List ℕ → List ℕ → List ℕ → List ℕ
value_or key old text = if starts_with nat_eq text key then drop (length key) text else old

-- a line outside all blocks that begins none
abbrev pub outside : SummaryContent → List ℕ → SummaryContent
outside h text =
    record h {
      black = value_or texts.black_name h.black text;
      white = value_or texts.white_name h.white text;
      turn = value_or texts.your_turn h.turn text;
    }

abbrev pub opened : SummaryContent → List ℕ → SummaryContent
opened h title =
    record h {
      positions = if is_position title then one_more h.positions else h.positions;
      begun = Some title;
    }

-- a line inside a block that has not ended
abbrev pub within : SummaryContent → List ℕ → List ℕ → SummaryContent
within h title text =
    if bytes_eq text (end_line title) then record h { begun = None }
    else record h {
      positions = if is_position title then extended h.positions text else h.positions;
    }

abbrev pub by_block : SummaryContent → Option (List ℕ) → List ℕ → SummaryContent
by_block h None text =
    if starts_with nat_eq text texts.begin
    then opened h (drop (length texts.begin) text) else outside h text
by_block h (Some title) text = within h title text

abbrev pub content_after : SummaryContent → List ℕ → SummaryContent
content_after h text = by_block h h.begun text
