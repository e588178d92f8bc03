use Rattle.std.proofs.Common.{◌++◌, [], ◌∷◌, append_assoc, refl, subst}
use Rattle.shogi_session.specs.PositionTexts.{IsFedOn, IsPositionText, TellsNone}
use Rattle.shogi_session.proofs.BlockReads.{another_line, line_taken, none_more}
use Rattle.shogi_session.proofs.PositionRead.{otherwise}
use Rattle.shogi_session.proofs.position_reader.take_line.Goals as goal

pub returns-then-not-is_position_text : goal.returns-then-not-is_position_text
returns-then-not-is_position_text c = λ text fed.
    another_line text c.args.line.now c.args.reader.now fed
    (otherwise c.is_position_text.result (IsPositionText c.args.line.now) c.if-not-is_position_text.true c.is_position_text.ensures)

pub returns-in-Taken : goal.returns-in-Taken
returns-in-Taken c = λ text fed.
    line_taken c.feed-in-Taken.result text c.args.line.now c.args.reader.now _ fed (c.if-not-is_position_text.ensures.0 refl)
    (c.feed-in-Taken.ensures (text ++ c.args.line.now)
    (subst (λ b. IsFedOn (text ++ c.args.line.now) b c.feed.new.reader) c.in-Taken.is (c.in_ok-feed.ensures text fed.read)))

pub returns-in-Refused : goal.returns-in-Refused
returns-in-Refused c = λ text fed.
    subst TellsNone (append_assoc text c.args.line.now (10 ∷ []))
    (none_more (text ++ c.args.line.now) (10 ∷ [])
    (subst (λ b. IsFedOn (text ++ c.args.line.now) b c.feed.new.reader) c.in-Refused.is (c.in_ok-feed.ensures text fed.read)))
