-- The lines that commands print and read.
use Rattle.std.proofs.Common.{◌≡◌, ◌⊎◌, inl, inr, ◌≤◌, ℕ, List, length, Option, Some, None, Result, Ok, Err, IfOk, ap, subst, sym, ◌∙◌}
use Rattle.std.proofs.lemmas.List.{length-map}
use Rattle.record_game.specs.Game.{Game, move_of}
use Rattle.record_commands.specs.Incoming.{Coming, GivesEnd, GivesLine, GivesLongLine, GivesNoLine, stop_after}
use Rattle.record_commands.specs.declared.incoming.LineEvent.{LineEvent}
use Rattle.record_commands.specs.declared.incoming.LineEvent.TheVariants.{Line, Failed}
use Rattle.record_commands.specs.declared.incoming.ReadStop.{ReadStop}
use Rattle.record_commands.specs.declared.incoming.ReadStop.TheVariants as stops
use Rattle.shogi_rules.specs.Positions.{Played}
use Rattle.shogi_rules.specs.Verdicts.{Stands}
use Rattle.shogi_rules.specs.declared.line.Verdict.{Verdict}
use Rattle.record_commands.specs.OneLine.{BreaksOff, HasLongLine, HasNoLine, HasTwoLines, IsOneLine}
use Rattle.record_commands.specs.Words.{IsAcceptedLine, accepted_line, game_line}

-- the line of `check` is that of the game
pub accepted_so : {S E : Type 0} (bytes : S → List ℕ) (g : Game) (line : Played) (moves : ℕ) (verdict : Verdict) (answer : Result S E)
    → line ≡ game_line g → moves ≡ length line.moves → Stands line verdict
    → IfOk answer (λ text. bytes text ≡ accepted_line moves verdict) → IfOk answer (λ text. IsAcceptedLine g (bytes text))
accepted_so bytes g line moves verdict (Err e) is count stands is_line = tt
accepted_so bytes g line moves verdict (Ok text) is count stands is_line =
    let whole : moves ≡ length g.moves = count ∙ ap (λ (l : Played). length l.moves) is ∙ length-map g.moves move_of in
    (verdict, subst (λ (l : Played). Stands l verdict) is stands, is_line ∙ ap (λ n. accepted_line n verdict) whole)

-- a line came, and then the end
pub line_alone : (bytes old mid new : Option (List ℕ)) (line shown read : List ℕ) → old ≡ bytes → line ≡ shown → shown ≡ read
    → GivesLine old mid read → length read ≤ 65536 → GivesEnd mid new → IsOneLine bytes line
line_alone bytes old mid new line shown read is kept lent gives short ended =
    let same : read ≡ line = sym (kept ∙ lent) in
    (mid, subst (λ x. GivesLine x mid line) is (subst (λ x. GivesLine old mid x) same gives), subst (λ x. length x ≤ 65536) same short, (new, ended))

-- and another
pub line_twice : (bytes old mid new : Option (List ℕ)) (first second : List ℕ) → old ≡ bytes
    → GivesLine old mid first → length first ≤ 65536 → GivesLine mid new second → length second ≤ 65536 → HasNoLine bytes ⊎ HasTwoLines bytes
line_twice bytes old mid new first second is gives short more small = inr (first, second, mid, new, subst (λ x. GivesLine x mid first) is gives, short, more, small)

-- and one that is too long
pub line_then_long : (bytes old mid new : Option (List ℕ)) (first : List ℕ) → old ≡ bytes
    → GivesLine old mid first → GivesLongLine mid new → HasLongLine bytes
line_then_long bytes old mid new first is gives long = inr (first, mid, new, subst (λ x. GivesLine x mid first) is gives, long)

-- nothing had stopped the reader, so that a failed read did
stopped_first : (old new : Option ReadStop) (event : LineEvent) → old ≡ None → event ≡ Failed → new ≡ stop_after old event → new ≡ Some stops.Failed
stopped_first old new event going is over = over ∙ ap (λ s. stop_after s event) going ∙ ap (stop_after None) is

pub broke_off : (old new : Coming) (event : LineEvent) → old.stop ≡ None → event ≡ Failed → new.stop ≡ stop_after old.stop event
    → GivesNoLine old.bytes new.bytes → BreaksOff old.bytes new
broke_off old new event going is over none = (stopped_first old.stop new.stop event going is over, inl none)

-- nor did a line before that
pub line_broke_off : (old mid new : Coming) (first second : LineEvent) → old.stop ≡ None → first ≡ Line → mid.stop ≡ stop_after old.stop first
    → GivesLine old.bytes mid.bytes mid.line → second ≡ Failed → new.stop ≡ stop_after mid.stop second → GivesNoLine mid.bytes new.bytes → BreaksOff old.bytes new
line_broke_off old mid new first second going is over gives failed stop none =
    let still : mid.stop ≡ None = over ∙ ap (λ s. stop_after s first) going ∙ ap (stop_after None) is in
    (stopped_first mid.stop new.stop second still failed stop, inr (mid.line, mid.bytes, gives, none))
