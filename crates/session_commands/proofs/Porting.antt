-- The line with which a server says its port.
use Rattle.std.proofs.Common.{◌≡◌, inr, ◌++◌, ◌∙◌, ◌≤◌, ℕ, List, length, drop, Option, None, Some, MatchOption, ap, subst}
use Rattle.std.proofs.Math.Seq.{drop-append_seam}
use Rattle.record_commands.proofs.LineReading.{stopped_after}
use Rattle.record_commands.specs.Incoming.{Coming, GivesLine, GivesNoLine, stop_after}
use Rattle.record_commands.specs.declared.incoming.LineEvent.TheVariants as events
use Rattle.session_commands.specs.Ports.{IsPortLine, SaysFirst}
use Rattle.session_commands.specs.declared.port_line.FirstLine.TheVariants.{Port, Other, Missing}

pub rest_after : (front line rest found : List ℕ) → found ≡ drop (length front) line → line ≡ front ++ rest → found ≡ rest
rest_after front line rest found at whole = at ∙ ap (drop (length front)) whole ∙ drop-append_seam front rest

-- the port is that of the line that came
pub port_first : (old new : Coming) (shown : List ℕ) (found : Option ℕ) (port : ℕ)
    → found ≡ Some port → shown ≡ new.line → GivesLine old.bytes new.bytes new.line
    → MatchOption found ((p : ℕ) → IsPortLine shown p → ⊥) (IsPortLine shown) → SaysFirst old new (Port port)
port_first old new shown found port is same gives given =
    let line : IsPortLine shown port = subst (λ o. MatchOption o ((p : ℕ) → IsPortLine shown p → ⊥) (IsPortLine shown)) is given in
    (new.line, gives, subst (λ x. IsPortLine x port) same line)

-- and it says none only if it is no port line
pub other_first : (old new : Coming) (shown : List ℕ) (found : Option ℕ)
    → found ≡ None → shown ≡ new.line → GivesLine old.bytes new.bytes new.line → length new.line ≤ 65536
    → MatchOption found ((p : ℕ) → IsPortLine shown p → ⊥) (IsPortLine shown) → SaysFirst old new Other
other_first old new shown found is same gives short given =
    let none : (p : ℕ) → IsPortLine shown p → ⊥ = subst (λ o. MatchOption o ((p : ℕ) → IsPortLine shown p → ⊥) (IsPortLine shown)) is given in
    ((gives, short), subst (λ x. (p : ℕ) → IsPortLine x p → ⊥) same none)

-- no line came
pub missing_first : (old new : Coming) → GivesNoLine old.bytes new.bytes
    → new.stop ≡ stop_after old.stop events.Failed → SaysFirst old new Missing
missing_first old new none over = inr (none, stopped_after old.stop new.stop over)
