-- What a side's reader gave, as an event of the bridge.
use Rattle.std.proofs.Common.{◌≡◌, inl, inr, ◌≤◌, length, Result, Ok, Err, IfOk, refl}
use Rattle.session_commands.specs.declared.bridging.Peer.{Peer}
use Rattle.session_commands.specs.declared.bridging.Peer.TheVariants.{Engine, Server}
use Rattle.shogi_board.specs.declared.memory.OutOfMemory.{OutOfMemory}
use Rattle.record_commands.specs.declared.incoming.LineEvent.{LineEvent}
use Rattle.record_commands.specs.declared.incoming.LineEvent.TheVariants.{Line, End, Long, Failed}
use Rattle.record_commands.proofs.LineReading.{stopped_after}
use Rattle.record_commands.specs.Incoming.{Coming, GivesEnd, GivesLine, GivesLongLine, GivesNoLine, stop_after}
use Rattle.session_commands.specs.Plays.{Comes, event_from}

comes : (old new : Coming) (peer : Peer) (what : LineEvent)
    → (what ≡ Line → GivesLine old.bytes new.bytes new.line) → (what ≡ Line → length new.line ≤ 65536)
    → (what ≡ End → GivesEnd old.bytes new.bytes) → (what ≡ Failed → GivesNoLine old.bytes new.bytes) → (what ≡ Long → GivesLongLine old.bytes new.bytes)
    → new.stop ≡ stop_after old.stop what
    → Comes peer old new (event_from peer what new.line)
comes old new Engine Line gives short end none long over = (gives refl, short refl)
comes old new Engine End gives short end none long over = inl (end refl)
comes old new Engine Failed gives short end none long over = inr (none refl, stopped_after old.stop new.stop over)
comes old new Engine Long gives short end none long over = long refl
comes old new Server Line gives short end none long over = (gives refl, short refl)
comes old new Server End gives short end none long over = inl (end refl)
comes old new Server Failed gives short end none long over = inr (none refl, stopped_after old.stop new.stop over)
comes old new Server Long gives short end none long over = long refl

-- and the rest is unchanged
pub side-came : {A B : Type 0} (old new : Coming) (peer : Peer) (answer : Result LineEvent OutOfMemory)
    → IfOk answer (λ what. what ≡ Line → GivesLine old.bytes new.bytes new.line) → IfOk answer (λ what. what ≡ Line → length new.line ≤ 65536)
    → IfOk answer (λ what. what ≡ End → GivesEnd old.bytes new.bytes) → IfOk answer (λ what. what ≡ Failed → GivesNoLine old.bytes new.bytes) → IfOk answer (λ what. what ≡ Long → GivesLongLine old.bytes new.bytes)
    → IfOk answer (λ what. new.stop ≡ stop_after old.stop what) → A → B
    → IfOk answer (λ what. Comes peer old new (event_from peer what new.line) × A × B)
side-came old new peer (Ok what) gives short end none long over first second =
    (comes old new peer what gives short end none long over, first, second)
side-came old new peer (Err fault) gives short end none long over first second = tt
