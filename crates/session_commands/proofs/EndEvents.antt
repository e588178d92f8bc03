-- What a line says of the end of a game.
use Rattle.std.proofs.Common.{◌≡◌, ◌≢◌, true, false, List, ℕ, Option, None, Some, MatchOption, refl, sym, subst}
use Rattle.bridge_table.specs.declared.event.Status.{Status}
use Rattle.bridge_table.specs.declared.event.Status.TheVariants.{Failed}
use Rattle.bridge_table.specs.declared.fault.SessionFault.{SessionFault}
use Rattle.bridge_table.specs.declared.state.ClientState.{ClientState}
use Rattle.session_commands.specs.Endings.{IsEnding, IsReason, IsResult, SaysInGame, SaysOfEnd, says_ending, says_reason, says_result, says_slip, says_fault, says_in_game}
use Rattle.session_commands.specs.declared.bridging.Peer.{Peer}
use Rattle.session_commands.specs.declared.bridging.Peer.TheVariants.{Engine, Server}
use Rattle.session_commands.specs.declared.ending.EndEvent.{EndEvent}
use Rattle.session_commands.specs.declared.ending.EndEvent.TheVariants.{Slip}
use Rattle.session_commands.specs.declared.ending.Snapshot.{Snapshot}

pub none_in_game : (before after : ClientState) (line : List ℕ)
    → (IsEnding before after line → ⊥) → (IsReason before after line → ⊥) → (IsResult before after line → ⊥)
    → (event : EndEvent) → SaysInGame before after line event → ⊥
none_in_game before after line ending reason result event (says_ending is) = ending is
none_in_game before after line ending reason result event (says_reason is) = reason is
none_in_game before after line ending reason result event (says_result is) = result is

no_engine_at : (before after : Snapshot) (line : List ℕ) (peer : Peer) (status : Status) (event : EndEvent)
    → peer ≡ Engine → ((after.slip ≡ true) × (before.slip ≡ false) → ⊥) → SaysOfEnd before after line peer status event → ⊥
no_engine_at before after line peer status event is none (says_slip same now then_not) = none (now, then_not)
no_engine_at before after line peer status event is none (says_fault fault) = absurd cc
no_engine_at before after line peer status event is none (says_in_game same event' going says) = absurd cc

no_engine : (before after : Snapshot) (line : List ℕ) (status : Status) (event : EndEvent)
    → ((after.slip ≡ true) × (before.slip ≡ false) → ⊥) → SaysOfEnd before after line Engine status event → ⊥
no_engine before after line status event none says = no_engine_at before after line Engine status event refl none says

-- what is known of the engine's line
pub of_engine : (before after : Snapshot) (line : List ℕ) (status : Status) (found : Option EndEvent)
    → MatchOption found ((after.slip ≡ true) × (before.slip ≡ false) → ⊥) (λ event. (after.slip ≡ true) × (before.slip ≡ false) × (event ≡ Slip))
    → MatchOption found ((event : EndEvent) → SaysOfEnd before after line Engine status event → ⊥) (SaysOfEnd before after line Engine status)
of_engine before after line status None none = λ event says. no_engine before after line status event none says
of_engine before after line status (Some event) is =
    subst (SaysOfEnd before after line Engine status) (sym is.2) (says_slip status is.0 is.1)

no_server_at : (before after : Snapshot) (line : List ℕ) (peer : Peer) (status : Status) (event : EndEvent)
    → peer ≡ Server → ((fault : SessionFault) → status ≢ Failed fault)
    → ((event : EndEvent) → SaysInGame before.client after.client line event → ⊥) → SaysOfEnd before after line peer status event → ⊥
no_server_at before after line peer status event is going none (says_slip same now then_not) = absurd cc
no_server_at before after line peer status event is going none (says_fault fault) = going fault refl
no_server_at before after line peer status event is going none (says_in_game same event' over says) = none event says

-- what is known of the server's line in a session that goes on
pub of_server : (before after : Snapshot) (line : List ℕ) (status : Status) (found : Option EndEvent)
    → ((fault : SessionFault) → status ≢ Failed fault)
    → MatchOption found ((event : EndEvent) → SaysInGame before.client after.client line event → ⊥) (SaysInGame before.client after.client line)
    → MatchOption found ((event : EndEvent) → SaysOfEnd before after line Server status event → ⊥) (SaysOfEnd before after line Server status)
of_server before after line status None going none = λ event says. no_server_at before after line Server status event refl going none says
of_server before after line status (Some event) going says = says_in_game status event going says
