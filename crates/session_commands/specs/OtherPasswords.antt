-- A session as it passes with another password.
use Rattle.std.specs.Prelude.{◌≡◌, ◌⊎◌, ℕ, List, [], ◌∷◌}
use Rattle.bridge_table.specs.declared.config.Config.{Config}
use Rattle.shogi_session.specs.Promises.{Session}
use Rattle.shogi_session.specs.Row.{login_line}
use Rattle.shogi_session.specs.Texts.{text_of}
use Rattle.session_commands.specs.declared.bridging.Peer.TheVariants.{Server}
use Rattle.session_commands.specs.Plays.{Takes}

-- the bytes with which a bridge logs in
abbrev pub login_text : Config → List ℕ
login_text c = text_of (login_line c ∷ [])

-- a peer takes what it took, and where the server took the one login, it takes the other as well
abbrev pub TakesLogin : {E : Type 0} → Config → Config → Takes E → Takes E
TakesLogin c d takes e peer lines f =
    takes e peer lines f
    ⊎ ((peer ≡ Server) × (lines ≡ login_text d) × takes e peer (login_text c) f)

-- the same session with this configuration
abbrev pub with_config : Config → Session → Session
with_config d s = record s { config = d }
