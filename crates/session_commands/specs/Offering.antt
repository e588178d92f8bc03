-- The host of `serve`.
use Rattle.std.specs.Prelude.{◌≡◌, codes}
use Rattle.shogi_session.specs.Host.{waiting}
use Rattle.shogi_session.specs.Hosting.{HostSession}
use Rattle.shogi_words.specs.declared.serve.Service.{Service}

-- it offers its one game with this side for the client and this greatest number of moves, and has
-- received nothing
pub record OffersGame (service : Service) (host : HostSession) : Type 0 where
  pub id : host.config.id.bytes ≡ codes "local"
  pub name : host.config.name.bytes ≡ codes "host"
  pub side : host.config.client ≡ service.client
  pub moves : host.config.max_moves ≡ service.max_moves
  pub state : host.state ≡ waiting
