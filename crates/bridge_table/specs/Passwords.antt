-- What the password of a configuration changes.
use Rattle.std.specs.Prelude.{◌≡◌}
use Rattle.bridge_table.specs.declared.config.Config.{Config}
use Rattle.bridge_table.specs.Events.{Out, server}
use Rattle.bridge_table.specs.Row.{login_line}

-- two configurations that are the same but for the password
pub record DifferInPassword (c d : Config) : Type 0 where
  pub name : d.name.bytes ≡ c.name.bytes
  pub total : d.total_ms ≡ c.total_ms
  pub byoyomi : d.byoyomi_ms ≡ c.byoyomi_ms

-- the same lines, but for the line of the login
pub data DifferInLogin (c d : Config) (out other : Out) : Type 0 where
  same : other ≡ out → DifferInLogin c d out other
  login : out ≡ server (login_line c) → other ≡ server (login_line d)
      → DifferInLogin c d out other
