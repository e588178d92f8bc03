-- How a bridge is configured.
use Rattle.host_and_sample.specs.Host.{IsLoginWord}
use Rattle.bridge_table.specs.declared.config.Config.{Config}

-- what callers must give as name and password
pub record IsConfig (c : Config) : Type 0 where
  pub name : IsLoginWord c.name.bytes
  pub password : IsLoginWord c.password.bytes
