use Rattle.bridge_table.proofs.Fitting.{log_fits, thinks_may_ask}
use Rattle.bridge_table.proofs.laws.thinking_may_ask.Goals as goal

pub returns : goal.returns
returns c = record { asked = λ config log s g leads thinks plays. thinks_may_ask s g (log_fits config log s leads) thinks plays }
