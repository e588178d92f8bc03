use Rattle.shogi_session.proofs.BridgeWhole.{all_unspaced, engine_cut, server_cut}
use Rattle.shogi_session.proofs.laws.bridge_lines_whole.Goals as goal

pub returns-clause-engine : goal.returns-clause-engine
returns-clause-engine c = engine_cut

pub returns-clause-server : goal.returns-clause-server
returns-clause-server c = server_cut

pub returns-clause-unspaced : goal.returns-clause-unspaced
returns-clause-unspaced c = all_unspaced
