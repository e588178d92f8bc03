use Rattle.usi_text.proofs.EngineOnce.{says_once, says_one_text}
use Rattle.usi_text.proofs.laws.one_engine_word.Goals as goal

pub returns : goal.returns
returns c = record { text = says_one_text; word = says_once }
