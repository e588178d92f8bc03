use Rattle.usi_text.proofs.Outcomes.{sound}
use Rattle.usi_text.proofs.Contents.{sfen_stands, check_refused}
use Rattle.usi_text.proofs.laws.sfen_stands.Goals as goal

pub returns-clause-spells : goal.returns-clause-spells
returns-clause-spells c = sfen_stands

pub returns-clause-sound : goal.returns-clause-sound
returns-clause-sound c = sound

pub returns-clause-check : goal.returns-clause-check
returns-clause-check c = check_refused
