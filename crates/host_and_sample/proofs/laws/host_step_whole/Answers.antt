use Rattle.host_and_sample.proofs.laws.host_step_whole.Goals as goal

pub returns : goal.returns
returns c = record { whole = λ old new line seconds text found bytes. (found.0, found.1, bytes found.0 found.1) }
