use Rattle.host_and_sample.proofs.laws.sample_step_whole.Goals as goal

pub returns : goal.returns
returns c = record { whole = λ s t line text found bytes. (found.0, found.1, bytes found.0 found.1) }
