-- For private functions and fields of `Sample`: the state that its own stage means.
-- A reader of the public contracts may skip this file.
use Rattle.host_and_sample.specs.declared.sample.SampleStage.{SampleStage}
use Rattle.host_and_sample.specs.declared.sample.SampleStage.TheVariants.{Keeping, Quit}
use Rattle.host_and_sample.specs.Sample.{SampleState, keeps, quit}

abbrev pub sample_state_of : SampleStage → SampleState
sample_state_of (Keeping kept) = keeps kept
sample_state_of Quit = quit
