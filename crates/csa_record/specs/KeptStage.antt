-- For private fields of `RecordBuilder`: its stage.
-- A reader of the public contracts may skip this file.
use Rattle.csa_record.specs.declared.builder.Stage.{Stage}
use Rattle.csa_record.specs.declared.builder.Stage.TheVariants as stages
use Rattle.record_game.specs.Keeping as kept
use Rattle.record_game.specs.Keeping.{laying, playing}

abbrev pub stage_of : Stage → kept.Stage
stage_of (stages.Laying l) = laying l
stage_of (stages.Playing c) = playing c
