use Rattle.record_game.proofs.Fits.{fits_of}
use Rattle.csa_record.proofs.Outcomes.{outcome_of}
use Rattle.csa_text.specs.Saying.{saying_of}
use Rattle.csa_record.proofs.builder.RecordBuilder.take_bytes.Goals as goal

pub take-requires : goal.take-requires
take-requires c = fits_of c.args.bytes.now (saying_of c.in_ok-item.item) c.requires c.in_ok-item.ensures.item

pub returns : goal.returns
returns c = λ before h. outcome_of before c.args.bytes.now (saying_of c.in_ok-item.item) c.take.result c.take.new.self c.in_ok-item.ensures.item (c.take.ensures before h)
