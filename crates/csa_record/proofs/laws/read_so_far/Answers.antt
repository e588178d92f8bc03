use Rattle.csa_record.proofs.Flowing.{read_so_far}
use Rattle.csa_record.proofs.laws.read_so_far.Goals as goal

pub returns : goal.returns
returns c = record {
  faultless = read_so_far;
}
