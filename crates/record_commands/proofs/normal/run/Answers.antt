use Rattle.record_commands.specs.Inputs.{IsOpenedAs, NamesFile, path_of}
use Rattle.record_commands.proofs.Recording.{fails_so, refused_in_some}
use Rattle.record_commands.proofs.normal.run.Goals as goal

pub returns : goal.returns
returns g c =
    let path = path_of c.args.file in record {
      refused = λ r is. refused_in_some _ _ _ _ c.normal.result r c.normal.ensures.fails is;
      fails = fails_so (NamesFile path) (IsOpenedAs path) _ _ c.normal.result _ _ c.new.ensures.hash_lines c.normal.ensures.fails;
    }
