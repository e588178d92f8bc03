use Rattle.std.proofs.lemmas.Result.{IfErr-at_err}
use Rattle.record_commands.specs.Inputs.{IsOpenedAs, NamesFile, path_of}
use Rattle.record_commands.proofs.Converting.{fails_so, not_lost}
use Rattle.record_commands.proofs.csa.run.Goals as goal

pub returns : goal.returns
returns g c =
    let path = path_of c.args.file in record {
      refused = λ f is. not_lost _ f (IfErr-at_err _ is c.csa.ensures.fails).2;
      fails = fails_so (NamesFile path) (IsOpenedAs path) _ c.csa.result _ _ c.new.ensures.hash_lines c.csa.ensures.fails;
    }
