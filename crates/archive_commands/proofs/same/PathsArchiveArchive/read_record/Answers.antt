use Rattle.std.proofs.Common.{◌≡◌, ◌∙◌, sym, subst}
use Rattle.archive_commands.specs.Lists.{items_of}
use Rattle.archive_commands.specs.Same.{FileReads, path_at}
use Rattle.archive_commands.proofs.Printing.{path_is}
use Rattle.archive_commands.proofs.same.PathsArchiveArchive.read_record.Goals as goal

pub returns-in-Err-ReadFault-clause-reads : goal.returns-in-Err-ReadFault-clause-reads
returns-in-Err-ReadFault-clause-reads g c =
    let paths = c.args.self.now.paths.now in
    let path : c.as_slice.result.now ≡ path_at (items_of paths) c.args.at = c.as_slice.ensures.value ∙ sym (path_is paths c.args.at c.index-self-at.result c.requires.within) in
    subst (λ p. FileReads (g.I.Inputs.opens_not c.args.self.now.inputs.now) (g.I.Inputs.opens c.args.self.now.inputs.now) g.I.Input.Read.remaining p c.record_of-result.result) path c.record_of-result.ensures.reads

pub returns-in-Err-Refused-clause-reads : goal.returns-in-Err-Refused-clause-reads
returns-in-Err-Refused-clause-reads g c =
    let paths = c.args.self.now.paths.now in
    let path : c.as_slice.result.now ≡ path_at (items_of paths) c.args.at = c.as_slice.ensures.value ∙ sym (path_is paths c.args.at c.index-self-at.result c.requires.within) in
    subst (λ p. FileReads (g.I.Inputs.opens_not c.args.self.now.inputs.now) (g.I.Inputs.opens c.args.self.now.inputs.now) g.I.Input.Read.remaining p c.record_of-result.result) path c.record_of-result.ensures.reads

pub returns-2-clause-reads : goal.returns-2-clause-reads
returns-2-clause-reads g c =
    let paths = c.args.self.now.paths.now in
    let path : c.as_slice.result.now ≡ path_at (items_of paths) c.args.at = c.as_slice.ensures.value ∙ sym (path_is paths c.args.at c.index-self-at.result c.requires.within) in
    subst (λ p. FileReads (g.I.Inputs.opens_not c.args.self.now.inputs.now) (g.I.Inputs.opens c.args.self.now.inputs.now) g.I.Input.Read.remaining p c.record_of-result.result) path c.record_of-result.ensures.reads
