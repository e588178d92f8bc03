use Rattle.std.proofs.Common.{◌≡◌, rules}
use Rattle.hash_comments.specs.declared.comments.HashLines.TheVariants.{Comments}
use Rattle.hash_comments.proofs.Reading.{read_comments}
use Rattle.hash_comments.proofs.comments.HashCommentsRead.read.Goals as goal

pub returns-then-eq-clause-bytes : goal.returns-then-eq-clause-bytes
returns-then-eq-clause-bytes g c =
    let read = c.in_ok-taken.ensures in
    let after = c.read_hashes-self.ensures in
    let comments : c.args.self.now.hash_lines ≡ Comments = search rules in
    read_comments c.args.self.now.hash_lines c.args.self.now.place c.read_hashes-self.result (g.R.Read.remaining c.args.self.now.inner) (g.R.Read.remaining c.read.new.self) c.in_ok-taken.taken c.read.new.buf c.read_hashes-self.new.piece comments read.bound.0 after.bytes after.place read.bytes
