use Rattle.std.proofs.Common.{rules, ◌++◌, inl, inr}
use Rattle.record_game.proofs.RefusedClosed.{refused_when_closed}
use Rattle.csa_record.proofs.record_reader.RecordReader.feed.Goals as goal

pub returns-in-Err-clause-taken : goal.returns-in-Err-clause-taken
returns-in-Err-clause-taken c = search rules

pub returns-in-Err-clause-failed : goal.returns-in-Err-clause-failed
returns-in-Err-clause-failed c = search rules

pub returns-in-Err-clause-closed : goal.returns-in-Err-clause-closed
returns-in-Err-clause-closed c = λ source h no_lack.
    let r = c.in-Err.refusal in
    refused_when_closed (source ++ c.args.piece.now) r.number r.offset r.why
    (λ more. elim (c.in-Err.ensures.refused source h more) [
      | inl refused ↦ refused.1
      | inr lack ↦ absurd (no_lack lack.0)
    ])
