use Rattle.std.proofs.Common.{◌≡◌, ◌≢◌, [], subst}
use Rattle.std.proofs.lemmas.List.{append-nil}
use Rattle.std.proofs.lemmas.Result.{err_from_is_err_and}
use Rattle.record_game.specs.declared.fault.Why.TheVariants.{OutOfMemory}
use Rattle.record_game.specs.Refused.{Refused, FaultlessTo}
use Rattle.csa_record.proofs.record_reader.read.Goals as goal

pub returns-clause-refused : goal.returns-clause-refused
returns-clause-refused c = c.finish.ensures.refused c.args.source.now (c.in_ok-feed.ensures.taken [] c.new-reader.ensures.start)

pub returns-clause-memory : goal.returns-clause-memory
returns-clause-memory c = c.finish.ensures.memory c.args.source.now (c.in_ok-feed.ensures.taken [] c.new-reader.ensures.start)

pub returns-in_err-feed-clause-refused : goal.returns-in_err-feed-clause-refused
returns-in_err-feed-clause-refused c =
    let p = err_from_is_err_and c.from_residual.result c.from_residual.ensures.1 in
    rw (p.1, p.2)
    (subst (λ bs. c.in_err-feed.field-0.0.why ≢ OutOfMemory → Refused bs c.in_err-feed.field-0.0.number c.in_err-feed.field-0.0.offset c.in_err-feed.field-0.0.why) (append-nil c.args.source.now)
    (c.in_err-feed.ensures.refused [] [] c.new-reader.ensures.start))

pub returns-in_err-feed-clause-memory : goal.returns-in_err-feed-clause-memory
returns-in_err-feed-clause-memory c =
    let p = err_from_is_err_and c.from_residual.result c.from_residual.ensures.1 in
    rw (p.1, p.2)
    (subst (λ bs. c.in_err-feed.field-0.0.why ≡ OutOfMemory → FaultlessTo bs c.in_err-feed.field-0.0.number c.in_err-feed.field-0.0.offset) (append-nil c.args.source.now)
    (c.in_err-feed.ensures.memory [] [] c.new-reader.ensures.start))

pub returns-clause-first : goal.returns-clause-first
returns-clause-first c = c.finish.ensures.first c.args.source.now (c.in_ok-feed.ensures.taken [] c.new-reader.ensures.start)

pub returns-in_err-feed-clause-first : goal.returns-in_err-feed-clause-first
returns-in_err-feed-clause-first c =
    let p = err_from_is_err_and c.from_residual.result c.from_residual.ensures.1 in
    rw (p.1, p.2) (c.in_err-feed.ensures.first [] c.new-reader.ensures.start)

pub returns-clause-stated : goal.returns-clause-stated
returns-clause-stated c = c.finish.ensures.stated c.args.source.now (c.in_ok-feed.ensures.taken [] c.new-reader.ensures.start)
