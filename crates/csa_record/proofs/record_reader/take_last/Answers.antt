use Rattle.std.proofs.Common.{Ok, ap, ◌∙◌, subst}
use Rattle.csa_cutting.specs.PieceSteps.{Finished}
use Rattle.csa_record.proofs.Onward.{last_given, nothing_last}
use Rattle.csa_record.proofs.Steps.{last_of}
use Rattle.csa_record.proofs.record_reader.take_last.Goals as goal

pub take_statement-requires : goal.take_statement-requires
take_statement-requires c =
    last_given c.args.cutter.now c.finish.follows.lender-at-none c.in-Some.statement
    (subst (λ r. Finished c.args.cutter.now r c.finish.follows.lender-at-none) (c.in-Ok.is ∙ ap Ok c.in-Some.is) (record { going = c.finish.ensures.going; last = c.finish.ensures.last; number_is = c.finish.ensures.fault; place = c.finish.ensures.place; after = c.finish.follows.holds-at-none }))

pub returns-in-Some : goal.returns-in-Some
returns-in-Some c = λ source h.
    last_of source c.args.cutter.now c.finish.follows.lender-at-none c.args.builder.now c.take_statement.new.builder c.in-Some.statement c.take_statement.result h
    (subst (λ r. Finished c.args.cutter.now r c.finish.follows.lender-at-none) (c.in-Ok.is ∙ ap Ok c.in-Some.is) (record { going = c.finish.ensures.going; last = c.finish.ensures.last; number_is = c.finish.ensures.fault; place = c.finish.ensures.place; after = c.finish.follows.holds-at-none }))
    (c.take_statement.ensures.taken h.sayings h.keeps) (c.take_statement.ensures.refused h.sayings h.keeps)

pub returns-in-None : goal.returns-in-None
returns-in-None c = λ source h.
    nothing_last source c.args.cutter.now c.finish.follows.lender-at-none c.args.builder.now h
    (subst (λ r. Finished c.args.cutter.now r c.finish.follows.lender-at-none) (c.in-Ok.is ∙ ap Ok c.in-None.is) (record { going = c.finish.ensures.going; last = c.finish.ensures.last; number_is = c.finish.ensures.fault; place = c.finish.ensures.place; after = c.finish.follows.holds-at-none }))
