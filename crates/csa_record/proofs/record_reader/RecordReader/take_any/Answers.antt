use Rattle.std.proofs.Common.{Ok, ap, ◌∙◌, sym, subst}
use Rattle.std.proofs.lemmas.Result.{err_from_is_err_and}
use Rattle.csa_cutting.specs.PieceSteps.{Stepped}
use Rattle.csa_record.specs.RecordReading.{HasRead}
use Rattle.csa_record.proofs.Steps.{given, next_taken, next_refused, none_next, long_next}
use Rattle.csa_record.proofs.record_reader.RecordReader.take_any.Goals as goal

pub returns-in-Err-clause-next : goal.returns-in-Err-clause-next
returns-in-Err-clause-next c = λ source h.
    long_next source c.args.piece.now c.self.inside.cutter c.step.follows.lender-at-none c.self.inside.builder c.self.inside.failing c.in-Err.fault c.from.result
    (subst (HasRead source) (sym c.self.view_is) h)
    (subst (λ r. Stepped c.self.inside.cutter c.args.piece.now r c.step.follows.lender-at-none) c.in-Err.is (record { going = c.step.ensures.going; number_is = c.step.ensures.fault; place = c.step.ensures.place; after = c.step.follows.holds-at-none })) c.from.ensures

pub take_statement-requires : goal.take_statement-requires
take_statement-requires c = given c.self.inside.cutter c.step.follows.lender-at-none c.args.piece.now c.in-Ok.cut.used c.in-Some.statement
    (subst (λ r. Stepped c.self.inside.cutter c.args.piece.now r c.step.follows.lender-at-none) (c.in-Ok.is ∙ ap (λ o. Ok (record { used = c.in-Ok.cut.used; statement = o })) c.in-Some.is) (record { going = c.step.ensures.going; number_is = c.step.ensures.fault; place = c.step.ensures.place; after = c.step.follows.holds-at-none }))

pub returns-in_default-clause-next : goal.returns-in_default-clause-next
returns-in_default-clause-next c = λ source h.
    none_next source c.args.piece.now c.in-Ok.cut.used c.self.inside.cutter c.step.follows.lender-at-none c.self.inside.builder c.self.inside.failing (subst (HasRead source) (sym c.self.view_is) h)
    (subst (λ r. Stepped c.self.inside.cutter c.args.piece.now r c.step.follows.lender-at-none) (c.in-Ok.is ∙ ap (λ o. Ok (record { used = c.in-Ok.cut.used; statement = o })) c.in_default.is) (record { going = c.step.ensures.going; number_is = c.step.ensures.fault; place = c.step.ensures.place; after = c.step.follows.holds-at-none }))

pub returns-in_err-take_statement-clause-next : goal.returns-in_err-take_statement-clause-next
returns-in_err-take_statement-clause-next c = λ source h.
    let before = (subst (HasRead source) (sym c.self.view_is) h) in
    let stepped = (subst (λ r. Stepped c.self.inside.cutter c.args.piece.now r c.step.follows.lender-at-none) (c.in-Ok.is ∙ ap (λ o. Ok (record { used = c.in-Ok.cut.used; statement = o })) c.in-Some.is) (record { going = c.step.ensures.going; number_is = c.step.ensures.fault; place = c.step.ensures.place; after = c.step.follows.holds-at-none })) in
    let p = err_from_is_err_and c.from_residual.result c.from_residual.ensures.1 in
    rw (p.1, p.2)
    (next_refused source c.args.piece.now c.in-Ok.cut.used c.self.inside.cutter c.step.follows.lender-at-none c.self.inside.builder c.take_statement.new.builder c.self.inside.failing
    c.in-Some.statement c.in_err-take_statement.field-0.0 before stepped (c.in_err-take_statement.ensures.refused before.taken.sayings before.taken.keeps))

pub returns-clause-next : goal.returns-clause-next
returns-clause-next c = λ source h.
    let before = (subst (HasRead source) (sym c.self.view_is) h) in
    let stepped = (subst (λ r. Stepped c.self.inside.cutter c.args.piece.now r c.step.follows.lender-at-none) (c.in-Ok.is ∙ ap (λ o. Ok (record { used = c.in-Ok.cut.used; statement = o })) c.in-Some.is) (record { going = c.step.ensures.going; number_is = c.step.ensures.fault; place = c.step.ensures.place; after = c.step.follows.holds-at-none })) in
    next_taken source c.args.piece.now c.in-Ok.cut.used c.self.inside.cutter c.step.follows.lender-at-none c.self.inside.builder c.take_statement.new.builder c.self.inside.failing
    c.in-Some.statement before stepped (c.in_ok-take_statement.ensures.taken before.taken.sayings before.taken.keeps)
