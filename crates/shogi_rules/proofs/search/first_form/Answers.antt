use Rattle.std.proofs.Common.{◌≡◌, None, Some, sym, ◌∙◌}
use Rattle.shogi_rules.proofs.Firsts.{no-form, promoted-answer}
use Rattle.shogi_rules.proofs.search.first_form.Goals as goal

pub returns : goal.returns
returns c =
    let p = c.args.situation.now in
    promoted-answer p c.args.from c.args.to c.in_ok-was.was' c.in_ok-kind.kind c.if_legal-2.result c.in_ok-was.ensures c.in_default.ensures (sym c.in_ok-kind.ensures.value) c.if_legal-2.ensures

pub returns-in_err-kind : goal.returns-in_err-kind
returns-in_err-kind c =
    let none = no-form c.args.situation.now c.args.from c.args.to c.in_ok-was.was' c.in_ok-was.ensures c.in_default.ensures (λ l e legal. let both : None ≡ Some l = sym c.in_err-kind.was ∙ (c.promoted.ensures.value ∙ e) in cc) in
    rw c.from_residual-in_err-kind.ensures none
