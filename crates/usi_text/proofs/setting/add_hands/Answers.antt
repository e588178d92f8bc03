use Rattle.std.proofs.Common.{◌∙◌, ◌++◌, ap, refl}
use Rattle.std.proofs.lemmas.Result.{err_from_is_err_and}
use Rattle.usi_text.proofs.Piles.{not_so, is_so}
use Rattle.usi_text.proofs.Setups.{hold_pieces}
use Rattle.usi_text.proofs.Settings.{holding_more, holding_fault, holding_end, as_piles, as_none}
use Rattle.usi_text.proofs.setting.add_hands.Goals as goal

pub loop-piece-init : goal.loop-piece-init
loop-piece-init c = λ piles s. (piles, s, refl)

pub loop-piece-preserved : goal.loop-piece-preserved
loop-piece-preserved c =
    let q = c.in-Some.ensures.pile in
    holding_more c.args.text.now c.loop-piece.rest.now c.in-Some.following.now c.args.setup.now c.loop-piece.setup c.add_pieces.new.setup q.0 c.loop-piece.invariant q.1 q.3
    (λ others. ap (λ ps. hold_pieces c.loop-piece.setup (ps ++ others)) q.2 ∙ c.in_ok-add_pieces.ensures others)

pub returns : goal.returns
returns c = λ piles s.
    holding_end c.args.text.now c.loop-piece.rest.now c.args.setup.now c.loop-piece.setup c.loop-piece.invariant c.in_default.ensures.pile piles (as_piles c.args.text.now piles (not_so c.is_dash.result c.is_dash.ensures c.if-is_dash.false) s)

pub returns-in_err-add_pieces : goal.returns-in_err-add_pieces
returns-in_err-add_pieces c = λ piles s.
    let p = err_from_is_err_and c.from_residual.result c.from_residual.ensures.1 in
    let q = c.in-Some.ensures.pile in
    rw (p.1, p.2)
    (holding_fault c.args.text.now c.loop-piece.rest.now c.in-Some.following.now c.args.setup.now c.loop-piece.setup q.0 c.in_err-add_pieces.field-0.0 c.loop-piece.invariant q.1 q.3
    (λ others. ap (λ ps. hold_pieces c.loop-piece.setup (ps ++ others)) q.2 ∙ c.in_err-add_pieces.ensures others) piles (as_piles c.args.text.now piles (not_so c.is_dash.result c.is_dash.ensures c.if-is_dash.false) s))

pub returns-then-is_dash : goal.returns-then-is_dash
returns-then-is_dash c = λ piles s.
    let e = as_none c.args.text.now piles (is_so c.is_dash.result c.is_dash.ensures c.if-is_dash.true) s in
    rw e refl
