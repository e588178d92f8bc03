use Rattle.std.proofs.Common.{◌==◌, ◌||◌, ◌∙◌, ap, rules, sym, take, tests}
use Rattle.std.proofs.lemmas.Iterator.{YieldsList-from_slice}
use Rattle.std.proofs.lemmas.Iterator.Search.{position_from_yields_List}
use Rattle.std.proofs.lemmas.Option.{cond_some}
use Rattle.session_setup.proofs.LoginWords.{all_before}
use Rattle.session_setup.proofs.login.first_line.Goals as goal

pub returns-in-Some : goal.returns-in-Some
returns-in-Some c =
    let found = position_from_yields_List (λ b. b == 13 || b == 10) _ _ c.position.result c.position.ensures.ran (YieldsList-from_slice c.args.bytes.now cc) (λ x b q k. search (rules, tests)) in
    let at = cond_some _ _ _ (sym found ∙ c.in-Some.is) in
    ap (λ n. take n c.args.bytes.now) (sym at.1)

pub returns-in-None : goal.returns-in-None
returns-in-None c =
    let found = position_from_yields_List (λ b. b == 13 || b == 10) _ _ c.position.result c.position.ensures.ran (YieldsList-from_slice c.args.bytes.now cc) (λ x b q k. search (rules, tests)) in
    all_before (λ b. b == 13 || b == 10) c.args.bytes.now (sym c.in-None.is ∙ found)
