use Rattle.std.proofs.Common.{MatchOption, None, Some, subst, sym}
use Rattle.std.proofs.lemmas.Result.{err_from_is_err_and}
use Rattle.shogi_session.specs.Promises.{IsGameText}
use Rattle.session_commands.specs.Kept.{KeepsRecord, no_text, not_begun}
use Rattle.session_commands.proofs.Keeping.{none_kept, text_refused, text_taken}
use Rattle.session_commands.proofs.play.keep_game.Goals as goal

pub returns-then-not-is_kept : goal.returns-then-not-is_kept
returns-then-not-is_kept g c = record {
  kept =
      let s = c.args.bridge.now.state in
      let left = c.is_kept.ensures.left c.if-not-is_kept.true in
      subst (λ a. KeepsRecord g.P.TextPlace.took g.P.TextPlace.refused g.P.TextPlace.dropped g.P.TextPlace.replaced c.args.draft s.client c.args.played c.args.place.now c.abandon.new.self a)
      (sym c.report_of.ensures) (not_begun left.0 left.1 c.abandon.ensures);
}

pub returns-in-Err : goal.returns-in-Err
returns-in-Err g c = record {
  kept =
      no_text c.abandon-in-Err.ensures;
}

pub returns-in_default : goal.returns-in_default
returns-in_default g c = record {
  kept =
      let s = c.args.bridge.now.state in
      let none = subst (λ o. MatchOption o (IsGameText s None) (λ t. IsGameText s (Some t.items))) c.in_default.is c.in-Ok.ensures.game in
      none_kept g.P.TextPlace.took g.P.TextPlace.refused g.P.TextPlace.dropped g.P.TextPlace.replaced c.args.draft s c.args.played c.args.place.now c.abandon-in_default.new.self c.report_of-in_default.result none c.abandon-in_default.ensures (sym c.report_of-in_default.ensures);
}

pub returns-in_err-finish : goal.returns-in_err-finish
returns-in_err-finish g c = record {
  kept =
      let s = c.args.bridge.now.state in
      let text = c.in-Some.text.items in
      let some = subst (λ o. MatchOption o (IsGameText s None) (λ t. IsGameText s (Some t.items))) c.in-Some.is c.in-Ok.ensures.game in
      let gone = subst (λ x. g.P.TextPlace.refused c.args.place.now c.args.draft x c.in_err-finish.field-0.0 c.finish.new.self) c.as_slice.ensures.value c.in_err-finish.ensures.refused in
      let p = err_from_is_err_and c.from_residual.result c.from_residual.ensures.1 in
      rw (p.1, p.2)
      (text_refused g.P.TextPlace.took g.P.TextPlace.refused g.P.TextPlace.dropped g.P.TextPlace.replaced c.args.draft s text c.args.played c.args.place.now c.finish.new.self c.in_err-finish.field-0.0 some (c.is_kept.ensures.kept c.if-not-is_kept.false) gone c.in_err-finish.ensures.faults);
}

pub returns : goal.returns
returns g c = record {
  kept =
      let s = c.args.bridge.now.state in
      let text = c.in-Some.text.items in
      let some = subst (λ o. MatchOption o (IsGameText s None) (λ t. IsGameText s (Some t.items))) c.in-Some.is c.in-Ok.ensures.game in
      let took = subst (λ x. g.P.TextPlace.took c.args.place.now c.args.draft x c.finish.new.self) c.as_slice.ensures.value c.in_ok-finish.ensures.took in
      text_taken g.P.TextPlace.took g.P.TextPlace.refused g.P.TextPlace.dropped g.P.TextPlace.replaced c.args.draft s text c.args.played c.args.place.now c.finish.new.self c.report_of-2.result c.moves.result c.unwrap_or.result
      some (c.is_kept.ensures.kept c.if-not-is_kept.false) took c.moves.ensures c.unwrap_or.ensures c.report_of-2.ensures;
}
