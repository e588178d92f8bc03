use Rattle.std.proofs.Common.{◌≡◌, take, arith, sym, ◌∙◌, refl}
use Rattle.session_lines.specs.Texts.{without_last_spaces}
use Rattle.session_lines.proofs.Spaces.{one_less, all_kept}
use Rattle.session_lines.proofs.move_line.without_last_spaces.Goals as goal
use Rattle.session_lines.proofs.move_line.without_last_spaces.Goals.{then-loop-end-test+else-is_space, else-loop-end-test}

pub loop-end-preserved : goal.loop-end-preserved
loop-end-preserved c = record {
  within = omega arith;
  same = sym (one_less c.args.line.now c.loop-end.end c.loop-end-test.true c.loop-end.invariant.within (sym c.is_space.ensures ∙ c.if-is_space.true)) ∙ c.loop-end.invariant.same;
}

pub returns : goal.returns
returns c = record {
  value =
      elim c.loop-end-test.branch [
        | then-loop-end-test+else-is_space w ↦
            sym (all_kept c.args.line.now c.loop-end.end w.loop-end-test.true c.loop-end.invariant.within (sym w.is_space.ensures ∙ w.if-is_space.false)) ∙ c.loop-end.invariant.same
        | else-loop-end-test w ↦
            let none : c.loop-end.end ≡ 0 = omega arith in
            let empty : take c.loop-end.end c.args.line.now ≡ without_last_spaces (take c.loop-end.end c.args.line.now) =
            rw none refl in
            empty ∙ c.loop-end.invariant.same
      ];
}
