use Rattle.std.proofs.Common.{◌≡◌, take, arith, sym, ◌∙◌, refl}
use Rattle.csa_cutting.specs.Cut.{without_last_blanks}
use Rattle.csa_cutting.proofs.Blanks.{one_less, all_kept}
use Rattle.csa_cutting.proofs.units.without_last_blanks.Goals as goal
use Rattle.csa_cutting.proofs.units.without_last_blanks.Goals.{then-loop-end-test+else-is_blank, else-loop-end-test}

pub loop-end-preserved : goal.loop-end-preserved
loop-end-preserved c = record {
  within = omega arith;
  same = sym (one_less c.args.bytes.now c.loop-end.end c.loop-end-test.true c.loop-end.invariant.within (sym c.is_blank.ensures ∙ c.if-is_blank.true)) ∙ c.loop-end.invariant.same;
}

pub returns-clause-value : goal.returns-clause-value
returns-clause-value c =
    elim c.loop-end-test.branch [
      | then-loop-end-test+else-is_blank w ↦
          sym (all_kept c.args.bytes.now c.loop-end.end w.loop-end-test.true c.loop-end.invariant.within (sym w.is_blank.ensures ∙ w.if-is_blank.false)) ∙ c.loop-end.invariant.same
      | else-loop-end-test w ↦
          let none : c.loop-end.end ≡ 0 = omega arith in
          let empty : take c.loop-end.end c.args.bytes.now ≡ without_last_blanks (take c.loop-end.end c.args.bytes.now) =
          rw none refl in
          empty ∙ c.loop-end.invariant.same
    ]
