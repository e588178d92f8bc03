use Rattle.std.proofs.Common.{◌∙◌, ◌++◌, length, arith, ap, sym, replicate, length-append}
use Rattle.std.proofs.lemmas.List.{length-replicate}
use Rattle.usi_text.proofs.Ranks.{runs_start, runs_more, runs_no_part, runs_too_many, rank_read, empty_is, some_are}
use Rattle.usi_text.proofs.boards.read_rank.Goals as goal

pub loop-rest-init : goal.loop-rest-init
loop-rest-init c = record { runs = runs_start c.args.text.now c.args.cells.now.items; within = omega arith }

pub returns-in_default : goal.returns-in_default
returns-in_default c = λ rank s nine.
    runs_no_part c.args.text.now c.loop-rest.rest.now c.args.cells.now.items c.loop-rest.cells.items c.loop-rest.invariant.runs (some_are c.is_empty.result c.loop-rest.rest.now c.is_empty.ensures c.loop-rest-test.true) c.in_default.ensures.part rank s

pub returns-then-end-len : goal.returns-then-end-len
returns-then-end-len c = λ rank s nine.
    let q = c.in-Some.ensures.part in
    let size = ap length q.2 ∙ length-replicate c.in-Some.squares c.in-Some.cell in
    runs_too_many c.args.text.now c.loop-rest.rest.now c.in-Some.following.now c.args.cells.now.items c.loop-rest.cells.items q.0 c.loop-rest.invariant.runs q.1 q.3 (omega (arith, size)) rank s nine

pub loop-rest-preserved : goal.loop-rest-preserved
loop-rest-preserved c =
    let q = c.in-Some.ensures.part in
    let pushed = c.push_squares.ensures in
    record {
      runs = runs_more c.args.text.now c.loop-rest.rest.now c.in-Some.following.now c.args.cells.now.items c.loop-rest.cells.items c.push_squares.new.cells.items q.0 c.loop-rest.invariant.runs q.1 q.3 (pushed ∙ ap (λ x. c.loop-rest.cells.items ++ x) (sym q.2));
      within = let l = ap length pushed in omega (arith, l, length-append c.loop-rest.cells.items (replicate c.in-Some.squares c.in-Some.cell), length-replicate c.in-Some.squares c.in-Some.cell);
    }

pub returns : goal.returns
returns c =
    rank_read c.len-2.result c.len-end.result c.args.text.now c.loop-rest.rest.now c.args.cells.now.items c.loop-rest.cells.items c.len-2.ensures.value c.len-end.ensures.value c.loop-rest.invariant.runs (empty_is c.is_empty.result (length c.loop-rest.rest.now) c.is_empty.ensures c.loop-rest-test.false)
