use Rattle.std.proofs.Common.{◌∙◌, ◌++◌, ap}
use Rattle.usi_text.proofs.Games.{now_legal, now_more, stated_more}
use Rattle.usi_text.proofs.line_writing.push_each.Goals as goal

pub move_text-requires : goal.move_text-requires
move_text-requires c = record {
  legal = now_legal c.args.start c.loop-mv.now c.args.moves.now c.loop-mv.mv-index c.mv-item.result c.requires c.loop-mv.invariant.now c.loop-mv-test.true c.mv-item.is;
}

pub after-now-requires : goal.after-now-requires
after-now-requires c = record {
  kept = let legal = now_legal c.args.start c.loop-mv.now c.args.moves.now c.loop-mv.mv-index c.mv-item.result c.requires c.loop-mv.invariant.now c.loop-mv-test.true c.mv-item.is in
      legal.keeps;
}

pub loop-mv-preserved : goal.loop-mv-preserved
loop-mv-preserved c = record {
  now = now_more c.args.start c.loop-mv.now c.after-now.result c.args.moves.now c.loop-mv.mv-index c.mv-item.result c.loop-mv.invariant.now c.loop-mv-test.true c.mv-item.is c.after-now.ensures.value;
  stated = stated_more c.args.start c.loop-mv.now c.args.moves.now c.loop-mv.mv-index c.mv-item.result c.args.text.now.items c.loop-mv.text.items c.push.new.self.items c.extend_from_slice.new.self.items c.move_text.result.bytes c.loop-mv.invariant.now c.loop-mv-test.true c.mv-item.is c.loop-mv.invariant.stated c.move_text.ensures.again c.in_ok-push.ensures.items
      (c.in_ok-extend_from_slice.ensures.items ∙ ap (λ x. c.push.new.self.items ++ x) (c.as_bytes.ensures.value ∙ c.as_str.ensures.value));
}
