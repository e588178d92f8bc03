use Rattle.std.proofs.Common.{[], ◌++◌, ◌∙◌, ap, sym}
use Rattle.std.proofs.lemmas.List.{append-nil}
use Rattle.csa_record.proofs.StartText.{kind_more, all_kinds}
use Rattle.csa_record.proofs.start_writer.write_pairs.Goals as goal

pub returns : goal.returns
returns c =
    let old = c.args.out.now.items in
    let h = c.args.hand in
    let r = kind_more old old c.write_held.new.out.items [] h _ c.count.result c.count.ensures.value (sym (append-nil old)) c.in_ok-write_held.ensures in
    let b = kind_more old c.write_held.new.out.items c.write_held-2.new.out.items _ h _ c.count-2.result c.count-2.ensures.value r c.in_ok-write_held-2.ensures in
    let g = kind_more old c.write_held-2.new.out.items c.write_held-3.new.out.items _ h _ c.count-3.result c.count-3.ensures.value b c.in_ok-write_held-3.ensures in
    let s = kind_more old c.write_held-3.new.out.items c.write_held-4.new.out.items _ h _ c.count-4.result c.count-4.ensures.value g c.in_ok-write_held-4.ensures in
    let n = kind_more old c.write_held-4.new.out.items c.write_held-5.new.out.items _ h _ c.count-5.result c.count-5.ensures.value s c.in_ok-write_held-5.ensures in
    let l = kind_more old c.write_held-5.new.out.items c.write_held-6.new.out.items _ h _ c.count-6.result c.count-6.ensures.value n c.in_ok-write_held-6.ensures in
    let p = kind_more old c.write_held-6.new.out.items c.write_held-7.new.out.items _ h _ c.count-7.result c.count-7.ensures.value l c.in_ok-write_held-7.ensures in
    p ∙ ap (λ t. old ++ t) (all_kinds h)
