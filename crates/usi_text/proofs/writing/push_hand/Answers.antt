use Rattle.shogi_board.specs.declared.kind.Kind.TheVariants.{Pawn, Lance, Knight, Silver, Gold, Bishop, Rook}
use Rattle.usi_text.specs.SfenText.{piles_of}
use Rattle.usi_text.proofs.Written.{seven_stated}
use Rattle.usi_text.proofs.writing.push_hand.Goals as goal

pub returns : goal.returns
returns c =
    let f = piles_of c.args.color c.args.hand in
    seven_stated c.args.text.now.items c.push_kind.new.text.items c.push_kind-2.new.text.items c.push_kind-3.new.text.items c.push_kind-4.new.text.items c.push_kind-5.new.text.items c.push_kind-6.new.text.items c.push_kind-7.new.text.items
    (f Rook) (f Bishop) (f Gold) (f Silver) (f Knight) (f Lance) (f Pawn)
    c.in_ok-push_kind.ensures c.in_ok-push_kind-2.ensures c.in_ok-push_kind-3.ensures c.in_ok-push_kind-4.ensures c.in_ok-push_kind-5.ensures c.in_ok-push_kind-6.ensures c.in_ok-push_kind-7.ensures
