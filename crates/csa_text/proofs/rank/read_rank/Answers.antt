use Rattle.csa_text.proofs.CellTexts.{short_rank, whole_rank}
use Rattle.csa_text.proofs.rank.read_rank.Goals as goal

pub returns-then-bytes : goal.returns-then-bytes
returns-then-bytes c =
    short_rank c.args.bytes.now c.copy_from_slice.new.self c.read_cells.result c.copy_from_slice.ensures.after c.if-bytes.true c.read_cells.ensures

pub returns : goal.returns
returns c = whole_rank c.args.bytes.now c.read_cells-2.result c.if-bytes.false c.read_cells-2.ensures
