use Rattle.shogi_rules.proofs.Checks.{file-on-way, rank-on-way}
use Rattle.shogi_rules.proofs.evasions.lies_towards.Goals as goal

pub returns-then-not-is_on_way : goal.returns-then-not-is_on_way
returns-then-not-is_on_way c = λ h.
    c.if-not-is_on_way.ensures.1 (rw (c.file.ensures.value, c.file-2.ensures.value, c.file-3.ensures.value) (file-on-way c.args.from c.args.end c.args.square h))

pub returns : goal.returns
returns c = λ h.
    c.is_on_way-2.ensures.1 (rw (c.rank.ensures.value, c.rank-2.ensures.value, c.rank-3.ensures.value) (rank-on-way c.args.from c.args.end c.args.square h))
