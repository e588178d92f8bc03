use Rattle.shogi_rules.proofs.evasions.keeps_walk.Goals as goal

pub returns-then-not-reaches : goal.returns-then-not-reaches
returns-then-not-reaches c = (
  λ no. cc,
  λ kept. let yes = c.reaches.ensures.answer.1 (rw c.as_ref.ensures.value kept.1.fits.reaches) in let no = c.if-not-reaches.true in cc,
)
