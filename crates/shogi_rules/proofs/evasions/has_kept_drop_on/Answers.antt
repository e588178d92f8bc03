use Rattle.std.proofs.Common.{◌≡◌, arith, inl, inr, refl, subst, sym}
use Rattle.std.proofs.lemmas.Bool.{cases_lt}
use Rattle.shogi_board.specs.Pieces.{place_of}
use Rattle.shogi_board.specs.Material.{bag_of}
use Rattle.shogi_board.specs.declared.kind.Kind.{Kind}
use Rattle.shogi_board.specs.Legal.{Keeps}
use Rattle.shogi_board.specs.declared.moves.Move.TheVariants.{Put}
use Rattle.shogi_board.proofs.Drops.{held-of}
use Rattle.shogi_board.proofs.Forms.{held-low}
use Rattle.shogi_rules.proofs.evasions.has_kept_drop_on.Goals as goal

pub returns-then-keeps : goal.returns-then-keeps
returns-then-keeps c = (λ _. (c.hand_kind-kind.result, c.if-keeps.ensures.answer.0 refl), λ _. refl)

pub loop-n-preserved : goal.loop-n-preserved
loop-n-preserved c = λ k below kept.
    elim (cases_lt (place_of k) c.loop-n.n) [
      | inl lt ↦ c.loop-n.invariant k lt kept
      | inr ge ↦
          let p = c.args.situation.now in
          let there : place_of k ≡ c.loop-n.n = omega arith in
          let same = c.hand_kind-kind.ensures.kind k (held-of (bag_of p.material p.side) k kept.fits.has_piece).0 there in
          let yes = c.keeps.ensures.answer.1 (subst (λ (x : Kind). Keeps p (Put c.args.to x)) (sym same) kept) in
          let no = c.if-keeps.false in
          cc
    ]

pub returns : goal.returns
returns c = (
  λ h. cc,
  λ s.
      let p = c.args.situation.now in
      let low = held-low s.0 (held-of (bag_of p.material p.side) s.0 s.1.fits.has_piece).0 in
      absurd (c.loop-n.invariant s.0 (omega (arith, low)) s.1),
)
