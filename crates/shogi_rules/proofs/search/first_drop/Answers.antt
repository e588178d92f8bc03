use Rattle.std.proofs.Common.{◌≡◌, ◌<◌, arith, inl, inr, subst}
use Rattle.std.proofs.lemmas.Bool.{cases_lt}
use Rattle.shogi_board.specs.Pieces.{place_of}
use Rattle.shogi_board.specs.declared.kind.Kind.{Kind}
use Rattle.shogi_rules.specs.Trying.{IsDropOf, NoneOf}
use Rattle.shogi_rules.proofs.Firsts.{drop-first, kind-none, no-drop}
use Rattle.shogi_rules.proofs.search.first_drop.Goals as goal

pub returns-in-Some : goal.returns-in-Some
returns-in-Some c =
    let p = c.args.situation.now in
    let kind = c.hand_kind.result in
    let below : (l : Kind) → place_of l < place_of kind → NoneOf p (IsDropOf l) = λ l lt. c.loop-n.invariant l (subst (λ i. place_of l < i) c.hand_kind.ensures.place lt) in
    drop-first p kind c.in-Some.mv below c.in-Some.ensures

pub loop-n-preserved : goal.loop-n-preserved
loop-n-preserved c = λ l below.
    elim (cases_lt (place_of l) c.loop-n.n) [
      | inl lt ↦ c.loop-n.invariant l lt
      | inr ge ↦
          let there : place_of l ≡ c.loop-n.n = omega arith in
          kind-none c.args.situation.now c.hand_kind.result l c.loop-n.n c.hand_kind.ensures.kind there c.in_default.ensures
    ]

pub returns : goal.returns
returns c = no-drop c.args.situation.now c.loop-n.n c.loop-n-test.false c.loop-n.invariant
