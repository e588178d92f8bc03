use Rattle.std.proofs.Common.{◌≡◌, ◌+◌, ◌-◌, None, Some, arith, refl, sym, subst, ◌∙◌}
use Rattle.shogi_board.specs.Cells.{at}
use Rattle.shogi_board.specs.Reach.{Attack}
use Rattle.shogi_board.specs.Squares.{place}
use Rattle.shogi_board.specs.declared.square.Square.{Square}
use Rattle.shogi_board.proofs.Attackers.{attacks-goes, clear-more, first-one, goes-attacks, none-within}
use Rattle.shogi_board.proofs.Sight.{at-first, place-next, seat-on}
use Rattle.shogi_board.proofs.Squares.{away-same, place-bound, place-same}
use Rattle.shogi_board.proofs.board.Board.attacker_from.Goals as goal

pub loop-n-init : goal.loop-n-init
loop-n-init c = record {
  seat = rw c.place-place.ensures.value (at-first c.args.square c.args.direction);
  clear = λ k s low high _. absurd (omega (arith, low, high));
}

pub overflow_sub-place : goal.overflow_sub-place
overflow_sub-place c =
    let t = c.room-n-end.ensures.there c.loop-n.n (omega (arith, c.loop-n-test.true)) in
    let e = place-next c.args.square t.0 c.args.direction c.loop-n.n c.loop-n.place c.loop-n.auto.n t.1 c.loop-n.invariant.seat in
    omega (arith, e, c.stride-stride.ensures)

pub content-requires : goal.content-requires
content-requires c =
    let t = c.room-n-end.ensures.there c.loop-n.n (omega (arith, c.loop-n-test.true)) in
    let e = place-next c.args.square t.0 c.args.direction c.loop-n.n c.loop-n.place c.loop-n.auto.n t.1 c.loop-n.invariant.seat in
    let low = place-bound t.0 in
    omega (arith, e, low, c.stride-stride.ensures)

pub returns-then-is_attacker : goal.returns-then-is_attacker
returns-then-is_attacker c =
    let t = c.room-n-end.ensures.there c.loop-n.n (omega (arith, c.loop-n-test.true)) in
    let e = place-next c.args.square t.0 c.args.direction c.loop-n.n c.loop-n.place c.loop-n.auto.n t.1 c.loop-n.invariant.seat in
    let here : place t.0 ≡ c.loop-n.place + c.stride-stride.result - 20 = omega (arith, e, c.stride-stride.ensures) in
    let stands : at c.args.self.now t.0 ≡ Some c.in-Some.piece = grind arith in
    let same : t.0 ≡ c.square_at.result = place-same t.0 c.square_at.result (here ∙ sym c.square_at.ensures) in
    let yes = c.if-is_attacker.ensures.0 refl in
    subst (λ (a : Square). Attack c.args.self.now c.args.color a c.args.square) same
    (goes-attacks c.args.self.now c.args.color c.args.square t.0 c.args.direction c.loop-n.n c.in-Some.piece c.requires c.loop-n.auto.n t.1 c.loop-n.invariant.clear stands yes.0 yes.1)

pub returns-else-is_attacker : goal.returns-else-is_attacker
returns-else-is_attacker c = λ x.
    let t = c.room-n-end.ensures.there c.loop-n.n (omega (arith, c.loop-n-test.true)) in
    let e = place-next c.args.square t.0 c.args.direction c.loop-n.n c.loop-n.place c.loop-n.auto.n t.1 c.loop-n.invariant.seat in
    let here : place t.0 ≡ c.loop-n.place + c.stride-stride.result - 20 = omega (arith, e, c.stride-stride.ensures) in
    let stands : at c.args.self.now t.0 ≡ Some c.in-Some.piece = grind arith in
    let taken : at c.args.self.now t.0 ≡ None → ⊥ = λ none. let no = sym stands ∙ none in cc in
    let same : x.0 ≡ t.0 = first-one c.args.self.now c.args.color c.args.square x.0 t.0 c.args.direction c.loop-n.n c.loop-n.auto.n c.loop-n.invariant.clear t.1 taken x.1 x.2 in
    let attack : Attack c.args.self.now c.args.color t.0 c.args.square = subst (λ (a : Square). Attack c.args.self.now c.args.color a c.args.square) same x.2 in
    let yes = c.is_attacker.ensures.1 (attacks-goes c.args.self.now c.args.color c.args.square t.0 c.args.direction c.loop-n.n c.in-Some.piece c.requires c.loop-n.auto.n t.1 c.loop-n.invariant.clear stands attack) in
    let no = c.if-is_attacker.false in
    cc

pub loop-n-preserved : goal.loop-n-preserved
loop-n-preserved c =
    let t = c.room-n-end.ensures.there c.loop-n.n (omega (arith, c.loop-n-test.true)) in
    let e = place-next c.args.square t.0 c.args.direction c.loop-n.n c.loop-n.place c.loop-n.auto.n t.1 c.loop-n.invariant.seat in
    let here : place t.0 ≡ c.loop-n.place + c.stride-stride.result - 20 = omega (arith, e, c.stride-stride.ensures) in
    let cell : at c.args.self.now t.0 ≡ None = grind arith in
    record {
      seat = seat-on c.args.square t.0 c.args.direction c.loop-n.n _ t.1 here;
      clear = clear-more c.args.self.now c.args.square c.args.direction c.loop-n.n c.loop-n.invariant.clear (λ s h.
          let same : s ≡ t.0 = away-same c.args.square s t.0 c.args.direction c.loop-n.n h t.1 in
          rw same cell);
    }

pub returns : goal.returns
returns c = λ x.
    let far = c.room-n-end.ensures.only x.1.distance x.0 x.1.away in
    none-within c.args.self.now c.args.color c.args.square x.0 c.args.direction c.loop-n.n c.loop-n.invariant.clear x.1 x.2 (omega (arith, far, c.loop-n-test.false))
