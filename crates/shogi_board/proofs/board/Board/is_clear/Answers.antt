use Rattle.std.proofs.Common.{◌≡◌, ◌+◌, ◌-◌, None, true, is_some, arith}
use Rattle.shogi_board.specs.Cells.{at}
use Rattle.shogi_board.specs.Squares.{place}
use Rattle.shogi_board.proofs.Attackers.{clear-more}
use Rattle.shogi_board.proofs.Sight.{at-first, next, seat-on}
use Rattle.shogi_board.proofs.Squares.{away-same, place-bound}
use Rattle.shogi_board.proofs.board.Board.is_clear.Goals as goal

pub loop-n-init : goal.loop-n-init
loop-n-init c = record {
  seat = rw c.place-place.ensures.value (at-first c.args.from c.args.direction);
  clear = λ k s low high _. absurd (omega (arith, low, high));
}

pub overflow_sub-place : goal.overflow_sub-place
overflow_sub-place c =
    let t = next c.args.from c.requires.there.0 c.args.direction c.loop-n._n c.args.distance c.loop-n.place c.requires.ray c.loop-n.auto._n c.loop-n-test.true c.requires.there.1 c.loop-n.invariant.seat in
    let e = t.2 in
    omega (arith, e, c.stride-stride.ensures)

pub content-requires : goal.content-requires
content-requires c =
    let t = next c.args.from c.requires.there.0 c.args.direction c.loop-n._n c.args.distance c.loop-n.place c.requires.ray c.loop-n.auto._n c.loop-n-test.true c.requires.there.1 c.loop-n.invariant.seat in
    let e = t.2 in
    let low = place-bound t.0 in
    omega (arith, e, low, c.stride-stride.ensures)

pub returns-then-is_some : goal.returns-then-is_some
returns-then-is_some c =
    let t = next c.args.from c.requires.there.0 c.args.direction c.loop-n._n c.args.distance c.loop-n.place c.requires.ray c.loop-n.auto._n c.loop-n-test.true c.requires.there.1 c.loop-n.invariant.seat in
    let e = t.2 in
    let here : place t.0 ≡ c.loop-n.place + c.stride-stride.result - 20 = omega (arith, e, c.stride-stride.ensures) in
    let taken : is_some (at c.args.self.now t.0) ≡ true = grind arith in
    (λ no. cc, λ clear. let empty = clear c.loop-n._n t.0 c.loop-n.auto._n c.loop-n-test.true t.1 in cc)

pub loop-n-preserved : goal.loop-n-preserved
loop-n-preserved c =
    let t = next c.args.from c.requires.there.0 c.args.direction c.loop-n._n c.args.distance c.loop-n.place c.requires.ray c.loop-n.auto._n c.loop-n-test.true c.requires.there.1 c.loop-n.invariant.seat in
    let e = t.2 in
    let here : place t.0 ≡ c.loop-n.place + c.stride-stride.result - 20 = omega (arith, e, c.stride-stride.ensures) in
    let cell : at c.args.self.now t.0 ≡ None = grind arith in
    record {
      seat = seat-on c.args.from t.0 c.args.direction c.loop-n._n _ t.1 here;
      clear = clear-more c.args.self.now c.args.from c.args.direction c.loop-n._n c.loop-n.invariant.clear (λ s h.
          let same : s ≡ t.0 = away-same c.args.from s t.0 c.args.direction c.loop-n._n h t.1 in
          rw same cell);
    }
