use Rattle.std.proofs.Common.{◌≡◌, ◌+◌, ◌∙◌, length, take, drop, get_or, sym, ap, subst, arith}
use Rattle.std.proofs.Math.Seq.{take-length}
use Rattle.std.proofs.lemmas.Result.{err_from_is_err_and}
use Rattle.csa_record.specs.RecordReading.{HasRead, bytes_of}
use Rattle.record_game.specs.Pieces.{joined, refused}
use Rattle.record_game.specs.Refused.{FaultlessTo}
use Rattle.csa_record.proofs.PiecesRead.{no_piece, one_more, around, has_room, fed_count, accepted_so, refused_so, of_all, faultless_so}
use Rattle.csa_record.proofs.pieces.read_pieces.Goals as goal

pub feed-requires : goal.feed-requires
feed-requires c = record {
  room = λ going.
      let ps = c.args.pieces.now in
      let i = c.loop-piece.piece-index in
      let room = has_room ps i no_piece c.loop-piece-test.true in
      let fed = fed_count (joined (bytes_of (take i ps))) c.loop-piece.reader c.loop-piece.invariant in
      omega (arith, fed, room, c.requires.room);
}

pub returns-in_err-feed-clause-refused : goal.returns-in_err-feed-clause-refused
returns-in_err-feed-clause-refused c =
    let ps = c.args.pieces.now in
    let i = c.loop-piece.piece-index in
    let r = c.in_err-feed.field-0.0 in
    let front = bytes_of (take i ps) in
    let p = err_from_is_err_and c.from_residual.result c.from_residual.ensures.1 in
    rw (p.1, p.2) (λ other.
    refused front (get_or ps i no_piece).now (bytes_of (drop (i + 1) ps)) r (around ps i no_piece c.loop-piece-test.true)
    (λ more. c.in_err-feed.ensures.refused (joined front) more c.loop-piece.invariant other))

pub returns-in_err-feed-clause-memory : goal.returns-in_err-feed-clause-memory
returns-in_err-feed-clause-memory c =
    let ps = c.args.pieces.now in
    let i = c.loop-piece.piece-index in
    let r = c.in_err-feed.field-0.0 in
    let p = err_from_is_err_and c.from_residual.result c.from_residual.ensures.1 in
    rw (p.1, p.2) (λ lack.
    of_all (λ source. FaultlessTo source r.number r.offset) ps i no_piece c.loop-piece-test.true
    (λ more. c.in_err-feed.ensures.memory (joined (bytes_of (take i ps))) more c.loop-piece.invariant lack))

pub loop-piece-preserved : goal.loop-piece-preserved
loop-piece-preserved c =
    let ps = c.args.pieces.now in
    let i = c.loop-piece.piece-index in
    subst (λ source. HasRead source c.feed.new.self) (sym (one_more ps i no_piece c.loop-piece-test.true))
    (c.in_ok-feed.ensures.taken (joined (bytes_of (take i ps))) c.loop-piece.invariant)

pub returns-clause-stated : goal.returns-clause-stated
returns-clause-stated c =
    let ps = c.args.pieces.now in
    let i = c.loop-piece.piece-index in
    let end : i ≡ length ps = omega (arith, c.loop-piece-test.false, c.loop-piece.auto.piece-index-end) in
    let all : joined (bytes_of (take i ps)) ≡ joined (bytes_of ps) = ap (λ qs. joined (bytes_of qs)) (ap (λ n. take n ps) end ∙ take-length ps) in
    accepted_so (bytes_of ps) (joined (bytes_of (take i ps))) c.finish.result all (c.finish.ensures.stated _ c.loop-piece.invariant)

pub returns-clause-refused : goal.returns-clause-refused
returns-clause-refused c =
    let ps = c.args.pieces.now in
    let i = c.loop-piece.piece-index in
    let end : i ≡ length ps = omega (arith, c.loop-piece-test.false, c.loop-piece.auto.piece-index-end) in
    let all : joined (bytes_of (take i ps)) ≡ joined (bytes_of ps) = ap (λ qs. joined (bytes_of qs)) (ap (λ n. take n ps) end ∙ take-length ps) in
    refused_so (bytes_of ps) (joined (bytes_of (take i ps))) c.finish.result all (c.finish.ensures.refused _ c.loop-piece.invariant)

pub returns-clause-memory : goal.returns-clause-memory
returns-clause-memory c =
    let ps = c.args.pieces.now in
    let i = c.loop-piece.piece-index in
    let end : i ≡ length ps = omega (arith, c.loop-piece-test.false, c.loop-piece.auto.piece-index-end) in
    let all : joined (bytes_of (take i ps)) ≡ joined (bytes_of ps) = ap (λ qs. joined (bytes_of qs)) (ap (λ n. take n ps) end ∙ take-length ps) in
    faultless_so (joined (bytes_of (take i ps))) (joined (bytes_of ps)) c.finish.result all (c.finish.ensures.memory _ c.loop-piece.invariant)
