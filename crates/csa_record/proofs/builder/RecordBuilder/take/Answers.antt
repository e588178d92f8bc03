use Rattle.std.proofs.Common.{sym, subst, true}
use Rattle.csa_text.specs.Saying.{saying_of}
use Rattle.record_game.specs.Taking.{TakenOrRefused}
use Rattle.csa_record.proofs.builder.RecordBuilder.take.Goals as goal
use Rattle.csa_record.proofs.builder.RecordBuilder.take.Goals.{in-Version, in-Name, in-Header, in-Even, in-Rank, in-Pieces, in-Turn, in-Walked, in-Time, in-Ending}

pub returns : goal.returns
returns c = λ before h.
    subst (λ k. TakenOrRefused before (saying_of c.args.item) c.match-item.taken (record k { begun = true })) (sym c.self.view_is) (elim c.match-item.branch [
      | in-Version w ↦ rw (w.in-Version.is, w.self-is, w.taken-is) (w.take_version-taken.ensures before h)
      | in-Name w ↦ rw (w.in-Name.is, w.self-is, w.taken-is) (w.take_name-taken.ensures before h)
      | in-Header w ↦ rw (w.in-Header.is, w.self-is, w.taken-is) (w.take_header-taken.ensures before h)
      | in-Even w ↦ rw (w.in-Even.is, w.self-is, w.taken-is) (w.take_even-taken.ensures before h)
      | in-Rank w ↦ rw (w.in-Rank.is, w.self-is, w.taken-is) (w.take_rank-taken.ensures before h)
      | in-Pieces w ↦ rw (w.in-Pieces.is, w.self-is, w.taken-is) (w.take_pieces-taken.ensures before h)
      | in-Turn w ↦ rw (w.in-Turn.is, w.self-is, w.taken-is) (w.take_turn-taken.ensures before h)
      | in-Walked w ↦ rw (w.in-Walked.is, w.self-is, w.taken-is) (w.take_move-taken.ensures before h)
      | in-Time w ↦ rw (w.in-Time.is, w.self-is, w.taken-is) (w.take_time-taken.ensures before h)
      | in-Ending w ↦ rw (w.in-Ending.is, w.self-is, w.taken-is) (w.take_ending-taken.ensures before h)
    ])
