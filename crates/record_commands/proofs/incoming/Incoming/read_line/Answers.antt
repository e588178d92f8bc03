use Rattle.std.proofs.Common.{arith, ap, refl, subst, ◌≡◌, ◌∙◌, is_some, Some}
use Rattle.std.proofs.KnownBytes.{Keeps-refl}
use Rattle.record_commands.proofs.LineReading.{event_gives, gives_nothing, event_failed, failed_at_last, none_then_end, none_then_line, none_then_long, none_then_none, some_of}
use Rattle.record_commands.specs.Incoming.{Coming, stop_after}
use Rattle.record_commands.proofs.incoming.Incoming.read_line.Goals as goal

pub loop-pieces-init : goal.loop-pieces-init
loop-pieces-init g c = record { none = gives_nothing _ _ (Keeps-refl c.args.self.now.bytes); stop = refl; stays = λ over. (refl, refl) }

pub returns-in-Some-clause-line : goal.returns-in-Some-clause-line
returns-in-Some-clause-line g c = λ is. none_then_line _ _ _ _ c.loop-pieces.invariant.none ((event_gives _ _ _ _ _ (c.in-Some.is ∙ ap Some is) c.in_ok-event.ensures.event).0)

pub returns-in-Some-clause-short : goal.returns-in-Some-clause-short
returns-in-Some-clause-short g c = λ is. (event_gives _ _ _ _ _ (c.in-Some.is ∙ ap Some is) c.in_ok-event.ensures.event).1

pub returns-in-Some-clause-end : goal.returns-in-Some-clause-end
returns-in-Some-clause-end g c = λ is. none_then_end _ _ _ c.loop-pieces.invariant.none (event_gives _ _ _ _ _ (c.in-Some.is ∙ ap Some is) c.in_ok-event.ensures.event)

pub returns-in-Some-clause-failed : goal.returns-in-Some-clause-failed
returns-in-Some-clause-failed g c = λ is. none_then_none _ _ _ c.loop-pieces.invariant.none (event_gives _ _ _ _ _ (c.in-Some.is ∙ ap Some is) c.in_ok-event.ensures.event)

pub returns-in-Some-clause-long : goal.returns-in-Some-clause-long
returns-in-Some-clause-long g c = λ is. none_then_long _ _ _ c.loop-pieces.invariant.none (event_gives _ _ _ _ _ (c.in-Some.is ∙ ap Some is) c.in_ok-event.ensures.event)

pub returns-in-Some-clause-over : goal.returns-in-Some-clause-over
returns-in-Some-clause-over g c =
    let over = some_of _ _ _ c.in-Some.is c.in_ok-event.ensures.over in
    subst (λ s. c.take_piece.new.self.stop ≡ stop_after s c.in-Some.event) c.loop-pieces.invariant.stop over

pub returns-clause-over : goal.returns-clause-over
returns-clause-over g c =
    failed_at_last c.args.self.now.stop c.loop-pieces._pieces (λ over. (c.loop-pieces.invariant.stays over).1) (omega (arith, c.loop-pieces-test.false))

pub returns-clause-stays : goal.returns-clause-stays
returns-clause-stays g c = λ over.
    let none = (c.loop-pieces.invariant.stays over).1 in
    absurd (omega (arith, none, c.loop-pieces-test.false))

pub loop-pieces-preserved : goal.loop-pieces-preserved
loop-pieces-preserved g c = record {
  none = none_then_none _ _ _ c.loop-pieces.invariant.none (event_gives _ _ _ _ _ c.in_default.is c.in_ok-event.ensures.event);
  stop = c.in_ok-event.ensures.still c.in_default.is ∙ c.loop-pieces.invariant.stop;
  stays = λ over.
      let same = (c.loop-pieces.invariant.stays over).0 in
      let failed = c.in_ok-event.ensures.stays (ap (λ (x : Coming). is_some x.stop) same ∙ over) in
      absurd (event_failed _ c.in_ok-event.field-0 failed.0 refl c.in_default.is);
}
