use Rattle.std.proofs.Common.{MatchOption, ap, refl, subst}
use Rattle.bridge_table.specs.Summary.{SummaryContent, Offer, TellsOffer}
use Rattle.shogi_session.specs.HearingStage.{blocks_of, title_of}
use Rattle.shogi_session.specs.SummaryFaults.{IsFaultOf, open_block}
use Rattle.shogi_session.specs.declared.summary_fault.SummaryFault.TheVariants.{OpenBlock}
use Rattle.shogi_session.proofs.OfferRead.{client_sliced}
use Rattle.shogi_session.proofs.SummaryCauses.{fault_left, left_open}
use Rattle.shogi_session.proofs.summary_reader.SummaryReader.fault.Goals as goal

pub returns-in_default : goal.returns-in_default
returns-in_default c =
    let left = left_open c.self.inside.begun c.in_default.not-Nothing in
    subst (λ (h : SummaryContent). IsFaultOf h OpenBlock) c.self.view_is (open_block left.0 left.1)

pub returns-in-Ok : goal.returns-in-Ok
returns-in-Ok c =
    let inside = c.self.inside in
    let h : SummaryContent = record {
      black = inside.black.items;
      white = inside.white.items;
      turn = inside.turn.items;
      positions = blocks_of inside.positions inside.begun;
      begun = title_of inside.begun;
    } in
    subst (λ (x : SummaryContent). MatchOption c.position_fault.result ((o : Offer) × TellsOffer x o) (IsFaultOf x)) c.self.view_is
    (fault_left h inside.positions c.in-Ok.field-0 c.position_fault.result (ap title_of c.in-Nothing.is) (ap (blocks_of inside.positions) c.in-Nothing.is)
    (client_sliced h.black h.white h.turn _ _ _ c.in-Ok.field-0 c.in-Ok.field-0 c.as_slice-black.ensures.value c.as_slice-white.ensures.value c.as_slice.ensures.value
    refl c.in-Ok.ensures)
    c.position_fault.ensures)
