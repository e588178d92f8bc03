use Rattle.std.proofs.Common.{Some, None, ap, sym, subst}
use Rattle.std.specs.Prelude.{IfOk}
use Rattle.bridge_table.specs.Summary.{SummaryContent}
use Rattle.shogi_session.specs.HearingStage.{blocks_of, title_of}
use Rattle.shogi_session.specs.Offers.{IsOfferOf, offer_in, offer_of}
use Rattle.shogi_session.proofs.SummaryCauses.{no_offer}
use Rattle.shogi_session.proofs.OfferRead.{client_sliced, named_sliced, none_stated, offer_stated}
use Rattle.shogi_session.proofs.summary_reader.SummaryReader.finish.Goals.{in-Some+in_ok-name_offer-in-Some, in-None}
use Rattle.shogi_session.proofs.summary_reader.SummaryReader.finish.Goals as goal

pub returns-clause-stated : goal.returns-clause-stated
returns-clause-stated c =
    let inside = c.self.inside in
    let h : SummaryContent = record {
      black = inside.black.items;
      white = inside.white.items;
      turn = inside.turn.items;
      positions = blocks_of inside.positions inside.begun;
      begun = title_of inside.begun;
    } in
    let blocks = ap (blocks_of inside.positions) c.in-Nothing.is in
    elim c.match-take_game.branch [
      | in-Some+in_ok-name_offer-in-Some w ↦
          (let offer = (w.in_ok-name_offer-in-Some).field-0 in
          let named = (w.in_ok-name_offer-in-Some).ensures in
          subst (λ r. IfOk r (λ found. IsOfferOf c.args.self.now (offer_of found))) (sym w.result-is)
          (subst (λ (x : SummaryContent). IsOfferOf x (Some (offer_in offer))) c.self.view_is
          (offer_stated h inside.positions (w.in-Some).game offer (ap title_of c.in-Nothing.is) blocks
          (client_sliced h.black h.white h.turn _ _ _ c.in-Ok.client offer.client c.as_slice-black.ensures.value c.as_slice-white.ensures.value c.as_slice.ensures.value
          named.0 c.in-Ok.ensures)
          (w.in-Some).ensures.game
          (named_sliced (w.in-Some).game offer.game h.black h.white _ _ c.as_slice-black.ensures.value c.as_slice-white.ensures.value named.1))))
      | in-None w ↦
          subst (λ r. IfOk r (λ found. IsOfferOf c.args.self.now (offer_of found))) (sym w.result-is)
          (subst (λ (x : SummaryContent). IsOfferOf x None) c.self.view_is (none_stated h inside.positions blocks w.in-None.ensures.game))
    ]

pub returns-in_default-read_client-clause-stated : goal.returns-in_default-read_client-clause-stated
returns-in_default-read_client-clause-stated c =
    let inside = c.self.inside in
    let h : SummaryContent = record {
      black = inside.black.items;
      white = inside.white.items;
      turn = inside.turn.items;
      positions = blocks_of inside.positions inside.begun;
      begun = title_of inside.begun;
    } in
    subst (λ (x : SummaryContent). IsOfferOf x None) c.self.view_is
    (λ o. no_offer h _ o (c.in_default-read_client.ensures h (sym c.as_slice-black.ensures.value) (sym c.as_slice-white.ensures.value) (sym c.as_slice.ensures.value)))
