-- Why what counts of a summary offers no game.
use Rattle.std.proofs.Common.{◌≡◌, ℕ, List, Option, Some, None, MatchOption, arith, refl, sym, subst, ◌∙◌}
use Rattle.csa_record.specs.Game.{Game}
use Rattle.shogi_board.specs.declared.color.Color.{Color}
use Rattle.bridge_table.specs.Summary.{SummaryContent, Offer, TellsPosition, TellsOffer, name_given}
use Rattle.shogi_session.specs.HearingStage.{IsGameIn, ended_blocks, title_of}
use Rattle.shogi_session.specs.Offers.{IsClientGiven, offer_in}
use Rattle.shogi_session.specs.SummaryFaults.{IsFaultOf, open_block, long_black, long_white, no_turn, no_position, several_positions, bad_position}
use Rattle.shogi_session.specs.declared.offer.GameOffer.{GameOffer}
use Rattle.shogi_session.specs.declared.summary_fault.SummaryFault.{SummaryFault}
use Rattle.shogi_session.specs.declared.summary_reader.Begun.{Begun}
use Rattle.shogi_session.specs.declared.summary_reader.Begun.TheVariants.{Nothing, Position, Another, Other}
use Rattle.shogi_session.specs.declared.summary_reader.Positions.{Positions}
use Rattle.shogi_session.proofs.OfferRead.{offer_stated, same_text}

-- a cause leaves no offer
pub no_offer : (h : SummaryContent) (fault : SummaryFault) (o : Offer) → IsFaultOf h fault → TellsOffer h o → ⊥
no_offer h fault o (open_block title is) told = let same = sym is ∙ told.no_block in absurd cc
no_offer h fault o (long_black long) told = omega (arith, long, told.black_fits)
no_offer h fault o (long_white long) told = omega (arith, long, told.white_fits)
no_offer h fault o (no_turn none) told = none o.client told.client
no_offer h fault o (no_position is) told = let same = sym is ∙ told.one_position in absurd cc
no_offer h fault o (several_positions is) told = let same = sym is ∙ told.one_position in absurd cc
no_offer h fault o (bad_position text is none) told =
    none o.game (subst (λ x. TellsPosition x o.game) (same_text text told.text (sym is ∙ told.one_position)) told.position)

pub left_open : (begun : Begun) → (begun ≡ Nothing → ⊥) → (title : List ℕ) × (title_of begun ≡ Some title)
left_open Nothing is = absurd (is refl)
left_open (Position text) is = (_, refl)
left_open Another is = (_, refl)
left_open (Other title) is = (_, refl)

-- with the only position block's game there is an offer
pub fault_left : (h : SummaryContent) (positions : Positions) (client : Color) (found : Option SummaryFault)
    → h.begun ≡ None → h.positions ≡ ended_blocks positions → IsClientGiven h.black h.white h.turn client
    → MatchOption found ((g : Game) × IsGameIn positions (Some g))
    (λ fault. (other : SummaryContent) → other.positions ≡ ended_blocks positions → IsFaultOf other fault)
    → MatchOption found ((o : Offer) × TellsOffer h o) (IsFaultOf h)
fault_left h positions client None whole blocks given has =
    let offer : GameOffer = record { client = client; game = record has.0 { black = name_given h.black; white = name_given h.white } } in
    (offer_in offer, offer_stated h positions has.0 offer whole blocks given has.1 refl)
fault_left h positions client (Some fault) whole blocks given is = is h blocks
