-- What a whole summary offers, by what counts of its lines.
use Rattle.std.proofs.Common.{◌≡◌, ℕ, List, Some, None, ap, sym, subst, ◌∙◌}
use Rattle.csa_record.specs.Game.{Game}
use Rattle.csa_record.specs.Says.{Says}
use Rattle.shogi_board.specs.declared.color.Color.{Color}
use Rattle.bridge_table.specs.Summary.{SummaryContent, one, Offer, TellsPosition, TellsOffer, nameless}
use Rattle.shogi_session.specs.HearingStage.{IsGameIn, ended_blocks}
use Rattle.shogi_session.specs.Offers.{IsClientGiven, IsNamed, offer_in}
use Rattle.shogi_session.specs.declared.offer.GameOffer.{GameOffer}
use Rattle.shogi_session.specs.declared.summary_reader.Positions.{Positions}
use Rattle.shogi_session.specs.declared.summary_reader.Positions.TheVariants.{Missing, One, Several}

position_named : (text black white : List ℕ) (g named : Game) → TellsPosition text g → IsNamed g black white named → TellsPosition text named
position_named text black white g named p e = record {
  statements = p.statements;
  sayings = p.sayings;
  cut = p.cut;
  spelt = p.spelt;
  no_others = p.no_others;
  says = subst (Says p.sayings) (sym (ap nameless e)) p.says;
}

-- a game of the only position block, with the names of the summary
pub offer_stated : (h : SummaryContent) (positions : Positions) (g : Game) (o : GameOffer) → h.begun ≡ None → h.positions ≡ ended_blocks positions
    → IsClientGiven h.black h.white h.turn o.client → IsGameIn positions (Some g) → IsNamed g h.black h.white o.game → TellsOffer h (offer_in o)
offer_stated h Missing g o whole blocks stated game named = absurd game
offer_stated h (One text) g o whole blocks stated game named = record {
  no_block = whole;
  black_fits = stated.black_fits;
  white_fits = stated.white_fits;
  black = ap (λ (x : Game). x.black) named;
  white = ap (λ (x : Game). x.white) named;
  client = stated.sign_is;
  text = text;
  one_position = blocks;
  position = position_named text h.black h.white g o.game game.0 named;
}
offer_stated h Several g o whole blocks stated game named = absurd game

pub same_text : (a b : List ℕ) → one a ≡ one b → b ≡ a
same_text a b p = cc

pub none_stated : (h : SummaryContent) (positions : Positions) → h.positions ≡ ended_blocks positions → IsGameIn positions None → (o : Offer) → TellsOffer h o → ⊥
none_stated h Missing blocks game o stated = let same = sym blocks ∙ stated.one_position in absurd cc
none_stated h (One text) blocks game o stated =
    game o.game (subst (λ x. TellsPosition x o.game) (same_text text stated.text (sym blocks ∙ stated.one_position)) stated.position)
none_stated h Several blocks game o stated = let same = sym blocks ∙ stated.one_position in absurd cc

-- the same for slices of these texts
pub client_sliced : (black white turn b w t : List ℕ) (client color : Color) → b ≡ black → w ≡ white → t ≡ turn → color ≡ client
    → IsClientGiven b w t client → IsClientGiven black white turn color
client_sliced black white turn b w t client color same-b same-w same-t same stated =
    subst (λ x. IsClientGiven x white turn color) same-b
    (subst (λ x. IsClientGiven b x turn color) same-w
    (subst (λ x. IsClientGiven b w x color) same-t (subst (IsClientGiven b w t) (sym same) stated)))

pub named_sliced : (g named : Game) (black white b w : List ℕ) → b ≡ black → w ≡ white → IsNamed g b w named → IsNamed g black white named
named_sliced g named black white b w same-b same-w stated =
    subst (λ x. IsNamed g x white named) same-b (subst (λ x. IsNamed g b x named) same-w stated)
