-- For private functions: what a whole summary offers, by its parts.
-- A reader of the public contracts may skip this file.
use Rattle.std.specs.Prelude.{◌≡◌, ℕ, ◌≤◌, List, [], ◌∷◌, length, Option, Some, None}
use Rattle.csa_record.specs.Game.{Game}
use Rattle.shogi_board.specs.declared.color.Color.{Color}
use Rattle.csa_text.specs.Codes.{sign}
use Rattle.shogi_session.specs.declared.offer.GameOffer.{GameOffer}
use Rattle.bridge_table.specs.Summary.{SummaryContent, Offer, TellsOffer, name_given}

abbrev pub offer_in : GameOffer → Offer
offer_in o = record { client = o.client; game = o.game }

abbrev pub offer_of : Option GameOffer → Option Offer
offer_of None = None
offer_of (Some o) = Some (offer_in o)

-- the game with these names; an empty one counts as none
abbrev pub IsNamed : Game → List ℕ → List ℕ → Game → Type 0
IsNamed g black white named =
    named ≡ record g { black = name_given black; white = name_given white }

-- names that are not too long, and the sign of the client's side
pub record IsClientGiven (black white turn : List ℕ) (client : Color) : Type 0 where
  pub black_fits : length black ≤ 4094
  pub white_fits : length white ≤ 4094
  pub sign_is : turn ≡ sign client ∷ []

-- what counts of the lines describes this offer, or none
abbrev pub IsOfferOf : SummaryContent → Option Offer → Type 0
IsOfferOf h None = (o : Offer) → TellsOffer h o → ⊥
IsOfferOf h (Some o) = TellsOffer h o
