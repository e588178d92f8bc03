-- The game that the text of a position block spells.
use Rattle.std.proofs.Common.{◌≡◌, ℕ, List, [], ◌∷◌, Option, Some, None, inl, inr, refl, sym, ap, subst, ◌∙◌}
use Rattle.std.specs.List.{AllByRecursion, AllZip}
use Rattle.std.specs.Option.{option_to_list}
use Rattle.record_game.proofs.SaysOnce.{same_items}
use Rattle.record_game.proofs.TellsOnce.{stated_or_refused}
use Rattle.csa_record.specs.Game.{Game}
use Rattle.csa_record.specs.Items.{names}
use Rattle.csa_record.specs.Refused.{Refused}
use Rattle.csa_record.specs.Says.{Says}
use Rattle.csa_record.specs.Tells.{IsSpelt, Tells}
use Rattle.record_game.specs.declared.fault.Why.{Why}
use Rattle.csa_cutting.proofs.Once.{statements_once}
use Rattle.csa_text.specs.Saying.{Saying, version, name, header, even, rank, pieces, turn, walked, time, ending}
use Rattle.shogi_board.specs.declared.color.Color.{Color}
use Rattle.shogi_board.specs.declared.color.Color.TheVariants.{Black, White}
use Rattle.bridge_table.proofs.PositionFits.{FitsIn, not_so}
use Rattle.shogi_session.specs.PositionTexts.{IsPositionText}
use Rattle.bridge_table.specs.Summary.{TellsPosition, nameless}

-- none of these statements is a name
no_names : (side : Color) (ss : List Saying) → AllByRecursion FitsIn ss → names side ss ≡ []
no_names side [] fit = refl
no_names side (version ∷ ss) fit = absurd (not_so fit.0)
no_names side (name color text ∷ ss) fit = absurd (not_so fit.0)
no_names side (header key text ∷ ss) fit = absurd (not_so fit.0)
no_names side (even pairs ∷ ss) fit = no_names side ss fit.1
no_names side (rank number cells ∷ ss) fit = no_names side ss fit.1
no_names side (pieces color pairs ∷ ss) fit = no_names side ss fit.1
no_names side (turn color ∷ ss) fit = no_names side ss fit.1
no_names side (walked color m ∷ ss) fit = no_names side ss fit.1
no_names side (time t ∷ ss) fit = no_names side ss fit.1
no_names side (ending e ∷ ss) fit = absurd (not_so fit.0)

none_listed : (o : Option (List ℕ)) → [] ≡ option_to_list o → o ≡ None
none_listed None e = refl
none_listed (Some text) e = absurd cc

nameless_same : (g : Game) → g.black ≡ None → g.white ≡ None → nameless g ≡ g
nameless_same g b w =
    ap (λ (x : Option (List ℕ)). record g { black = x; white = None }) (sym b)
    ∙ ap (λ (x : Option (List ℕ)). record g { black = g.black; white = x }) (sym w)

says_fit : (text : List ℕ) (g : Game) (p : IsPositionText text) → Tells text g → Says p.sayings g
says_fit text g p stated =
    let statements = statements_once _ _ stated.statements p.statements stated.cut p.cut in
    let spelt : AllZip IsSpelt p.statements stated.sayings = subst (λ us. AllZip IsSpelt us stated.sayings) statements stated.spelt in
    subst (λ ss. Says ss g) (same_items p.statements stated.sayings p.sayings spelt p.spelt) stated.says

pub position_stated : (text : List ℕ) (g : Game) → IsPositionText text → Tells text g → TellsPosition text g × (g.black ≡ None) × (g.white ≡ None)
position_stated text g p stated =
    let says = says_fit text g p stated in
    let b = none_listed g.black (sym (no_names Black p.sayings p.no_others) ∙ says.black) in
    let w = none_listed g.white (sym (no_names White p.sayings p.no_others) ∙ says.white) in (
      record {
        statements = p.statements;
        sayings = p.sayings;
        cut = p.cut;
        spelt = p.spelt;
        no_others = p.no_others;
        says = subst (Says p.sayings) (sym (nameless_same g b w)) says;
      },
      b,
      w,
    )

pub position_refused : (text : List ℕ) (number offset : ℕ) (why : Why) → Refused text number offset why → (g : Game) → TellsPosition text g → ⊥
position_refused text number offset why refused g p =
    let stated : Tells text (nameless g) = record { statements = p.statements; sayings = p.sayings; cut = p.cut; spelt = p.spelt; says = p.says } in
    elim (stated_or_refused text) [
      | inl t ↦ t.not_refused number offset why refused
      | inr r ↦ r.tells_no_game (nameless g) stated
    ]
