use Rattle.std.proofs.Common.{[], ◌∷◌, Some, ap, sym, ◌∙◌}
use Rattle.record_game.specs.Game.{plain}
use Rattle.record_game.specs.Titles.{Titled}
use Rattle.csa_record.specs.declared.titles.HeaderText.TheVariants as texts
use Rattle.csa_record.proofs.TitleEntries.{found_some, found_none}
use Rattle.csa_record.proofs.titles.Titles.header.Goals as goal

pub returns-in-Some-Moment : goal.returns-in-Some-Moment
returns-in-Some-Moment c =
    found_some c.self.inside.headers.entries c.args.key.now c.args.self.now.headers (texts.Moment c.in-Some-Moment.moment)
    (ap (λ (t : Titled). t.headers) c.self.view_is) c.self.invariant.rising (ap Some (sym c.in-Some-Moment.field-0-is) ∙ c.in-Some-Moment.ensures.value)

pub returns-in-Some-Plain : goal.returns-in-Some-Plain
returns-in-Some-Plain c =
    found_some c.self.inside.headers.entries c.args.key.now c.args.self.now.headers (texts.Plain c.in-Some-Plain.text)
    (ap (λ (t : Titled). t.headers) c.self.view_is) c.self.invariant.rising (ap Some (sym c.in-Some-Plain.field-0-is) ∙ c.in-Some-Plain.ensures.value)
    ∙ ap (λ bytes. record { key = c.args.key.now; text = plain bytes } ∷ []) (sym c.as_slice.ensures.value)

pub returns-in-None : goal.returns-in-None
returns-in-None c =
    found_none c.self.inside.headers.entries c.args.key.now c.args.self.now.headers (ap (λ (t : Titled). t.headers) c.self.view_is)
    c.self.invariant.rising c.in-None.ensures.value
