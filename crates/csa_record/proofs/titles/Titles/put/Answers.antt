use Rattle.std.proofs.Common.{ap, subst}
use Rattle.csa_record.specs.TitleBytes.{entry_of}
use Rattle.record_game.specs.Titles.{Titled}
use Rattle.record_game.specs.Validity.{IsTitled}
use Rattle.csa_record.proofs.TitleEntries.{put_headers, put_view, put_titled}
use Rattle.csa_record.proofs.titles.Titles.put.Goals as goal

pub returns-in-Ok-clause-ok : goal.returns-in-Ok-clause-ok
returns-in-Ok-clause-ok c =
    let put = put_headers c.args.self.now c.self.inside.headers.entries c.insert.new.self.entries c.args.key c.args.value
    (ap (λ (t : Titled). t.headers) c.self.view_is) c.in-Ok.ensures.entries c.requires.new_key in
    put_view c.args.self.now _ _ _ _ (entry_of c.args.key c.args.value) c.self.view_is put

pub invariant_of-self : goal.invariant_of-self
invariant_of-self c =
    let put = put_headers c.args.self.now c.self.inside.headers.entries c.insert.new.self.entries c.args.key c.args.value
    (ap (λ (t : Titled). t.headers) c.self.view_is) c.in-Ok.ensures.entries c.requires.new_key in
    put_titled c.args.self.now _ (entry_of c.args.key c.args.value) (subst IsTitled c.self.view_is c.self.invariant)
    (put_view c.args.self.now _ _ _ _ (entry_of c.args.key c.args.value) c.self.view_is put) c.requires.entry c.requires.new_key c.requires.few

pub returns-in-Ok-clause-titled : goal.returns-in-Ok-clause-titled
returns-in-Ok-clause-titled c =
    let put = put_headers c.args.self.now c.self.inside.headers.entries c.insert.new.self.entries c.args.key c.args.value
    (ap (λ (t : Titled). t.headers) c.self.view_is) c.in-Ok.ensures.entries c.requires.new_key in
    put_titled c.args.self.now _ (entry_of c.args.key c.args.value) (subst IsTitled c.self.view_is c.self.invariant)
    (put_view c.args.self.now _ _ _ _ (entry_of c.args.key c.args.value) c.self.view_is put) c.requires.entry c.requires.new_key c.requires.few
