use Rattle.std.proofs.Common.{◌∙◌, subst, sym}
use Rattle.std.proofs.lemmas.Bool.Decides.{Decides-eqb}
use Rattle.std.proofs.lemmas.Slice.Eq.{slice_eq-Decides}
use Rattle.game_archive.proofs.Likenesses.{key_once}
use Rattle.game_archive.proofs.keys.has_key.Goals as goal
use Rattle.game_archive.specs.Knowing.{HasKey}

pub returns-clause-same : goal.returns-clause-same
returns-clause-same g c = λ bytes gives.
    let own = c.in_ok-own.ensures.text bytes gives in
    let same = slice_eq-Decides Decides-eqb c.as_slice.result.now c.args.key.now c.eq.result c.eq.ensures in (
      λ same_key. subst (HasKey c.args.likeness bytes) (sym c.as_slice.ensures.value ∙ same.0 same_key) own,
      λ has. same.1 (c.as_slice.ensures.value ∙ key_once c.args.likeness bytes c.in_ok-own.own.items c.args.key.now own has),
    )
