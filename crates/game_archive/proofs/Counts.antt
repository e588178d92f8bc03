-- For each reading that gave no record one entry is in no group.
use Rattle.std.proofs.Common.{◌≡◌, ◌∙◌, ℕ, ◌+◌, List, [], ◌∷◌, ◌++◌, refl, ap, arith, length, subst}
use Rattle.std.proofs.lemmas.List.{length_push}
use Rattle.csa_record.specs.declared.flow.FlowFault.{FlowFault}
use Rattle.csa_record.specs.declared.flow.FlowFault.TheVariants as flow
use Rattle.game_archive.specs.Groups.{outside}
use Rattle.game_archive.specs.Knowing.{KeepsCount}
use Rattle.game_archive.specs.Readings.{Noted, how_many, noted_at}
use Rattle.game_archive.specs.declared.grouping.Placing.{Placing}
use Rattle.game_archive.specs.declared.grouping.Placing.TheVariants as placing

outside_push : (ps : List Placing) (p : Placing) → outside (ps ++ p ∷ []) ≡ outside ps + outside (p ∷ [])
outside_push [] p = omega (arith)
outside_push (placing.Group leader ∷ ps) p = outside_push ps p
outside_push (placing.Refused r ∷ ps) p = let e : outside (ps ++ p ∷ []) ≡ outside ps + outside (p ∷ []) = outside_push ps p in omega (arith, e)
outside_push (placing.Unreadable ∷ ps) p = let e : outside (ps ++ p ∷ []) ≡ outside ps + outside (p ∷ []) = outside_push ps p in omega (arith, e)

-- a reading that failed or was refused is noted
one_noted : (old : Noted) (at : ℕ) (fault : FlowFault) → (fault ≡ flow.WriteFault → ⊥) → (fault ≡ flow.OutOfMemory → ⊥) → how_many (noted_at old at fault) ≡ how_many old + 1
one_noted old at (flow.Refused r) no_write memory = let l : length (old.refused ++ at ∷ []) ≡ length old.refused + 1 = length_push old.refused at in omega (arith, l)
one_noted old at flow.ReadFault no_write memory = let l : length (old.failed ++ at ∷ []) ≡ length old.failed + 1 = length_push old.failed at in omega (arith, l)
one_noted old at flow.WriteFault no_write memory = absurd (no_write refl)
one_noted old at flow.OutOfMemory no_write memory = absurd (memory refl)

pub one_outside : (old new : Noted) (at : ℕ) (fault : FlowFault) (ps : List Placing) (p : Placing) → (fault ≡ flow.WriteFault → ⊥) → (fault ≡ flow.OutOfMemory → ⊥)
    → new ≡ noted_at old at fault → outside (p ∷ []) ≡ 1 → KeepsCount old new ps (ps ++ p ∷ [])
one_outside old new at fault ps p no_write memory after one =
    let more : how_many new ≡ how_many old + 1 = ap how_many after ∙ one_noted old at fault no_write memory in
    let push : outside (ps ++ p ∷ []) ≡ outside ps + outside (p ∷ []) = outside_push ps p in
    omega (arith, more, push, one)

pub none_outside : (old new : Noted) (ps : List Placing) (leader : ℕ) → new ≡ old → KeepsCount old new ps (ps ++ placing.Group leader ∷ [])
none_outside old new ps leader quiet =
    let same : how_many new ≡ how_many old = ap how_many quiet in
    let push : outside (ps ++ placing.Group leader ∷ []) ≡ outside ps + 0 = outside_push ps (placing.Group leader) in
    omega (arith, same, push)

-- nothing was noted before
pub count_from : (start old new : Noted) (before after : List Placing) → old ≡ start → KeepsCount old new before after → KeepsCount start new before after
count_from start old new before after e keeps = subst (λ n. KeepsCount n new before after) e keeps
