-- Why an entry is unreadable, and why none is.
use Rattle.std.proofs.Common.{◌≡◌, ◌∙◌, ℕ, ◌<◌, List, [], ◌∷◌, ◌++◌, Result, Ok, Err, IfErr, IsErrAnd, inl, inr, ◌⊎◌, refl, sym, ap, arith, length, subst, append-nil, zero, suc}
use Rattle.std.specs.Prelude.{◌+◌, OnOk}
use Rattle.std.specs.BTreeMap.{BTreeMap}
use Rattle.std.proofs.lemmas.Bool.{cases_lt}
use Rattle.std.proofs.lemmas.List.{append_assoc, append_cancel_left, get_or_append_left, get_or_push, length_push}
use Rattle.std.proofs.lemmas.List.Elements.{All-weaker}
use Rattle.csa_record.specs.declared.flow.FlowFault.{FlowFault}
use Rattle.csa_record.specs.declared.flow.FlowFault.TheVariants as flow
use Rattle.record_game.proofs.RefusedOnce.{refused_once}
use Rattle.record_game.proofs.TellsOnce.{stated_or_refused}
use Rattle.record_game.specs.declared.fault.Refusal.{Refusal}
use Rattle.record_game.specs.declared.fault.Why.{Why}
use Rattle.record_game.specs.Game.{Game}
use Rattle.record_game.specs.Refused.{Refused}
use Rattle.record_game.specs.Tells.{Tells}
use Rattle.game_archive.proofs.Placed.{before, last, still, within}
use Rattle.game_archive.specs.Alike.{AreAlike, GiveBytes}
use Rattle.game_archive.specs.Digests.{Collides, HasDigest, HaveOneDigest}
use Rattle.game_archive.specs.Groups.{HasLeader, IsAccepted, IsGrouped, placing_at}
use Rattle.game_archive.specs.Knowing.{HadKey, HoldsDigests, IsNotCompared, KeepsCauses}
use Rattle.game_archive.specs.Readings.{Noted, Readings, all_noted, note_at, noted_at, noted_with, nothing_noted}
use Rattle.game_archive.specs.Unreadable.{HaveCauses, HaveCausesBetween, IsComparedWith, IsExact, IsNotedFor, IsUnreadFor}
use Rattle.game_archive.specs.declared.grouping.Placing.{Placing}
use Rattle.game_archive.specs.declared.grouping.Placing.TheVariants as placing
use Rattle.record_game.specs.declared.likeness.Likeness.{Likeness}
use Rattle.record_game.specs.declared.likeness.Likeness.TheVariants as likeness

-- what the exit of a `?` returns
pub returned : {T E : Type 0} (P Q : E → Type 0) (r : Result T E) → IsErrAnd r Q → ((fault : E) → Q fault → P fault) → IfErr r P
returned P Q (Ok x) gives holds = tt
returned P Q (Err fault) gives holds = holds fault gives

pub on_ok : {T E : Type 0} (P Q : Type 0) (r : Result T E) → (P → Q) → OnOk r P → OnOk r Q
on_ok P Q (Ok x) next holds = next holds
on_ok P Q (Err e) next holds = tt

pub both_ok : {T E : Type 0} (P Q S : Type 0) (r : Result T E) → (P → Q → S) → OnOk r P → OnOk r Q → OnOk r S
both_ok P Q S (Ok x) next one other = next one other
both_ok P Q S (Err e) next one other = tt

abbrev Digesting : Type 0
Digesting = List ℕ → List ℕ

abbrev noted : List ℕ → List ℕ → Noted
noted failed refused = record { failed = failed; refused = refused }

noted_of : (a b c d : List ℕ) → a ≡ c → b ≡ d → noted a b ≡ noted c d
noted_of a b c d e f = ap (λ x. noted x b) e ∙ ap (noted c) f

abbrev pub one_failed : ℕ → Noted
one_failed at = record { failed = at ∷ []; refused = [] }

abbrev pub one_refused : ℕ → Noted
one_refused at = record { failed = []; refused = at ∷ [] }

with_nothing : (n : Noted) → noted_with n nothing_noted ≡ n
with_nothing n = noted_of (n.failed ++ []) (n.refused ++ []) n.failed n.refused (append-nil n.failed) (append-nil n.refused)

failed_with : (n : Noted) (at : ℕ) → noted (n.failed ++ at ∷ []) n.refused ≡ noted_with n (one_failed at)
failed_with n at = noted_of (n.failed ++ at ∷ []) n.refused (n.failed ++ at ∷ []) (n.refused ++ []) refl (sym (append-nil n.refused))

refused_with : (n : Noted) (at : ℕ) → noted n.failed (n.refused ++ at ∷ []) ≡ noted_with n (one_refused at)
refused_with n at = noted_of n.failed (n.refused ++ at ∷ []) (n.failed ++ []) (n.refused ++ at ∷ []) (sym (append-nil n.failed)) refl

with_both : (a b c : Noted) → noted_with (noted_with a b) c ≡ noted_with a (noted_with b c)
with_both a b c =
    noted_of ((a.failed ++ b.failed) ++ c.failed) ((a.refused ++ b.refused) ++ c.refused) (a.failed ++ (b.failed ++ c.failed)) (a.refused ++ (b.refused ++ c.refused))
    (append_assoc a.failed b.failed c.failed) (append_assoc a.refused b.refused c.refused)

all_pushed : (notes : List Noted) (more : Noted) → all_noted (notes ++ more ∷ []) ≡ noted_with (all_noted notes) more
all_pushed [] more = with_nothing more
all_pushed (n ∷ notes) more = ap (noted_with n) (all_pushed notes more) ∙ sym (with_both n (all_noted notes) more)

-- ---- what was so before still is, with an entry more

pub collides_still : (l : Likeness) (d : Digesting) (R : Readings) (placings : List Placing) (p : Placing) (leader : ℕ) → Collides l d R placings leader → Collides l d R (placings ++ p ∷ []) leader
collides_still l d R placings p leader collides = (collides.0, collides.1, still placings p collides.0 collides.0 collides.2, collides.3)

near_still : (l : Likeness) (d : Digesting) (R : Readings) (placings : List Placing) (p : Placing) (at leader : ℕ)
    → HaveOneDigest l d R leader at ⊎ Collides l d R placings leader → HaveOneDigest l d R leader at ⊎ Collides l d R (placings ++ p ∷ []) leader
near_still l d R placings p at leader (inl one) = inl one
near_still l d R placings p at leader (inr collides) = inr (collides_still l d R placings p leader collides)

unread_still : (l : Likeness) (d : Digesting) (R : Readings) (placings : List Placing) (p : Placing) (at place : ℕ) (fault : FlowFault)
    → IsUnreadFor l d R placings at place fault → IsUnreadFor l d R (placings ++ p ∷ []) at place fault
unread_still l d R placings p at place fault (inl own) = inl own
unread_still l d R placings p at place fault (inr (compared, write, memory)) =
    inr ((still placings p place place compared.0, compared.1, near_still l d R placings p at place compared.2), write, memory)

noted_still : (l : Likeness) (d : Digesting) (R : Readings) (placings : List Placing) (p : Placing) (at : ℕ) (own : Placing) (note : Noted)
    → IsNotedFor l d R placings at own note → IsNotedFor l d R (placings ++ p ∷ []) at own note
noted_still l d R placings p at (placing.Group leader) note h = h
noted_still l d R placings p at (placing.Refused r) note h = h
noted_still l d R placings p at placing.Unreadable note (place, fault, why, reads, is) = (place, fault, unread_still l d R placings p at place fault why, reads, is)

-- one entry more
causes_pushed : (l : Likeness) (d : Digesting) (R : Readings) (since more : Noted) (placings : List Placing) (p : Placing) → IsNotedFor l d R placings (length placings) p more
    → HaveCauses l d R since placings → HaveCauses l d R (noted_with since more) (placings ++ p ∷ [])
causes_pushed l d R since more placings p own old =
    let after = placings ++ p ∷ [] in
    let notes = old.notes ++ more ∷ [] in
    let n = length placings in
    record {
      notes = notes;
      whole = ap (λ s. noted_with s more) old.whole ∙ sym (all_pushed old.notes more);
      many = length_push old.notes more ∙ (ap (λ k. k + 1) old.many ∙ sym (length_push placings p));
      each = λ at less.
          elim (cases_lt at n) [
            | inl there ↦
                let is : note_at notes at ≡ note_at old.notes at = get_or_append_left old.notes (more ∷ []) nothing_noted at (omega (arith, there, old.many)) in
                let was = noted_still l d R placings p at (placing_at placings at) (note_at old.notes at) (old.each at there) in
                subst (λ note. IsNotedFor l d R after at (placing_at after at) note) (sym is)
                (subst (λ q. IsNotedFor l d R after at q (note_at old.notes at)) (sym (before placings p at there)) was)
            | inr not ↦
                let grown = length_push placings p in
                let e : at ≡ n = omega (arith, not, less, grown) in
                let is : note_at notes n ≡ more = get_or_push old.notes more nothing_noted n old.many in
                let here = noted_still l d R placings p n p more own in
                subst (λ i. IsNotedFor l d R after i (placing_at after i) (note_at notes i)) (sym e)
                (subst (λ note. IsNotedFor l d R after n (placing_at after n) note) (sym is) (subst (λ q. IsNotedFor l d R after n q more) (sym (last placings p)) here))
          ];
    }

-- nothing more is noted
pub keeps_group : (l : Likeness) (d : Digesting) (R : Readings) (old new since : Noted) (placings : List Placing) (leader : ℕ) → new ≡ old → HaveCauses l d R since placings
    → KeepsCauses l d R old new since (placings ++ placing.Group leader ∷ [])
keeps_group l d R old new since placings leader e causes =
    (nothing_noted, e ∙ sym (with_nothing old), causes_pushed l d R since nothing_noted placings (placing.Group leader) refl causes)

-- the entry's own reading failed, or its record was refused
pub keeps_unread : (l : Likeness) (d : Digesting) (R : Readings) (old new since : Noted) (placings : List Placing) → new ≡ noted (old.failed ++ length placings ∷ []) old.refused
    → R (length placings) (Err flow.ReadFault) → HaveCauses l d R since placings → KeepsCauses l d R old new since (placings ++ placing.Unreadable ∷ [])
keeps_unread l d R old new since placings e reads causes =
    let n = length placings in
    let more = one_failed n in
    (more, e ∙ failed_with old n, causes_pushed l d R since more placings placing.Unreadable (n, flow.ReadFault, inl (refl, refl), reads, refl) causes)

pub keeps_refused : (l : Likeness) (d : Digesting) (R : Readings) (old new since : Noted) (placings : List Placing) (r : Refusal) → new ≡ noted old.failed (old.refused ++ length placings ∷ [])
    → R (length placings) (Err (flow.Refused r)) → HaveCauses l d R since placings → KeepsCauses l d R old new since (placings ++ placing.Refused r ∷ [])
keeps_refused l d R old new since placings r e reads causes =
    let n = length placings in
    let more = one_refused n in
    (more, e ∙ refused_with old n, causes_pushed l d R since more placings (placing.Refused r) (reads, refl) causes)

-- the reading of a leader
noted_more : (old new : Noted) (place : ℕ) (fault : FlowFault) → new ≡ noted_at old place fault → new ≡ noted_with old (noted_at nothing_noted place fault)
noted_more old new place (flow.Refused r) e = e ∙ refused_with old place
noted_more old new place flow.ReadFault e = e ∙ failed_with old place
noted_more old new place flow.WriteFault e = e ∙ sym (with_nothing old)
noted_more old new place flow.OutOfMemory e = e ∙ sym (with_nothing old)

near : (l : Likeness) (d : Digesting) (R : Readings) (placings : List Placing) (leader at : ℕ) (key digest : List ℕ) → HadKey l R at key → digest ≡ d key
    → HasDigest l d R leader digest ⊎ Collides l d R placings leader → HaveOneDigest l d R leader at ⊎ Collides l d R placings leader
near l d R placings leader at key digest had is (inl has) = inl (digest, has, (had.0, key, had.1, had.2, is))
near l d R placings leader at key digest had is (inr collides) = inr collides

pub keeps_lost : (l : Likeness) (d : Digesting) (R : Readings) (old new since : Noted) (placings : List Placing) (key digest : List ℕ) (fault : FlowFault)
    → (fault ≡ flow.OutOfMemory → ⊥) → (fault ≡ flow.WriteFault → ⊥) → HadKey l R (length placings) key → digest ≡ d key
    → ((fault ≡ flow.OutOfMemory → ⊥) → IsNotCompared l d R old new placings digest fault) → HaveCauses l d R since placings → KeepsCauses l d R old new since (placings ++ placing.Unreadable ∷ [])
keeps_lost l d R old new since placings key digest fault memory write had is why causes =
    let n = length placings in
    let lost = why memory in
    let leader = lost.0 in
    let more = noted_at nothing_noted leader fault in
    let compared : IsComparedWith l d R placings n leader = (lost.1, within placings leader leader lost.1, near l d R placings leader n key digest had is lost.2) in
    (more, noted_more old new leader fault lost.4, causes_pushed l d R since more placings placing.Unreadable (leader, fault, inr (compared, write, memory), lost.3, refl) causes)

-- a reading of a leader that gave no key
pub not_compared : (l : Likeness) (d : Digesting) (R S : Readings) (old here new : Noted) (placings : List Placing) (digest : List ℕ) (leader : ℕ) (read fault : FlowFault)
    → ((k : ℕ) (r : Result Game FlowFault) → S k r → R k r) → here ≡ old → HasLeader placings leader leader → HasDigest l d R leader digest ⊎ Collides l d R placings leader
    → ((read ≡ flow.OutOfMemory → ⊥) → S leader (Err read)) → new ≡ noted_at here leader read → fault ≡ read
    → (fault ≡ flow.OutOfMemory → ⊥) → IsNotCompared l d R old new placings digest fault
not_compared l d R S old here new placings digest leader read fault by quiet leads known reads after same other = (
  leader,
  leads,
  known,
  by leader (Err fault) (subst (λ f. S leader (Err f)) (sym same) (reads (λ lost. other (same ∙ lost)))),
  after ∙ (ap (λ n. noted_at n leader read) quiet ∙ ap (noted_at old leader) (sym same)),
)

-- ---- other readings that may come to the same

abbrev Implies : Readings → Readings → Type 0
Implies R S = (k : ℕ) (r : Result Game FlowFault) → R k r → S k r

digest_by : (l : Likeness) (d : Digesting) (R S : Readings) (at : ℕ) (digest : List ℕ) → Implies R S → HasDigest l d R at digest → HasDigest l d S at digest
digest_by l d R S at digest by has = (has.0, has.1, by at (Ok has.0) has.2, has.3, has.4)

one_by : (l : Likeness) (d : Digesting) (R S : Readings) (a b : ℕ) → Implies R S → HaveOneDigest l d R a b → HaveOneDigest l d S a b
one_by l d R S a b by one = (one.0, digest_by l d R S a one.0 by one.1, digest_by l d R S b one.0 by one.2)

collides_by : (l : Likeness) (d : Digesting) (R S : Readings) (placings : List Placing) (leader : ℕ) → Implies R S → Collides l d R placings leader → Collides l d S placings leader
collides_by l d R S placings leader by collides = (collides.0, collides.1, collides.2, one_by l d R S collides.0 leader by collides.3)

near_by : (l : Likeness) (d : Digesting) (R S : Readings) (placings : List Placing) (at leader : ℕ) → Implies R S
    → HaveOneDigest l d R leader at ⊎ Collides l d R placings leader → HaveOneDigest l d S leader at ⊎ Collides l d S placings leader
near_by l d R S placings at leader by (inl one) = inl (one_by l d R S leader at by one)
near_by l d R S placings at leader by (inr collides) = inr (collides_by l d R S placings leader by collides)

unread_by : (l : Likeness) (d : Digesting) (R S : Readings) (placings : List Placing) (at place : ℕ) (fault : FlowFault) → Implies R S
    → IsUnreadFor l d R placings at place fault → IsUnreadFor l d S placings at place fault
unread_by l d R S placings at place fault by (inl own) = inl own
unread_by l d R S placings at place fault by (inr (compared, write, memory)) = inr ((compared.0, compared.1, near_by l d R S placings at place by compared.2), write, memory)

noted_by : (l : Likeness) (d : Digesting) (R S : Readings) (placings : List Placing) (at : ℕ) (own : Placing) (note : Noted) → Implies R S
    → IsNotedFor l d R placings at own note → IsNotedFor l d S placings at own note
noted_by l d R S placings at (placing.Group leader) note by h = h
noted_by l d R S placings at (placing.Refused r) note by (reads, is) = (by at (Err (flow.Refused r)) reads, is)
noted_by l d R S placings at placing.Unreadable note by (place, fault, why, reads, is) = (place, fault, unread_by l d R S placings at place fault by why, by place (Err fault) reads, is)

pub causes_by : (l : Likeness) (d : Digesting) (R S : Readings) (since : Noted) (placings : List Placing) → Implies R S → HaveCauses l d R since placings → HaveCauses l d S since placings
causes_by l d R S since placings by old = record {
  notes = old.notes;
  whole = old.whole;
  many = old.many;
  each = λ at less. noted_by l d R S placings at (placing_at placings at) (note_at old.notes at) by (old.each at less);
}

pub keeps_by : (l : Likeness) (d : Digesting) (R S : Readings) (old new since : Noted) (placings : List Placing) → Implies R S → KeepsCauses l d R old new since placings → KeepsCauses l d S old new since placings
keeps_by l d R S old new since placings by keeps = (keeps.0, keeps.1, causes_by l d R S (noted_with since keeps.0) placings by keeps.2)

-- nothing was noted before
pub keeps_from : (l : Likeness) (d : Digesting) (R : Readings) (start old new since : Noted) (placings : List Placing) → old ≡ start → KeepsCauses l d R old new since placings → KeepsCauses l d R start new since placings
keeps_from l d R start old new since placings e keeps = subst (λ n. KeepsCauses l d R n new since placings) e keeps

pub digests_by : (l : Likeness) (d : Digesting) (R S : Readings) (placings : List Placing) (m : BTreeMap (List ℕ) ℕ) (colliding : List ℕ) → Implies R S
    → HoldsDigests l d R placings m colliding → HoldsDigests l d S placings m colliding
digests_by l d R S placings m colliding by old = record {
  at_digests = λ digest leader h. digest_by l d R S leader digest by (old.at_digests digest leader h);
  elsewhere = All-weaker (Collides l d R placings) (Collides l d S placings) (λ leader h. collides_by l d R S placings leader by h) colliding old.elsewhere;
}

-- no entry, and nothing noted
pub no_causes : (l : Likeness) (d : Digesting) (R : Readings) (n : Noted) → HaveCausesBetween l d R n n []
no_causes l d R n = (nothing_noted, sym (with_nothing n), record { notes = []; whole = refl; many = refl; each = λ at less. absurd (omega (arith, less)) })

-- one step more
pub causes_next : (l : Likeness) (d : Digesting) (R S : Readings) (start old new : Noted) (placings after : List Placing) → Implies R S → Implies S R
    → ((since : Noted) → HaveCauses l d S since placings → KeepsCauses l d S old new since after) → HaveCausesBetween l d R start old placings → HaveCausesBetween l d R start new after
causes_next l d R S start old new placings after to back step prior =
    let keeps = step prior.0 (causes_by l d R S prior.0 placings to prior.2) in (
      noted_with prior.0 keeps.0,
      keeps.1 ∙ (ap (λ n. noted_with n keeps.0) prior.1 ∙ with_both start prior.0 keeps.0),
      causes_by l d S R (noted_with prior.0 keeps.0) after back keeps.2,
    )

alike_tells : (l : Likeness) (one other : List ℕ) → AreAlike l one other → (g : Game) × Tells one g
alike_tells likeness.Game one other alike = (alike.0, alike.1)
alike_tells likeness.Moves one other alike = (alike.0, alike.2)

never_both : (source : List ℕ) (g : Game) (n o : ℕ) (w : Why) → Tells source g → Refused source n o w → ⊥
never_both source g n o w stated refused = elim (stated_or_refused source) [
  | inl alone ↦ alone.not_refused n o w refused
  | inr alone ↦ alone.tells_no_game g stated
]

accepted_not_refused : (l : Likeness) (bytes : ℕ → List ℕ) (placings : List Placing) (at leader : ℕ) (r : Refusal) → IsGrouped l bytes placings → HasLeader placings at leader
    → Refused (bytes at) r.number r.offset r.why → ⊥
accepted_not_refused l bytes placings at leader r grouped leads refused =
    let alike = ((grouped.together at at).0 (leader, leads, leads)).2 in
    let stated = alike_tells l (bytes at) (bytes at) alike in
    never_both (bytes at) stated.0 r.number r.offset r.why stated.1 refused

abbrev refusal : ℕ → ℕ → Why → Refusal
refusal number offset why = record { number = number; offset = offset; why = why }

same_refusal : (r s : Refusal) → (s.number ≡ r.number) × (s.offset ≡ r.offset) × (s.why ≡ r.why) → r ≡ s
same_refusal r s h =
    ap (λ n. refusal n r.offset r.why) (sym h.0) ∙ (ap (λ o. refusal s.number o r.why) (sym h.1) ∙ ap (λ w. refusal s.number s.offset w) (sym h.2))

one_of : (placings : List Placing) (at : ℕ) (p : Placing) → placing_at placings at ≡ p → (placing_at placings at ≡ placing.Unreadable → ⊥)
    → IsAccepted placings at ⊎ ((r : Refusal) × (placing_at placings at ≡ placing.Refused r))
one_of placings at (placing.Group leader) is other = inl (leader, is)
one_of placings at (placing.Refused r) is other = inr (r, is)
one_of placings at placing.Unreadable is other = absurd (other is)

other_tells : (l : Likeness) (one other : List ℕ) → AreAlike l one other → (g : Game) × Tells other g
other_tells likeness.Game one other alike = (alike.0, alike.2)
other_tells likeness.Moves one other alike = (alike.1, alike.3)

none_failed : (old new since : Noted) → new ≡ noted_with old since → new.failed ≡ old.failed → since.failed ≡ []
none_failed old new since e same = append_cancel_left old.failed since.failed [] (sym (ap (λ n. n.failed) e) ∙ (same ∙ sym (append-nil old.failed)))

no_rest : (xs ys : List ℕ) → xs ++ ys ≡ [] → ys ≡ []
no_rest [] ys h = h
no_rest (x ∷ xs) ys h = absurd cc

-- what failed for one entry failed
some_failed : (notes : List Noted) (at place : ℕ) → at < length notes → (note_at notes at).failed ≡ place ∷ [] → (all_noted notes).failed ≡ [] → ⊥
some_failed [] at place less is none = absurd (omega (arith, less))
some_failed (n ∷ notes) zero place less is none = let e = ap (λ x. x ++ (all_noted notes).failed) (sym is) ∙ none in absurd cc
some_failed (n ∷ notes) (suc at) place less is none = some_failed notes at place (omega (arith, less)) is (no_rest n.failed (all_noted notes).failed none)

never_compared : (l : Likeness) (d : Digesting) (size : ℕ) (R : Readings) (bytes : ℕ → List ℕ) (placings : List Placing) (notes : List Noted) (at place : ℕ) (fault : FlowFault)
    → place < size → at < length notes → (all_noted notes).failed ≡ [] → GiveBytes size R bytes → IsGrouped l bytes placings → HasLeader placings place place
    → (fault ≡ flow.WriteFault → ⊥) → (fault ≡ flow.OutOfMemory → ⊥) → R place (Err fault) → note_at notes at ≡ noted_at nothing_noted place fault → ⊥
never_compared l d size R bytes placings notes at place (flow.Refused r) less here none gives grouped leads write memory reads is =
    accepted_not_refused l bytes placings place place r grouped leads (gives place less (Err (flow.Refused r)) reads)
never_compared l d size R bytes placings notes at place flow.ReadFault less here none gives grouped leads write memory reads is =
    some_failed notes at place here (ap (λ n. n.failed) is) none
never_compared l d size R bytes placings notes at place flow.WriteFault less here none gives grouped leads write memory reads is = write refl
never_compared l d size R bytes placings notes at place flow.OutOfMemory less here none gives grouped leads write memory reads is = memory refl

never_unread : (l : Likeness) (d : Digesting) (size : ℕ) (R : Readings) (bytes : ℕ → List ℕ) (placings : List Placing) (notes : List Noted) (at place : ℕ) (fault : FlowFault)
    → length placings ≡ size → at < length notes → (all_noted notes).failed ≡ [] → GiveBytes size R bytes → IsGrouped l bytes placings
    → IsUnreadFor l d R placings at place fault → R place (Err fault) → note_at notes at ≡ noted_at nothing_noted place fault → ⊥
never_unread l d size R bytes placings notes at place fault whole here none gives grouped (inl own) reads is =
    some_failed notes at place here (ap (λ n. n.failed) is ∙ ap (λ f. (noted_at nothing_noted place f).failed) own.1) none
never_unread l d size R bytes placings notes at place fault whole here none gives grouped (inr (compared, write, memory)) reads is =
    let w = within placings place place compared.0 in
    never_compared l d size R bytes placings notes at place fault (omega (arith, w, whole)) here none gives grouped compared.0 write memory reads is

none_unreadable : (l : Likeness) (d : Digesting) (size : ℕ) (R : Readings) (since : Noted) (bytes : ℕ → List ℕ) (placings : List Placing) (at : ℕ) → length placings ≡ size → at < length placings
    → since.failed ≡ [] → GiveBytes size R bytes → IsGrouped l bytes placings → HaveCauses l d R since placings → placing_at placings at ≡ placing.Unreadable → ⊥
none_unreadable l d size R since bytes placings at whole less quiet gives grouped causes is =
    let why = subst (λ p. IsNotedFor l d R placings at p (note_at causes.notes at)) is (causes.each at less) in
    never_unread l d size R bytes placings causes.notes at why.0 why.1 whole (omega (arith, less, causes.many)) (sym (ap (λ n. n.failed) causes.whole) ∙ quiet) gives grouped why.2 why.3 why.4

accepted_by_bytes : (l : Likeness) (bytes : ℕ → List ℕ) (placings : List Placing) (at : ℕ) (g : Game) → IsGrouped l bytes placings → Tells (bytes at) g
    → IsAccepted placings at ⊎ ((r : Refusal) × (placing_at placings at ≡ placing.Refused r)) → IsAccepted placings at
accepted_by_bytes l bytes placings at g grouped tells (inl accepted) = accepted
accepted_by_bytes l bytes placings at g grouped tells (inr other) = absurd (never_both (bytes at) g other.0.number other.0.offset other.0.why tells (grouped.refused at other.0 other.1))

-- where no reading failed, each is in a group or refused
pub exact : (l : Likeness) (d : Digesting) (size : ℕ) (R : Readings) (old new : Noted) (bytes : ℕ → List ℕ) (placings : List Placing) → length placings ≡ size
    → GiveBytes size R bytes → new.failed ≡ old.failed → IsGrouped l bytes placings → HaveCausesBetween l d R old new placings → IsExact l bytes placings
exact l d size R old new bytes placings whole gives same grouped causes =
    let quiet = none_failed old new causes.0 causes.1 same in
    let here : (at : ℕ) → at < length placings → IsAccepted placings at ⊎ ((r : Refusal) × (placing_at placings at ≡ placing.Refused r)) =
    λ at less. one_of placings at (placing_at placings at) refl
    (λ is. none_unreadable l d size R causes.0 bytes placings at whole less quiet gives grouped causes.2 is) in
    record {
      together = λ i j i_less j_less. (
        λ h. ((grouped.together i j).0 h).2,
        λ alike.
            let one = alike_tells l (bytes i) (bytes j) alike in
            let other = other_tells l (bytes i) (bytes j) alike in
            (grouped.together i j).1 (
              accepted_by_bytes l bytes placings i one.0 grouped one.1 (here i i_less),
              accepted_by_bytes l bytes placings j other.0 grouped other.1 (here j j_less),
              alike,
            ),
      );
      refused = λ at r less. (
        λ is. grouped.refused at r is,
        λ refused. elim (here at less) [
          | inl accepted ↦ absurd (accepted_not_refused l bytes placings at accepted.0 r grouped accepted.1 refused)
          | inr other ↦
              let once = refused_once (bytes at) other.0.number other.0.offset r.number r.offset other.0.why r.why (grouped.refused at other.0 other.1) refused in
              other.1 ∙ ap placing.Refused (same_refusal other.0 r once)
        ],
      );
    }
