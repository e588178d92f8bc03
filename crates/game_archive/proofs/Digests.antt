-- The digests of the leaders that are kept.
use Rattle.std.proofs.Common.{◌≡◌, ◌∙◌, ℕ, List, [], ◌∷◌, ◌++◌, Option, Some, None, Bool, true, false, cond, inl, inr, ◌⊎◌, refl, sym, arith, length, subst}
use Rattle.std.specs.Prelude.{is_some}
use Rattle.std.specs.List.{All}
use Rattle.std.specs.BTreeMap.{BTreeMap, get, is_at}
use Rattle.std.specs.Cmp.{Equal-is}
use Rattle.std.specs.Cmp.Lexicographic.{slice_cmp}
use Rattle.std.specs.Ordering.{nat_cmp}
use Rattle.std.proofs.lemmas.List.Elements.{All-push, All-weaker}
use Rattle.std.proofs.lemmas.Map.Lookups.{exact_bytes}
use Rattle.game_archive.proofs.Causes.{collides_still}
use Rattle.game_archive.proofs.Placed.{still, within}
use Rattle.game_archive.specs.Digests.{Collides, HasDigest}
use Rattle.game_archive.specs.Knowing.{AddsLeader, HadKey, HoldsDigests, HoldsLeaders}
use Rattle.game_archive.specs.Readings.{Readings}
use Rattle.game_archive.specs.declared.grouping.Placing.{Placing}
use Rattle.record_game.specs.declared.likeness.Likeness.{Likeness}

abbrev Digesting : Type 0
Digesting = List ℕ → List ℕ

abbrev at_digest : BTreeMap (List ℕ) ℕ → List ℕ → Option ℕ
at_digest m digest = get (slice_cmp nat_cmp) m digest

-- no leader is added
pub digests_still : (l : Likeness) (d : Digesting) (R : Readings) (placings : List Placing) (p : Placing) (m : BTreeMap (List ℕ) ℕ) (colliding : List ℕ)
    → HoldsDigests l d R placings m colliding → HoldsDigests l d R (placings ++ p ∷ []) m colliding
digests_still l d R placings p m colliding old = record {
  at_digests = old.at_digests;
  elsewhere = All-weaker (Collides l d R placings) (Collides l d R (placings ++ p ∷ [])) (λ leader h. collides_still l d R placings p leader h) colliding old.elsewhere;
}

found_some : (o : Option ℕ) → is_some o ≡ true → (x : ℕ) × (o ≡ Some x)
found_some None h = absurd cc
found_some (Some x) h = (x, refl)

-- what is there after an insertion is the new one, at its digest, or was there before
there_now : (b : Bool) (n a : ℕ) (o : Option ℕ) → cond b (Some n) o ≡ Some a → ((b ≡ true) × (n ≡ a)) ⊎ (o ≡ Some a)
there_now true n a o h = inl (refl, cc)
there_now false n a o h = inr h

-- the entry with this key is added at its digest
inserted : (l : Likeness) (d : Digesting) (R : Readings) (placings : List Placing) (p : Placing) (digest : List ℕ) (m new : BTreeMap (List ℕ) ℕ) (colliding : List ℕ)
    → HasDigest l d R (length placings) digest → ((q : List ℕ) → at_digest new q ≡ cond (is_at (slice_cmp nat_cmp digest) q) (Some (length placings)) (at_digest m q))
    → HoldsDigests l d R (placings ++ p ∷ []) m colliding → HoldsDigests l d R (placings ++ p ∷ []) new colliding
inserted l d R placings p digest m new colliding has updates old = record {
  at_digests = λ q a h. elim (there_now (is_at (slice_cmp nat_cmp digest) q) (length placings) a (at_digest m q) (sym (updates q) ∙ h)) [
    | inl here ↦
        let same : digest ≡ q = exact_bytes digest q ((Equal-is (slice_cmp nat_cmp digest q)).0 here.0) in
        subst (λ i. HasDigest l d R i q) here.1 (subst (HasDigest l d R (length placings)) same has)
    | inr there ↦ old.at_digests q a there
  ];
  elsewhere = old.elsewhere;
}

-- the entry with this key is added to the list
pushed : (l : Likeness) (d : Digesting) (R : Readings) (placings : List Placing) (p : Placing) (digest : List ℕ) (m : BTreeMap (List ℕ) ℕ) (colliding : List ℕ)
    → HasDigest l d R (length placings) digest → is_some (at_digest m digest) ≡ true → HoldsLeaders placings m colliding → HoldsDigests l d R placings m colliding
    → HoldsDigests l d R (placings ++ p ∷ []) m (colliding ++ length placings ∷ [])
pushed l d R placings p digest m colliding has some leaders old =
    let other = found_some (at_digest m digest) some in
    let leads = leaders.at_digests digest other.0 other.1 in
    let collides : Collides l d R (placings ++ p ∷ []) (length placings) =
    (other.0, within placings other.0 other.0 leads, still placings p other.0 other.0 leads, (digest, old.at_digests digest other.0 other.1, has)) in
    let kept = digests_still l d R placings p m colliding old in
    record { at_digests = kept.at_digests; elsewhere = All-push (Collides l d R (placings ++ p ∷ [])) colliding (length placings) kept.elsewhere collides }

-- the entry with this key begins a group
pub digests_added : (l : Likeness) (d : Digesting) (R : Readings) (placings after : List Placing) (p : Placing) (key digest : List ℕ) (m new : BTreeMap (List ℕ) ℕ) (colliding colliding' : List ℕ)
    → after ≡ placings ++ p ∷ [] → HadKey l R (length placings) key → digest ≡ d key → AddsLeader m colliding (length placings) digest new colliding' → HoldsLeaders placings m colliding
    → HoldsDigests l d R placings m colliding → HoldsDigests l d R after new colliding'
digests_added l d R placings after p key digest m new colliding colliding' e had is (inl (same, updates)) leaders old =
    let has : HasDigest l d R (length placings) digest = (had.0, key, had.1, had.2, is) in
    subst (λ ps. HoldsDigests l d R ps new colliding') (sym e) (subst (HoldsDigests l d R (placings ++ p ∷ []) new) (sym same)
    (inserted l d R placings p digest m new colliding has updates (digests_still l d R placings p m colliding old)))
digests_added l d R placings after p key digest m new colliding colliding' e had is (inr (some, same, grown)) leaders old =
    let has : HasDigest l d R (length placings) digest = (had.0, key, had.1, had.2, is) in
    subst (λ ps. HoldsDigests l d R ps new colliding') (sym e) (subst (λ t. HoldsDigests l d R (placings ++ p ∷ []) t colliding') (sym same)
    (subst (HoldsDigests l d R (placings ++ p ∷ []) m) (sym grown) (pushed l d R placings p digest m colliding has some leaders old)))

pub no_digests : (l : Likeness) (d : Digesting) (R : Readings) (placings : List Placing) (m : BTreeMap (List ℕ) ℕ) (colliding : List ℕ)
    → ((digest : List ℕ) → at_digest m digest ≡ None) → colliding ≡ [] → HoldsDigests l d R placings m colliding
no_digests l d R placings m colliding empty none = record {
  at_digests = λ digest leader h. let e = sym (empty digest) ∙ h in absurd cc;
  elsewhere = subst (All (Collides l d R placings)) (sym none) (λ i x less. absurd (omega (arith, less)));
}
