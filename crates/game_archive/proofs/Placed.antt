-- One entry more, in its group.
use Rattle.std.proofs.Common.{◌≡◌, ℕ, ◌+◌, ◌<◌, ◌≤◌, List, [], ◌∷◌, ◌++◌, Option, Some, None, Bool, true, false, cond, inl, inr, ◌⊎◌, ◌↔◌, refl, sym, ap, ◌∙◌, arith, length, subst}
use Rattle.std.specs.Prelude.{IsTrue}
use Rattle.std.specs.Option.{is_some}
use Rattle.std.specs.BTreeMap.{BTreeMap, get, is_at}
use Rattle.std.specs.Cmp.Lexicographic.{slice_cmp}
use Rattle.std.specs.Ordering.{nat_cmp}
use Rattle.std.specs.Cmp.{Equal-is}
use Rattle.std.proofs.lemmas.Bool.{cases_lt}
use Rattle.std.proofs.lemmas.List.{get_or_append_left, get_or_push, get_or_past, length_push}
use Rattle.std.proofs.lemmas.List.Elements.{Contains-append_left, Contains-push, All-push, All-contains, All-weaker}
use Rattle.std.proofs.lemmas.Map.Lookups.{exact_bytes}
use Rattle.game_archive.proofs.Likenesses.{key_once, alike_by_key, key_of_alike}
use Rattle.game_archive.specs.Knowing.{HasKey, HoldsLeaders, IsKept, KnowsGroups, LeadsNone}
use Rattle.game_archive.specs.Groups.{placing_at, HasLeader, IsGrouped}
use Rattle.game_archive.specs.declared.grouping.Placing.{Placing}
use Rattle.game_archive.specs.declared.grouping.Placing.TheVariants as placing
use Rattle.record_game.specs.declared.likeness.Likeness.{Likeness}
use Rattle.record_game.specs.declared.fault.Refusal.{Refusal}
use Rattle.record_game.specs.Refused.{Refused}

-- an entry of which something is known is one of those placed
pub within : (placings : List Placing) (at leader : ℕ) → HasLeader placings at leader → at < length placings
within placings at leader h = elim (cases_lt at (length placings)) [
  | inl less ↦ less
  | inr not ↦ let past = get_or_past placings at placing.Unreadable (omega (arith, not)) in absurd cc
]

within_refused : (placings : List Placing) (at : ℕ) (r : Refusal) → placing_at placings at ≡ placing.Refused r → at < length placings
within_refused placings at r h = elim (cases_lt at (length placings)) [
  | inl less ↦ less
  | inr not ↦ let past = get_or_past placings at placing.Unreadable (omega (arith, not)) in absurd cc
]

pub before : (placings : List Placing) (p : Placing) (at : ℕ) → at < length placings → placing_at (placings ++ p ∷ []) at ≡ placing_at placings at
before placings p at less = get_or_append_left placings (p ∷ []) placing.Unreadable at less

pub last : (placings : List Placing) (p : Placing) → placing_at (placings ++ p ∷ []) (length placings) ≡ p
last placings p = get_or_push placings p placing.Unreadable (length placings) refl

-- what was known of the entries before still is
pub still : (placings : List Placing) (p : Placing) (at leader : ℕ) → HasLeader placings at leader → HasLeader (placings ++ p ∷ []) at leader
still placings p at leader h = before placings p at (within placings at leader h) ∙ h

-- an entry of the new list is one of the old, or the last
cases_placed : (placings : List Placing) (p q : Placing) (at : ℕ) → at < length placings + 1 → placing_at (placings ++ p ∷ []) at ≡ q → (placing_at placings at ≡ q) ⊎ ((at ≡ length placings) × (p ≡ q))
cases_placed placings p q at less h = elim (cases_lt at (length placings)) [
  | inl old ↦ inl (sym (before placings p at old) ∙ h)
  | inr not ↦
      let e : at ≡ length placings = omega (arith, not, less) in
      inr (e, sym (last placings p) ∙ (ap (placing_at (placings ++ p ∷ [])) (sym e) ∙ h))
]

cases_leader : (placings : List Placing) (p : Placing) (at leader : ℕ) → HasLeader (placings ++ p ∷ []) at leader → HasLeader placings at leader ⊎ ((at ≡ length placings) × (p ≡ placing.Group leader))
cases_leader placings p at leader h = cases_placed placings p (placing.Group leader) at (let w = within (placings ++ p ∷ []) at leader h in let l = length_push placings p in omega (arith, w, l)) h

pub cases_refused : (placings : List Placing) (p : Placing) (at : ℕ) (r : Refusal) → placing_at (placings ++ p ∷ []) at ≡ placing.Refused r → (placing_at placings at ≡ placing.Refused r) ⊎ ((at ≡ length placings) × (p ≡ placing.Refused r))
cases_refused placings p at r h = cases_placed placings p (placing.Refused r) at (let w = within_refused (placings ++ p ∷ []) at r h in let l = length_push placings p in omega (arith, w, l)) h

pub leaders_still : (placings : List Placing) (p : Placing) (m : BTreeMap (List ℕ) ℕ) (colliding : List ℕ) → HoldsLeaders placings m colliding → HoldsLeaders (placings ++ p ∷ []) m colliding
leaders_still placings p m colliding old = record {
  at_digests = λ digest leader h. still placings p leader leader (old.at_digests digest leader h);
  elsewhere = All-weaker (λ leader. HasLeader placings leader leader) (λ leader. HasLeader (placings ++ p ∷ []) leader leader) (λ leader h. still placings p leader leader h) colliding old.elsewhere;
}

-- an entry that is in no group
pub placed_nowhere : (l : Likeness) (bytes : ℕ → List ℕ) (digest_of : List ℕ → List ℕ) (placings : List Placing) (p : Placing) (m : BTreeMap (List ℕ) ℕ) (colliding : List ℕ)
    → ((leader : ℕ) → p ≡ placing.Group leader → ⊥) → ((r : Refusal) → p ≡ placing.Refused r → Refused (bytes (length placings)) r.number r.offset r.why)
    → KnowsGroups l bytes digest_of placings m colliding → KnowsGroups l bytes digest_of (placings ++ p ∷ []) m colliding
placed_nowhere l bytes digest_of placings p m colliding none refused old =
    let was : (at leader : ℕ) → HasLeader (placings ++ p ∷ []) at leader → HasLeader placings at leader = λ at leader h.
    elim (cases_leader placings p at leader h) [ inl there ↦ there | inr here ↦ absurd (none leader here.1) ] in
    record {
      led = λ at leader h. let o = old.led at leader (was at leader h) in (o.0, still placings p leader leader o.1, o.2);
      one = λ a b key ha hb. old.one a b key (was a a ha) (was b b hb);
      kept = λ leader key h. old.kept leader key (was leader leader h);
      refused = λ at r h. elim (cases_refused placings p at r h) [
        | inl there ↦ old.refused at r there
        | inr here ↦ subst (λ i. Refused (bytes i) r.number r.offset r.why) (sym here.0) (refused r here.1)
      ];
    }

group_is : (a b : ℕ) → placing.Group a ≡ placing.Group b → a ≡ b
group_is a b h = cc

not_refused : (a : ℕ) (r : Refusal) → placing.Group a ≡ placing.Refused r → ⊥
not_refused a r h = cc

-- an entry that joins a group
pub placed_with : (l : Likeness) (bytes : ℕ → List ℕ) (digest_of : List ℕ → List ℕ) (placings : List Placing) (leader : ℕ) (key : List ℕ) (m : BTreeMap (List ℕ) ℕ) (colliding : List ℕ)
    → HasLeader placings leader leader → HasKey l (bytes leader) key → HasKey l (bytes (length placings)) key
    → KnowsGroups l bytes digest_of placings m colliding → KnowsGroups l bytes digest_of (placings ++ placing.Group leader ∷ []) m colliding
placed_with l bytes digest_of placings leader key m colliding leads has here old =
    let p = placing.Group leader in
    let less = within placings leader leader leads in
    let was : (a : ℕ) → HasLeader (placings ++ p ∷ []) a a → HasLeader placings a a = λ a h.
    elim (cases_leader placings p a a h) [ inl there ↦ there | inr at_end ↦ let e = group_is leader a at_end.1 in let end = at_end.0 in absurd (omega (arith, e, end, less)) ] in
    record {
      led = λ at first h. elim (cases_leader placings p at first h) [
        | inl there ↦ let o = old.led at first there in (o.0, still placings p first first o.1, o.2)
        | inr at_end ↦ let e = group_is leader first at_end.1 in let end = at_end.0 in
            subst (λ f. (f ≤ at) × HasLeader (placings ++ p ∷ []) f f × ((k : List ℕ) × HasKey l (bytes f) k × HasKey l (bytes at) k)) e
            (omega (arith, less, end), still placings p leader leader leads, (key, has, subst (λ i. HasKey l (bytes i) key) (sym end) here))
      ];
      one = λ a b k ha hb. old.one a b k (was a ha) (was b hb);
      kept = λ a k h. old.kept a k (was a h);
      refused = λ at r h. elim (cases_refused placings p at r h) [ inl there ↦ old.refused at r there | inr at_end ↦ absurd (not_refused leader r at_end.1) ];
    }

-- a leader that is kept has another key, if none that is kept has this one
not_kept : (l : Likeness) (bytes : ℕ → List ℕ) (digest_of : List ℕ → List ℕ) (m : BTreeMap (List ℕ) ℕ) (colliding : List ℕ) (key digest : List ℕ) (a : ℕ)
    → digest ≡ digest_of key → LeadsNone l bytes digest m colliding key → IsKept digest_of m colliding key a → HasKey l (bytes a) key → ⊥
not_kept l bytes digest_of m colliding key digest a is none (inl there) has = none.0 a (subst (λ q. get (slice_cmp nat_cmp) m q ≡ Some a) (sym is) there) has
not_kept l bytes digest_of m colliding key digest a is none (inr among) has = All-contains (λ b. HasKey l (bytes b) key → ⊥) colliding a none.1 among has

-- an entry that begins a group, wherever it is kept
began : (l : Likeness) (bytes : ℕ → List ℕ) (digest_of : List ℕ → List ℕ) (placings : List Placing) (key digest : List ℕ) (m new : BTreeMap (List ℕ) ℕ) (colliding after : List ℕ)
    → digest ≡ digest_of key → HasKey l (bytes (length placings)) key → LeadsNone l bytes digest m colliding key → KnowsGroups l bytes digest_of placings m colliding
    → ((a : ℕ) (k : List ℕ) → IsKept digest_of m colliding k a → IsKept digest_of new after k a) → IsKept digest_of new after key (length placings)
    → KnowsGroups l bytes digest_of (placings ++ placing.Group (length placings) ∷ []) new after
began l bytes digest_of placings key digest m new colliding after is has none old keeps here =
    let n = length placings in
    let p = placing.Group n in
    let differs : (a : ℕ) → HasLeader placings a a → HasKey l (bytes a) key → ⊥ = λ a h k. not_kept l bytes digest_of m colliding key digest a is none (old.kept a key h k) k in
    let key_is : (k : List ℕ) (a : ℕ) → a ≡ n → HasKey l (bytes a) k → k ≡ key = λ k a e h. key_once l (bytes n) k key (subst (λ i. HasKey l (bytes i) k) e h) has in
    record {
      led = λ at first h. elim (cases_leader placings p at first h) [
        | inl there ↦ let o = old.led at first there in (o.0, still placings p first first o.1, o.2)
        | inr at_end ↦ let e = group_is n first at_end.1 in let end = at_end.0 in
            subst (λ f. (f ≤ at) × HasLeader (placings ++ p ∷ []) f f × ((k : List ℕ) × HasKey l (bytes f) k × HasKey l (bytes at) k)) e
            (omega (arith, end), last placings p, (key, has, subst (λ i. HasKey l (bytes i) key) (sym end) has))
      ];
      one = λ a b k ha hb ka kb. elim (cases_leader placings p a a ha) [
        | inl a_there ↦ elim (cases_leader placings p b b hb) [
          | inl b_there ↦ old.one a b k a_there b_there ka kb
          | inr b_end ↦ let e = b_end.0 in absurd (differs a a_there (subst (HasKey l (bytes a)) (key_is k b e kb) ka))
        ]
        | inr a_end ↦ elim (cases_leader placings p b b hb) [
          | inl b_there ↦ let e = a_end.0 in absurd (differs b b_there (subst (HasKey l (bytes b)) (key_is k a e ka) kb))
          | inr b_end ↦ let e = a_end.0 in let f = b_end.0 in omega (arith, e, f)
        ]
      ];
      kept = λ a k h hk. elim (cases_leader placings p a a h) [
        | inl there ↦ keeps a k (old.kept a k there hk)
        | inr at_end ↦ let e = at_end.0 in subst (λ i. IsKept digest_of new after k i) (sym e) (subst (λ t. IsKept digest_of new after t n) (sym (key_is k a e hk)) here)
      ];
      refused = λ at r h. elim (cases_refused placings p at r h) [ inl there ↦ old.refused at r there | inr at_end ↦ absurd (not_refused n r at_end.1) ];
    }

-- it is added to the list
pub began_pushed : (l : Likeness) (bytes : ℕ → List ℕ) (digest_of : List ℕ → List ℕ) (placings : List Placing) (key digest : List ℕ) (m : BTreeMap (List ℕ) ℕ) (colliding : List ℕ)
    → digest ≡ digest_of key → HasKey l (bytes (length placings)) key → LeadsNone l bytes digest m colliding key → KnowsGroups l bytes digest_of placings m colliding
    → KnowsGroups l bytes digest_of (placings ++ placing.Group (length placings) ∷ []) m (colliding ++ length placings ∷ [])
began_pushed l bytes digest_of placings key digest m colliding is has none old =
    began l bytes digest_of placings key digest m m colliding (colliding ++ length placings ∷ []) is has none old
    (λ a k h. elim h [ inl there ↦ inl there | inr among ↦ inr (Contains-append_left colliding (length placings ∷ []) a among) ])
    (inr (Contains-push colliding (length placings)))

kept_by : (b : Bool) (n a : ℕ) (o : Option ℕ) → (b ≡ true → o ≡ None) → o ≡ Some a → cond b (Some n) o ≡ Some a
kept_by true n a o gone there = let none = gone refl in absurd cc
kept_by false n a o gone there = there

came_from : (b : Bool) (n a : ℕ) (o : Option ℕ) → cond b (Some n) o ≡ Some a → (n ≡ a) ⊎ (o ≡ Some a)
came_from true n a o h = inl cc
came_from false n a o h = inr h

pub absent_none : (o : Option ℕ) → is_some o ≡ false → o ≡ None
absent_none None h = refl
absent_none (Some x) h = absurd cc

-- it is kept at its digest
pub began_inserted : (l : Likeness) (bytes : ℕ → List ℕ) (digest_of : List ℕ → List ℕ) (placings : List Placing) (key digest : List ℕ) (m new : BTreeMap (List ℕ) ℕ) (colliding : List ℕ)
    → get (slice_cmp nat_cmp) m digest ≡ None → ((q : List ℕ) → get (slice_cmp nat_cmp) new q ≡ cond (is_at (slice_cmp nat_cmp digest) q) (Some (length placings)) (get (slice_cmp nat_cmp) m q))
    → get (slice_cmp nat_cmp) new digest ≡ Some (length placings)
    → digest ≡ digest_of key → HasKey l (bytes (length placings)) key → LeadsNone l bytes digest m colliding key → KnowsGroups l bytes digest_of placings m colliding
    → KnowsGroups l bytes digest_of (placings ++ placing.Group (length placings) ∷ []) new colliding
began_inserted l bytes digest_of placings key digest m new colliding absent updates here is has none old =
    let gone : (q : List ℕ) → is_at (slice_cmp nat_cmp digest) q ≡ true → get (slice_cmp nat_cmp) m q ≡ None =
    λ q h. subst (λ p. get (slice_cmp nat_cmp) m p ≡ None) (exact_bytes digest q ((Equal-is (slice_cmp nat_cmp digest q)).0 h)) absent in
    began l bytes digest_of placings key digest m new colliding colliding is has none old
    (λ a k h. elim h [
      | inl there ↦ inl (updates (digest_of k) ∙ kept_by (is_at (slice_cmp nat_cmp digest) (digest_of k)) (length placings) a (get (slice_cmp nat_cmp) m (digest_of k)) (gone (digest_of k)) there)
      | inr among ↦ inr among
    ])
    (inl (subst (λ q. get (slice_cmp nat_cmp) new q ≡ Some (length placings)) is here))

pub leaders_pushed : (placings : List Placing) (m : BTreeMap (List ℕ) ℕ) (colliding : List ℕ) → HoldsLeaders placings m colliding
    → HoldsLeaders (placings ++ placing.Group (length placings) ∷ []) m (colliding ++ length placings ∷ [])
leaders_pushed placings m colliding old =
    let p = placing.Group (length placings) in
    let kept = leaders_still placings p m colliding old in
    record { at_digests = kept.at_digests; elsewhere = All-push (λ leader. HasLeader (placings ++ p ∷ []) leader leader) colliding (length placings) kept.elsewhere (last placings p) }

pub leaders_inserted : (placings : List Placing) (digest : List ℕ) (m new : BTreeMap (List ℕ) ℕ) (colliding : List ℕ)
    → ((q : List ℕ) → get (slice_cmp nat_cmp) new q ≡ cond (is_at (slice_cmp nat_cmp digest) q) (Some (length placings)) (get (slice_cmp nat_cmp) m q))
    → HoldsLeaders placings m colliding → HoldsLeaders (placings ++ placing.Group (length placings) ∷ []) new colliding
leaders_inserted placings digest m new colliding updates old =
    let n = length placings in
    let p = placing.Group n in
    let kept = leaders_still placings p m colliding old in
    record {
      at_digests = λ q a h. elim (came_from (is_at (slice_cmp nat_cmp digest) q) n a (get (slice_cmp nat_cmp) m q) (sym (updates q) ∙ h)) [
        | inl e ↦ subst (λ i. HasLeader (placings ++ p ∷ []) i i) e (last placings p)
        | inr there ↦ kept.at_digests q a there
      ];
      elsewhere = kept.elsewhere;
    }

-- what is known of all entries
pub grouped : (l : Likeness) (bytes : ℕ → List ℕ) (digest_of : List ℕ → List ℕ) (placings : List Placing) (m : BTreeMap (List ℕ) ℕ) (colliding : List ℕ)
    → KnowsGroups l bytes digest_of placings m colliding → IsGrouped l bytes placings
grouped l bytes digest_of placings m colliding known = record {
  together = λ i j. (
    λ h. let a = known.led i h.0 h.1 in
        let b = known.led j h.0 h.2 in
        let e = key_once l (bytes h.0) b.2.0 a.2.0 b.2.1 a.2.1 in
        ((h.0, h.1), (h.0, h.2), alike_by_key l (bytes i) (bytes j) a.2.0 a.2.2 (subst (HasKey l (bytes j)) e b.2.2)),
    λ h. let a = known.led i h.0.0 h.0.1 in
        let b = known.led j h.1.0 h.1.1 in
        let e = key_of_alike l (bytes i) (bytes j) a.2.0 b.2.0 h.2 a.2.2 b.2.2 in
        let same = known.one h.1.0 h.0.0 a.2.0 b.1 a.1 (subst (HasKey l (bytes h.1.0)) (sym e) b.2.1) a.2.1 in
        (h.0.0, h.0.1, subst (HasLeader placings j) same h.1.1),
  );
  first = λ i leader h. ((known.led i leader h).1, λ j hj. (known.led j leader hj).0);
  refused = known.refused;
}

pub leads_within : (placings : List Placing) (size leader : ℕ) → length placings ≤ size → HasLeader placings leader leader → leader < size
leads_within placings size leader most h = let w = within placings leader leader h in omega (arith, w, most)

-- an entry that was read again has another key
pub refuted : (P : Type 0) (answer : Bool) → IsTrue answer ↔ P → answer ≡ false → P → ⊥
refuted P answer says differs p = let yes = says.1 p in cc

pub some_number : (a b : ℕ) (o : Option ℕ) → Some a ≡ o → o ≡ Some b → a ≡ b
some_number a b o h k = let e = h ∙ k in cc

pub some_none : (b : ℕ) (o : Option ℕ) → None ≡ o → o ≡ Some b → ⊥
some_none b o h k = let e = h ∙ k in cc

pub placed_unreadable : (l : Likeness) (bytes : ℕ → List ℕ) (digest_of : List ℕ → List ℕ) (placings : List Placing) (m : BTreeMap (List ℕ) ℕ) (colliding : List ℕ)
    → KnowsGroups l bytes digest_of placings m colliding → KnowsGroups l bytes digest_of (placings ++ placing.Unreadable ∷ []) m colliding
placed_unreadable l bytes digest_of placings m colliding old = placed_nowhere l bytes digest_of placings placing.Unreadable m colliding (λ leader h. absurd cc) (λ r h. absurd cc) old

refusal_is : (r s : Refusal) → placing.Refused r ≡ placing.Refused s → r ≡ s
refusal_is r s h = cc

pub placed_refused : (l : Likeness) (bytes : ℕ → List ℕ) (digest_of : List ℕ → List ℕ) (placings : List Placing) (r : Refusal) (m : BTreeMap (List ℕ) ℕ) (colliding : List ℕ)
    → Refused (bytes (length placings)) r.number r.offset r.why
    → KnowsGroups l bytes digest_of placings m colliding → KnowsGroups l bytes digest_of (placings ++ placing.Refused r ∷ []) m colliding
placed_refused l bytes digest_of placings r m colliding refused old =
    placed_nowhere l bytes digest_of placings (placing.Refused r) m colliding (λ leader h. absurd cc)
    (λ s h. subst (λ x. Refused (bytes (length placings)) x.number x.offset x.why) (refusal_is r s h) refused) old

-- an entry has one leader
pub leader_is : (placings : List Placing) (at a b : ℕ) → HasLeader placings at a → HasLeader placings at b → a ≡ b
leader_is placings at a b p q = group_is a b (sym p ∙ q)
