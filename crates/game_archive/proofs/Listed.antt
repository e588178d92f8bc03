-- Leaders and the entries of their groups, listed.
use Rattle.std.proofs.Common.{◌≡◌, ◌≢◌, ℕ, ◌+◌, ◌<◌, ◌≤◌, List, [], ◌∷◌, ◌++◌, Bool, true, false, cond, inl, inr, ◌⊎◌, ◌↔◌, refl, sym, ap, ◌∙◌, arith, length, subst, get_or}
use Rattle.std.specs.Prelude.{IsTrue}
use Rattle.std.specs.BTreeMap.{is_at}
use Rattle.std.specs.BTreeSet.{BTreeSet, contains}
use Rattle.std.specs.Cmp.{Equal-is}
use Rattle.std.specs.Ordering.{nat_cmp}
use Rattle.std.specs.List.{Contains}
use Rattle.std.specs.List.Sorted.{IsPermutation}
use lib.Dec.{eqb}
use Rattle.std.proofs.lemmas.Bool.{cases_lt}
use Rattle.std.proofs.lemmas.Bool.Decides.{Decides-eqb}
use Rattle.std.proofs.lemmas.List.{get_or_append_left, get_or_default, get_or_push, length_push}
use Rattle.std.proofs.lemmas.List.Elements.{Contains-append_left, Contains-get_or, Contains-push, Contains-push_cases}
use Rattle.std.proofs.lemmas.List.Sorted.{Contains-permutation, IsPermutation-sym}
use Rattle.std.proofs.lemmas.Map.Keys.{apart_from_distinct, IsDistinct-IsPermutation, IsDistinct-from_apart}
use Rattle.std.proofs.lemmas.Map.Lookups.{exact_unsigned}
use Rattle.game_archive.proofs.Placed.{leader_is, within}
use Rattle.game_archive.specs.Groups.{HasLeader}
use Rattle.game_archive.specs.Listing.{IsShared, ListsOnce, ListsShared}
use Rattle.game_archive.specs.declared.grouping.Placing.{Placing}
use Rattle.game_archive.specs.declared.grouping.Placing.TheVariants as placing

-- the pairs are those of the entries below n whose leaders pass
abbrev pub Lists : (ℕ → Type 0) → List Placing → ℕ → List (ℕ × ℕ) → Type 0
Lists Passes placings n pairs = (leader at : ℕ) → (((at < n) × HasLeader placings at leader × Passes leader) ↔ Contains pairs (leader, at))

-- their entries rise
abbrev pub Rise : List (ℕ × ℕ) → Type 0
Rise pairs = (i j : ℕ) (d : ℕ × ℕ) → i < j → j < length pairs → (get_or pairs i d).1 < (get_or pairs j d).1

pub pairs_push : (Passes : ℕ → Type 0) (placings : List Placing) (n : ℕ) (pairs : List (ℕ × ℕ)) (lead : ℕ) → HasLeader placings n lead → Passes lead → Lists Passes placings n pairs
    → Lists Passes placings (n + 1) (pairs ++ (lead, n) ∷ [])
pairs_push Passes placings n pairs lead here passes old leader at = (
  λ h. elim (cases_lt at n) [
    | inl less ↦ Contains-append_left pairs ((lead, n) ∷ []) (leader, at) ((old leader at).0 (less, h.1, h.2))
    | inr not ↦
        let e : n ≡ at = omega (arith, not, h.0) in
        let l : lead ≡ leader = leader_is placings n lead leader here (subst (λ k. HasLeader placings k leader) (sym e) h.1) in
        subst (λ p. Contains (pairs ++ (lead, n) ∷ []) p) (ap (λ x. (x, n)) l ∙ ap (λ y. (leader, y)) e) (Contains-push pairs (lead, n))
  ],
  λ h. elim (Contains-push_cases pairs (lead, n) (leader, at) h) [
    | inl was ↦ let o = (old leader at).1 was in (omega (arith, o.0), o.1, o.2)
    | inr e ↦
        let a : n ≡ at = ap (λ (p : ℕ × ℕ). p.1) e in
        let l : lead ≡ leader = ap (λ (p : ℕ × ℕ). p.0) e in
        (omega (arith, a), subst (λ k. HasLeader placings k leader) a (subst (HasLeader placings n) l here), subst Passes l passes)
  ],
)

pub pairs_pass : (Passes : ℕ → Type 0) (placings : List Placing) (n : ℕ) (pairs : List (ℕ × ℕ)) → ((lead : ℕ) → HasLeader placings n lead → Passes lead → ⊥) → Lists Passes placings n pairs
    → Lists Passes placings (n + 1) pairs
pairs_pass Passes placings n pairs none old leader at = (
  λ h. elim (cases_lt at n) [
    | inl less ↦ (old leader at).0 (less, h.1, h.2)
    | inr not ↦
        let e : at ≡ n = omega (arith, not, h.0) in
        absurd (none leader (subst (λ k. HasLeader placings k leader) e h.1) h.2)
  ],
  λ h. let o = (old leader at).1 h in (omega (arith, o.0), o.1, o.2),
)

pub rise_push : (Passes : ℕ → Type 0) (placings : List Placing) (n : ℕ) (pairs : List (ℕ × ℕ)) (lead : ℕ) → Lists Passes placings n pairs → Rise pairs → Rise (pairs ++ (lead, n) ∷ [])
rise_push Passes placings n pairs lead lists old i j d less within_all =
    let size = length_push pairs (lead, n) in
    elim (cases_lt j (length pairs)) [
      | inl before ↦
          subst (λ x. x.1 < (get_or (pairs ++ (lead, n) ∷ []) j d).1) (sym (get_or_append_left pairs ((lead, n) ∷ []) d i (omega (arith, less, before))))
          (subst (λ x. (get_or pairs i d).1 < x.1) (sym (get_or_append_left pairs ((lead, n) ∷ []) d j before)) (old i j d less before))
      | inr not ↦
          let e : length pairs ≡ j = omega (arith, not, within_all, size) in
          let inside : i < length pairs = omega (arith, e, less) in
          let found = Contains-get_or pairs i d inside in
          let p = get_or pairs i d in
          let o = (lists p.0 p.1).1 found in
          subst (λ x. x.1 < (get_or (pairs ++ (lead, n) ∷ []) j d).1) (sym (get_or_append_left pairs ((lead, n) ∷ []) d i inside))
          (subst (λ x. p.1 < x.1) (sym (get_or_push pairs (lead, n) d j e)) o.0)
    ]

abbrev same_entry : ℕ × ℕ → ℕ × ℕ → Bool
same_entry x y = eqb x.1 y.1

not_true : (b : Bool) → (b ≡ true → ⊥) → b ≡ false
not_true true h = absurd (h refl)
not_true false h = refl

same_answer : (r s : Bool) → (r ≡ true → s ≡ true) → (s ≡ true → r ≡ true) → r ≡ s
same_answer true s f g = sym (f refl)
same_answer false true f g = g refl
same_answer false false f g = refl

apart : (a b : ℕ) → a < b → eqb a b ≡ false
apart a b h = not_true (eqb a b) (λ same. let e = (Decides-eqb a b).0 same in omega (arith, h, e))

differ : (a b : ℕ) → eqb a b ≡ false → a ≢ b
differ a b h e = let same = (Decides-eqb a b).1 e in cc

flip : (x y : ℕ × ℕ) → same_entry x y ≡ same_entry y x
flip x y = same_answer (same_entry x y) (same_entry y x) (λ h. (Decides-eqb y.1 x.1).1 (sym ((Decides-eqb x.1 y.1).0 h))) (λ h. (Decides-eqb x.1 y.1).1 (sym ((Decides-eqb y.1 x.1).0 h)))

pub once_sorted : (pairs sorted : List (ℕ × ℕ)) → IsPermutation pairs sorted → Rise pairs → ListsOnce sorted
once_sorted pairs sorted moved rise i j d less within_all =
    let distinct = IsDistinct-from_apart same_entry pairs (λ a b e h k. apart (get_or pairs a e).1 (get_or pairs b e).1 (rise a b e h k)) in
    differ (get_or sorted i d).1 (get_or sorted j d).1 (apart_from_distinct same_entry sorted i j d (IsDistinct-IsPermutation same_entry flip pairs sorted moved distinct) less within_all)

pub lists_sorted : (Passes : ℕ → Type 0) (placings : List Placing) (n : ℕ) (pairs sorted : List (ℕ × ℕ)) → ((leader : ℕ) → Passes leader ↔ IsShared placings leader) → length placings ≤ n
    → IsPermutation pairs sorted → Lists Passes placings n pairs → ListsShared placings sorted
lists_sorted Passes placings n pairs sorted says all moved lists leader at = (
  λ h. let less = within placings at leader h.0 in
      Contains-permutation pairs sorted (leader, at) moved ((lists leader at).0 (omega (arith, less, all), h.0, (says leader).1 h.1)),
  λ h. let o = (lists leader at).1 (Contains-permutation sorted pairs (leader, at) (IsPermutation-sym pairs sorted moved) h) in
      (o.1, (says leader).0 o.2),
)

-- the leaders of which an entry below n that is not their own was seen
abbrev pub Seen : List Placing → ℕ → BTreeSet ℕ → Type 0
Seen placings n shared = (leader : ℕ) → (IsTrue (contains nat_cmp shared leader) ↔ ((other : ℕ) × (other < n) × (other ≢ leader) × HasLeader placings other leader))

either : (b c : Bool) → cond b true c ≡ true → (b ≡ true) ⊎ (c ≡ true)
either true c h = inl refl
either false c h = inr h

kept : (b c : Bool) → c ≡ true → cond b true c ≡ true
kept true c h = refl
kept false c h = h

pub seen_insert : (placings : List Placing) (n lead : ℕ) (old new : BTreeSet ℕ) → ((q : ℕ) → contains nat_cmp new q ≡ cond (is_at (nat_cmp lead) q) true (contains nat_cmp old q)) → contains nat_cmp new lead ≡ true
    → lead ≢ n → HasLeader placings n lead → Seen placings n old → Seen placings (n + 1) new
seen_insert placings n lead old new updates here other_is leads seen leader = (
  λ h. elim (either (is_at (nat_cmp lead) leader) (contains nat_cmp old leader) (sym (updates leader) ∙ h)) [
    | inl same ↦
        let e : lead ≡ leader = exact_unsigned lead leader ((Equal-is (nat_cmp lead leader)).0 same) in
        (n, omega arith, (λ i. other_is (e ∙ sym i)), subst (HasLeader placings n) e leads)
    | inr was ↦ let o = (seen leader).0 was in (o.0, omega (arith, o.1), o.2, o.3)
  ],
  λ h. elim (cases_lt h.0 n) [
    | inl less ↦ updates leader ∙ kept (is_at (nat_cmp lead) leader) (contains nat_cmp old leader) ((seen leader).1 (h.0, less, h.2, h.3))
    | inr not ↦
        let e : h.0 ≡ n = omega (arith, not, h.1) in
        let l : lead ≡ leader = leader_is placings n lead leader leads (subst (λ k. HasLeader placings k leader) e h.3) in
        subst (λ q. contains nat_cmp new q ≡ true) l here
  ],
)

pub seen_pass : (placings : List Placing) (n : ℕ) (shared : BTreeSet ℕ) → ((lead : ℕ) → HasLeader placings n lead → lead ≡ n) → Seen placings n shared → Seen placings (n + 1) shared
seen_pass placings n shared own seen leader = (
  λ h. let o = (seen leader).0 h in (o.0, omega (arith, o.1), o.2, o.3),
  λ h. elim (cases_lt h.0 n) [
    | inl less ↦ (seen leader).1 (h.0, less, h.2, h.3)
    | inr not ↦
        let e : h.0 ≡ n = omega (arith, not, h.1) in
        absurd (h.2 (e ∙ sym (own leader (subst (λ k. HasLeader placings k leader) e h.3))))
  ],
)

pub seen_all : (placings : List Placing) (n : ℕ) (shared : BTreeSet ℕ) → length placings ≤ n → Seen placings n shared → (leader : ℕ) → (IsTrue (contains nat_cmp shared leader) ↔ IsShared placings leader)
seen_all placings n shared all seen leader = (
  λ h. let o = (seen leader).0 h in (o.0, o.2, o.3),
  λ h. let less = within placings h.0 leader h.2 in (seen leader).1 (h.0, omega (arith, less, all), h.1, h.2),
)

-- what a read of a placing says, whatever the read gives past the end
pub leader_read : (placings : List Placing) (n leader : ℕ) (d : Placing) → n < length placings → get_or placings n d ≡ placing.Group leader → HasLeader placings n leader
leader_read placings n leader d less read = get_or_default placings n placing.Unreadable d less ∙ read

pub no_leader_read : (placings : List Placing) (n : ℕ) (d : Placing) → n < length placings → ((leader : ℕ) → get_or placings n d ≡ placing.Group leader → ⊥) → (leader : ℕ) → HasLeader placings n leader → ⊥
no_leader_read placings n d less none leader h = none leader (get_or_default placings n d placing.Unreadable less ∙ h)

pub never : (b : Bool) → b ≡ true → b ≡ false → ⊥
never b holds fails = cc
