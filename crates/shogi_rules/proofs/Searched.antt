-- The search for a position in a tree: where it ends it found the position, or no entry has it; and
-- a tree with one entry more.
use Rattle.std.proofs.Common.{◌≡◌, ℕ, set, suc, ◌+◌, ◌-◌, ◌*◌, ◌<◌, ◌≤◌, List, [], ◌∷◌, ◌++◌, Some, slice_get, arith, refl, sym, ap, ◌∙◌, get_or, length, length-set, replicate, inl, inr, subst, zero}
use Rattle.std.specs.Cmp.{nat_cmp_is}
use Rattle.std.specs.Ordering.{ordering_then, nat_cmp}
use Rattle.std.specs.declared.cmp.Ordering.{Ordering}
use Rattle.std.specs.declared.cmp.Ordering.TheVariants.{Less, Equal, Greater}
use Rattle.std.proofs.lemmas.Bool.{cases_lt}
use Rattle.std.proofs.lemmas.List.{length-append, length-replicate}
use Rattle.std.proofs.lemmas.Option.{same_Some, slice_get-get_or, slice_get_within}
use Rattle.shogi_board.specs.Keys.{key_of}
use Rattle.shogi_board.specs.Placed.{Placed}
use Rattle.shogi_board.specs.contracts.position.PositionOrd.TheImpl.{cmp-value}
use Rattle.shogi_board.proofs.Same.{exact-positions}
use Rattle.shogi_rules.specs.Counting.{StandsAt}
use Rattle.shogi_rules.specs.Repetition.{times}
use Rattle.shogi_rules.specs.Searching.{Comes, Finds, GoesOn, IsFree, IsTree, LeadsTo, first_link, first_links, keys, order}
use Rattle.shogi_rules.specs.declared.occurrences.Entry.{Entry}
use Rattle.shogi_rules.proofs.Counted.{get-here, get-left, get-following, get-other, get-set, equal-or, last-entry}
use Rattle.shogi_rules.proofs.Counting.{none-stands, was-at}

second-equal : (a b : Ordering) → ordering_then a b ≡ Equal → b ≡ Equal
second-equal Less b e = cc
second-equal Equal b e = e
second-equal Greater b e = cc

-- positions that compare as equal are one
pub one-position : (p q : Placed) → order p q ≡ Equal → p ≡ q
one-position p q e = (exact-positions p q).0 (second-equal (nat_cmp (key_of p) (key_of q)) (cmp-value.it p q) e)

pub same-key : (n m : ℕ) (b : Ordering) → n ≡ m → ordering_then (nat_cmp n m) b ≡ b
same-key n m b e =
    let equal : Equal ≡ nat_cmp n m = nat_cmp_is n m Equal e in
    ap (λ (a : Ordering). ordering_then a b) (sym equal)

pub own-order : (p q : Placed) → p ≡ q → order p q ≡ Equal
own-order p q e = same-key (key_of p) (key_of q) (cmp-value.it p q) (ap key_of e) ∙ (exact-positions p q).1 e

-- a link leads to one entry
one-number : (links : List ℕ) (link n m : ℕ) → slice_get links link ≡ Some (n + 1) → slice_get links link ≡ Some (m + 1) → n ≡ m
one-number links link n m a b = let e = same_Some (n + 1) (m + 1) (sym a ∙ b) in omega (arith, e)

one-entry : (es : List Entry) (links : List ℕ) (link n m : ℕ) (d e : Entry) → LeadsTo es links link n d → LeadsTo es links link m e → d ≡ e
one-entry es links link n m d e a b =
    let same = one-number links link n m a.number b.number in
    same_Some d e (sym a.entry ∙ (ap (slice_get es) same ∙ b.entry))

one-order : (es : List Entry) (links : List ℕ) (q : Placed) (link n m : ℕ) (d e : Entry) → LeadsTo es links link n d → LeadsTo es links link m e → order q d.position ≡ order q e.position
one-order es links q link n m d e a b = ap (λ (x : Entry). order q x.position) (one-entry es links link n m d e a b)

-- the search goes on in one way
goes-one : (es : List Entry) (links : List ℕ) (q : Placed) (s t u : ℕ) → GoesOn es links q s t → GoesOn es links q s u → t ≡ u
goes-one es links q s t u (GoesOn.less n d a is to) (GoesOn.less m e b so up) = let same = one-number links s n m a.number b.number in omega (arith, same, to, up)
goes-one es links q s t u (GoesOn.less n d a is to) (GoesOn.greater m e b so up) = let same = one-order es links q s n m d e a b in cc
goes-one es links q s t u (GoesOn.greater n d a is to) (GoesOn.less m e b so up) = let same = one-order es links q s n m d e a b in cc
goes-one es links q s t u (GoesOn.greater n d a is to) (GoesOn.greater m e b so up) = let same = one-number links s n m a.number b.number in omega (arith, same, to, up)

not-here : (es : List Entry) (links : List ℕ) (q : Placed) (s t n : ℕ) (e : Entry) → GoesOn es links q s t → LeadsTo es links s n e → order q e.position ≡ Equal → ⊥
not-here es links q s t n e (GoesOn.less m d a is to) b so = let same = one-order es links q s m n d e a b in cc
not-here es links q s t n e (GoesOn.greater m d a is to) b so = let same = one-order es links q s m n d e a b in cc

-- what is found, is found from each link that the search comes to
finds-on : (es : List Entry) (links : List ℕ) (q : Placed) (s t : ℕ) → GoesOn es links q s t → Finds es links q s → Finds es links q t
finds-on es links q s t go (Finds.here _ n e leads is) = absurd (not-here es links q s t n e go leads is)
finds-on es links q s t go (Finds.on _ u other finds) = subst (Finds es links q) (goes-one es links q s u t other go) finds

finds-down : (es : List Entry) (links : List ℕ) (q : Placed) (t : ℕ) → Comes es links q t → Finds es links q (first_link q) → Finds es links q t
finds-down es links q _ Comes.begins finds = finds
finds-down es links q t (Comes.on s _ comes go) finds = finds-on es links q s t go (finds-down es links q s comes finds)

-- and what is found from there, is found from the first link
finds-up : (es : List Entry) (links : List ℕ) (q : Placed) (t : ℕ) → Comes es links q t → Finds es links q t → Finds es links q (first_link q)
finds-up es links q _ Comes.begins finds = finds
finds-up es links q t (Comes.on s _ comes go) finds = finds-up es links q s comes (Finds.on s t go finds)

leads-nowhere : (es : List Entry) (links : List ℕ) (link n : ℕ) (e : Entry) → LeadsTo es links link n e → slice_get links link ≡ Some 0 → ⊥
leads-nowhere es links link n e leads none = let same = same_Some 0 (n + 1) (sym none ∙ leads.number) in omega (arith, same)

goes-nowhere : (es : List Entry) (links : List ℕ) (q : Placed) (s t : ℕ) → GoesOn es links q s t → slice_get links s ≡ Some 0 → ⊥
goes-nowhere es links q s t (GoesOn.less n e leads is to) none = leads-nowhere es links s n e leads none
goes-nowhere es links q s t (GoesOn.greater n e leads is to) none = leads-nowhere es links s n e leads none

finds-nowhere : (es : List Entry) (links : List ℕ) (q : Placed) (s : ℕ) → Finds es links q s → slice_get links s ≡ Some 0 → ⊥
finds-nowhere es links q s (Finds.here _ n e leads is) none = leads-nowhere es links s n e leads none
finds-nowhere es links q s (Finds.on _ t go finds) none = goes-nowhere es links q s t go none

-- where the search ends at a link that leads to none, no entry has the position
pub free-stands : (es : List Entry) (links : List ℕ) (q : Placed) (link : ℕ) → IsTree es links → IsFree es links q link → times (keys es) q ≡ 0
free-stands es links q link tree free =
    let found : (n : ℕ) (e : Entry) → slice_get es n ≡ Some e → e.position ≡ q → Finds es links q (first_link q) = λ n e at is. subst (λ (p : Placed). Finds es links p (first_link p)) is (tree.found n e at) in
    none-stands es q (λ n e at is. finds-nowhere es links q link (finds-down es links q link free.comes (found n e at is)) free.none)

-- one turn of the search: the link leads to an entry, and the links of that one come after it
pub leads-on : (es : List Entry) (links : List ℕ) (link : ℕ) → IsTree es links → link < length links → 0 < get_or links link 0 →
    (get_or links link 0 - 1 < length es) × (link < first_links + 2 * (get_or links link 0 - 1)) × (first_links + 2 * (get_or links link 0 - 1) + 1 < length links) × (slice_get links link ≡ Some ((get_or links link 0 - 1) + 1))
leads-on es links link tree low some =
    let n = get_or links link 0 in
    let back : n ≡ (n - 1) + 1 = omega (arith, some) in
    let at : slice_get links link ≡ Some ((n - 1) + 1) = slice_get-get_or links link 0 low ∙ ap Some back in
    let later = tree.later link (n - 1) at in
    let wide = tree.wide in
    (later.0, later.1, omega (arith, later.0, wide), at)

pub goes-less : (es : List Entry) (links : List ℕ) (q : Placed) (link n : ℕ) (e : Entry) → (link < length links) × Comes es links q link → slice_get links link ≡ Some (n + 1) → slice_get es n ≡ Some e → order q e.position ≡ Less → Comes es links q (first_links + 2 * n)
goes-less es links q link n e comes number entry is = Comes.on link (first_links + 2 * n) comes.1 (GoesOn.less n e (record { number = number; entry = entry }) is refl)

pub goes-greater : (es : List Entry) (links : List ℕ) (q : Placed) (link n : ℕ) (e : Entry) → (link < length links) × Comes es links q link → slice_get links link ≡ Some (n + 1) → slice_get es n ≡ Some e → order q e.position ≡ Greater → Comes es links q (first_links + 2 * n + 1)
goes-greater es links q link n e comes number entry is = Comes.on link (first_links + 2 * n + 1) comes.1 (GoesOn.greater n e (record { number = number; entry = entry }) is refl)

pub found-here : (es : List Entry) (q : Placed) (n : ℕ) (e : Entry) → slice_get es n ≡ Some e → order q e.position ≡ Equal → StandsAt es n q
found-here es q n e at is = λ d there. ap (λ (x : Entry). x.position) (same_Some d e (sym there ∙ at)) ∙ sym (one-position q e.position is)

pub ends-free : (es : List Entry) (links : List ℕ) (q : Placed) (link : ℕ) → (link < length links) × Comes es links q link → get_or links link 0 ≡ 0 → IsFree es links q link
ends-free es links q link comes none = record { comes = comes.1; none = slice_get-get_or links link 0 comes.0 ∙ ap Some none }

-- a tree with one entry more, to which a link leads that led to none
abbrev grown : List ℕ → ℕ → ℕ → List ℕ
grown links link n = set links link (n + 1) ++ 0 ∷ 0 ∷ []

link-kept : (links : List ℕ) (link n s m : ℕ) → slice_get links link ≡ Some 0 → slice_get links s ≡ Some (m + 1) → slice_get (grown links link n) s ≡ Some (m + 1)
link-kept links link n s m none at =
    let low = slice_get_within links s (m + 1) at in
    let long = length-set links link (n + 1) in
    let other : s ≡ link → ⊥ = λ is. let e = same_Some 0 (m + 1) (sym none ∙ (sym (ap (slice_get links) is) ∙ at)) in omega (arith, e) in
    get-left (set links link (n + 1)) (0 ∷ 0 ∷ []) s (omega (arith, low, long)) ∙ (get-other links link s (n + 1) other ∙ at)

leads-kept : (es : List Entry) (links : List ℕ) (d : Entry) (link s m : ℕ) (e : Entry) → slice_get links link ≡ Some 0 → LeadsTo es links s m e → LeadsTo (es ++ d ∷ []) (grown links link (length es)) s m e
leads-kept es links d link s m e none leads = record {
  number = link-kept links link (length es) s m none leads.number;
  entry = get-left es (d ∷ []) m (slice_get_within es m e leads.entry) ∙ leads.entry;
}

goes-kept : (es : List Entry) (links : List ℕ) (d : Entry) (link : ℕ) (q : Placed) (s t : ℕ) → slice_get links link ≡ Some 0 → GoesOn es links q s t → GoesOn (es ++ d ∷ []) (grown links link (length es)) q s t
goes-kept es links d link q s t none (GoesOn.less n e leads is to) = GoesOn.less n e (leads-kept es links d link s n e none leads) is to
goes-kept es links d link q s t none (GoesOn.greater n e leads is to) = GoesOn.greater n e (leads-kept es links d link s n e none leads) is to

finds-kept : (es : List Entry) (links : List ℕ) (d : Entry) (link : ℕ) (q : Placed) (s : ℕ) → slice_get links link ≡ Some 0 → Finds es links q s → Finds (es ++ d ∷ []) (grown links link (length es)) q s
finds-kept es links d link q s none (Finds.here _ n e leads is) = Finds.here s n e (leads-kept es links d link s n e none leads) is
finds-kept es links d link q s none (Finds.on _ t go finds) = Finds.on s t (goes-kept es links d link q s t none go) (finds-kept es links d link q t none finds)

comes-kept : (es : List Entry) (links : List ℕ) (d : Entry) (link : ℕ) (q : Placed) (s : ℕ) → slice_get links link ≡ Some 0 → Comes es links q s → Comes (es ++ d ∷ []) (grown links link (length es)) q s
comes-kept es links d link q _ none Comes.begins = Comes.begins
comes-kept es links d link q t none (Comes.on s _ comes go) = Comes.on s t (comes-kept es links d link q s none comes) (goes-kept es links d link q s t none go)

new-leads : (es : List Entry) (links : List ℕ) (d : Entry) (link : ℕ) → slice_get links link ≡ Some 0 → LeadsTo (es ++ d ∷ []) (grown links link (length es)) link (length es) d
new-leads es links d link none =
    let low = slice_get_within links link 0 none in
    let long = length-set links link (length es + 1) in
    record {
      number = get-left (set links link (length es + 1)) (0 ∷ 0 ∷ []) link (omega (arith, low, long)) ∙ get-here links link 0 (length es + 1) none;
      entry = get-following es d (length es) refl;
    }

new-found : (es : List Entry) (links : List ℕ) (d : Entry) (link : ℕ) → IsFree es links d.position link → Finds (es ++ d ∷ []) (grown links link (length es)) d.position (first_link d.position)
new-found es links d link free =
    finds-up (es ++ d ∷ []) (grown links link (length es)) d.position link (comes-kept es links d link d.position link free.none free.comes)
    (Finds.here link (length es) d (new-leads es links d link free.none) (own-order d.position d.position refl))

all-found : (es : List Entry) (links : List ℕ) (d : Entry) (link n : ℕ) (e : Entry) → IsTree es links → IsFree es links d.position link → slice_get (es ++ d ∷ []) n ≡ Some e → Finds (es ++ d ∷ []) (grown links link (length es)) e.position (first_link e.position)
all-found es links d link n e tree free at =
    elim (cases_lt n (length es)) [
      | inl low ↦ finds-kept es links d link e.position (first_link e.position) free.none (tree.found n e (sym (get-left es (d ∷ []) n low) ∙ at))
      | inr le ↦
          let within = slice_get_within (es ++ d ∷ []) n e at in
          let more = length-append es (d ∷ []) in
          let one : d ≡ e = last-entry es d e n (omega (arith, le, within, more)) at in
          subst (λ (x : Entry). Finds (es ++ d ∷ []) (grown links link (length es)) x.position (first_link x.position)) one (new-found es links d link free)
    ]

two-zeros : (s n : ℕ) → slice_get (0 ∷ 0 ∷ []) s ≡ Some (n + 1) → ⊥
two-zeros zero n at = let e = same_Some 0 (n + 1) at in omega (arith, e)
two-zeros (suc zero) n at = let e = same_Some 0 (n + 1) at in omega (arith, e)
two-zeros (suc (suc s)) n at = cc

get-right : {X : Type 0} (xs ys : List X) (s : ℕ) (x : X) → length xs ≤ s → slice_get (xs ++ ys) s ≡ Some x → (k : ℕ) × (slice_get ys k ≡ Some x)
get-right [] ys s x le at = (s, at)
get-right (y ∷ xs) ys zero x le at = absurd (omega (arith, le))
get-right (y ∷ xs) ys (suc s) x le at = get-right xs ys s x (omega (arith, le)) at

all-later : (es : List Entry) (links : List ℕ) (d : Entry) (link s n : ℕ) → IsTree es links → slice_get links link ≡ Some 0 → slice_get (grown links link (length es)) s ≡ Some (n + 1) → (n < length (es ++ d ∷ [])) × (s < first_links + 2 * n)
all-later es links d link s n tree none at =
    let long = length-set links link (length es + 1) in
    let more = length-append es (d ∷ []) in
    let low = slice_get_within links link 0 none in
    let wide = tree.wide in
    elim (cases_lt s (length links)) [
      | inl before ↦
          let there : slice_get (set links link (length es + 1)) s ≡ Some (n + 1) = sym (get-left (set links link (length es + 1)) (0 ∷ 0 ∷ []) s (omega (arith, before, long))) ∙ at in
          elim (equal-or s link) [
            | inl here ↦
                let is = get-set links link 0 (length es + 1) (n + 1) none (subst (λ (k : ℕ). slice_get (set links link (length es + 1)) k ≡ Some (n + 1)) here there) in
                (omega (arith, is, more), omega (arith, is, low, wide, here))
            | inr other ↦
                let old = tree.later s n (sym (get-other links link s (length es + 1) other) ∙ there) in
                (omega (arith, old.0, more), old.1)
          ]
      | inr le ↦
          let following = get-right (set links link (length es + 1)) (0 ∷ 0 ∷ []) s (n + 1) (omega (arith, le, long)) at in
          absurd (two-zeros following.0 n following.1)
    ]

pub tree-more : (es : List Entry) (links : List ℕ) (d : Entry) (link : ℕ) → IsTree es links → IsFree es links d.position link → IsTree (es ++ d ∷ []) (set links link (length es + 1) ++ 0 ∷ 0 ∷ [])
tree-more es links d link tree free = record {
  wide =
      let long = length-set links link (length es + 1) in
      let more = length-append es (d ∷ []) in
      let all = length-append (set links link (length es + 1)) (0 ∷ 0 ∷ []) in
      let wide = tree.wide in
      omega (arith, long, more, all, wide);
  later = λ s n at. all-later es links d link s n tree free.none at;
  found = λ n e at. all-found es links d link n e tree free at;
}

-- an entry that is counted on keeps its position, and so the search goes as before
still-leads : (es : List Entry) (links : List ℕ) (k : ℕ) (d e : Entry) (s n : ℕ) (x : Entry) → slice_get es k ≡ Some d → e.position ≡ d.position → LeadsTo es links s n x → (y : Entry) × LeadsTo (set es k e) links s n y × (y.position ≡ x.position)
still-leads es links k d e s n x at same leads =
    elim (equal-or n k) [
      | inl here ↦
          let one : x ≡ d = same_Some x d (sym leads.entry ∙ (ap (slice_get es) here ∙ at)) in
          (e, record { number = leads.number; entry = ap (slice_get (set es k e)) here ∙ get-here es k d e at }, same ∙ ap (λ (z : Entry). z.position) (sym one))
      | inr other ↦ (x, record { number = leads.number; entry = get-other es k n e other ∙ leads.entry }, refl)
    ]

still-goes : (es : List Entry) (links : List ℕ) (k : ℕ) (d e : Entry) (q : Placed) (s t : ℕ) → slice_get es k ≡ Some d → e.position ≡ d.position → GoesOn es links q s t → GoesOn (set es k e) links q s t
still-goes es links k d e q s t at same (GoesOn.less n x leads is to) =
    let y = still-leads es links k d e s n x at same leads in
    GoesOn.less n y.0 y.1 (ap (order q) y.2 ∙ is) to
still-goes es links k d e q s t at same (GoesOn.greater n x leads is to) =
    let y = still-leads es links k d e s n x at same leads in
    GoesOn.greater n y.0 y.1 (ap (order q) y.2 ∙ is) to

still-finds : (es : List Entry) (links : List ℕ) (k : ℕ) (d e : Entry) (q : Placed) (s : ℕ) → slice_get es k ≡ Some d → e.position ≡ d.position → Finds es links q s → Finds (set es k e) links q s
still-finds es links k d e q s at same (Finds.here _ n x leads is) =
    let y = still-leads es links k d e s n x at same leads in
    Finds.here s n y.0 y.1 (ap (order q) y.2 ∙ is)
still-finds es links k d e q s at same (Finds.on _ t go finds) = Finds.on s t (still-goes es links k d e q s t at same go) (still-finds es links k d e q t at same finds)

pub tree-kept : (es : List Entry) (links : List ℕ) (k : ℕ) (d e : Entry) → IsTree es links → slice_get es k ≡ Some d → e.position ≡ d.position → IsTree (set es k e) links
tree-kept es links k d e tree at same =
    let long = length-set es k e in
    record {
      wide = let wide = tree.wide in omega (arith, wide, long);
      later = λ s n by. let old = tree.later s n by in (omega (arith, old.0, long), old.1);
      found = λ n x there.
          let was = was-at es k d e n x at same there in
          subst (λ (p : Placed). Finds (set es k e) links p (first_link p)) was.2 (still-finds es links k d e was.0.position (first_link was.0.position) at same (tree.found n was.0 was.1));
    }

-- with no entry no link leads to one
only-zeros : (k s n : ℕ) → slice_get (replicate k 0) s ≡ Some (n + 1) → ⊥
only-zeros zero s n at = cc
only-zeros (suc k) zero n at = let e = same_Some 0 (n + 1) at in omega (arith, e)
only-zeros (suc k) (suc s) n at = only-zeros k s n at

pub none-found : (es : List Entry) (links : List ℕ) → es ≡ [] → links ≡ replicate first_links 0 → IsTree es links
none-found es links none zeros = rw none (record {
  wide = let zero : ℕ = 0 in ap length zeros ∙ length-replicate first_links zero;
  later = λ s n at. absurd (only-zeros first_links s n (rw zeros at at));
  found = λ n e at. cc;
})
