-- One position more among those that are kept of a line.
use Rattle.std.proofs.Common.{◌≡◌, ◌↔◌, IsTrue, ℕ, set, suc, ◌+◌, ◌<◌, ◌≤◌, List, [], ◌∷◌, ◌++◌, Some, slice_get, arith, refl, sym, ap, ◌∙◌, length, length-set, inl, inr, subst, zero}
use Rattle.std.proofs.lemmas.Bool.{cases_lt}
use Rattle.std.proofs.lemmas.List.{length-append}
use Rattle.std.proofs.lemmas.Option.{same_Some, slice_get_within}
use Rattle.shogi_board.specs.Placed.{Placed}
use Rattle.shogi_board.specs.Reach.{InCheck}
use Rattle.shogi_board.specs.Same.{same_position}
use Rattle.shogi_rules.specs.Searching.{keys}
use Rattle.shogi_rules.specs.Counting.{AreCounts, AreTurns, StandsAt}
use Rattle.shogi_rules.specs.Repetition.{times, IsNth}
use Rattle.shogi_rules.specs.declared.occurrences.Entry.{Entry}
use Rattle.shogi_rules.specs.declared.seen.Turn.{Turn}
use Rattle.shogi_rules.proofs.Counts.{first, times-more, times-same}
use Rattle.shogi_rules.proofs.Counted.{times-last, times-kept, times-whole, times-other, times-low, apart, get-left, get-following, get-set, get-other, equal-or, key-at, keys-more, keys-kept, last-entry, pushed}

-- a position that is at a place occurs at least once
stands-once : (ps : List Placed) (i : ℕ) (p : Placed) → slice_get ps i ≡ Some p → 1 ≤ times ps p
stands-once [] i p at = cc
stands-once (x ∷ ps) zero p at =
    let f : times (x ∷ ps) p ≡ times ps p + 1 = (times-more ps x p).1 cc in
    omega (arith, f)
stands-once (x ∷ ps) (suc i) p at =
    let f = first ps x p in
    let h = stands-once ps i p at in
    omega (arith, f, h)

-- the position of an entry is none that no entry has
entry-apart : (es : List Entry) (i : ℕ) (e : Entry) (p : Placed) → times (keys es) p ≡ 0 → slice_get es i ≡ Some e → p ≡ e.position → ⊥
entry-apart es i e p none at same =
    let some = stands-once (keys es) i e.position (key-at es i e at) in
    let no : times (keys es) e.position ≡ 0 = rw same at none in
    omega (arith, some, no)

-- another position occurs as often as before
pub times-apart : (ps : List Placed) (p q : Placed) → (p ≡ q → ⊥) → times (ps ++ p ∷ []) q ≡ times ps q
times-apart ps p q other = times-other ps p q (same_position p q) refl (apart p q other)

-- where it occurred for the n-th time it still does
pub nth-kept : (ps : List Placed) (p q : Placed) (n i : ℕ) → IsNth ps q n i → IsNth (ps ++ p ∷ []) q n i
nth-kept ps p q n i nth =
    let low = slice_get_within ps i q nth.stands in
    record {
      stands = get-left ps (p ∷ []) i low ∙ nth.stands;
      before = let same = times-kept ps p i q (omega (arith, low)) in let was = nth.before in omega (arith, same, was);
    }

first-here : (ps : List Placed) (p : Placed) → times ps p ≡ 0 → IsNth (ps ++ p ∷ []) p 1 (length ps)
first-here ps p none = record {
  stands = get-following ps p (length ps) refl;
  before =
      let same = times-kept ps p (length ps) p (omega arith) in
      let whole = times-whole ps (length ps) p (omega arith) in
      omega (arith, same, whole, none);
}

-- none of the entries has the position, and one more has it
pub counts-more : (ps : List Placed) (es : List Entry) (d : Entry) → AreCounts ps es → times (keys es) d.position ≡ 0 → d.count ≡ 1 → d.first ≡ length ps → AreCounts (ps ++ d.position ∷ []) (es ++ d ∷ [])
counts-more ps es d old none one here =
    let p = d.position in
    let fresh : times ps p ≡ 0 = old.all p none in
    let there : (i : ℕ) (e : Entry) → slice_get (es ++ d ∷ []) i ≡ Some e → i < length es → slice_get es i ≡ Some e = λ i e at low. sym (get-left es (d ∷ []) i low) ∙ at in
    let last : (i : ℕ) (e : Entry) → slice_get (es ++ d ∷ []) i ≡ Some e → length es ≤ i → i ≡ length es = λ i e at le.
    let within = slice_get_within (es ++ d ∷ []) i e at in
    let more = length-append es (d ∷ []) in
    omega (arith, within, more, le) in
    record {
      each = λ i e at. elim (cases_lt i (length es)) [
        | inl low ↦
            let was = old.each i e (there i e at low) in
            (was.0 ∙ sym (times-apart ps p e.position (entry-apart es i e p none (there i e at low))), nth-kept ps p e.position 1 e.first was.1)
        | inr le ↦
            let same : d ≡ e = last-entry es d e i (last i e at le) at in
            let two = times-last ps p in
            let count : d.count ≡ times (ps ++ p ∷ []) d.position = omega (arith, one, two, fresh) in
            let begins : IsNth (ps ++ p ∷ []) d.position 1 d.first = rw here (first-here ps p fresh) in
            subst (λ (x : Entry). (x.count ≡ times (ps ++ p ∷ []) x.position) × IsNth (ps ++ p ∷ []) x.position 1 x.first) same (count, begins)
      ];
      once = λ i j x y at by same. elim (cases_lt i (length es)) [
        | inl low ↦ elim (cases_lt j (length es)) [
          | inl less ↦ old.once i j x y (there i x at low) (there j y by less) same
          | inr le ↦
              let one : d ≡ y = last-entry es d y j (last j y by le) by in
              absurd (entry-apart es i x p none (there i x at low) (ap (λ (z : Entry). z.position) one ∙ sym same))
        ]
        | inr le ↦ elim (cases_lt j (length es)) [
          | inl less ↦
              let one : d ≡ x = last-entry es d x i (last i x at le) at in
              absurd (entry-apart es j y p none (there j y by less) (ap (λ (z : Entry). z.position) one ∙ same))
          | inr ge ↦ last i x at le ∙ sym (last j y by ge)
        ]
      ];
      all = λ q zero-keys.
          let keyed : times (keys es ++ p ∷ []) q ≡ 0 = rw (keys-more es d) at zero-keys in
          let a = pushed (keys es) p q in
          let b = pushed ps p q in
          let before : times ps q ≡ 0 = old.all q (omega (arith, a, keyed)) in
          omega (arith, a, b, keyed, before);
      few =
          let a = length-append es (d ∷ []) in
          let b = length-append ps (p ∷ []) in
          let low = old.few in
          omega (arith, a, b, low);
    }

-- what stood at a place of the entries before one of them was counted on
pub was-at : (es : List Entry) (n : ℕ) (d e : Entry) (i : ℕ) (x : Entry) → slice_get es n ≡ Some d → e.position ≡ d.position → slice_get (set es n e) i ≡ Some x → (y : Entry) × (slice_get es i ≡ Some y) × (y.position ≡ x.position)
was-at es n d e i x at same by =
    elim (equal-or i n) [
      | inl here ↦
          let one : e ≡ x = get-set es n d e x at (subst (λ (k : ℕ). slice_get (set es n e) k ≡ Some x) here by) in
          (d, subst (λ (k : ℕ). slice_get es k ≡ Some d) (sym here) at, sym same ∙ ap (λ (z : Entry). z.position) one)
      | inr other ↦ (x, sym (get-other es n i e other) ∙ by, refl)
    ]

-- the position of an entry occurs once more
pub counts-again : (ps : List Placed) (es : List Entry) (n : ℕ) (d e : Entry) (p : Placed) → AreCounts ps es → slice_get es n ≡ Some d → d.position ≡ p → e.position ≡ d.position → e.count ≡ d.count + 1 → e.first ≡ d.first → AreCounts (ps ++ p ∷ []) (set es n e)
counts-again ps es n d e p old at stands same count begins =
    let was = old.each n d at in
    let own : e.position ≡ p = same ∙ stands in
    let there : (i : ℕ) (x : Entry) → (i ≡ n → ⊥) → slice_get (set es n e) i ≡ Some x → slice_get es i ≡ Some x = λ i x other by. sym (get-other es n i e other) ∙ by in
    let differs : (i : ℕ) (x : Entry) → (i ≡ n → ⊥) → slice_get es i ≡ Some x → p ≡ x.position → ⊥ = λ i x other by is. other (old.once i n x d by at (sym is ∙ sym stands)) in
    record {
      each = λ i x by. elim (equal-or i n) [
        | inl here ↦
            let one : e ≡ x = get-set es n d e x at (subst (λ (k : ℕ). slice_get (set es n e) k ≡ Some x) here by) in
            let more : times (ps ++ p ∷ []) p ≡ times ps p + 1 = times-last ps p in
            let counted : d.count ≡ times ps p = was.0 ∙ ap (times ps) stands in
            let now : e.count ≡ times (ps ++ p ∷ []) p = omega (arith, more, counted, count) in
            let nth : IsNth (ps ++ p ∷ []) d.position 1 d.first = nth-kept ps p d.position 1 d.first was.1 in
            let new : IsNth (ps ++ p ∷ []) e.position 1 e.first = rw (same, begins) nth in
            subst (λ (z : Entry). (z.count ≡ times (ps ++ p ∷ []) z.position) × IsNth (ps ++ p ∷ []) z.position 1 z.first) one (now ∙ ap (times (ps ++ p ∷ [])) (sym own), new)
        | inr other ↦
            let before = there i x other by in
            let stated = old.each i x before in
            (stated.0 ∙ sym (times-apart ps p x.position (differs i x other before)), nth-kept ps p x.position 1 x.first stated.1)
      ];
      once = λ i j x y by bz is.
          let kx = was-at es n d e i x at same by in
          let ky = was-at es n d e j y at same bz in
          old.once i j kx.0 ky.0 kx.1 ky.1 (kx.2 ∙ (is ∙ sym ky.2));
      all = λ q none.
          let keyed : times (keys es) q ≡ 0 = rw (keys-kept es n d e at same) at none in
          let other : p ≡ q → ⊥ = λ is. entry-apart es n d q keyed at (sym is ∙ sym stands) in
          times-apart ps p q other ∙ old.all q keyed;
      few =
          let a = length-set es n e in
          let b = length-append ps (p ∷ []) in
          let low = old.few in
          omega (arith, a, b, low);
    }

-- one turn more
pub turns-more : (ps : List Placed) (turns : List Turn) (p : Placed) (turn : Turn) → AreTurns ps turns → turn.side ≡ p.side → (IsTrue turn.in_check ↔ InCheck p.material.board p.side) → AreTurns (ps ++ p ∷ []) (turns ++ turn ∷ [])
turns-more ps turns p turn old side check =
    let a = length-append ps (p ∷ []) in
    let b = length-append turns (turn ∷ []) in
    let long = old.long in
    record {
      long = omega (arith, a, b, long);
      each = λ i q t at by. elim (cases_lt i (length ps)) [
        | inl low ↦ old.each i q t (sym (get-left ps (p ∷ []) i low) ∙ at) (sym (get-left turns (turn ∷ []) i (omega (arith, low, long))) ∙ by)
        | inr le ↦
            let within = slice_get_within (ps ++ p ∷ []) i q at in
            let here : i ≡ length ps = omega (arith, within, a, le) in
            let one : p ≡ q = same_Some p q (sym (get-following ps p i here) ∙ at) in
            let two : turn ≡ t = same_Some turn t (sym (get-following turns turn i (here ∙ sym long)) ∙ by) in
            subst (λ (x : Placed). (t.side ≡ x.side) × (IsTrue t.in_check ↔ InCheck x.material.board x.side)) one
            (subst (λ (x : Turn). (x.side ≡ p.side) × (IsTrue x.in_check ↔ InCheck p.material.board p.side)) two (side, check))
      ];
    }

-- with no position there is no entry
pub none-counted : (es : List Entry) → es ≡ [] → AreCounts [] es
none-counted es none = rw none (record { each = λ i e at. cc; once = λ i j d e at by same. cc; all = λ q h. refl; few = omega arith })

-- a position does not occur more often than there are positions
pub count-low : (ps : List Placed) (es : List Entry) (n : ℕ) (e : Entry) → AreCounts ps es → slice_get es n ≡ Some e → e.count ≤ length ps
count-low ps es n e old at =
    let low = times-low ps e.position in
    let is = (old.each n e at).0 in
    omega (arith, low, is)

-- the entry that was counted on, and the one after the others
pub stands-again : (es : List Entry) (n : ℕ) (d e : Entry) (p : Placed) → slice_get es n ≡ Some d → d.position ≡ p → e.position ≡ d.position → StandsAt (set es n e) n p
stands-again es n d e p at stands same = λ x there. let one : e ≡ x = get-set es n d e x at there in ap (λ (y : Entry). y.position) (sym one) ∙ (same ∙ stands)

pub stands-following : (es : List Entry) (d : Entry) → StandsAt (es ++ d ∷ []) (length es) d.position
stands-following es d = λ e at. ap (λ (y : Entry). y.position) (sym (last-entry es d e (length es) refl at))

pub no-turns : AreTurns [] []
no-turns = record { long = refl; each = λ i p t at by. cc }

-- if no entry has the position, it is nowhere among theirs
pub none-stands : (es : List Entry) (q : Placed) → ((n : ℕ) (e : Entry) → slice_get es n ≡ Some e → e.position ≡ q → ⊥) → times (keys es) q ≡ 0
none-stands [] q none = refl
none-stands (e ∷ es) q none =
    let rest = none-stands es q (λ n d at. none (suc n) d at) in
    let same = times-same (keys es) e.position q (none 0 e refl) in
    omega (arith, rest, same)
