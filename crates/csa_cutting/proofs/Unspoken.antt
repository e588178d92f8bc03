-- Bytes that are part of no statement: separators, and comments.
use Rattle.std.proofs.Common.{◌≡◌, ℕ, suc, ◌+◌, ◌-◌, ◌<◌, ◌≤◌, true, false, List, [], ◌∷◌, ◌++◌, length, take, drop, get_or, slice_range, append_assoc, length-append, length-drop, Option, None, arith, refl, sym, subst, inr}
use Rattle.std.specs.List.{position_or_len}
use Rattle.std.proofs.Math.Seq.{drop-cons, take-length, take-add}
use Rattle.std.proofs.lemmas.Bool.{false≢true}
use Rattle.std.proofs.lemmas.List.{length-take-le}
use Rattle.csa_cutting.specs.Cut.{EndsBefore, is_separator, is_end}
use Rattle.csa_cutting.specs.PieceCutting.{PieceCutting, Follows, Leads}
use Rattle.csa_cutting.specs.Places.{Passes, IsHeld, IsUnspoken, begins, open_of}
use Rattle.csa_cutting.specs.declared.units.Place.{Place}
use Rattle.csa_cutting.specs.declared.units.Place.TheVariants.{Mark, Gap, Unit as InUnit, Comment}
use Rattle.csa_cutting.specs.declared.units.Unspoken.{Unspoken}
use Rattle.csa_cutting.proofs.Finding.{first_range, follows_plain, found_in_comment, passes_comment}
use Rattle.csa_cutting.proofs.Fronts.{ends_before}
use Rattle.csa_cutting.proofs.Leading.{seen, end_separates, leads_to_gap, leads_to_comment}
use Rattle.csa_cutting.proofs.Passing.{after_gap, over_gap, next_byte, statements_at}

pub one_separator : (held : List ℕ) (first : ℕ) (text rest : List ℕ) → text ≡ first ∷ rest → is_separator first ≡ true → IsUnspoken Gap held text (record { used = 1; place = Gap })
one_separator held first text rest whole separates =
    let front : take 1 text ≡ first ∷ [] = rw whole refl in
    record {
      within = rw whole (omega arith);
      begun = refl;
      clear = tt;
      passed = subst (λ xs. Passes Gap held xs []) (sym front) (λ fed more others few s.
          follows_plain fed fed [] (first ∷ more) others (omega arith) (after_gap fed (first ∷ []) more others (separates, tt) (statements_at _ (fed + 1) more others (omega arith) s)));
    }

-- a comment that goes on after the text
pub comment_goes_on : (text : List ℕ) (n : ℕ) → n ≡ position_or_len (is_end 39) text → n ≡ length text → IsUnspoken Comment [] text (record { used = length text; place = Comment })
comment_goes_on text n run all =
    let whole : take (length text) text ≡ text = take-length text in
    record {
      within = omega arith;
      begun = refl;
      clear = refl;
      passed = subst (λ xs. Passes Comment [] xs (39 ∷ [])) (sym whole) (found_in_comment text n run all).1;
    }

-- a comment with the byte that ends it
pub comment_ends : (text : List ℕ) (n : ℕ) → n ≡ position_or_len (is_end 39) text → n < length text → IsUnspoken Comment [] text (record { used = n + 1; place = Gap })
comment_ends text n run less =
    let end = get_or text n 0 in
    let front = take (n + 1) text in
    let stops : EndsBefore 39 (drop n text) = rw run (ends_before 39 text) in
    let ends : is_end 39 end ≡ true = subst (EndsBefore 39) (drop-cons text n 0 less) stops in
    let passed : Passes Comment [] front (end ∷ []) =
    subst (Passes Comment [] front) (next_byte text n less)
    (subst (λ xs. Passes Comment [] xs (slice_range text n (n + 1))) (first_range text (n + 1)) (passes_comment text n run less)) in
    record {
      within = omega arith;
      begun = refl;
      clear = tt;
      passed = over_gap Comment [] front (end ∷ []) [] (end_separates 39 end ends, tt) (omega arith) passed;
    }

quote_passes : (held front unfinished : List ℕ) → Passes Comment [] front unfinished → Passes Gap held (39 ∷ front) unfinished
quote_passes held front unfinished p fed more others few s =
    follows_plain fed fed [] (39 ∷ (front ++ more)) others (omega arith)
    (statements_at _ fed _ others (omega arith) (p (fed + 1) more others (omega arith) (statements_at _ _ _ others (omega arith) s)))

-- a comment from its first byte on
pub one_comment : (held : List ℕ) (first : ℕ) (text rest : List ℕ) (u : Unspoken) → text ≡ first ∷ rest → first ≡ 39 → IsUnspoken Comment [] rest u → IsUnspoken Gap held text (record { used = u.used + 1; place = u.place })
one_comment held first text rest u whole is h =
    let up : u.used + 1 ≡ suc u.used = omega arith in
    let front : take (u.used + 1) text ≡ 39 ∷ take u.used rest = rw (up, whole, is) refl in
    record {
      within = rw whole (omega (arith, h.within));
      begun = h.begun;
      clear = h.clear;
      passed = subst (λ xs. Passes Gap held xs (open_of u.place [])) (sym front) (quote_passes held (take u.used rest) (open_of u.place []) h.passed);
    }

-- from one place to the next, and on from there
passes_on : (place there : Place) (held front next unfinished : List ℕ) → begins there ≡ false → length (open_of there []) ≤ length front → Passes place held front (open_of there []) → Passes there [] next unfinished → Passes place held (front ++ next) unfinished
passes_on place there held front next unfinished begun room p q fed more others few s =
    let after = fed + length front in
    let same : fed + length (front ++ next) - length unfinished ≡ after + length next - length unfinished = omega (arith, length-append front next) in
    let on : Follows (begins there) after (open_of there []) (next ++ more) others = q after more others (omega (arith, room)) (statements_at _ _ _ others same s) in
    let plain : Follows false after (open_of there []) (next ++ more) others = subst (λ b. Follows b after (open_of there []) (next ++ more) others) begun on in
    subst (λ text. Follows (begins place) fed (open_of place held) text others) (sym (append_assoc front next more))
    (p fed (next ++ more) others few (statements_at _ (after - length (open_of there [])) _ others (omega arith) plain))

one_open : (place : Place) → length (open_of place []) ≤ 1
one_open Mark = omega arith
one_open Gap = omega arith
one_open InUnit = omega arith
one_open Comment = omega arith

pub unspoken_on : (place : Place) (held text : List ℕ) (u v : Unspoken) → 0 < u.used → IsUnspoken place held text u → IsUnspoken u.place [] (drop u.used text) v → IsUnspoken place held text (record { used = u.used + v.used; place = v.place })
unspoken_on place held text u v some h k =
    let front = take u.used text in
    let size : length front ≡ u.used = length-take-le u.used text h.within in
    record {
      within = omega (arith, h.within, k.within, length-drop u.used text);
      begun = k.begun;
      clear = k.clear;
      passed = subst (λ xs. Passes place held xs (open_of v.place [])) (sym (take-add u.used v.used text))
          (passes_on place u.place held front (take v.used (drop u.used text)) (open_of v.place []) h.begun (omega (arith, one_open u.place, size, some)) h.passed k.passed);
    }

lead_there : (place after : Place) (held other front : List ℕ) (fed number : ℕ) → begins after ≡ false → IsHeld after [] → (after ≡ Comment → other ≡ []) → 0 < length front → length (open_of place held) ≤ fed → Passes place held front (open_of after [])
    → Leads (seen place held fed number None) front [] (seen after other (fed + length front) number None)
lead_there place Mark held other front fed number begun clear empty some few p = absurd (false≢true (sym begun))
lead_there place Gap held other front fed number begun clear empty some few p = leads_to_gap place held other front fed number p few
lead_there place InUnit held other front fed number begun clear empty some few p = absurd clear.0
lead_there place Comment held other front fed number begun clear empty some few p = rw (empty refl) (leads_to_comment place held front fed number (inr some, p) few)

pub unspoken_leads : (now : PieceCutting) (place : Place) (held other piece : List ℕ) (fed number : ℕ) (refused : Option ℕ) (u : Unspoken) → seen place held fed number refused ≡ now → refused ≡ None → length (open_of place held) ≤ fed → (u.place ≡ Comment → other ≡ []) → 0 < u.used → IsUnspoken place held piece u → Leads now (take u.used piece) [] (seen u.place other (fed + u.used) number refused)
unspoken_leads now place held other piece fed number refused u view none few empty some h =
    let front = take u.used piece in
    let size : length front ≡ u.used = length-take-le u.used piece h.within in
    let led = lead_there place u.place held other front fed number h.begun h.clear empty (omega (arith, size, some)) few h.passed in
    rw (← view, none) (subst (λ n. Leads (seen place held fed number None) front [] (seen u.place other (fed + n) number None)) size led)
