-- A whole run of a cutter of pieces, by its steps.
use Rattle.std.proofs.Common.{◌≡◌, ℕ, ◌+◌, ◌≤◌, List, [], ◌∷◌, ◌++◌, length, length-append, take, drop, append_assoc, append-nil, Option, Some, None, Ok, Err, ◌↔◌, arith, refl, sym, ap, ◌∙◌, subst}
use Rattle.std.specs.Prelude.{Result, slice_range}
use Rattle.std.proofs.Math.Seq.{take-length}
use Rattle.csa_cutting.specs.Cut.{TextUnit, IsCut, Statements, mark_length, statement_bytes, longest_statement}
use Rattle.csa_cutting.specs.Cutting.{Cutting, IfHandedOut, IsFirstStatement, IsHandedOut, IsTooLong, ToCome, unit_between}
use Rattle.csa_cutting.specs.ClosedStatements.{Closed}
use Rattle.csa_cutting.specs.PieceCutting.{PieceCutting, Leads, fresh}
use Rattle.csa_cutting.specs.PieceSteps.{IsNumbered, Stepped, Used, Last, Finished}
use Rattle.csa_cutting.specs.TooLong.{AreShort, HasCutOf, FirstTooLong}
use Rattle.csa_cutting.specs.WholeRun.{AreNumbered, AreStatementsOf, given, Answered, all_used, all_given, HandedOut}
use Rattle.csa_cutting.specs.declared.cutter.Statement.{Statement}
use Rattle.csa_cutting.specs.declared.cutter.CutFault.{CutFault}
use Rattle.csa_cutting.specs.declared.piece.Cut.{Cut as Step}
use Rattle.csa_cutting.proofs.FirstLong.{HasCut, nothing_fed, too_long_whole, nothing_cut, cutter_refuses, not_short}
use Rattle.csa_cutting.proofs.Fronts.{length_between}
use Rattle.csa_cutting.proofs.Spoken.{stated_first}
use Rattle.csa_cutting.proofs.Once.{statements_once}
use Rattle.csa_cutting.proofs.Joining.{pieces_joined, pieces_closed, pieces_whole}

short_joined : (xs ys : List TextUnit) → AreShort xs → AreShort ys → AreShort (xs ++ ys)
short_joined [] ys h k = k
short_joined (x ∷ xs) ys h k = (h.0, short_joined xs ys h.1 k)

numbered_joined : (n : ℕ) (us vs : List TextUnit) (ss ts : List Statement) → AreNumbered n us ss → AreNumbered (n + length us) vs ts → AreNumbered n (us ++ vs) (ss ++ ts)
numbered_joined n [] vs [] ts h k = let same : n + 0 ≡ n = omega arith in subst (λ m. AreNumbered m vs ts) same k
numbered_joined n [] vs (s ∷ ss) ts h k = absurd h
numbered_joined n (u ∷ us) vs [] ts h k = absurd h
numbered_joined n (u ∷ us) vs (s ∷ ss) ts h k =
    let same : n + length (u ∷ us) ≡ n + 1 + length us = omega arith in
    (h.0, numbered_joined (n + 1) us vs ss ts h.1 (subst (λ m. AreNumbered m vs ts) same k))

one_more : (source piece : List ℕ) (handed : List TextUnit) (gave : List Statement) (old new : PieceCutting) (used : ℕ) (statement : Option Statement) → HasCutOf source old handed → AreNumbered 0 handed gave → Used old piece used statement new → (all : List TextUnit) × HasCutOf (source ++ take used piece) new all × AreNumbered 0 all (gave ++ given statement)
one_more source piece handed gave old new used None h k u =
    let all : take used piece ≡ piece = ap (λ n. take n piece) u.0 ∙ take-length piece in
    let leads : Leads old (take used piece) [] new = subst (λ t. Leads old t [] new) (sym all) u.1 in
    (handed ++ [], (pieces_joined fresh old new source (take used piece) handed [] h.0 leads, short_joined handed [] h.1 tt), numbered_joined 0 handed [] gave [] k tt)
one_more source piece handed gave old new used (Some s) h k u =
    let count : old.number ≡ 0 + length handed = h.0.counted in
    let here : IsNumbered (0 + length handed) u.unit s = subst (λ n. IsNumbered n u.unit s) count u.stated in
    let stated = u.stated in
    (handed ++ (u.unit ∷ []), (pieces_joined fresh old new source (take used piece) handed (u.unit ∷ []) h.0 u.leads, short_joined handed (u.unit ∷ []) h.1 (stated.short, tt)), numbered_joined 0 handed (u.unit ∷ []) gave (s ∷ []) k (here, tt))

all_stated : (steps : List (List ℕ × Step)) (source : List ℕ) (handed : List TextUnit) (gave : List Statement) (p q : PieceCutting) → HasCutOf source p handed → AreNumbered 0 handed gave → Answered p steps q → (all : List TextUnit) × HasCutOf (source ++ all_used steps) q all × AreNumbered 0 all (gave ++ all_given steps)
all_stated [] source handed gave p q h k r =
    let here : HasCutOf (source ++ []) q handed = subst (λ t. HasCutOf t q handed) (sym (append-nil source)) (subst (λ v. HasCutOf source v handed) r h) in
    (handed, here, subst (λ t. AreNumbered 0 handed t) (sym (append-nil gave)) k)
all_stated (s ∷ steps) source handed gave p q h k (next, stepped, r) =
    let one = one_more source s.0 handed gave p next s.1.used s.1.statement h k stepped.after.led in
    let all = all_stated steps (source ++ take s.1.used s.0) one.0 (gave ++ given s.1.statement) next q one.1 one.2 r in (
      all.0,
      subst (λ t. HasCutOf t q all.0) (append_assoc source (take s.1.used s.0) (all_used steps)) all.1,
      subst (λ t. AreNumbered 0 all.0 t) (append_assoc gave (given s.1.statement) (all_given steps)) all.2,
    )

last_stated : (source : List ℕ) (handed : List TextUnit) (gave : List Statement) (p : PieceCutting) (last : Option Statement) → HasCutOf source p handed → AreNumbered 0 handed gave → Last p last → AreStatementsOf source (gave ++ given last)
last_stated source handed gave p None h k l =
    (handed ++ [], subst (λ t. IsCut t (handed ++ [])) (append-nil source) (pieces_whole source [] handed [] p h.0 l), numbered_joined 0 handed [] gave [] k tt)
last_stated source handed gave p (Some s) h k l =
    let count : p.number ≡ 0 + length handed = h.0.counted in
    let here : IsNumbered (0 + length handed) l.0 s = subst (λ n. IsNumbered n l.0 s) count l.1 in
    (handed ++ (l.0 ∷ []), subst (λ t. IsCut t (handed ++ (l.0 ∷ []))) (append-nil source) (pieces_whole source [] handed (l.0 ∷ []) p h.0 l.2), numbered_joined 0 handed (l.0 ∷ []) gave (s ∷ []) k (here, tt))

pub closed_run : (steps : List (List ℕ × Step)) (p : PieceCutting) → Answered fresh steps p → (closed : List TextUnit) × Closed (all_used steps) closed × AreNumbered 0 closed (all_given steps)
closed_run steps p r =
    let all = all_stated steps [] [] [] fresh p nothing_fed tt r in
    (all.0, pieces_closed (all_used steps) all.0 p all.1.0, all.2)

pub whole_run : (steps : List (List ℕ × Step)) (last : Option Statement) (p q : PieceCutting) → Answered fresh steps p → Finished p (Ok last) q → AreStatementsOf (all_used steps) (all_given steps ++ given last)
whole_run steps last p q r f =
    let all = all_stated steps [] [] [] fresh p nothing_fed tt r in
    last_stated (all_used steps) all.0 (all_given steps) p last all.1 all.2 f.last

pub run_refused : (steps : List (List ℕ × Step)) (piece more : List ℕ) (fault : CutFault) (p q : PieceCutting) → Answered fresh steps p → Stepped p piece (Err fault) q → FirstTooLong ((all_used steps ++ piece) ++ more) fault.number fault.offset
run_refused steps piece more fault p q r s =
    let all = all_stated steps [] [] [] fresh p nothing_fed tt r in
    too_long_whole (all_used steps) piece more all.0 p q fault all.1 s

cut_stated : (gave : List Statement) (handed : List TextUnit) (before : List Statement) (c d : Cutting) → HasCut c handed → AreNumbered 0 handed before → HandedOut c gave d → (all : List TextUnit) × HasCut d all × AreNumbered 0 all (before ++ gave) × (d.source ≡ c.source)
cut_stated [] handed before c d h k r =
    (handed, subst (λ v. HasCut v handed) r h, subst (λ t. AreNumbered 0 handed t) (sym (append-nil before)) k, ap (λ (v : Cutting). v.source) (sym r))
cut_stated (s ∷ gave) handed before c d h k (next, same, out, r) =
    let unit = unit_between c.source s.offset next.at in
    let size : s.offset + length unit.bytes ≡ next.at = length_between c.source s.offset next.at out.first.unit.order out.first.unit.within in
    let short : length unit.bytes ≤ 4096 = omega (arith, size, out.short) in
    let here : HasCut next (handed ++ (unit ∷ [])) = record {
      onward = λ others t.
          let following : Statements next.at (drop next.at c.source) others = subst (λ w. Statements next.at (drop next.at w) others) same t in
          let whole = h.onward (unit ∷ others) (stated_first c.source c.at s.offset next.at others out.first following) in
          let there : IsCut c.source ((handed ++ (unit ∷ [])) ++ others) = subst (IsCut c.source) (sym (append_assoc handed (unit ∷ []) others)) whole in
          subst (λ w. IsCut w ((handed ++ (unit ∷ [])) ++ others)) (sym same) there;
      counted = omega (arith, out.counted, out.number_is, h.counted, length-append handed (unit ∷ []));
      short = short_joined handed (unit ∷ []) h.short (short, tt);
    } in
    let numbered : IsNumbered (0 + length handed) unit s = record { number_is = omega (arith, out.number_is, h.counted); place = refl; slice = out.slice; short = short } in
    let all = cut_stated gave (handed ++ (unit ∷ [])) (before ++ (s ∷ [])) next d here (numbered_joined 0 handed (unit ∷ []) before (s ∷ []) k (numbered, tt)) r in
    (all.0, all.1, subst (λ t. AreNumbered 0 all.0 t) (append_assoc before (s ∷ []) gave) all.2, all.3 ∙ same)

pub whole_cut : (gave : List Statement) (c d : Cutting) → c.at ≡ mark_length c.source → c.number ≡ 0 → HandedOut c gave d → ToCome d [] → AreStatementsOf c.source gave
whole_cut gave c d at number r end =
    let all = cut_stated gave [] [] c d (nothing_cut c at number) tt r in
    let whole : IsCut d.source (all.0 ++ []) = all.1.onward [] end in
    (all.0, subst (λ t. IsCut c.source t) (append-nil all.0) (subst (λ w. IsCut w (all.0 ++ [])) all.3 whole), all.2)

pub cut_refused : (gave : List Statement) (c d : Cutting) (number offset : ℕ) → c.at ≡ mark_length c.source → c.number ≡ 0 → HandedOut c gave d → IsTooLong d number offset → FirstTooLong c.source number offset
cut_refused gave c d number offset at zero r long =
    let all = cut_stated gave [] [] c d (nothing_cut c at zero) tt r in
    subst (λ w. FirstTooLong w number offset) all.3 (cutter_refuses d all.0 number offset all.1 long)

numbered_short : (n : ℕ) (us : List TextUnit) (ss : List Statement) → AreNumbered n us ss → AreShort us
numbered_short n [] ss h = tt
numbered_short n (u ∷ us) [] h = absurd h
numbered_short n (u ∷ us) (s ∷ ss) h = (h.0.short, numbered_short (n + 1) us ss h.1)

pub all_short : (source : List ℕ) (gave : List Statement) (number offset : ℕ) → AreStatementsOf source gave → FirstTooLong source number offset → ⊥
all_short source gave number offset (us, cut, h) f =
    let same : us ≡ f.before ++ (f.unit ∷ f.others) = statements_once _ _ us _ cut f.cut in
    let short = not_short f.before f.others f.unit (subst AreShort same (numbered_short 0 us gave h)) in
    absurd (omega (arith, short, f.long))

pub next_whole : (old new : Cutting) (result : Result (Option Statement) CutFault) → (IfHandedOut result (λ s. IsFirstStatement old.source old.at s.offset new.at) × IfHandedOut result (λ s. s.number ≡ old.number + 1) × IfHandedOut result (λ s. new.number ≡ s.number) × IfHandedOut result (λ s. s.bytes.now ≡ statement_bytes (slice_range old.source s.offset new.at)) × IfHandedOut result (λ s. new.at ≤ s.offset + longest_statement)) ↔ IfHandedOut result (λ s. IsHandedOut old new s.number s.offset s.bytes.now)
next_whole old new (Ok (Some s)) = (λ h. record { first = h.0; number_is = h.1; counted = h.2; slice = h.3; short = h.4 }, λ o. (o.first, o.number_is, o.counted, o.slice, o.short))
next_whole old new (Ok None) = (λ h. tt, λ o. (tt, tt, tt, tt, tt))
next_whole old new (Err fault) = (λ h. tt, λ o. (tt, tt, tt, tt, tt))
