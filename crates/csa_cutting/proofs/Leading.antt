-- What a step of a cutter of pieces leads to.
use Rattle.std.proofs.Common.{◌≡◌, ℕ, zero, suc, ◌+◌, ◌-◌, ◌<◌, ◌≤◌, ◌==◌, ◌||◌, ◌&&◌, Bool, true, false, not, nat_lt, List, [], ◌∷◌, ◌++◌, filter, length, take, drop, get_or, slice_range, length-append, append_assoc, append-nil, Option, Some, None, IsSome, IfSome, if◌then◌else◌, arith, refl, sym, ap, ◌∙◌, subst}
use Rattle.std.proofs.lemmas.Bool.{false≢true}
use Rattle.std.proofs.lemmas.Bool.Decides.{nat_tests}
use Rattle.std.proofs.lemmas.List.{length-take-le}
use Rattle.std.proofs.lemmas.List.Folds.{drop_split}
use Rattle.std.proofs.Math.Seq.{drop-cons, drop-length}
use Rattle.csa_cutting.specs.Cut.{TextUnit, IsGap, IsUnit, EndsBefore, Statements, is_separator, is_end, takes_line, byte_order_mark, statement_bytes}
use Rattle.csa_cutting.specs.ClosedStatements.{is_closed}
use Rattle.csa_cutting.specs.PieceCutting.{PieceCutting, Follows, Closes, Leads, mark_of}
use Rattle.csa_cutting.specs.Places.{IsPart, IsFoundIn, Passes, begins, open_of, kept_of}
use Rattle.csa_cutting.specs.PieceSteps.{Used, IsTooLongAt}
use Rattle.csa_cutting.specs.declared.cutter.Statement.{Statement}
use Rattle.csa_cutting.specs.declared.units.Origin.{Origin}
use Rattle.csa_cutting.specs.declared.units.Origin.TheVariants.{EarlierPiece, ThisPiece}
use Rattle.csa_cutting.specs.declared.units.Place.{Place}
use Rattle.csa_cutting.specs.declared.units.Found.TheVariants.{LeadsTo}
use Rattle.csa_cutting.specs.declared.units.Place.TheVariants.{Mark, Gap, Unit as InUnit, Comment}
use Rattle.csa_cutting.proofs.Runs.{no_statements, statement_first, found}
use Rattle.csa_cutting.proofs.LineCutting.{length_range, nothing}
use Rattle.csa_cutting.proofs.Passing.{statements_at, statements_of, after_gap, after_comment, unit_at, unit_before, next_byte, ends_with_next, split_range, range_size, range_end}
use Rattle.csa_cutting.proofs.Finding.{first_range}
use Rattle.csa_cutting.proofs.Fronts.{length_between}

abbrev pub seen : Place → List ℕ → ℕ → ℕ → Option ℕ → PieceCutting
seen place held fed number refused =
    record { fed = fed; number = number; begins = begins place; unfinished = open_of place held; held = held; refused = refused }

pub nothing_left : (o : ℕ) → Statements o [] []
nothing_left o = no_statements o [] tt

pub comment_alone : (o : ℕ) → Statements o (39 ∷ []) []
comment_alone o = after_comment o (39 ∷ []) [] [] (refl, tt, tt) refl (nothing_left _)

pub to_whole : (b : Bool) (fed : ℕ) (held text : List ℕ) (others : List TextUnit) → Follows b fed held (text ++ []) others → Follows b fed held text others
to_whole b fed held text others s = subst (λ t. Follows b fed held t others) (append-nil text) s

pub leads_to_gap : (place : Place) (held other piece : List ℕ) (fed number : ℕ) → IsFoundIn place held piece 0 (LeadsTo Gap) → length (open_of place held) ≤ fed → Leads (seen place held fed number None) piece [] (seen Gap other (fed + length piece) number None)
leads_to_gap place held other piece fed number h few =
    let o = fed + length piece - 0 in
    record {
      took = refl;
      counted = omega arith;
      closes = ([], to_whole (begins place) fed (open_of place held) piece [] (h fed [] [] few (nothing_left o)), refl);
      onward = λ more others s. h fed more others few (statements_at _ o _ others (omega arith) s);
      going = refl;
    }

pub leads_to_comment : (place : Place) (held piece : List ℕ) (fed number : ℕ) → IsFoundIn place held piece 0 (LeadsTo Comment) → length (open_of place held) ≤ fed → Leads (seen place held fed number None) piece [] (seen Comment [] (fed + length piece) number None)
leads_to_comment place held piece fed number h few =
    let o = fed + length piece - 1 in
    record {
      took = refl;
      counted = omega arith;
      closes = ([], to_whole (begins place) fed (open_of place held) piece [] (h.1 fed [] [] few (comment_alone o)), refl);
      onward = λ more others s. h.1 fed more others few (statements_at _ o _ others (omega arith) s);
      going = refl;
    }

-- the mark alone closes nothing
mark_alone : (k : ℕ) → k < 3 → (statements : List TextUnit) × Follows true k (take k byte_order_mark) [] statements × ([] ≡ filter (is_closed k) statements)
mark_alone zero less = ([], nothing_left 0, refl)
mark_alone (suc zero) less =
    (_, statement_first 0 (0xEF ∷ []) (record { offset = 0; bytes = 0xEF ∷ [] }) [] [] (unit_at 0 (0xEF ∷ []) [] (refl, tt, tt)) refl (nothing_left 1), refl)
mark_alone (suc (suc zero)) less =
    (_, statement_first 0 (0xEF ∷ 0xBB ∷ []) (record { offset = 0; bytes = 0xEF ∷ 0xBB ∷ [] }) [] [] (unit_at 0 (0xEF ∷ 0xBB ∷ []) [] (refl, (refl, tt), tt)) refl (nothing_left 2), refl)
mark_alone (suc (suc (suc k))) less = absurd (omega arith)

-- the same text with more of it held
held_more : (b : Bool) (fed len : ℕ) (held piece more : List ℕ) (others : List TextUnit) → len ≡ length piece → length held ≤ fed → Follows b (fed + len) (held ++ piece) more others → Follows b fed held (piece ++ more) others
held_more b fed len held piece more others e few s =
    let text = (held ++ piece) ++ more in
    let same : text ≡ held ++ (piece ++ more) = append_assoc held piece more in
    let place : fed + len - length (held ++ piece) ≡ fed - length held = omega (arith, length-append held piece) in
    let here : Statements (fed - length held + mark_of b text) (drop (mark_of b text) text) others = subst (λ o. Statements (o + mark_of b text) (drop (mark_of b text) text) others) place s in
    subst (λ t. Statements (fed - length held + mark_of b t) (drop (mark_of b t) t) others) same here

pub leads_to_mark : (held piece : List ℕ) (number : ℕ) → length held + length piece < 3 → held ++ piece ≡ take (length held + length piece) byte_order_mark → Leads (seen Mark held (length held) number None) piece [] (seen Mark (held ++ piece) (length held + length piece) number None)
leads_to_mark held piece number less same =
    let k = length held + length piece in
    let alone = mark_alone k less in
    let here : Follows true k (held ++ piece) [] alone.0 = subst (λ h. Follows true k h [] alone.0) (sym same) alone.1 in
    record {
      took = refl;
      counted = omega arith;
      closes = (alone.0, to_whole true (length held) held piece alone.0 (held_more true (length held) (length piece) held piece [] alone.0 refl (omega arith) here), alone.2);
      onward = λ more others s. held_more true (length held) (length piece) held piece more others refl (omega arith) s;
      going = refl;
    }

kept_few : (place : Place) (origin : Origin) (held : List ℕ) (fed : ℕ) → (origin ≡ EarlierPiece → open_of place held ≡ held) → length (open_of place held) ≤ fed → length (kept_of origin held) ≤ fed
kept_few place ThisPiece held fed first few = omega arith
kept_few place EarlierPiece held fed first few = omega (arith, ap length (first refl))

-- the unit of a part whose bytes in the piece begin at this offset
abbrev pub part_unit : Origin → List ℕ → List ℕ → ℕ → ℕ → ℕ → TextUnit
part_unit origin held piece start end offset =
    record { offset = offset - length (kept_of origin held); bytes = kept_of origin held ++ slice_range piece start end }

pub part_size : (origin : Origin) (held piece : List ℕ) (start end : ℕ) → end ≤ length piece → length (kept_of origin held ++ slice_range piece start end) ≡ length (kept_of origin held) + (end - start)
part_size origin held piece start end within =
    length-append (kept_of origin held) (slice_range piece start end) ∙ ap (λ n. length (kept_of origin held) + n) (length_range piece start end within)

not_closed : (a b n : ℕ) → b ≤ a → n ≤ 4096 → (nat_lt a b || nat_lt 4096 n) ≡ false
not_closed a b n h k = grind (arith, nat_tests)

pub closed_after : (a b n : ℕ) → a < b → (nat_lt a b || nat_lt 4096 n) ≡ true
closed_after a b n h = grind (arith, nat_tests)

pub closed_long : (a b n : ℕ) → 4096 < n → (nat_lt a b || nat_lt 4096 n) ≡ true
closed_long a b n h = grind (arith, nat_tests)

none_kept : (p : TextUnit → Bool) (u : TextUnit) → p u ≡ false → [] ≡ filter p (u ∷ [])
none_kept p u h = rw h refl

pub one_kept : (p : TextUnit → Bool) (u : TextUnit) (us : List TextUnit) → p u ≡ true → u ∷ filter p us ≡ filter p (u ∷ us)
one_kept p u us h = rw h refl

-- the unit is the first statement, before those after it
unit_first : (place : Place) (held piece : List ℕ) (from : ℕ) (origin : Origin) (start end fed : ℕ) (more : List ℕ) (others : List TextUnit) → IsPart place held piece from origin start end → length (open_of place held) ≤ fed → IsUnit (kept_of origin held ++ slice_range piece start end) (slice_range piece end (end + 1) ++ more) → Statements (fed + (end - from)) (slice_range piece end (end + 1) ++ more) others → Follows (begins place) fed (open_of place held) (slice_range piece from (end + 1) ++ more) (part_unit origin held piece start end (fed + (start - from)) ∷ others)
unit_first place held piece from origin start end fed more others p few unit s =
    let kept = kept_of origin held in
    let u = kept ++ slice_range piece start end in
    let next = slice_range piece end (end + 1) in
    let following = next ++ more in
    let low = kept_few place origin held fed (λ h. (p.first h).1) few in
    let size = part_size origin held piece start end p.unit.within in
    let order : (from ≤ start) × (start ≤ end) = (p.order, p.unit.order) in
    let within = p.unit.within in
    let o = fed + (start - from) - length kept in
    let here : Statements o (u ++ following) (part_unit origin held piece start end (fed + (start - from)) ∷ others) =
    statement_first o (u ++ following) (part_unit origin held piece start end (fed + (start - from))) following others (unit_at o u following unit) (ap not p.unit.spoken) (statements_at (fed + (end - from)) _ _ others (omega arith) s) in
    let whole : u ++ following ≡ (kept ++ slice_range piece start (end + 1)) ++ more =
    sym (append_assoc u next more) ∙ ap (λ xs. xs ++ more) (append_assoc kept (slice_range piece start end) next ∙ ap (λ xs. kept ++ xs) (sym (split_range piece start end (end + 1) order.1 (omega arith)))) in
    let gap = length_between piece from start order.0 (omega arith) in
    let sizes = range_size piece from start (end + 1) order.0 (omega arith) in
    p.passed fed more _ few (statements_at o _ _ _ (omega (arith, length-append kept (slice_range piece start (end + 1)))) (statements_of o _ _ _ whole here))

-- if all of the piece is used
pub unit_stated : (place : Place) (held piece : List ℕ) (from : ℕ) (origin : Origin) (start end fed : ℕ) (others : List TextUnit) → IsPart place held piece from origin start end → length (open_of place held) ≤ fed → Statements (fed + (end - from)) (drop end piece) others → Follows (begins place) fed (open_of place held) (drop from piece) (part_unit origin held piece start end (fed + (start - from)) ∷ others)
unit_stated place held piece from origin start end fed others p few s =
    let order : (from ≤ start) × (start ≤ end) = (p.order, p.unit.order) in
    let rest : drop end piece ≡ slice_range piece end (end + 1) ++ drop (end + 1) piece = drop_split piece end (end + 1) (omega arith) in
    let u = kept_of origin held ++ slice_range piece start end in
    subst (λ t. Follows (begins place) fed (open_of place held) t (part_unit origin held piece start end (fed + (start - from)) ∷ others)) (sym (drop_split piece from (end + 1) (omega arith)))
    (unit_first place held piece from origin start end fed (drop (end + 1) piece) others p few (subst (IsUnit u) rest p.unit.unit) (statements_of _ _ _ others rest s))

unit_stated_here : (place : Place) (held piece : List ℕ) (origin : Origin) (start end fed : ℕ) (others : List TextUnit) → IsPart place held piece 0 origin start end → length (open_of place held) ≤ fed → Statements (fed + end) (drop end piece) others → Follows (begins place) fed (open_of place held) piece (part_unit origin held piece start end (fed + start) ∷ others)
unit_stated_here place held piece origin start end fed others p few s =
    let same : start - 0 ≡ start = omega arith in
    rw same at (unit_stated place held piece 0 origin start end fed others p few (statements_at (fed + end) _ _ others (omega arith) s))

pub leads_to_unit : (place : Place) (held piece : List ℕ) (origin : Origin) (start end fed number : ℕ) → IsPart place held piece 0 origin start end → length (open_of place held) ≤ fed → end ≡ length piece → length (kept_of origin held ++ slice_range piece start end) ≤ 4096 → Leads (seen place held fed number None) piece [] (seen InUnit (kept_of origin held ++ slice_range piece start end) (fed + end) number None)
leads_to_unit place held piece origin start end fed number p few all short =
    let kept = kept_of origin held in
    let u = kept ++ slice_range piece start end in
    let low = kept_few place origin held fed (λ h. (p.first h).1) few in
    let size = part_size origin held piece start end p.unit.within in
    let order : (0 ≤ start) × (start ≤ end) = (p.order, p.unit.order) in
    let none : drop end piece ≡ [] = rw all (drop-length piece) in
    let front : slice_range piece 0 (end + 1) ≡ piece = range_end piece 0 (end + 1) (omega arith) in
    let range : slice_range piece start (end + 1) ≡ slice_range piece start end = range_end piece start (end + 1) (omega arith) ∙ sym (range_end piece start end (omega arith)) in
    let passed : Passes place held piece u = rw (front, range) at p.passed in
    let alone = unit_stated_here place held piece origin start end fed [] p few (statements_of (fed + end) _ _ [] (sym none) (nothing_left (fed + end))) in
    record {
      took = ap (λ n. fed + n) all;
      counted = omega arith;
      closes = (
        part_unit origin held piece start end (fed + start) ∷ [],
        alone,
        none_kept (is_closed (fed + length piece)) (part_unit origin held piece start end (fed + start)) (not_closed (fed + start - length kept + length u) (fed + length piece) (length u) (omega arith) short),
      );
      onward = λ more others s. passed fed more others few (statements_at _ _ _ others (omega arith) s);
      going = refl;
    }

either : (x y z t w v : Bool) → (x || y || (z && t)) ≡ true → (x || y || z || w || v) ≡ true
either true y z t w v h = refl
either false true z t w v h = refl
either false false true t w v h = refl
either false false false t w v h = cc

pub end_separates : (first b : ℕ) → is_end first b ≡ true → is_separator b ≡ true
end_separates first b h = either (b == 13) (b == 10) (b == 44) (not (takes_line first)) (b == 32) (b == 9) h

unit_ends : (unit following : List ℕ) (b : ℕ) (rest : List ℕ) → following ≡ b ∷ rest → IsUnit unit following → is_separator b ≡ true
unit_ends [] following b rest e h = absurd h
unit_ends (first ∷ unit) following b rest e h = end_separates first b (subst (EndsBefore first) e h.2)

-- from the end of a unit, past the byte that ends it
over_end : (place : Place) (held piece : List ℕ) (origin : Origin) (start end fed : ℕ) → IsPart place held piece 0 origin start end → length (open_of place held) ≤ fed → end < length piece → (more : List ℕ) (others : List TextUnit) → Statements (fed + end + 1) more others → Follows (begins place) fed (open_of place held) (take (end + 1) piece ++ more) (part_unit origin held piece start end (fed + start) ∷ others)
over_end place held piece origin start end fed p few left more others s =
    let u = kept_of origin held ++ slice_range piece start end in
    let last = slice_range piece end (end + 1) in
    let byte : last ≡ get_or piece end 0 ∷ [] = next_byte piece end left in
    let gap : IsGap last = subst IsGap (sym byte) (unit_ends u (drop end piece) (get_or piece end 0) (drop (suc end) piece) (drop-cons piece end 0 left) p.unit.unit, tt) in
    let same : start - 0 ≡ start = omega arith in
    let front = first_range piece (end + 1) in
    rw (same, front) at (unit_first place held piece 0 origin start end fed more others p few (unit_before u (drop end piece) (last ++ more) p.unit.unit (λ first e. ends_with_next piece end first more left e))
    (after_gap (fed + (end - 0)) last more others gap (statements_at (fed + end + 1) _ _ others (omega (arith, ap length byte)) s)))

pub leads_after_unit : (place : Place) (held other piece : List ℕ) (origin : Origin) (start end fed number : ℕ) → IsPart place held piece 0 origin start end → length (open_of place held) ≤ fed → end < length piece → Leads (seen place held fed number None) (take (end + 1) piece) (part_unit origin held piece start end (fed + start) ∷ []) (seen Gap other (fed + (end + 1)) (number + 1) None)
leads_after_unit place held other piece origin start end fed number p few left =
    let low = kept_few place origin held fed (λ h. (p.first h).1) few in
    let size = part_size origin held piece start end p.unit.within in
    let order : (0 ≤ start) × (start ≤ end) = (p.order, p.unit.order) in
    let taken : length (take (end + 1) piece) ≡ end + 1 = length-take-le (end + 1) piece (omega arith) in
    let u = part_unit origin held piece start end (fed + start) in
    let over = over_end place held piece origin start end fed p few left in
    record {
      took = ap (λ n. fed + n) (sym taken);
      counted = omega arith;
      closes = (
        u ∷ [],
        to_whole (begins place) fed (open_of place held) (take (end + 1) piece) _ (over [] [] (nothing_left (fed + end + 1))),
        one_kept (is_closed (fed + length (take (end + 1) piece))) u [] (closed_after (u.offset + length u.bytes) (fed + length (take (end + 1) piece)) (length u.bytes) (omega arith)),
      );
      onward = λ more others s. over more others (statements_at _ (fed + end + 1) _ others (omega arith) s);
      going = refl;
    }

pub too_long : (place : Place) (held piece : List ℕ) (origin : Origin) (start end fed number : ℕ) → IsPart place held piece 0 origin start end → length (open_of place held) ≤ fed → 4096 < length (kept_of origin held ++ slice_range piece start end) → (others : List TextUnit) × Closes (seen place held fed number None) piece (part_unit origin held piece start end (fed + start) ∷ others)
too_long place held piece origin start end fed number p few long =
    let u = kept_of origin held ++ slice_range piece start end in
    let unit = part_unit origin held piece start end (fed + start) in
    let rest = found (fed + end) (drop end piece) in (
      filter (is_closed (fed + length piece)) rest.0,
      (
        unit ∷ rest.0,
        unit_stated_here place held piece origin start end fed rest.0 p few rest.1,
        one_kept (is_closed (fed + length piece)) unit rest.0 (closed_long (unit.offset + length u) (fed + length piece) (length u) long),
      ),
    )

mark_lead : (place : Place) (held other piece : List ℕ) (fed number : ℕ) → place ≡ Mark → other ≡ held ++ piece → length held + length piece < 3 → held ++ piece ≡ take (length held + length piece) byte_order_mark → (begins place ≡ true → fed ≡ length held) → Leads (seen place held fed number None) piece [] (seen Mark other (fed + length piece) number None)
mark_lead place held other piece fed number is_mark o less same all =
    let begun : begins place ≡ true = ap begins is_mark in
    let count : fed ≡ length held = all begun in
    rw (is_mark, o, count) (leads_to_mark held piece number less same)

default_lead : (place after : Place) (held other piece : List ℕ) (fed number : ℕ) → other ≡ (if begins after then held ++ piece else []) → IsFoundIn place held piece 0 (LeadsTo after) → length (open_of place held) ≤ fed → (begins place ≡ true → fed ≡ length held) → Leads (seen place held fed number None) piece [] (seen after other (fed + length piece) number None)
default_lead place Mark held other piece fed number o h few same = mark_lead place held other piece fed number h.0 o h.1 h.2 same
default_lead place Gap held other piece fed number o h few same = leads_to_gap place held other piece fed number h few
default_lead place InUnit held other piece fed number o h few same = absurd h
default_lead place Comment held other piece fed number o h few same = rw o (leads_to_comment place held piece fed number h few)

pub default_step : (now : PieceCutting) (place after : Place) (held other piece : List ℕ) (fed number : ℕ) (refused : Option ℕ) → seen place held fed number refused ≡ now → refused ≡ None → other ≡ (if begins after then held ++ piece else []) → IsFoundIn place held piece 0 (LeadsTo after) → length (open_of place held) ≤ fed → (begins place ≡ true → fed ≡ length held) → (now.refused ≡ None) × Leads now piece [] (seen after other (fed + length piece) number refused)
default_step now place after held other piece fed number refused view none o h few same =
    rw (← view, none) (refl, default_lead place after held other piece fed number o h few same)

pub unit_step : (now : PieceCutting) (place : Place) (held other piece : List ℕ) (origin : Origin) (start end fed number : ℕ) (refused : Option ℕ) → seen place held fed number refused ≡ now → refused ≡ None → IsPart place held piece 0 origin start end → length (open_of place held) ≤ fed → end ≡ length piece → other ≡ kept_of origin held ++ slice_range piece start end → length (kept_of origin held) + (end - start) ≤ 4096 → (now.refused ≡ None) × Leads now piece [] (seen InUnit other (fed + end) number refused)
unit_step now place held other piece origin start end fed number refused view none p few all o short =
    let size = part_size origin held piece start end p.unit.within in
    rw (← view, none, o) (refl, leads_to_unit place held piece origin start end fed number p few all (omega arith))

pub end_step : (now : PieceCutting) (place : Place) (held other piece : List ℕ) (origin : Origin) (start end fed number used : ℕ) (refused : Option ℕ) (statement : Option Statement) → seen place held fed number refused ≡ now → refused ≡ None → IsPart place held piece 0 origin start end → length (open_of place held) ≤ fed → end < length piece → length (kept_of origin held) + (end - start) ≤ 4096 → used ≡ end + 1 → IsSome statement → IfSome statement (λ s. (s.number ≡ number + 1) × (s.offset ≡ fed + start - length (kept_of origin held)) × (s.bytes.now ≡ statement_bytes (kept_of origin held ++ slice_range piece start end))) → (now.refused ≡ None) × Used now piece used statement (seen Gap other (fed + (end + 1)) (number + 1) refused)
end_step now place held other piece origin start end fed number used refused None view none p few left short is_used some stated = absurd (false≢true some)
end_step now place held other piece origin start end fed number used refused (Some s) view none p few left short is_used some stated =
    let size = part_size origin held piece start end p.unit.within in
    let low = kept_few place origin held fed (λ h. (p.first h).1) few in
    rw (← view, none, is_used) (
      refl,
      record {
        unit = part_unit origin held piece start end (fed + start);
        stated = record { number_is = stated.0; place = stated.1; slice = stated.2; short = omega arith };
        some = omega arith;
        within = omega arith;
        last = omega (arith, size, p.order, p.unit.order, low);
        leads = leads_after_unit place held other piece origin start end fed number p few left;
      },
    )

pub long_step : (now : PieceCutting) (place : Place) (held piece : List ℕ) (origin : Origin) (start end fed number o : ℕ) (refused : Option ℕ) → seen place held fed number refused ≡ now → refused ≡ None → IsPart place held piece 0 origin start end → length (open_of place held) ≤ fed → o ≡ fed + start - length (kept_of origin held) → 4096 < length (kept_of origin held) + (end - start) → (number + 1 ≡ now.number + 1) × IsTooLongAt now.refused now piece o × (seen place held fed number (Some o) ≡ record now { refused = Some o })
long_step now place held piece origin start end fed number o refused view none p few is_offset long =
    let size = part_size origin held piece start end p.unit.within in
    let more : 4096 < length (kept_of origin held ++ slice_range piece start end) = omega arith in
    let met = too_long place held piece origin start end fed number p few more in
    rw (← view, none) (refl, (part_unit origin held piece start end (fed + start), met.0, met.1, more, is_offset), refl)

pub kept_most : (origin : Origin) (held : List ℕ) → length (kept_of origin held) ≤ length held
kept_most EarlierPiece held = omega arith
kept_most ThisPiece held = omega arith

pub mark_room : (place after : Place) (held piece : List ℕ) → IsFoundIn place held piece 0 (LeadsTo after) → begins after ≡ true → length held + length piece ≤ 4096
mark_room place Mark held piece h t = omega (arith, h.1)
mark_room place Gap held piece h t = absurd (false≢true t)
mark_room place InUnit held piece h t = absurd h
mark_room place Comment held piece h t = absurd (false≢true t)

pub all_in_piece : (origin : Origin) (held left part : List ℕ) → left ≡ kept_of origin held → (length left == 0) ≡ true → part ≡ kept_of origin held ++ part
all_in_piece origin held left part same none =
    let empty : left ≡ [] = nothing left none in
    let kept : kept_of origin held ≡ [] = sym same ∙ empty in
    rw kept refl

pub ended_stated : (statement : Option Statement) (n o p : ℕ) (unit other : List ℕ) → o ≡ p → unit ≡ other → IfSome statement (λ s. (s.number ≡ n) × (s.offset ≡ o)) → IfSome statement (λ s. s.bytes.now ≡ statement_bytes unit) → IfSome statement (λ s. (s.number ≡ n) × (s.offset ≡ p) × (s.bytes.now ≡ statement_bytes other))
ended_stated None n o p unit other e f h k = tt
ended_stated (Some s) n o p unit other e f h k = (h.0, h.1 ∙ e, k ∙ ap statement_bytes f)
