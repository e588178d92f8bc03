use Rattle.std.proofs.Common.{◌≡◌, false, [], ◌+◌, ◌-◌, ◌<◌, ◌≤◌, ◌++◌, length, slice_range, arith, rules, refl, sym, ap, subst, ◌∙◌}
use Rattle.csa_cutting.specs.Cut.{begins_with}
use Rattle.csa_cutting.specs.declared.units.Found.TheVariants.{LeadsTo}
use Rattle.csa_cutting.specs.declared.units.Place.TheVariants.{Gap}
use Rattle.csa_cutting.specs.Places.{IsPart, IsFoundIn, kept_of}
use Rattle.csa_cutting.proofs.Leading.{seen, default_step, unit_step, end_step, long_step, kept_most, mark_room, all_in_piece, ended_stated}
use Rattle.csa_cutting.proofs.LineCutting.{length_range, nothing}
use Rattle.csa_cutting.proofs.Holding.{held_found, held_whole, holds_here, holds_before, some_used, number_of}
use Rattle.csa_cutting.proofs.Lent.{lent_here, lent_before, kept_on}
use Rattle.csa_cutting.specs.PieceCutting.{PieceCutting}
use Rattle.csa_cutting.proofs.piece.PieceCutter.step.Goals as goal

pub hold_mark-requires : goal.hold_mark-requires
hold_mark-requires c =
    let s = c.self.inside in
    let h : IsFoundIn s.place s.held.items c.args.piece.now 0 (LeadsTo c.in-LeadsTo.place) = subst (λ xs. IsFoundIn s.place xs c.args.piece.now 0 (LeadsTo c.in-LeadsTo.place)) c.as_slice.ensures.value c.in-LeadsTo.ensures in
    λ t. mark_room s.place c.in-LeadsTo.place s.held.items c.args.piece.now h t

pub returns-in-LeadsTo : goal.returns-in-LeadsTo
returns-in-LeadsTo c =
    let s = c.self.inside in
    let i = c.self.invariant in
    let h : IsFoundIn s.place s.held.items c.args.piece.now 0 (LeadsTo c.in-LeadsTo.place) = subst (λ xs. IsFoundIn s.place xs c.args.piece.now 0 (LeadsTo c.in-LeadsTo.place)) c.as_slice.ensures.value c.in-LeadsTo.ensures in
    let done = default_step c.args.self.now s.place c.in-LeadsTo.place s.held.items c.hold_mark.new.held.items c.args.piece.now s.fed s.number s.refused
    c.self.view_is c.in_default.is c.hold_mark.ensures h (omega (arith, i.0)) i.3 in
    let held = held_found s.place c.in-LeadsTo.place s.held.items c.hold_mark.new.held.items c.args.piece.now c.hold_mark.ensures h in
    let none = c.none_ended.ensures.statement in
    ((refl, λ _. tt, record { led = rw none (c.none_ended.ensures.used, done.1); held = rw none held; refused = tt }), record { used = rw none c.none_ended.ensures.used; number = rw none tt; lent = rw none tt; going = done.0; fault = tt; place = tt; after = tt })

pub returns-then-kept-part : goal.returns-then-kept-part
returns-then-kept-part c =
    let s = c.self.inside in
    let i = c.self.invariant in
    let p : IsPart s.place s.held.items c.args.piece.now 0 c.in-Part.found.origin c.in-Part.found.start c.in-Part.found.end = rw c.as_slice.ensures.value at c.in-Part.ensures in
    let kept = c.kept_length-kept.ensures s.held.items c.len.ensures.value in
    let size = length_range c.args.piece.now c.in-Part.found.start c.in-Part.found.end p.unit.within in
    let place : s.fed + c.in-Part.found.start - c.kept_length-kept.result ≡ s.fed + c.in-Part.found.start - length (kept_of c.in-Part.found.origin s.held.items) = ap (λ n. s.fed + c.in-Part.found.start - n) kept in
    let done = long_step c.args.self.now s.place s.held.items c.args.piece.now c.in-Part.found.origin c.in-Part.found.start c.in-Part.found.end s.fed s.number _ s.refused
    c.self.view_is c.in_default.is p (omega (arith, i.0)) place (omega (arith, kept, size, c.if-kept-part.true)) in
    let numbered : s.number + 1 ≡ c.args.self.now.number + 1 = done.0 in
    ((refl, λ _. tt, record { led = tt; held = tt; refused = search rules }), record { used = tt; number = tt; lent = tt; going = tt; fault = numbered; place = done.1; after = tt })

pub returns-then-end-piece : goal.returns-then-end-piece
returns-then-end-piece c =
    let s = c.self.inside in
    let i = c.self.invariant in
    let piece = c.args.piece.now in
    let origin = c.in-Part.found.origin in
    let start = c.in-Part.found.start in
    let end = c.in-Part.found.end in
    let p : IsPart s.place s.held.items piece 0 origin start end = rw c.as_slice.ensures.value at c.in-Part.ensures in
    let kept = c.kept_length-kept.ensures s.held.items c.len.ensures.value in
    let size = length_range piece start end p.unit.within in
    let most = kept_most origin s.held.items in
    let few : length (kept_of origin s.held.items) + (end - start) ≤ 4096 = omega (arith, kept, size, c.if-kept-part.false, i.1) in
    let left : c.keep_held.new.held.items ≡ kept_of origin s.held.items = c.keep_held.ensures in
    let all : c.hold.new.held.items ≡ kept_of origin s.held.items ++ slice_range piece start end =
    c.hold.ensures ∙ ap (λ xs. xs ++ slice_range piece start end) left in
    let done = unit_step c.args.self.now s.place s.held.items c.hold.new.held.items piece origin start end s.fed s.number s.refused
    c.self.view_is c.in_default.is p (omega (arith, i.0)) (omega (arith, c.if-end-piece.true)) all few in
    let quiet : begins_with 39 c.hold.new.held.items ≡ false = ap (begins_with 39) all ∙ p.unit.spoken in
    let held = held_whole c.hold.new.held.items quiet in
    let none = c.none_ended-then-end-piece.ensures.statement in
    let all_used : c.none_ended-then-end-piece.result.used ≡ length piece = omega (arith, c.none_ended-then-end-piece.ensures.used, c.if-end-piece.true) in
    ((refl, λ _. tt, record { led = rw none (all_used, done.1); held = rw none held; refused = tt }), record { used = rw none all_used; number = rw none tt; lent = rw none tt; going = done.0; fault = tt; place = tt; after = tt })

pub returns-then-is_empty : goal.returns-then-is_empty
returns-then-is_empty c =
    let s = c.self.inside in
    let i = c.self.invariant in
    let piece = c.args.piece.now in
    let origin = c.in-Part.found.origin in
    let start = c.in-Part.found.start in
    let end = c.in-Part.found.end in
    let p : IsPart s.place s.held.items piece 0 origin start end = rw c.as_slice.ensures.value at c.in-Part.ensures in
    let kept = c.kept_length-kept.ensures s.held.items c.len.ensures.value in
    let size = length_range piece start end p.unit.within in
    let most = kept_most origin s.held.items in
    let few : length (kept_of origin s.held.items) + (end - start) ≤ 4096 = omega (arith, kept, size, c.if-kept-part.false, i.1) in
    let left : c.keep_held.new.held.items ≡ kept_of origin s.held.items = c.keep_held.ensures in
    let following : end < length piece = omega (arith, c.if-end-piece.false, p.unit.within) in
    let whole : slice_range piece start end ≡ kept_of origin s.held.items ++ slice_range piece start end =
    all_in_piece origin s.held.items c.keep_held.new.held.items (slice_range piece start end) left (sym c.is_empty.ensures ∙ c.if-is_empty.true) in
    let place : s.fed + start - c.kept_length-kept.result ≡ s.fed + start - length (kept_of origin s.held.items) = ap (λ n. s.fed + start - n) kept in
    let fed_is : s.fed ≡ c.args.self.now.fed = ap (λ (v : PieceCutting). v.fed) c.self.view_is in
    let none : length (kept_of origin s.held.items) ≡ 0 = ap length (sym left ∙ nothing c.keep_held.new.held.items (sym c.is_empty.ensures ∙ c.if-is_empty.true)) in
    let from : s.fed + start - c.kept_length-kept.result ≡ c.args.self.now.fed + start = omega (arith, kept, none, fed_is) in
    let lent = lent_here c.ended.result.statement _ (s.fed + start - c.kept_length-kept.result) c.args.self.now.fed start c.args.piece.ref_ptr from c.ended.ensures.place c.ended.ensures.lent in
    let stated = ended_stated c.ended.result.statement _ _ _ (slice_range piece start end) (kept_of origin s.held.items ++ slice_range piece start end) place whole c.ended.ensures.place c.ended.ensures.bytes in
    let done = end_step c.args.self.now s.place s.held.items c.keep_held.new.held.items piece origin start end s.fed s.number c.ended.result.used s.refused c.ended.result.statement
    c.self.view_is c.in_default.is p (omega (arith, i.0)) following few c.ended.ensures.used c.ended.ensures.some stated in
    let empty : c.keep_held.new.held.items ≡ [] = nothing c.keep_held.new.held.items (sym c.is_empty.ensures ∙ c.if-is_empty.true) in
    let held = holds_here c.args.self.now (seen Gap c.keep_held.new.held.items (s.fed + (end + 1)) (s.number + 1) s.refused) c.ended.result.statement _ (s.fed + start - c.kept_length-kept.result) empty (omega (arith, from)) c.ended.ensures.place c.ended.ensures.some in
    let used = some_used piece c.ended.result c.ended.ensures.some (omega (arith, c.ended.ensures.used)) (omega (arith, c.ended.ensures.used, following)) in
    let numbered = number_of c.ended.result.statement _ _ _ c.ended.ensures.place (ap (λ (v : PieceCutting). v.number + 1) c.self.view_is) in
    ((refl, λ _. tt, record { led = done.1; held = held; refused = tt }), record { used = used; number = numbered; lent = lent; going = done.0; fault = tt; place = tt; after = tt })

pub returns : goal.returns
returns c =
    let s = c.self.inside in
    let i = c.self.invariant in
    let piece = c.args.piece.now in
    let origin = c.in-Part.found.origin in
    let start = c.in-Part.found.start in
    let end = c.in-Part.found.end in
    let p : IsPart s.place s.held.items piece 0 origin start end = rw c.as_slice.ensures.value at c.in-Part.ensures in
    let kept = c.kept_length-kept.ensures s.held.items c.len.ensures.value in
    let size = length_range piece start end p.unit.within in
    let most = kept_most origin s.held.items in
    let few : length (kept_of origin s.held.items) + (end - start) ≤ 4096 = omega (arith, kept, size, c.if-kept-part.false, i.1) in
    let left : c.keep_held.new.held.items ≡ kept_of origin s.held.items = c.keep_held.ensures in
    let following : end < length piece = omega (arith, c.if-end-piece.false, p.unit.within) in
    let whole : c.as_slice-2.result.now ≡ kept_of origin s.held.items ++ slice_range piece start end =
    c.as_slice-2.ensures.value ∙ c.hold-2.ensures ∙ ap (λ xs. xs ++ slice_range piece start end) left in
    let place : s.fed + start - c.kept_length-kept.result ≡ s.fed + start - length (kept_of origin s.held.items) = ap (λ n. s.fed + start - n) kept in
    let stated = ended_stated c.ended-2.result.statement _ _ _ c.as_slice-2.result.now (kept_of origin s.held.items ++ slice_range piece start end) place whole c.ended-2.ensures.place c.ended-2.ensures.bytes in
    let done = end_step c.args.self.now s.place s.held.items c.hold-2.new.held.items piece origin start end s.fed s.number c.ended-2.result.used s.refused c.ended-2.result.statement
    c.self.view_is c.in_default.is p (omega (arith, i.0)) following few c.ended-2.ensures.used c.ended-2.ensures.some stated in
    let fed_is : s.fed ≡ c.args.self.now.fed = ap (λ (v : PieceCutting). v.fed) c.self.view_is in
    let on = kept_on origin s.held.items c.keep_held.new.held.items left (sym c.is_empty.ensures ∙ c.if-is_empty.false) in
    let first = p.first on.0 in
    let whole_is = ap length first.1 in
    let before : s.fed + start - c.kept_length-kept.result < c.args.self.now.fed = omega (arith, kept, on.1, fed_is, first.0, whole_is, most, i.0) in
    let lent = lent_before c.ended-2.result.statement _ (s.fed + start - c.kept_length-kept.result) c.args.self.now.fed c.args.piece.ref_ptr before c.ended-2.ensures.place in
    let same : c.as_slice-2.result.now ≡ c.hold-2.new.held.items = c.as_slice-2.ensures.value in
    let held = holds_before c.args.self.now (seen Gap c.hold-2.new.held.items (s.fed + (end + 1)) (s.number + 1) s.refused) c.ended-2.result.statement _ (s.fed + start - c.kept_length-kept.result) c.as_slice-2.result.now same before c.ended-2.ensures.place c.ended-2.ensures.bytes c.ended-2.ensures.some in
    let used = some_used piece c.ended-2.result c.ended-2.ensures.some (omega (arith, c.ended-2.ensures.used)) (omega (arith, c.ended-2.ensures.used, following)) in
    let numbered = number_of c.ended-2.result.statement _ _ _ c.ended-2.ensures.place (ap (λ (v : PieceCutting). v.number + 1) c.self.view_is) in
    ((refl, λ _. tt, record { led = done.1; held = held; refused = tt }), record { used = used; number = numbered; lent = lent; going = done.0; fault = tt; place = tt; after = tt })
