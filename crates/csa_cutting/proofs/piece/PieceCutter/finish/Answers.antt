use Rattle.std.proofs.Common.{◌≡◌, ◌+◌, arith, true, false, refl, sym, ap, ◌∙◌}
use Rattle.csa_cutting.specs.Cut.{statement_bytes}
use Rattle.csa_cutting.specs.PieceCutting.{PieceCutting}
use Rattle.csa_cutting.specs.Places.{has_unit}
use Rattle.csa_cutting.proofs.Unfinished.{none_left, one_left}
use Rattle.csa_cutting.proofs.piece.PieceCutter.finish.Goals as goal

pub returns-then-not-unfinished : goal.returns-then-not-unfinished
returns-then-not-unfinished c =
    let s = c.self.inside in
    let h : has_unit s.place s.held.items ≡ false = sym (c.is_unfinished-unfinished.ensures ∙ ap (has_unit s.place) c.as_slice.ensures.value) ∙ c.if-not-unfinished.true in
    let done = none_left c.args.self.now s.place s.held.items s.fed s.number s.refused c.self.view_is c.in_default.is h c.self.invariant.2 in
    ((refl, λ _. tt, done.2), record { number = tt; going = done.0; last = done.1; fault = tt; place = tt; after = tt })

pub returns : goal.returns
returns c =
    let s = c.self.inside in
    let h : has_unit s.place s.held.items ≡ true = sym (c.is_unfinished-unfinished.ensures ∙ ap (has_unit s.place) c.as_slice.ensures.value) ∙ c.if-not-unfinished.false in
    let bytes : c.handed_out.result.now ≡ statement_bytes s.held.items = c.handed_out.ensures.value ∙ ap statement_bytes c.as_slice-2.ensures.value in
    let done = one_left c.args.self.now s.place s.held.items s.fed s.number s.refused _ c.self.view_is c.in_default.is h c.self.invariant.2 c.self.invariant.1 refl (omega (arith, c.len.ensures.value)) bytes in
    let numbered = ap (λ (v : PieceCutting). v.number + 1) c.self.view_is in
    ((refl, λ _. tt, done.2), record { number = numbered; going = done.0; last = done.1; fault = tt; place = tt; after = tt })
