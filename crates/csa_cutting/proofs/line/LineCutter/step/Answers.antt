use Rattle.std.proofs.Common.{◌≡◌, ℕ, ◌+◌, ◌<◌, ◌≤◌, ◌-◌, ◌⊎◌, ◌∷◌, ◌++◌, Bool, true, false, List, [], length, take, slice_range, refl, sym, ap, ◌∙◌, arith, subst, inl, inr}
use Rattle.std.specs.Vec.{vec_len}
use Rattle.std.proofs.lemmas.Result.{err_from_is_err_and}
use Rattle.csa_cutting.specs.Lines.{HasNoLineEnd, Lines}
use Rattle.csa_cutting.specs.LineCutting.{LineCutting}
use Rattle.csa_cutting.specs.LineHolding.{IsRun, unfinished_of}
use Rattle.csa_cutting.specs.declared.line.HeldLine.{HeldLine}
use Rattle.csa_cutting.specs.declared.line.HeldLine.TheVariants.{Unfinished, Returned}
use Rattle.csa_cutting.proofs.LineCutting.{line_unfinished, line_waits, line_closed, line_long, line_short, length_range}
use Rattle.csa_cutting.proofs.line.LineCutter.step.Goals as goal

same_lining : (a b : List ℕ) (m n : ℕ) (f g : Bool) → a ≡ b → m ≡ n → f ≡ g → (let x : LineCutting = record { held = a; limit = m; failed = f } in let y : LineCutting = record { held = b; limit = n; failed = g } in x ≡ y)
same_lining a b m n f g p q r = rw (p, q, r) refl

forgotten : (line : HeldLine) (items held : List ℕ) → held ≡ unfinished_of line items → HasNoLineEnd items → HasNoLineEnd held
forgotten Returned items held e h = rw e tt
forgotten Unfinished items held e h = rw e h

forgotten_few : (line : HeldLine) (items held : List ℕ) (limit : ℕ) → held ≡ unfinished_of line items → length items ≤ limit → length held ≤ limit
forgotten_few Returned items held limit e h = rw e (omega arith)
forgotten_few Unfinished items held limit e h = rw e h

not_long : (b : Bool) (P : Type 0) → b ≡ false → (P → ⊥) → (b ≡ true) ⊎ P → ⊥
not_long b P h k (inl t) = cc
not_long b P h k (inr p) = k p

pub returns-then-self-len : goal.returns-then-self-len
returns-then-self-len c =
    let same : c.forget.new.held.items ≡ c.args.self.now.held = c.forget.ensures ∙ ap (λ (v : LineCutting). v.held) c.self.view_is in
    let limit : c.self.inside.limit ≡ c.args.self.now.limit = ap (λ (v : LineCutting). v.limit) c.self.view_is in
    let solid : HasNoLineEnd c.args.self.now.held = subst HasNoLineEnd same (forgotten c.self.inside.held_line c.self.inside.held.items c.forget.new.held.items c.forget.ensures c.self.invariant.1) in
    let run : IsRun c.args.self.now.held c.args.piece.now c.first_run-start.result.0 c.first_run-start.result.1 =
    rw (c.as_slice.ensures.value, same) at c.first_run-start.ensures in
    let size : length c.args.self.now.held ≡ vec_len c.forget.new.held = ap length (sym same ∙ sym c.as_slice.ensures.value) ∙ c.as_slice.ensures.len in
    let count = length_range c.args.piece.now c.first_run-start.result.0 c.first_run-start.result.1 run.within in
    let long = line_long c.args.self.now.held c.args.piece.now c.first_run-start.result.0 c.first_run-start.result.1 c.args.self.now.limit run solid
    (omega (arith, c.if-self-len.true, c.len.ensures, count, run.order)) in
    ((refl, λ _. tt, same_lining _ _ _ _ true true same limit refl), record { long = (λ _. inr long, λ _. refl); lines = tt; rests = tt })

pub returns-in_err-extend_from_slice : goal.returns-in_err-extend_from_slice
returns-in_err-extend_from_slice c =
    let same : c.forget.new.held.items ≡ c.args.self.now.held = c.forget.ensures ∙ ap (λ (v : LineCutting). v.held) c.self.view_is in
    let limit : c.self.inside.limit ≡ c.args.self.now.limit = ap (λ (v : LineCutting). v.limit) c.self.view_is in
    let failed : c.self.inside.failed ≡ c.args.self.now.failed = ap (λ (v : LineCutting). v.failed) c.self.view_is in
    let solid : HasNoLineEnd c.args.self.now.held = subst HasNoLineEnd same (forgotten c.self.inside.held_line c.self.inside.held.items c.forget.new.held.items c.forget.ensures c.self.invariant.1) in
    let run : IsRun c.args.self.now.held c.args.piece.now c.first_run-start.result.0 c.first_run-start.result.1 =
    rw (c.as_slice.ensures.value, same) at c.first_run-start.ensures in
    let size : length c.args.self.now.held ≡ vec_len c.forget.new.held = ap length (sym same ∙ sym c.as_slice.ensures.value) ∙ c.as_slice.ensures.len in
    let count = length_range c.args.piece.now c.first_run-start.result.0 c.first_run-start.result.1 run.within in
    let few : length c.forget.new.held.items ≤ c.self.inside.limit = forgotten_few c.self.inside.held_line c.self.inside.held.items c.forget.new.held.items c.self.inside.limit c.forget.ensures c.self.invariant.0 in
    let same_length = ap length same in
    let short = line_short c.args.self.now.held c.args.piece.now c.first_run-start.result.0 c.first_run-start.result.1 c.args.self.now.limit run solid
    (omega (arith, c.if-self-len.false, c.len.ensures, count, run.order)) in
    let p = err_from_is_err_and c.from_residual.result c.from_residual.ensures.1 in
    let kept : c.extend_from_slice.new.self.items ≡ c.args.self.now.held = c.in_err-extend_from_slice.ensures.items ∙ same in
    rw (p.1, p.2) (
      (refl, λ _. tt, same_lining _ _ _ _ _ _ kept limit failed),
      record { long = (λ h. cc, λ h. absurd (not_long c.args.self.now.failed _ (sym failed ∙ c.if-self.false) short h)); lines = tt; rests = tt },
    )

pub returns-then-end-piece : goal.returns-then-end-piece
returns-then-end-piece c =
    let same : c.forget.new.held.items ≡ c.args.self.now.held = c.forget.ensures ∙ ap (λ (v : LineCutting). v.held) c.self.view_is in
    let limit : c.self.inside.limit ≡ c.args.self.now.limit = ap (λ (v : LineCutting). v.limit) c.self.view_is in
    let failed : c.self.inside.failed ≡ c.args.self.now.failed = ap (λ (v : LineCutting). v.failed) c.self.view_is in
    let solid : HasNoLineEnd c.args.self.now.held = subst HasNoLineEnd same (forgotten c.self.inside.held_line c.self.inside.held.items c.forget.new.held.items c.forget.ensures c.self.invariant.1) in
    let run : IsRun c.args.self.now.held c.args.piece.now c.first_run-start.result.0 c.first_run-start.result.1 =
    rw (c.as_slice.ensures.value, same) at c.first_run-start.ensures in
    let size : length c.args.self.now.held ≡ vec_len c.forget.new.held = ap length (sym same ∙ sym c.as_slice.ensures.value) ∙ c.as_slice.ensures.len in
    let count = length_range c.args.piece.now c.first_run-start.result.0 c.first_run-start.result.1 run.within in
    let few : length c.forget.new.held.items ≤ c.self.inside.limit = forgotten_few c.self.inside.held_line c.self.inside.held.items c.forget.new.held.items c.self.inside.limit c.forget.ensures c.self.invariant.0 in
    let same_length = ap length same in
    let short = line_short c.args.self.now.held c.args.piece.now c.first_run-start.result.0 c.first_run-start.result.1 c.args.self.now.limit run solid
    (omega (arith, c.if-self-len.false, c.len.ensures, count, run.order)) in
    let more : c.extend_from_slice.new.self.items ≡ c.args.self.now.held ++ slice_range c.args.piece.now c.first_run-start.result.0 c.first_run-start.result.1 =
    c.in_ok-extend_from_slice.ensures.items ∙ ap (λ xs. xs ++ slice_range c.args.piece.now c.first_run-start.result.0 c.first_run-start.result.1) same in
    let lines : Lines (c.args.self.now.held ++ c.args.piece.now) [] c.extend_from_slice.new.self.items =
    rw more (line_unfinished c.args.self.now.held c.args.piece.now c.first_run-start.result.0 c.first_run-start.result.1 run solid c.if-end-piece.true) in (
      (refl, λ _. tt, (limit, c.if-self.false, lines)),
      record { long = (λ h. cc, λ h. absurd (not_long c.args.self.now.failed _ (sym failed ∙ c.if-self.false) short h)); lines = (run.within, c.if-end-piece.true); rests = tt },
    )

pub returns : goal.returns
returns c =
    let same : c.forget.new.held.items ≡ c.args.self.now.held = c.forget.ensures ∙ ap (λ (v : LineCutting). v.held) c.self.view_is in
    let limit : c.self.inside.limit ≡ c.args.self.now.limit = ap (λ (v : LineCutting). v.limit) c.self.view_is in
    let failed : c.self.inside.failed ≡ c.args.self.now.failed = ap (λ (v : LineCutting). v.failed) c.self.view_is in
    let solid : HasNoLineEnd c.args.self.now.held = subst HasNoLineEnd same (forgotten c.self.inside.held_line c.self.inside.held.items c.forget.new.held.items c.forget.ensures c.self.invariant.1) in
    let run : IsRun c.args.self.now.held c.args.piece.now c.first_run-start.result.0 c.first_run-start.result.1 =
    rw (c.as_slice.ensures.value, same) at c.first_run-start.ensures in
    let size : length c.args.self.now.held ≡ vec_len c.forget.new.held = ap length (sym same ∙ sym c.as_slice.ensures.value) ∙ c.as_slice.ensures.len in
    let count = length_range c.args.piece.now c.first_run-start.result.0 c.first_run-start.result.1 run.within in
    let few : length c.forget.new.held.items ≤ c.self.inside.limit = forgotten_few c.self.inside.held_line c.self.inside.held.items c.forget.new.held.items c.self.inside.limit c.forget.ensures c.self.invariant.0 in
    let same_length = ap length same in
    let short = line_short c.args.self.now.held c.args.piece.now c.first_run-start.result.0 c.first_run-start.result.1 c.args.self.now.limit run solid
    (omega (arith, c.if-self-len.false, c.len.ensures, count, run.order)) in
    let more : c.as_slice-2.result.now ≡ c.args.self.now.held ++ slice_range c.args.piece.now c.first_run-start.result.0 c.first_run-start.result.1 =
    c.as_slice-2.ensures.value ∙ c.in_ok-extend_from_slice.ensures.items ∙ ap (λ xs. xs ++ slice_range c.args.piece.now c.first_run-start.result.0 c.first_run-start.result.1) same in
    let left : c.first_run-start.result.1 < length c.args.piece.now = omega (arith, c.if-end-piece.false, run.within) in
    let lines : Lines (c.args.self.now.held ++ take (c.first_run-start.result.1 + 1) c.args.piece.now) (c.as_slice-2.result.now ∷ []) [] =
    rw more (line_closed c.args.self.now.held c.args.piece.now c.first_run-start.result.0 c.first_run-start.result.1 run solid left) in
    let before : c.first_run-start.result.1 + 1 - 1 ≡ c.first_run-start.result.1 = omega arith in
    let waits : Lines (c.args.self.now.held ++ take (c.first_run-start.result.1 + 1 - 1) c.args.piece.now) [] c.as_slice-2.result.now =
    rw (before, more) (line_waits c.args.self.now.held c.args.piece.now c.first_run-start.result.0 c.first_run-start.result.1 run solid) in (
      (refl, λ _. tt, (limit, c.if-self.false, refl)),
      record { long = (λ h. cc, λ h. absurd (not_long c.args.self.now.failed _ (sym failed ∙ c.if-self.false) short h)); lines = (omega arith, (omega arith, lines, waits)); rests = tt },
    )
