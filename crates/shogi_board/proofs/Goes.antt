-- Along a line a piece reaches what its kind goes to.
use Rattle.std.proofs.Common.{◌≡◌, ℕ, ◌≤◌, ◌⊎◌, inl, inr, Any, Contains, arith, refl, sym, ap, subst, ◌∙◌}
use Rattle.shogi_board.specs.Directions.{IsNowhere, Lies}
use Rattle.shogi_board.specs.Cells.{Cells}
use Rattle.shogi_board.specs.Moves.{IsRay, rays, steps, turned_for}
use Rattle.shogi_board.specs.Directions.{IsNear, Goes}
use Rattle.shogi_board.specs.Reach.{InSight, IsClear, Slides, Steps}
use Rattle.shogi_board.specs.Squares.{Direction, IsAway}
use Rattle.shogi_board.specs.declared.color.Color.{Color}
use Rattle.shogi_board.specs.declared.color.Color.TheVariants.{Black, White}
use Rattle.shogi_board.specs.declared.kind.Kind.TheVariants.{Knight}
use Rattle.shogi_board.specs.declared.kind.Piece.{Piece}
use Rattle.shogi_board.specs.declared.square.Square.{Square}
use Rattle.shogi_board.proofs.Between.{direction-same, lies-once, no-jump}
use Rattle.shogi_board.proofs.Rays.{every-at, every-ray, every-step, ray-near, turned-ray}
use Rattle.shogi_board.proofs.OneOf.{one-of}

pub turned-twice : (color : Color) (d : Direction) → IsNear d → turned_for color (turned_for color d) ≡ d
turned-twice Black d near = refl
turned-twice White d near =
    let files : d.files ≤ 4 = near.0 in
    let ranks : d.ranks ≤ 4 = near.1 in
    direction-same (turned_for White (turned_for White d)) d (omega arith) (omega arith)

turned-from : (color : Color) (d e : Direction) → IsRay e → turned_for color e ≡ d → e ≡ turned_for color d
turned-from color d e ray h = sym (turned-twice color e (ray-near e ray)) ∙ ap (turned_for color) h

abbrev pub Jump : Color → Square → Square → Direction → Type 0
Jump color a b e = IsAway a (turned_for color e) 1 b

jumps-off : (color : Color) (a b : Square) (d : Direction) (n : ℕ) → IsRay d → IsAway a d n b → Any (Jump color a b) (steps Knight) → ⊥
jumps-off Black a b d n ray away any =
    elim (one-of (Jump Black a b) (steps Knight) any) [
      | inl h ↦ no-jump a b d n ray away (inr (omega (arith, h.0))) (inl (omega (arith, h.1)))
      | inr more ↦ elim more [
        | inl h ↦ no-jump a b d n ray away (inl (omega (arith, h.0))) (inl (omega (arith, h.1)))
        | inr none ↦ none
      ]
    ]
jumps-off White a b d n ray away any =
    elim (one-of (Jump White a b) (steps Knight) any) [
      | inl h ↦ no-jump a b d n ray away (inl (omega (arith, h.0))) (inr (omega (arith, h.1)))
      | inr more ↦ elim more [
        | inl h ↦ no-jump a b d n ray away (inr (omega (arith, h.0))) (inr (omega (arith, h.1)))
        | inr none ↦ none
      ]
    ]

-- where the kind goes so far, a step or a ray leads there
pub goes-moves : (cells : Cells) (p : Piece) (a b : Square) (d : Direction) (n : ℕ) → Lies a b d n → IsClear cells a d n → Goes p.kind (turned_for p.color d) n → Steps p a b ⊎ Slides cells p a b
goes-moves cells p a b d n lies clear goes =
    let e = turned_for p.color d in
    let same : d ≡ turned_for p.color e = sym (turned-twice p.color d (ray-near d lies.0)) in
    let away : IsAway a (turned_for p.color e) n b = subst (λ x. IsAway a x n b) same lies.2 in
    elim goes [
      | inl g ↦ inl (g.1.0, e, g.1.1, g.1.2, subst (λ k. IsAway a (turned_for p.color e) k b) g.0 away)
      | inr g ↦
          inr (g.0, e, g.1, g.2, record { distance = n; some = lies.1; away = away; clear = subst (λ x. IsClear cells a x n) same clear })
    ]

step-goes : (cells : Cells) (p : Piece) (a b : Square) (d : Direction) (n : ℕ) → Lies a b d n → Steps p a b → Goes p.kind (turned_for p.color d) n × IsClear cells a d n
step-goes cells p a b d n lies step =
    elim (every-step p.kind) [
      | inl all ↦
          let e = step.1 in
          let ray : IsRay e = every-at IsRay (steps p.kind) step.0 e all step.2 step.3 in
          let one = lies-once a b (turned_for p.color e) d 1 n (turned-ray p.color e ray) lies.0 (omega arith) lies.1 step.4 lies.2 in
          let is : e ≡ turned_for p.color d = turned-from p.color d e ray one.0 in
          let there : Contains (steps p.kind) (turned_for p.color d) = subst (λ x. Contains (steps p.kind) x) is (step.0, step.2, step.3) in
          let far = one.1 in
          (inl (sym far, there), λ k s low high _. absurd (omega (arith, low, high, far)))
      | inr knight ↦
          let jump : Any (Jump p.color a b) (steps Knight) = subst (λ k. Any (Jump p.color a b) (steps k)) knight step in
          absurd (jumps-off p.color a b d n lies.0 lies.2 jump)
    ]

slide-goes : (cells : Cells) (p : Piece) (a b : Square) (d : Direction) (n : ℕ) → Lies a b d n → Slides cells p a b → Goes p.kind (turned_for p.color d) n × IsClear cells a d n
slide-goes cells p a b d n lies slide =
    let e = slide.1 in
    let ray : IsRay e = every-at IsRay (rays p.kind) slide.0 e (every-ray p.kind) slide.2 slide.3 in
    let sight : InSight cells a (turned_for p.color e) b = slide.4 in
    let one = lies-once a b (turned_for p.color e) d sight.distance n (turned-ray p.color e ray) lies.0 sight.some lies.1 sight.away lies.2 in
    let is : e ≡ turned_for p.color d = turned-from p.color d e ray one.0 in
    let there : Contains (rays p.kind) (turned_for p.color d) = subst (λ x. Contains (rays p.kind) x) is (slide.0, slide.2, slide.3) in
    let clear : IsClear cells a d sight.distance = subst (λ x. IsClear cells a x sight.distance) one.0 sight.clear in
    (inr there, subst (λ k. IsClear cells a d k) one.1 clear)

-- and where one leads along a line the kind goes so far, and the way is clear
pub moves-goes : (cells : Cells) (p : Piece) (a b : Square) (d : Direction) (n : ℕ) → Lies a b d n → Steps p a b ⊎ Slides cells p a b → Goes p.kind (turned_for p.color d) n × IsClear cells a d n
moves-goes cells p a b d n lies moves =
    elim moves [ inl step ↦ step-goes cells p a b d n lies step | inr slide ↦ slide-goes cells p a b d n lies slide ]

-- no piece but a knight reaches a square that lies in no direction
pub nowhere-none : (cells : Cells) (p : Piece) (a b : Square) → (p.kind ≡ Knight → ⊥) → IsNowhere a b → Steps p a b ⊎ Slides cells p a b → ⊥
nowhere-none cells p a b other nowhere moves =
    elim moves [
      | inl step ↦ elim (every-step p.kind) [
        | inl all ↦
            nowhere (turned_for p.color step.1) 1 (turned-ray p.color step.1 (every-at IsRay (steps p.kind) step.0 step.1 all step.2 step.3)) (omega arith) step.4
        | inr knight ↦ other knight
      ]
      | inr slide ↦
          let sight : InSight cells a (turned_for p.color slide.1) b = slide.4 in
          nowhere (turned_for p.color slide.1) sight.distance (turned-ray p.color slide.1 (every-at IsRay (rays p.kind) slide.0 slide.1 (every-ray p.kind) slide.2 slide.3)) sight.some sight.away
    ]
