-- Reach on the board turned round.
use Rattle.std.proofs.Common.{◌≡◌, ◌↔◌, ℕ, ◌+◌, ◌-◌, ◌*◌, ◌≤◌, inl, inr, Option, Some, None, length, get_or, map, arith, refl, sym, ap, ◌∙◌}
use Rattle.std.proofs.lemmas.List.{length-map, length-reverse, get_or-reverse, get_or-map}
use Rattle.shogi_board.specs.Cells.{Cells, at}
use Rattle.shogi_board.specs.Moves.{turned_for}
use Rattle.shogi_board.specs.Directions.{IsNear}
use Rattle.shogi_board.specs.Pieces.{opponent}
use Rattle.shogi_board.specs.Reach.{Reach, InSight, IsClear}
use Rattle.shogi_board.specs.Squares.{Direction, place, IsAway}
use Rattle.shogi_board.specs.Turned.{turned, turned_cell, IsTurned}
use Rattle.shogi_board.specs.declared.color.Color.{Color}
use Rattle.shogi_board.specs.declared.color.Color.TheVariants.{Black, White}
use Rattle.shogi_board.specs.declared.kind.Piece.{Piece}
use Rattle.shogi_board.specs.declared.square.Square.{Square}
use Rattle.shogi_board.proofs.Pieces.{opponent-twice}
use Rattle.shogi_board.proofs.Rays.{near-step, near-ray}
use Rattle.shogi_board.proofs.Sight.{same-sight}
use Rattle.shogi_board.proofs.Squares.{place-bound}

flip : (x y u v n f g : ℕ) → f + g ≡ 4 → x + u ≡ 10 → y + v ≡ 10 → y + n * 2 ≡ x + n * f → v + n * 2 ≡ u + n * g
flip x y u v n f g s p q h =
    let e : n * (f + g) ≡ n * 4 = ap (λ m. n * m) s in
    omega (arith, e)

pub turn-away : (a b c d : Square) (color : Color) (dir : Direction) (n : ℕ) → IsNear dir → IsTurned a c → IsTurned b d → IsAway a (turned_for color dir) n b → IsAway c (turned_for (opponent color) dir) n d
turn-away a b c d Black dir n near p q away =
    let low : dir.files ≤ 4 = near.0 in
    let high : dir.ranks ≤ 4 = near.1 in (
      flip a.file b.file c.file d.file n dir.files (4 - dir.files) (omega arith) p.0 q.0 away.0,
      flip a.rank b.rank c.rank d.rank n dir.ranks (4 - dir.ranks) (omega arith) p.1 q.1 away.1,
    )
turn-away a b c d White dir n near p q away =
    let low : dir.files ≤ 4 = near.0 in
    let high : dir.ranks ≤ 4 = near.1 in (
      flip a.file b.file c.file d.file n (4 - dir.files) dir.files (omega arith) p.0 q.0 away.0,
      flip a.rank b.rank c.rank d.rank n (4 - dir.ranks) dir.ranks (omega arith) p.1 q.1 away.1,
    )

pub at-turned : (cells : Cells) (s t : Square) → length cells ≡ 81 → IsTurned s t → at (turned cells) t ≡ turned_cell (at cells s)
at-turned cells s t whole p =
    let h = s.on_board in
    let k = t.on_board in
    let low = place-bound s in
    let high = place-bound t in
    let long : length (map turned_cell cells) ≡ 81 = length-map cells turned_cell ∙ whole in
    let seat : length (map turned_cell cells) - 1 - place t ≡ place s = omega (arith, long, p.0, p.1) in
    get_or-reverse (map turned_cell cells) (place t) None (omega (arith, long))
    ∙ ap (λ n. get_or (map turned_cell cells) n None) seat
    ∙ get_or-map turned_cell cells (place s) None None (omega arith)

pub turned-square : (s : Square) → (t : Square) × IsTurned s t
turned-square s =
    let h = s.on_board in
    (record { file = 10 - s.file; rank = 10 - s.rank; on_board = (omega arith, omega arith, omega arith, omega arith) }, (omega arith, omega arith))

turn-clear : (cells : Cells) (a c : Square) (color : Color) (dir : Direction) (n : ℕ) → length cells ≡ 81 → IsNear dir → IsTurned a c → IsClear cells a (turned_for color dir) n → IsClear (turned cells) c (turned_for (opponent color) dir) n
turn-clear cells a c color dir n whole near p clear k s low high away =
    let other = turned-square s in
    let t = other.0 in
    let q = other.1 in
    let back : IsTurned t s = (omega (arith, q.0), omega (arith, q.1)) in
    let there = turn-away c s a t (opponent color) dir k near (omega (arith, p.0), omega (arith, p.1)) q away in
    let here : IsAway a (turned_for color dir) k t = rw (opponent-twice color) at there in
    at-turned cells t s whole back ∙ ap turned_cell (clear k t low high here)

pub turn-reach : (cells : Cells) (a b c d : Square) → length cells ≡ 81 → IsTurned a c → IsTurned b d → Reach cells a b → Reach (turned cells) c d
turn-reach cells a b c d whole p q reach = record {
  mover = record reach.mover { color = opponent reach.mover.color };
  stands = at-turned cells a c whole p ∙ ap turned_cell reach.stands;
  moves = elim reach.moves [
    | inl step ↦
        let near = near-step reach.mover.kind step.0 step.1 step.2 step.3 in
        inl (step.0, step.1, step.2, step.3, turn-away a b c d reach.mover.color step.1 1 near p q step.4)
    | inr slide ↦
        let near = near-ray reach.mover.kind slide.0 slide.1 slide.2 slide.3 in
        let sight = slide.4 in
        let turned_sight : InSight (turned cells) c (turned_for (opponent reach.mover.color) slide.1) d = record {
          distance = sight.distance;
          some = sight.some;
          away = turn-away a b c d reach.mover.color slide.1 sight.distance near p q sight.away;
          clear = turn-clear cells a c reach.mover.color slide.1 sight.distance whole near p sight.clear;
        } in
        inr (slide.0, slide.1, slide.2, slide.3, turned_sight)
  ];
}

turned-turned : (cell : Option Piece) → turned_cell (turned_cell cell) ≡ cell
turned-turned None = refl
turned-turned (Some p) = ap (λ (c : Color). Some (record p { color = c })) (opponent-twice p.color)

-- the board turned round twice
at-twice : (cells : Cells) (s : Square) → length cells ≡ 81 → at (turned (turned cells)) s ≡ at cells s
at-twice cells s whole =
    let other = turned-square s in
    let q = other.1 in
    let long : length (turned cells) ≡ 81 = length-reverse (map turned_cell cells) ∙ (length-map cells turned_cell ∙ whole) in
    let back : IsTurned other.0 s = (omega (arith, q.0), omega (arith, q.1)) in
    at-turned (turned cells) other.0 s long back ∙ (ap turned_cell (at-turned cells s other.0 whole q) ∙ turned-turned (at cells s))

same-reach : (cells others : Cells) (a b : Square) → ((s : Square) → at others s ≡ at cells s) → Reach cells a b → Reach others a b
same-reach cells others a b same reach = record {
  mover = reach.mover;
  stands = same a ∙ reach.stands;
  moves = elim reach.moves [
    | inl step ↦ inl step
    | inr slide ↦
        inr (slide.0, slide.1, slide.2, slide.3, same-sight cells others a b (turned_for reach.mover.color slide.1) (λ s empty. same s ∙ empty) slide.4)
  ];
}

pub turned-reach : (cells : Cells) (a b c d : Square) → length cells ≡ 81 → IsTurned a c → IsTurned b d → Reach cells a b ↔ Reach (turned cells) c d
turned-reach cells a b c d whole p q =
    let long : length (turned cells) ≡ 81 = length-reverse (map turned_cell cells) ∙ (length-map cells turned_cell ∙ whole) in
    let p_back : IsTurned c a = (omega (arith, p.0), omega (arith, p.1)) in
    let q_back : IsTurned d b = (omega (arith, q.0), omega (arith, q.1)) in (
      turn-reach cells a b c d whole p q,
      λ r. same-reach (turned (turned cells)) cells a b (λ s. sym (at-twice cells s whole)) (turn-reach (turned cells) c d a b long p_back q_back r),
    )
