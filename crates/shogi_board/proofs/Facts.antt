-- What gold, horse and knight reach.
use Rattle.std.proofs.Common.{◌≡◌, ℕ, ◌<◌, ◌≤◌, ◌⊎◌, ◌↔◌, inl, inr, Some, None, length, get_or, set, arith, refl, sym, ◌∙◌, get_or-set_same, get_or-set_other}
use Rattle.std.proofs.lemmas.Bool.{cases_eq}
use Rattle.shogi_board.specs.Cells.{Cells, at, piece}
use Rattle.shogi_board.specs.Moves.{turned_for, orthogonals, gold, jumps}
use Rattle.shogi_board.specs.Reach.{Reach, Steps, Slides}
use Rattle.shogi_board.specs.Squares.{Direction, place, IsAway, file_of, rank_of}
use Rattle.shogi_board.specs.Neighbours.{IsAmong, gold_squares, beside, with_cell}
use Rattle.shogi_board.specs.declared.color.Color.{Color}
use Rattle.shogi_board.specs.declared.color.Color.TheVariants.{Black, White}
use Rattle.shogi_board.specs.declared.kind.Kind.TheVariants.{Gold, Bishop, Horse, Knight}
use Rattle.shogi_board.specs.declared.kind.Piece.{Piece}
use Rattle.shogi_board.specs.declared.square.Square.{Square}
use Rattle.shogi_board.proofs.OneOf.{OneOf, one-of, any-of}
use Rattle.shogi_board.proofs.Pieces.{mover-is}
use Rattle.shogi_board.proofs.Sight.{same-sight}
use Rattle.shogi_board.proofs.Squares.{place-bound}

-- one step along the direction, as that side sees it
abbrev Step : Color → Square → Square → Direction → Type 0
Step color a b d = IsAway a (turned_for color d) 1 b

abbrev Stands : Square → ℕ × ℕ → Type 0
Stands s p = (file_of s ≡ p.0) × (rank_of s ≡ p.1)

moves-of : (cells : Cells) (a b : Square) (p : Piece) → at cells a ≡ Some p → Reach cells a b → Steps p a b ⊎ Slides cells p a b
moves-of cells a b p h r = let e = mover-is cells a b p h r in rw e at r.moves

gold-to : (a b : Square) → OneOf (Step Black a b) gold → OneOf (Stands b) (gold_squares a)
gold-to a b h = grind arith

gold-from : (a b : Square) → (1 ≤ b.file) × (1 ≤ b.rank) → OneOf (Stands b) (gold_squares a) → OneOf (Step Black a b) gold
gold-from a b i h = grind arith

pub gold-reach : (cells : Cells) (a b : Square) → at cells a ≡ piece Black Gold → Reach cells a b ↔ IsAmong (gold_squares a) b
gold-reach cells a b h =
    let j = b.on_board in (
      λ r. elim (moves-of cells a b (record { color = Black; kind = Gold }) h r) [
        | inl step ↦ any-of (Stands b) (gold_squares a) (gold-to a b (one-of (Step Black a b) gold step))
        | inr slide ↦ absurd (omega (arith, slide.2))
      ],
      λ s. record {
        mover = record { color = Black; kind = Gold };
        stands = h;
        moves = inl (any-of (Step Black a b) gold (gold-from a b (j.0, j.2) (one-of (Stands b) (gold_squares a) s)));
      },
    )

pub knight-reach : (cells : Cells) (a b : Square) → at cells a ≡ piece Black Knight → rank_of a ≤ 2 → Reach cells a b → ⊥
knight-reach cells a b h far r =
    let j = b.on_board in
    elim (moves-of cells a b (record { color = Black; kind = Knight }) h r) [
      | inl step ↦ elim (one-of (Step Black a b) jumps step) [
        | inl away ↦ omega (arith, away.1, far, j.2)
        | inr more ↦ elim more [ inl away ↦ omega (arith, away.1, far, j.2) | inr none ↦ none ]
      ]
      | inr slide ↦ omega (arith, slide.2)
    ]

beside-to : (color : Color) (a b : Square) → OneOf (Step color a b) orthogonals → OneOf (Stands b) (beside a)
beside-to Black a b h = grind arith
beside-to White a b h = grind arith

beside-from : (color : Color) (a b : Square) → (1 ≤ b.file) × (1 ≤ b.rank) → OneOf (Stands b) (beside a) → OneOf (Step color a b) orthogonals
beside-from Black a b i h = grind arith
beside-from White a b i h = grind arith

-- what is empty beside one piece is empty beside another in its place
same-empty : (cells : Cells) (a s : Square) (p q : Piece) → length cells ≡ 81 → at (with_cell cells a (Some p)) s ≡ None → at (with_cell cells a (Some q)) s ≡ None
same-empty cells a s p q whole h =
    let low = place-bound a in
    let within : place a < length cells = omega arith in
    elim (cases_eq (place s) (place a)) [
      | inl e ↦
          let here : get_or (set cells (place a) (Some p)) (place a) None ≡ Some p = rw get_or-set_same refl in
          let there : get_or (set cells (place a) (Some p)) (place a) None ≡ None = rw e at h in
          absurd (let k = sym here ∙ there in cc)
      | inr differ ↦
          let left : get_or (set cells (place a) (Some p)) (place s) None ≡ get_or cells (place s) None = rw get_or-set_other refl in
          let right : get_or (set cells (place a) (Some q)) (place s) None ≡ get_or cells (place s) None = rw get_or-set_other refl in
          right ∙ sym left ∙ h
    ]

stands-there : (cells : Cells) (a : Square) (p : Piece) → length cells ≡ 81 → at (with_cell cells a (Some p)) a ≡ Some p
stands-there cells a p whole =
    let low = place-bound a in
    let within : place a < length cells = omega arith in
    rw get_or-set_same refl

pub horse-reach : (cells : Cells) (color : Color) (a b : Square) → length cells ≡ 81 → Reach (with_cell cells a (piece color Horse)) a b ↔ (Reach (with_cell cells a (piece color Bishop)) a b ⊎ IsAmong (beside a) b)
horse-reach cells color a b whole =
    let horse : Piece = record { color = color; kind = Horse } in
    let bishop : Piece = record { color = color; kind = Bishop } in
    let j = b.on_board in (
      λ r. elim (moves-of (with_cell cells a (Some horse)) a b horse (stands-there cells a horse whole) r) [
        | inl step ↦ inr (any-of (Stands b) (beside a) (beside-to color a b (one-of (Step color a b) orthogonals step)))
        | inr slide ↦ inl (record {
          mover = bishop;
          stands = stands-there cells a bishop whole;
          moves = inr (slide.0, slide.1, slide.2, slide.3, same-sight _ _ a b (turned_for color slide.1) (λ s. same-empty cells a s horse bishop whole) slide.4);
        })
      ],
      λ s. elim s [
        | inl r ↦ elim (moves-of (with_cell cells a (Some bishop)) a b bishop (stands-there cells a bishop whole) r) [
          | inl step ↦ absurd (omega (arith, step.2))
          | inr slide ↦ record {
            mover = horse;
            stands = stands-there cells a horse whole;
            moves = inr (slide.0, slide.1, slide.2, slide.3, same-sight _ _ a b (turned_for color slide.1) (λ s. same-empty cells a s bishop horse whole) slide.4);
          }
        ]
        | inr near ↦ record {
          mover = horse;
          stands = stands-there cells a horse whole;
          moves = inl (any-of (Step color a b) orthogonals (beside-from color a b (j.0, j.2) (one-of (Stands b) (beside a) near)));
        }
      ],
    )
