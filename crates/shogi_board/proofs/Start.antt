-- The even board keeps the totals, and neither king is attacked.
use Rattle.std.proofs.Common.{◌≡◌, ℕ, zero, suc, is_some, ◌+◌, ◌-◌, ◌*◌, ◌<◌, ◌≤◌, ◌&&◌, ◌||◌, not, Bool, true, Option, Some, None, get_or, arith, refl, ap, ◌∙◌, lit≤, nat_le, ◌==◌, inl, inr}
use Rattle.std.proofs.lemmas.Bool.{and_parts, cases_lt}
use Rattle.shogi_board.specs.Cells.{at, even_cells}
use Rattle.shogi_board.specs.Moves.{IsRay, turned_for}
use Rattle.shogi_board.specs.Pieces.{opponent, same_color}
use Rattle.shogi_board.specs.Placed.{even_start}
use Rattle.shogi_board.specs.Sound.{IsSound}
use Rattle.shogi_board.specs.Reach.{Attacked, InCheck, IsClear, InSight}
use Rattle.shogi_board.specs.Squares.{Direction, IsAway}
use Rattle.shogi_board.specs.Totals.{IsWithinTotals, total, limit, kings_of, bare_board}
use Rattle.shogi_board.specs.declared.color.Color.{Color}
use Rattle.shogi_board.specs.declared.color.Color.TheVariants.{Black, White}
use Rattle.shogi_board.specs.declared.kind.Kind.{Kind}
use Rattle.shogi_board.specs.declared.kind.Kind.TheVariants.{Pawn}
use Rattle.shogi_board.specs.declared.kind.Piece.{Piece}
use Rattle.shogi_board.specs.declared.square.Square.{Square}
use Rattle.shogi_board.proofs.Check.{king-safe}
use Rattle.shogi_board.proofs.Between.{offset}
use Rattle.shogi_board.proofs.Rays.{ray-at}
use Rattle.shogi_board.proofs.Turned.{at-turned, turn-reach, turned-square}
use Rattle.shogi_board.proofs.Pieces.{mover-is}
use Rattle.shogi_board.specs.Turned.{turned_cell}

pub even-full : (k : Kind) → total (bare_board even_cells) k ≡ limit k
even-full Pawn = refl
even-full _ = refl

even-totals : (k : Kind) → total (bare_board even_cells) k ≤ limit k
even-totals k = let full = even-full k in omega (arith, full)

pub even-kings : (c : Color) → kings_of even_cells c ≤ 1
even-kings Black = lit≤ tt
even-kings White = lit≤ tt

pub even-within : IsWithinTotals (bare_board even_cells)
even-within = record { squares = refl; black_kinds = refl; white_kinds = refl; totals = even-totals; kings = even-kings }

all_below : (ℕ → Bool) → ℕ → Bool
all_below test zero = true
all_below test (suc n) = test n && all_below test n

all_below-at : (test : ℕ → Bool) (m n : ℕ) → all_below test m ≡ true → n < m → test n ≡ true
unfolding all_below
all_below-at test zero n h lt = absurd (omega arith)
all_below-at test (suc m) n h lt =
    elim (cases_lt n m) [
      | inl low ↦ all_below-at test m n (and_parts _ _ h).1 low
      | inr high ↦ let e : n ≡ m = omega arith in rw e (and_parts _ _ h).0
    ]

-- a test passes at each square of the even board, by its file and rank from 0
abbrev grid : (Option Piece → ℕ → Bool) → Bool
grid test = all_below (λ f. all_below (λ r. test (get_or even_cells (f * 9 + r) None) r) 9) 9

grid-at : (test : Option Piece → ℕ → Bool) (s : Square) → grid test ≡ true → test (at even_cells s) (s.rank - 1) ≡ true
grid-at test s h =
    let b = s.on_board in
    all_below-at (λ r. test (get_or even_cells ((s.file - 1) * 9 + r) None) r) 9 (s.rank - 1)
    (all_below-at (λ f. all_below (λ r. test (get_or even_cells (f * 9 + r) None) r) 9) 9 (s.file - 1) h (omega arith)) (omega arith)

-- black's pieces are on the ranks 7 to 9
abbrev is_home : Option Piece → ℕ → Bool
is_home None r = true
is_home (Some p) r = same_color p.color White || nat_le 6 r

home : grid is_home ≡ true
unfolding all_below
home = refl

-- rank 3 is full
abbrev is_full_rank : Option Piece → ℕ → Bool
is_full_rank cell r = not (r == 2) || is_some cell

full : grid is_full_rank ≡ true
unfolding all_below
full = refl

black-rank : (a : Square) (p : Piece) → at even_cells a ≡ Some p → p.color ≡ Black → 7 ≤ a.rank
black-rank a p h e =
    let t = grid-at is_home a home in
    let v : nat_le 6 (a.rank - 1) ≡ true = rw (h, e) at t in
    let w : 6 ≤ a.rank - 1 = grind arith in
    omega arith

not-empty : (s : Square) → s.rank ≡ 3 → at even_cells s ≡ None → ⊥
not-empty s e h =
    let t = grid-at is_full_rank s full in
    let u = rw (h, e) at t in
    cc

-- the square two before the end
two-before : (a s b : Square) (d : Direction) (m : ℕ) → IsAway a d (m + 2) b → IsAway s d 2 b → IsAway a d m s
two-before a s b d m h k = (omega (arith, h.0, k.0), omega (arith, h.1, k.1))

white_king : Square
white_king = record { file = 5; rank = 1; on_board = (lit≤ tt, lit≤ tt, lit≤ tt, lit≤ tt) }

black_king : Square
black_king = record { file = 5; rank = 9; on_board = (lit≤ tt, lit≤ tt, lit≤ tt, lit≤ tt) }

-- a square two steps from white's king on rank 3
white-front : (d : Direction) → IsRay d → d.ranks ≡ 1 → (s : Square) × (s.rank ≡ 3) × IsAway s d 2 white_king
unfolding white_king
white-front d ray e =
    let a : 1 ≤ d.files = ray.0 in
    let b : d.files ≤ 3 = ray.1 in
    (record { file = 9 - 2 * d.files; rank = 3; on_board = (omega arith, omega arith, lit≤ tt, lit≤ tt) }, refl, (omega arith, omega arith))

-- a look that would pass the square in front of the pawns' rank does not reach the king
blocked : (a s b : Square) (d : Direction) (n : ℕ) → 3 ≤ n → s.rank ≡ 3 → IsAway s d 2 b → IsAway a d n b → IsClear even_cells a d n → ⊥
blocked a s b d n far rank short away clear =
    let e : n ≡ (n - 2) + 2 = omega arith in
    let long : IsAway a d ((n - 2) + 2) b = rw (← e) away in
    not-empty s rank (clear (n - 2) s (omega arith) (omega arith) (two-before a s b d (n - 2) long short))

white-seen : (a : Square) (d : Direction) → IsRay d → 7 ≤ a.rank → InSight even_cells a d white_king → ⊥
unfolding white_king
white-seen a d ray far sight =
    elim (offset a.rank 1 sight.distance d.ranks ray.2 ray.3 sight.away.1) [
      | inl up ↦
          let front = white-front d ray up.0 in
          let away = up.1 in
          blocked a front.0 white_king d sight.distance (omega (arith, away, far)) front.1 front.2 sight.away sight.clear
      | inr other ↦ grind arith
    ]

white-safe : Attacked even_cells White white_king → ⊥
unfolding white_king
white-safe (a, attack) =
    let far : 7 ≤ a.rank = black-rank a attack.reach.mover attack.reach.stands attack.enemy in
    let reach = attack.reach in
    elim reach.moves [
      | inl step ↦
          let away : IsAway a (turned_for reach.mover.color step.1) 1 white_king = step.4 in
          omega (arith, away.1)
      | inr slide ↦
          white-seen a (turned_for reach.mover.color slide.1) (ray-at reach.mover.color reach.mover.kind slide.0 slide.1 slide.2 slide.3) far slide.4
    ]

-- the even board turned round is the same
black-safe : Attacked even_cells Black black_king → ⊥
unfolding white_king black_king
black-safe (a, attack) =
    let t = turned-square a in
    let reach = turn-reach even_cells a black_king t.0 white_king refl t.1 (refl, refl) attack.reach in
    let mover = mover-is even_cells t.0 white_king (record attack.reach.mover { color = opponent attack.reach.mover.color }) (at-turned even_cells a t.0 refl t.1 ∙ ap turned_cell attack.reach.stands) reach in
    white-safe (t.0, record { reach = reach; enemy = ap (λ (p : Piece). p.color) mover ∙ ap opponent attack.enemy })

-- neither king is attacked
pub even-safe : (c : Color) → InCheck even_cells c → ⊥
unfolding white_king black_king
even-safe White check = king-safe even_cells White white_king refl (lit≤ tt) refl white-safe check
even-safe Black check = king-safe even_cells Black black_king refl (lit≤ tt) refl black-safe check

pub even-sound-for : (side : Color) → IsSound (record even_start { side = side })
even-sound-for side = record { within = even-within; safe = even-safe (opponent side) }

pub even-sound : IsSound even_start
even-sound = even-sound-for Black
