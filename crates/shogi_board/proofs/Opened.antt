-- A king that was not attacked is attacked after a move by the piece that moved, or across the
-- square which that left.
use Rattle.std.proofs.Common.{◌≡◌, ◌≢◌, ℕ, zero, suc, ◌+◌, ◌*◌, ◌<◌, ◌≤◌, ◌↔◌, IsTrue, Bool, false, not, Option, Some, None, ◌⊎◌, inl, inr, Any, arith, ap, sym, ◌∙◌, subst, refl, get_or-set_other}
use Rattle.std.specs.Prelude.{MatchOption}
use Rattle.std.proofs.lemmas.Bool.{cases_eq, cases_lt}
use Rattle.std.proofs.lemmas.Option.{same_Some}
use Rattle.shogi_board.specs.Cells.{at, piece}
use Rattle.shogi_board.specs.Danger.{SeenTowards}
use Rattle.shogi_board.specs.Moves.{rays, turned_for}
use Rattle.shogi_board.specs.Pieces.{opponent}
use Rattle.shogi_board.specs.Placed.{Placed}
use Rattle.shogi_board.specs.Reach.{Attack, Attacked, Checks, InCheck, InSight, IsClear, Reach}
use Rattle.shogi_board.specs.Sound.{IsSound}
use Rattle.shogi_board.specs.Squares.{Direction, place, IsAway}
use Rattle.shogi_board.specs.declared.color.Color.{Color}
use Rattle.shogi_board.specs.declared.kind.Kind.{Kind}
use Rattle.shogi_board.specs.declared.kind.Kind.TheVariants.{King}
use Rattle.shogi_board.specs.declared.kind.Piece.{Piece}
use Rattle.shogi_board.specs.declared.square.Square.{Square}
use Rattle.shogi_board.proofs.Attackers.{seen-towards}
use Rattle.shogi_board.proofs.Rays.{near-ray, ray-at}
use Rattle.shogi_board.proofs.Squares.{place-same}
use Rattle.shogi_board.specs.After.{after, board_after}
use Rattle.shogi_board.specs.Legal.{kind_after, target}
use Rattle.shogi_board.specs.MoveSquares.{source}
use Rattle.shogi_board.specs.declared.moves.Move.{Move}
use Rattle.shogi_board.specs.declared.moves.Move.TheVariants.{Walk, Put}
use Rattle.shogi_board.proofs.Pieces.{opponent-twice}
use Rattle.shogi_board.proofs.Check.{checker-is}
use Rattle.shogi_board.proofs.Decided.{decide-away}
use Rattle.shogi_board.proofs.AfterMove.{colors-same, held-before, kinds-same, not-none, not-opponent, on-target, walk-keeps}

put-keeps : (p : Placed) (to : Square) (k : Kind) (s : Square) → place s ≢ place to → at (board_after p (Put to k)) s ≡ at p.material.board s
put-keeps p to k s other = get_or-set_other p.material.board (place to) (place s) (piece p.side k) None other

-- the square that the move left lies on the way
pub record LeftOnWay (m : Move) (a : Square) (d : Direction) (n : ℕ) : Type 0 where
  pub from : Square
  pub left : source m ≡ Some from
  pub steps : ℕ
  pub some : 1 ≤ steps
  pub nearer : steps < n
  pub on : IsAway a d steps from

farther : (m : Move) (a : Square) (d : Direction) (n : ℕ) → LeftOnWay m a d n → LeftOnWay m a d (suc n)
farther m a d n w = let nearer = w.nearer in record { from = w.from; left = w.left; steps = w.steps; some = w.some; nearer = omega (arith, nearer); on = w.on }

-- an empty square is not the target
not-target : (p : Placed) (m : Move) (t : Square) → IsSound p → at (board_after p m) t ≡ None → place t ≢ place (target m)
not-target p m t sound empty e = not-none (at (board_after p m) t) (record { color = p.side; kind = kind_after m }) empty (on-target p m t sound e)

-- a square that is empty after the move was empty before, but for the one that was left
empty-before : (p : Placed) (m : Move) (a : Square) (d : Direction) (n : ℕ) → IsSound p → 1 ≤ n → ((t : Square) → IsAway a d n t → at (board_after p m) t ≡ None)
    → LeftOnWay m a d (suc n) ⊎ ((t : Square) → IsAway a d n t → at p.material.board t ≡ None)
empty-before p (Walk from to k) a d n sound some empty =
    elim (decide-away a d n from) [
      | inl on ↦ inl (record { from = from; left = refl; steps = n; some = some; nearer = omega arith; on = on })
      | inr off ↦ inr (λ t there.
          let clear = empty t there in
          let apart : place t ≢ place from = λ e. off (subst (λ (s : Square). IsAway a d n s) (place-same t from e) there) in
          sym (walk-keeps p from to k t (not-target p (Walk from to k) t sound clear) apart) ∙ clear)
    ]
empty-before p (Put to k) a d n sound some empty =
    inr (λ t there.
    let clear = empty t there in
    sym (put-keeps p to k t (not-target p (Put to k) t sound clear)) ∙ clear)

-- clear squares after the move were clear before, or the one that was left is among them
clear-before : (p : Placed) (m : Move) (a : Square) (d : Direction) (n : ℕ) → IsSound p → IsClear (board_after p m) a d n → LeftOnWay m a d n ⊎ IsClear p.material.board a d n
clear-before p m a d zero sound clear = inr (λ k t low high there. absurd (omega (arith, low, high)))
clear-before p m a d (suc n) sound clear =
    elim (clear-before p m a d n sound (λ k t low high there. clear k t low (omega (arith, high)) there)) [
      | inl w ↦ inl (farther m a d n w)
      | inr before ↦ elim (cases_lt n 1) [
        | inl none ↦ inr (λ k t low high there. absurd (omega (arith, low, high, none)))
        | inr some ↦ elim (empty-before p m a d n sound some (λ t there. clear n t some (omega arith) there)) [
          | inl w ↦ inl w
          | inr last ↦ inr (λ k t low high there.
              elim (cases_lt k n) [
                | inl lt ↦ before k t low lt there
                | inr ge ↦ let e : k ≡ n = omega (arith, high, ge) in last t (subst (λ (i : ℕ). IsAway a d i t) e there)
              ])
        ]
      ]
    ]

-- some square is left by the move, and the piece on a is seen towards it
abbrev pub IsOpened : Placed → Move → Square → Square → Type 0
IsOpened p m s a = (from : Square) × (source m ≡ Some from) × SeenTowards (board_after p m) s from a

slid-across : (p : Placed) (m : Move) (color : Color) (a s : Square) (kind : Kind) → IsSound p → Any (λ d. InSight (board_after p m) a (turned_for (opponent color) d) s) (rays kind)
    → IsOpened p m s a ⊎ Any (λ d. InSight p.material.board a (turned_for (opponent color) d) s) (rays kind)
slid-across p m color a s kind sound slide =
    let e : Direction = slide.1 in
    let sight : InSight (board_after p m) a (turned_for (opponent color) e) s = slide.4 in
    elim (clear-before p m a (turned_for (opponent color) e) sight.distance sound sight.clear) [
      | inl w ↦
          let near = near-ray kind slide.0 e slide.2 slide.3 in
          let ray = ray-at color kind slide.0 e slide.2 slide.3 in
          inl (w.from, w.left, seen-towards (board_after p m) a s w.from color e w.steps near ray sight w.nearer w.on)
      | inr clear ↦ inr (slide.0, slide.1, slide.2, slide.3, record { distance = sight.distance; some = sight.some; away = sight.away; clear = clear })
    ]

-- an attacker that is not the piece that moved is seen towards the square which that left
pub seen-across : (p : Placed) (m : Move) (color : Color) (a s : Square) → IsSound p → place a ≢ place (target m) → (Attacked p.material.board color s → ⊥) → Attack (board_after p m) color a s → IsOpened p m s a
seen-across p m color a s sound apart safe attack =
    let x = attack.reach.mover in
    let stands : at p.material.board a ≡ Some x = held-before p m a x sound apart attack.reach.stands in
    elim attack.reach.moves [
      | inl step ↦ absurd (safe (a, record { reach = record { mover = x; stands = stands; moves = inl step }; enemy = attack.enemy }))
      | inr slide ↦
          elim (slid-across p m color a s x.kind sound (subst (λ (c : Color). Any (λ d. InSight (board_after p m) a (turned_for c d) s) (rays x.kind)) attack.enemy slide)) [
            | inl opened ↦ opened
            | inr before ↦
                let slides = subst (λ (c : Color). Any (λ d. InSight p.material.board a (turned_for c d) s) (rays x.kind)) (sym attack.enemy) before in
                absurd (safe (a, record { reach = record { mover = x; stands = stands; moves = inr slides }; enemy = attack.enemy }))
          ]
    ]

-- 2. The mover's king
-- it stood where it stands, if it did not move
king-before : (p : Placed) (m : Move) (s : Square) → IsSound p → (kind_after m ≡ King → ⊥) → at (board_after p m) s ≡ piece p.side King → at p.material.board s ≡ piece p.side King
king-before p m s sound not there =
    held-before p m s (record { color = p.side; kind = King }) sound (λ e. not (kinds-same p.side p.side (kind_after m) King (sym (on-target p m s sound e) ∙ there))) there

-- no enemy of the mover stands on the target
not-on-target : (p : Placed) (m : Move) (a s : Square) → IsSound p → Attack (board_after p m) p.side a s → place a ≢ place (target m)
not-on-target p m a s sound attack e =
    let x = attack.reach.mover in
    let same : Some x ≡ piece p.side (kind_after m) = sym attack.reach.stands ∙ on-target p m a sound e in
    not-opponent p.side (sym (ap (λ (q : Piece). q.color) (same_Some x _ same)) ∙ attack.enemy)

pub own-opened : (p : Placed) (m : Move) (a s : Square) → IsSound p → (InCheck p.material.board p.side → ⊥) → (kind_after m ≡ King → ⊥) → at (board_after p m) s ≡ piece p.side King
    → Attack (board_after p m) p.side a s → IsOpened p m s a
own-opened p m a s sound safe not there attack =
    seen-across p m p.side a s sound (not-on-target p m a s sound attack) (λ attacked. safe (s, king-before p m s sound not there, attacked)) attack

pub towards-left : (p : Placed) (m : Move) (from a s : Square) → source m ≡ Some from → IsOpened p m s a → SeenTowards (board_after p m) s from a
towards-left p m from a s left opened =
    let same : opened.0 ≡ from = same_Some opened.0 from (sym opened.1 ∙ left) in
    subst (λ (f : Square). SeenTowards (board_after p m) s f a) same opened.2

pub nothing-left : (p : Placed) (m : Move) (a s : Square) → source m ≡ None → IsOpened p m s a → ⊥
nothing-left p m a s none opened = let left = opened.1 in cc

-- 3. Where an attack on the mover's king comes from
pub towards-danger : (p : Placed) (m : Move) (from : Square) → IsSound p → (InCheck p.material.board p.side → ⊥) → (kind_after m ≡ King → ⊥) → source m ≡ Some from
    → (s : Square) → at (board_after p m) s ≡ piece p.side King → (a : Square) → Attack (board_after p m) p.side a s → SeenTowards (board_after p m) s from a
towards-danger p m from sound free still left s there a attack =
    towards-left p m from a s left (own-opened p m a s sound free still there attack)

pub no-danger : (p : Placed) (m : Move) → IsSound p → (InCheck p.material.board p.side → ⊥) → (kind_after m ≡ King → ⊥) → source m ≡ None
    → (s : Square) → at (board_after p m) s ≡ piece p.side King → Attacked (board_after p m) p.side s → ⊥
no-danger p m sound free still none s there attacked =
    nothing-left p m attacked.0 s none (own-opened p m attacked.0 s sound free still there attacked.1)

-- 4. The other king
-- it was not attacked before the move, for the position was sound
pub other-opened : (p : Placed) (m : Move) (a s : Square) → IsSound p → at p.material.board s ≡ piece (opponent p.side) King → (Reach (board_after p m) (target m) s → ⊥)
    → Attack (board_after p m) (opponent p.side) a s → IsOpened p m s a
other-opened p m a s sound there free attack =
    seen-across p m (opponent p.side) a s sound
    (λ e. free (subst (λ (t : Square). Reach (board_after p m) t s) (place-same a (target m) e) attack.reach))
    (λ attacked. sound.safe (s, there, attacked))
    attack

pub target-attacks : (p : Placed) (m : Move) (s : Square) → IsSound p → Reach (board_after p m) (target m) s → Attack (board_after p m) (opponent p.side) (target m) s
target-attacks p m s sound reach =
    let x = reach.mover in
    let same : Some x ≡ piece p.side (kind_after m) = sym reach.stands ∙ on-target p m (target m) sound refl in
    let own : x.color ≡ p.side = ap (λ (q : Piece). q.color) (same_Some x _ same) in
    record { reach = reach; enemy = own ∙ sym (opponent-twice p.side) }

-- the piece that moved is on the target
pub moved-there : (p next : Placed) (m : Move) (side : Color) → IsSound p → next ≡ after p m → side ≡ opponent next.side → at next.material.board (target m) ≡ piece side (kind_after m)
moved-there p next m side sound made own =
    let same : side ≡ p.side = own ∙ (ap (λ (q : Placed). opponent q.side) made ∙ opponent-twice p.side) in
    rw (made, same) (on-target p m (target m) sound refl)

-- who attacks the king checks its side
pub next-checker : (next : Placed) (s : Square) (found : Option Square) → IsSound next → at next.material.board s ≡ piece next.side King
    → MatchOption found (Attacked next.material.board next.side s → ⊥) (λ a. Attack next.material.board next.side a s)
    → MatchOption found (InCheck next.material.board next.side → ⊥) (Checks next.material.board next.side)
next-checker next s found sound there d =
    checker-is next.material.board next.side s found sound.within.squares (sound.within.kings next.side) there d

-- the other side's king before the move, by what is known after it
king-of-other : (p : Placed) (m : Move) (s : Square) → IsSound p → at (board_after p m) s ≡ piece (opponent p.side) King → at p.material.board s ≡ piece (opponent p.side) King
king-of-other p m s sound there =
    held-before p m s (record { color = opponent p.side; kind = King }) sound
    (λ e. not-opponent p.side (colors-same p.side (opponent p.side) (kind_after m) King (sym (on-target p m s sound e) ∙ there))) there

pub other-towards : (p next : Placed) (m : Move) (from s : Square) → IsSound p → next ≡ after p m → at next.material.board s ≡ piece next.side King → (Reach next.material.board (target m) s → ⊥) → source m ≡ Some from
    → (a : Square) → Attack next.material.board next.side a s → SeenTowards next.material.board s from a
other-towards p next m from s sound made there free left a attack =
    let king : at (board_after p m) s ≡ piece (opponent p.side) King = rw made at there in
    let shut : Reach (board_after p m) (target m) s → ⊥ = rw made at free in
    let here : Attack (board_after p m) (opponent p.side) a s = rw made at attack in
    rw made (towards-left p m from a s left (other-opened p m a s sound (king-of-other p m s sound king) shut here))

pub other-free : (p next : Placed) (m : Move) (s : Square) → IsSound p → next ≡ after p m → at next.material.board s ≡ piece next.side King → (Reach next.material.board (target m) s → ⊥) → source m ≡ None
    → Attacked next.material.board next.side s → ⊥
other-free p next m s sound made there free none attacked =
    let king : at (board_after p m) s ≡ piece (opponent p.side) King = rw made at there in
    let shut : Reach (board_after p m) (target m) s → ⊥ = rw made at free in
    let here : Attack (board_after p m) (opponent p.side) attacked.0 s = rw made at attacked.1 in
    nothing-left p m attacked.0 s none (other-opened p m attacked.0 s sound (king-of-other p m s sound king) shut here)

pub other-reached : (p next : Placed) (m : Move) (s to : Square) → IsSound p → next ≡ after p m → to ≡ target m → Reach next.material.board to s → Attack next.material.board next.side to s
other-reached p next m s to sound made e reach =
    let here : Reach (board_after p m) (target m) s = rw (made, e) at reach in
    rw (made, e) (target-attacks p m s sound here)

pub unreached : (next : Placed) (m : Move) (s to : Square) (b : Bool) → to ≡ target m → b ≡ false → (IsTrue b ↔ Reach next.material.board to s) → Reach next.material.board (target m) s → ⊥
unreached next m s to b e none d reach =
    let yes = d.1 (subst (λ (t : Square). Reach next.material.board t s) (sym e) reach) in cc
