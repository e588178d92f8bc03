-- A move that neither moves the king nor stops the check leaves the king in check.
use Rattle.std.proofs.Common.{◌≡◌, ◌≢◌, ℕ, ◌+◌, ◌*◌, ◌<◌, ◌≤◌, ◌↔◌, IsTrue, Bool, true, false, not, Option, Some, None, ◌⊎◌, inl, inr, arith, set, get_or, refl, ap, sym, ◌∙◌, subst, get_or-set_same, get_or-set_other}
use Rattle.std.specs.Prelude.{MatchOption}
use Rattle.std.proofs.lemmas.Bool.{cases_eq}
use Rattle.std.proofs.lemmas.Option.{same_Some}
use Rattle.shogi_board.specs.Cells.{Cells, at, piece}
use Rattle.shogi_board.specs.Moves.{turned_for}
use Rattle.shogi_board.specs.Pieces.{opponent, promoted}
use Rattle.shogi_board.specs.Placed.{Placed}
use Rattle.shogi_board.specs.Reach.{Attack, InCheck, InSight, IsClear, Reach, Slides, Steps}
use Rattle.shogi_board.specs.Sound.{IsSound}
use Rattle.shogi_board.specs.Squares.{place}
use Rattle.shogi_board.specs.declared.color.Color.{Color}
use Rattle.shogi_board.specs.declared.kind.Kind.{Kind}
use Rattle.shogi_board.specs.declared.kind.Kind.TheVariants.{King}
use Rattle.shogi_board.specs.declared.kind.Piece.{Piece}
use Rattle.shogi_board.specs.declared.square.Square.{Square}
use Rattle.shogi_board.proofs.AfterMove.{not-none, not-opponent}
use Rattle.shogi_board.proofs.Between.{three}
use Rattle.shogi_board.proofs.Goes.{goes-moves, moves-goes}
use Rattle.shogi_board.proofs.Rays.{ray-at}
use Rattle.shogi_board.proofs.Squares.{place-same}
use Rattle.shogi_board.specs.After.{after, board_after}
use Rattle.shogi_rules.specs.Evasions.{Between, MovesFrom, StopsCheck}
use Rattle.shogi_rules.specs.Trying.{IsOnWay}
use Rattle.shogi_board.specs.Legal.{FitsBoard, Keeps, Mated, target}
use Rattle.shogi_board.specs.declared.moves.Move.{Move}
use Rattle.shogi_board.specs.declared.moves.Move.TheVariants.{Walk, Put}
use Rattle.shogi_board.proofs.Forms.{piece-kind}
use Rattle.shogi_board.proofs.Walks.{on-board}

-- 1. What the other squares hold after a move
-- an empty square that is not the target stays empty
stays-empty : (p : Placed) (m : Move) (s : Square) → IsSound p → place s ≢ place (target m) → at p.material.board s ≡ None → at (board_after p m) s ≡ None
stays-empty p (Walk from to k) s sound other empty =
    let lifted = set p.material.board (place from) None in
    let kept : at (board_after p (Walk from to k)) s ≡ at lifted s = get_or-set_other lifted (place to) (place s) (piece p.side k) None other in
    elim (cases_eq (place s) (place from)) [
      | inl e ↦ kept ∙ (ap (λ (n : ℕ). get_or lifted n None) e ∙ get_or-set_same p.material.board (place from) None None (on-board p from sound))
      | inr ne ↦ kept ∙ (get_or-set_other p.material.board (place from) (place s) None None ne ∙ empty)
    ]
stays-empty p (Put to k) s sound other empty = get_or-set_other p.material.board (place to) (place s) (piece p.side k) None other ∙ empty

-- a piece that neither moves nor is captured stays
stays : (p : Placed) (m : Move) (s : Square) (x : Piece) → FitsBoard p m → (MovesFrom s m → ⊥) → (target m ≡ s → ⊥) → at p.material.board s ≡ Some x → at (board_after p m) s ≡ Some x
stays p (Walk from to k) s x fits still free there =
    elim (cases_eq (place s) (place to)) [
      | inl e ↦ absurd (free (place-same to s (sym e)))
      | inr ne ↦ elim (cases_eq (place s) (place from)) [
        | inl e ↦ absurd (still (place-same from s (sym e)))
        | inr apart ↦
            get_or-set_other (set p.material.board (place from) None) (place to) (place s) (piece p.side k) None ne
            ∙ (get_or-set_other p.material.board (place from) (place s) None None apart ∙ there)
      ]
    ]
stays p (Put to k) s x fits still free there =
    elim (cases_eq (place s) (place to)) [
      | inl e ↦ absurd (free (place-same to s (sym e)))
      | inr ne ↦ get_or-set_other p.material.board (place to) (place s) (piece p.side k) None ne ∙ there
    ]

-- an enemy piece is not the one that moves
enemy-stays : (p : Placed) (m : Move) (s : Square) (x : Piece) → FitsBoard p m → at p.material.board s ≡ Some x → x.color ≡ opponent p.side → MovesFrom s m → ⊥
enemy-stays p (Walk from to k) s x fits there enemy e =
    let own : at p.material.board from ≡ piece p.side fits.kind_fits.0 = fits.kind_fits.1 in
    let here : at p.material.board from ≡ Some x = ap (at p.material.board) e ∙ there in
    let same : record { color = p.side; kind = fits.kind_fits.0 } ≡ x = same_Some _ x (sym own ∙ here) in
    not-opponent p.side (ap (λ (y : Piece). y.color) same ∙ enemy)
enemy-stays p (Put to k) s x fits there enemy e = e

-- a move lands on no own piece
own-free : (p : Placed) (m : Move) (s : Square) (k : Kind) → FitsBoard p m → at p.material.board s ≡ piece p.side k → target m ≡ s → ⊥
own-free p (Walk from to l) s k fits there e = fits.target_free k (ap (at p.material.board) e ∙ there)
own-free p (Put to l) s k fits there e = not-none (at p.material.board to) _ fits.target_free (ap (at p.material.board) e ∙ there)

-- 2. The check
still-in-sight : (p : Placed) (m : Move) (a s : Square) (x : Piece) → IsSound p → (Between a s (target m) → ⊥) → Slides p.material.board x a s → Slides (board_after p m) x a s
still-in-sight p m a s x sound past slide =
    let d = turned_for x.color slide.1 in
    let sight : InSight p.material.board a d s = slide.4 in
    let seen : InSight (board_after p m) a d s = record {
      distance = sight.distance;
      some = sight.some;
      away = sight.away;
      clear = λ k t low high there.
          elim (cases_eq (place t) (place (target m))) [
            | inl e ↦ absurd (past (record {
              direction = d;
              ray = ray-at x.color x.kind slide.0 slide.1 slide.2 slide.3;
              near = k;
              far = sight.distance;
              some = low;
              nearer = high;
              on = rw (place-same (target m) t (sym e)) there;
              ends = sight.away;
            }))
            | inr ne ↦ stays-empty p m t sound ne (sight.clear k t low high there)
          ];
    } in
    (slide.0, slide.1, slide.2, slide.3, seen)

still-moves : (p : Placed) (m : Move) (a s : Square) (x : Piece) → IsSound p → (Between a s (target m) → ⊥) → Steps x a s ⊎ Slides p.material.board x a s → Steps x a s ⊎ Slides (board_after p m) x a s
still-moves p m a s x sound past (inl step) = inl step
still-moves p m a s x sound past (inr slide) = inr (still-in-sight p m a s x sound past slide)

-- after any other move the king is where it was, and the checking piece still attacks it
pub still-attacks : (p : Placed) (m : Move) (a s : Square) → IsSound p → FitsBoard p m → at p.material.board s ≡ piece p.side King → Attack p.material.board p.side a s → (MovesFrom s m → ⊥) → (StopsCheck a s (target m) → ⊥) → (at (after p m).material.board s ≡ piece p.side King) × Attack (after p m).material.board p.side a s
still-attacks p m a s sound fits king attack still past =
    let x = attack.reach.mover in
    let stands : at (board_after p m) a ≡ Some x = stays p m a x fits (enemy-stays p m a x fits attack.reach.stands attack.enemy) (λ e. past (inl e)) attack.reach.stands in
    let there : at (board_after p m) s ≡ piece p.side King = stays p m s (record { color = p.side; kind = King }) fits still (own-free p m s King fits king) king in
    let reach : Reach (board_after p m) a s = record { mover = x; stands = stands; moves = still-moves p m a s x sound (λ b. past (inr b)) attack.reach.moves } in
    (there, record { reach = reach; enemy = attack.enemy })

-- so its side is still in check
still-in-check : (p : Placed) (m : Move) (a s : Square) → IsSound p → FitsBoard p m → at p.material.board s ≡ piece p.side King → Attack p.material.board p.side a s → (MovesFrom s m → ⊥) → (StopsCheck a s (target m) → ⊥) → InCheck (after p m).material.board p.side
still-in-check p m a s sound fits king attack still past =
    let kept = still-attacks p m a s sound fits king attack still past in (s, kept.0, (a, kept.1))

-- 3. The search
-- a move that keeps the rules 3 to 10 moves the king or stops the check
pub no-other-evasion : (p : Placed) (m : Move) (a s : Square) → IsSound p → Keeps p m → at p.material.board s ≡ piece p.side King → Attack p.material.board p.side a s → (MovesFrom s m → ⊥) → (StopsCheck a s (target m) → ⊥) → ⊥
no-other-evasion p m a s sound kept king attack still past = kept.king_safe (still-in-check p m a s sound kept.fits king attack still past)

-- the walk is of the kind that is there, or of its promoted kind
pub walk-form : (p : Placed) (from to : Square) (was k : Kind) → at p.material.board from ≡ piece p.side was → FitsBoard p (Walk from to k) → (k ≡ was) ⊎ (promoted was ≡ Some k)
walk-form p from to was k stands fits =
    let same : fits.kind_fits.0 ≡ was = piece-kind p.side _ _ (sym fits.kind_fits.1 ∙ stands) in
    subst (λ (l : Kind). (k ≡ l) ⊎ (promoted l ≡ Some k)) same fits.kind_fits.2

-- some walk between the squares that keeps the rules
abbrev pub KeptWalk : Placed → Square → Square → Type 0
KeptWalk p from to = (k : Kind) × Keeps p (Walk from to k)

-- some move to the square that keeps the rules
abbrev pub KeptTo : Placed → Square → Type 0
KeptTo p to = (m : Move) × (target m ≡ to) × Keeps p m

-- where a walk as the piece it was does not, some walk keeps the rules exactly where the promoted
-- one does
pub kept-if-promoted : (p : Placed) (from to : Square) (was : Kind) (promotion : Option Kind) (b : Bool) (Then : Kind → Type 0) → at p.material.board from ≡ piece p.side was → (Keeps p (Walk from to was) → ⊥) → promotion ≡ promoted was
    → MatchOption promotion (b ≡ false) Then → ((k : Kind) → Then k → IsTrue b ↔ Keeps p (Walk from to k)) → IsTrue b ↔ KeptWalk p from to
kept-if-promoted p from to was None b Then stands bare promotion off keeps = (
  λ yes. cc,
  λ kept. elim (walk-form p from to was kept.0 stands kept.1.fits) [
    | inl same ↦ absurd (bare (subst (λ (k : Kind). Keeps p (Walk from to k)) same kept.1))
    | inr becomes ↦ cc
  ],
)
kept-if-promoted p from to was (Some k) b Then stands bare promotion h keeps = (
  λ yes. (k, (keeps k h).0 yes),
  λ kept. elim (walk-form p from to was kept.0 stands kept.1.fits) [
    | inl same ↦ absurd (bare (subst (λ (l : Kind). Keeps p (Walk from to l)) same kept.1))
    | inr becomes ↦
        let both : Some k ≡ Some kept.0 = promotion ∙ becomes in
        let one : kept.0 ≡ k = cc in
        (keeps k h).1 (subst (λ (l : Kind). Keeps p (Walk from to l)) one kept.1)
  ],
)

walk-of : (p : Placed) (s : Square) (m : Move) → MovesFrom s m → Keeps p m → KeptWalk p s (target m)
walk-of p s (Walk from to k) e kept = (k, subst (λ (f : Square). Keeps p (Walk f to k)) e kept)
walk-of p s (Put to k) e kept = absurd e

pub by-target : (p : Placed) (to : Square) (m : Move) → target m ≡ to → Keeps p m → ((from : Square) × (k : Kind) × Keeps p (Walk from to k)) ⊎ ((k : Kind) × Keeps p (Put to k))
by-target p to (Walk from t k) e kept = inl (from, k, subst (λ (u : Square). Keeps p (Walk from u k)) e kept)
by-target p to (Put t k) e kept = inr (k, subst (λ (u : Square). Keeps p (Put u k)) e kept)

-- the file, or the rank, of a square between two others
on-way : (a b c near far step : ℕ) → 1 ≤ step → step ≤ 3 → 1 ≤ near → near < far → c + near * 2 ≡ a + near * step → b + far * 2 ≡ a + far * step → IsOnWay a b c
on-way a b c near far step low high some nearer =
    three (λ g. c + near * 2 ≡ a + near * g → b + far * 2 ≡ a + far * g → IsOnWay a b c)
    (λ e h. inr (inl (omega (arith, e, h, nearer), omega (arith, e, some))))
    (λ e h. inr (inr (omega (arith, e), omega (arith, e, h))))
    (λ e h. inl (omega (arith, e, some), omega (arith, e, h, nearer))) step low high

pub file-on-way : (a b c : Square) → Between a b c → IsOnWay a.file b.file c.file
file-on-way a b c w = on-way a.file b.file c.file w.near w.far w.direction.files w.ray.0 w.ray.1 w.some w.nearer w.on.0 w.ends.0

pub rank-on-way : (a b c : Square) → Between a b c → IsOnWay a.rank b.rank c.rank
rank-on-way a b c w = on-way a.rank b.rank c.rank w.near w.far w.direction.ranks w.ray.2 w.ray.3 w.some w.nearer w.on.1 w.ends.1

-- a piece that attacks a square reaches each square between
pub reaches-between : (cells : Cells) (color : Color) (a s t : Square) → Attack cells color a s → Between a s t → Reach cells a t
reaches-between cells color a s t attack b =
    let x = attack.reach.mover in
    let some = b.some in
    let nearer = b.nearer in
    let goes = moves-goes cells x a s b.direction b.far (b.ray, omega (arith, some, nearer), b.ends) attack.reach.moves in
    let clear : IsClear cells a b.direction b.near = λ k u low high there. goes.1 k u low (omega (arith, high, nearer)) there in
    record {
      mover = x;
      stands = attack.reach.stands;
      moves = elim goes.0 [
        | inl step ↦ let one = step.0 in absurd (omega (arith, some, nearer, one))
        | inr slides ↦ goes-moves cells x a t b.direction b.near (b.ray, some, b.on) clear (inr slides)
      ];
    }

-- where no walk of the king to the square keeps the rules, a move there that does stops the check
pub stops-there : (p : Placed) (a s to : Square) (m : Move) → IsSound p → at p.material.board s ≡ piece p.side King → Attack p.material.board p.side a s → (KeptWalk p s to → ⊥) → target m ≡ to → Keeps p m → (StopsCheck a s to → ⊥) → ⊥
stops-there p a s to m sound king attack stays e kept past =
    no-other-evasion p m a s sound kept king attack
    (λ from. stays (subst (KeptWalk p s) e (walk-of p s m from kept)))
    (λ stop. past (subst (StopsCheck a s) e stop))

pub mated-then : (p : Placed) (b : Bool) → InCheck p.material.board p.side → (IsTrue b ↔ ((m : Move) × Keeps p m)) → IsTrue (not b) ↔ Mated p
mated-then p true check d = (λ h. cc, λ mated. let s = d.0 refl in absurd (mated.no_move s.0 s.1))
mated-then p false check d =
    (λ _. record { in_check = check; no_move = λ m k. let f = d.1 (m, k) in cc }, λ _. refl)
