-- Who attacks a square is seen from it: in one of eight directions, or a knight's jump away.
use Rattle.std.proofs.Common.{◌≡◌, ℕ, ◌+◌, ◌-◌, ◌*◌, ◌<◌, ◌≤◌, ◌⊎◌, inl, inr, List, [], ◌∷◌, ◌++◌, Any, None, Some, Option, Bool, is_some, sym, ◌↔◌, IsTrue, arith, ap, refl, subst, ◌∙◌, Contains}
use Rattle.std.specs.Prelude.{MatchOption}
use Rattle.std.proofs.lemmas.Bool.{cases_lt}
use Rattle.shogi_board.specs.Attackers.{AttackInSight, IsAttackedByJump, IsAttackedInLine}
use Rattle.shogi_board.specs.Directions.{Lies}
use Rattle.shogi_board.specs.Cells.{Cells, at, piece}
use Rattle.shogi_board.specs.Danger.{SeenTowards}
use Rattle.shogi_board.specs.Moves.{IsRay, back_left, back_right, diagonals, gold, orthogonals, rays, steps, turned_for}
use Rattle.shogi_board.specs.Directions.{IsNear, Goes}
use Rattle.shogi_board.specs.Pieces.{opponent}
use Rattle.shogi_board.specs.Reach.{Attack, Attacked, InSight, IsClear, Slides, Steps}
use Rattle.shogi_board.specs.Squares.{Direction, IsAway}
use Rattle.shogi_board.specs.declared.color.Color.{Color}
use Rattle.shogi_board.specs.declared.color.Color.TheVariants.{Black, White}
use Rattle.shogi_board.specs.declared.kind.Kind.{Kind}
use Rattle.shogi_board.specs.declared.kind.Kind.TheVariants.{Pawn, Lance, Knight, Silver, Gold, Bishop, Rook, King, Horse, Dragon}
use Rattle.shogi_board.specs.declared.kind.Piece.{Piece}
use Rattle.shogi_board.specs.declared.square.Square.{Square}
use Rattle.shogi_board.proofs.Between.{lies-once}
use Rattle.shogi_board.proofs.Goes.{goes-moves, moves-goes, turned-twice}
use Rattle.shogi_board.proofs.Rays.{near-ray, near-step, ray-near, turned-ray}
use Rattle.shogi_board.proofs.OneOf.{OneOf, any-of, one-of}
use Rattle.shogi_board.proofs.Pieces.{mover-is}
use Rattle.shogi_board.proofs.Squares.{away-same}

-- 1. The way back
back-one : (x y n f g : ℕ) → f + g ≡ 4 → y + n * 2 ≡ x + n * f → x + n * 2 ≡ y + n * g
back-one x y n f g s h = let e : n * (f + g) ≡ n * 4 = ap (λ m. n * m) s in omega (arith, e)

back-part : (x y z m k f g : ℕ) → f + g ≡ 4 → y + (m + k) * 2 ≡ x + (m + k) * f → z + k * 2 ≡ y + k * g → z + m * 2 ≡ x + m * f
back-part x y z m k f g s h j = let e : k * (f + g) ≡ k * 4 = ap (λ i. k * i) s in omega (arith, e)

-- both sides' views of a direction are each other's way back
both-ways : (color : Color) (d : Direction) → IsNear d
    → ((turned_for (opponent color) d).files + (turned_for color d).files ≡ 4) × ((turned_for (opponent color) d).ranks + (turned_for color d).ranks ≡ 4)
both-ways Black d near =
    let files : d.files ≤ 4 = near.0 in
    let ranks : d.ranks ≤ 4 = near.1 in
    (omega arith, omega arith)
both-ways White d near =
    let files : d.files ≤ 4 = near.0 in
    let ranks : d.ranks ≤ 4 = near.1 in
    (omega arith, omega arith)

back : (a s : Square) (color : Color) (d : Direction) (n : ℕ) → IsNear d → IsAway a (turned_for (opponent color) d) n s → IsAway s (turned_for color d) n a
back a s color d n near away =
    let ways = both-ways color d near in (
      back-one a.file s.file n (turned_for (opponent color) d).files (turned_for color d).files ways.0 away.0,
      back-one a.rank s.rank n (turned_for (opponent color) d).ranks (turned_for color d).ranks ways.1 away.1,
    )

between : (a s t : Square) (color : Color) (d : Direction) (m k : ℕ) → IsNear d → IsAway a (turned_for (opponent color) d) (m + k) s → IsAway s (turned_for color d) k t
    → IsAway a (turned_for (opponent color) d) m t
between a s t color d m k near away there =
    let ways = both-ways color d near in (
      back-part a.file s.file t.file m k (turned_for (opponent color) d).files (turned_for color d).files ways.0 away.0 there.0,
      back-part a.rank s.rank t.rank m k (turned_for (opponent color) d).ranks (turned_for color d).ranks ways.1 away.1 there.1,
    )

back-clear : (cells : Cells) (a s : Square) (color : Color) (d : Direction) (n : ℕ) → IsNear d → IsAway a (turned_for (opponent color) d) n s → IsClear cells a (turned_for (opponent color) d) n → IsClear cells s (turned_for color d) n
back-clear cells a s color d n near away clear k t low high there =
    let parts : n ≡ (n - k) + k = omega (arith, high) in
    let whole : IsAway a (turned_for (opponent color) d) ((n - k) + k) s = subst (λ n. IsAway a (turned_for (opponent color) d) n s) parts away in
    clear (n - k) t (omega (arith, high)) (omega (arith, low, high)) (between a s t color d (n - k) k near whole there)

sight-back : (cells : Cells) (a s : Square) (color : Color) (d : Direction) → IsNear d → InSight cells a (turned_for (opponent color) d) s → InSight cells s (turned_for color d) a
sight-back cells a s color d near sight = record {
  distance = sight.distance;
  some = sight.some;
  away = back a s color d sight.distance near sight.away;
  clear = back-clear cells a s color d sight.distance near sight.away sight.clear;
}

ahead-part : (x y z m k f g : ℕ) → f + g ≡ 4 → y + (m + k) * 2 ≡ x + (m + k) * f → z + k * 2 ≡ x + k * f → z + m * 2 ≡ y + m * g
ahead-part x y z m k f g s h j = let e : m * (f + g) ≡ m * 4 = ap (λ i. m * i) s in omega (arith, e)

-- from the square that is seen, a square on the way lies in the direction of who sees it
ahead : (a s t : Square) (color : Color) (d : Direction) (m k : ℕ) → IsNear d → IsAway a (turned_for (opponent color) d) (m + k) s → IsAway a (turned_for (opponent color) d) k t
    → IsAway s (turned_for color d) m t
ahead a s t color d m k near away on =
    let ways = both-ways color d near in (
      ahead-part a.file s.file t.file m k (turned_for (opponent color) d).files (turned_for color d).files ways.0 away.0 on.0,
      ahead-part a.rank s.rank t.rank m k (turned_for (opponent color) d).ranks (turned_for color d).ranks ways.1 away.1 on.1,
    )

pub seen-towards : (cells : Cells) (a s t : Square) (color : Color) (d : Direction) (k : ℕ) → IsNear d → IsRay (turned_for color d) → (sight : InSight cells a (turned_for (opponent color) d) s)
    → k < sight.distance → IsAway a (turned_for (opponent color) d) k t → SeenTowards cells s t a
seen-towards cells a s t color d k near ray sight less on =
    let parts : sight.distance ≡ (sight.distance - k) + k = omega (arith, less) in
    record {
      direction = turned_for color d;
      ray = ray;
      sight = sight-back cells a s color d near sight;
      distance = sight.distance - k;
      some = omega (arith, less);
      lies = ahead a s t color d (sight.distance - k) k near (subst (λ n. IsAway a (turned_for (opponent color) d) n s) parts sight.away) on;
    }

-- 2. The directions of a piece
in-front : (P : Direction → Type 0) (xs ys : List Direction) → OneOf P xs → OneOf P (xs ++ ys)
in-front P [] ys h = elim h [ ]
in-front P (x ∷ xs) ys (inl h) = inl h
in-front P (x ∷ xs) ys (inr h) = inr (in-front P xs ys h)

behind : (P : Direction → Type 0) (xs ys : List Direction) → OneOf P ys → OneOf P (xs ++ ys)
behind P [] ys h = h
behind P (x ∷ xs) ys h = inr (behind P xs ys h)

ray-line : (P : Direction → Type 0) (kind : Kind) → OneOf P (rays kind) → OneOf P (steps King)
ray-line P Lance (inl h) = inl h
ray-line P Lance (inr h) = elim h [ ]
ray-line P Bishop h = behind P orthogonals diagonals h
ray-line P Rook h = in-front P orthogonals diagonals h
ray-line P Horse h = behind P orthogonals diagonals h
ray-line P Dragon h = in-front P orthogonals diagonals h
ray-line P _ h = elim h [ ]

gold-line : (P : Direction → Type 0) → OneOf P (steps Gold) → OneOf P (steps King)
gold-line P h = in-front P gold (back_left ∷ back_right ∷ []) h

step-line : (P : Direction → Type 0) (kind : Kind) → OneOf P (steps kind) → OneOf P (steps King) ⊎ ((kind ≡ Knight) × OneOf P (steps Knight))
step-line P Pawn (inl h) = inl (inl h)
step-line P Pawn (inr h) = elim h [ ]
step-line P Knight h = inr (refl, h)
step-line P Silver (inl h) = inl (inl h)
step-line P Silver (inr h) = inl (behind P orthogonals diagonals h)
step-line P King h = inl h
step-line P Horse h = inl (in-front P orthogonals diagonals h)
step-line P Dragon h = inl (behind P orthogonals diagonals h)
step-line P Lance h = elim h [ ]
step-line P Bishop h = elim h [ ]
step-line P Rook h = elim h [ ]
step-line P _ h = inl (gold-line P h)

-- a king's steps are the same, seen by either side
turned-line : (P : Direction → Type 0) (color : Color) → OneOf (λ d. P (turned_for color d)) (steps King) → OneOf P (steps King)
turned-line P Black h = h
turned-line P White (inl h) = inr (inl h)
turned-line P White (inr (inl h)) = inl h
turned-line P White (inr (inr (inl h))) = inr (inr (inr (inl h)))
turned-line P White (inr (inr (inr (inl h)))) = inr (inr (inl h))
turned-line P White (inr (inr (inr (inr (inl h))))) = inr (inr (inr (inr (inr (inr (inr (inl h)))))))
turned-line P White (inr (inr (inr (inr (inr (inl h)))))) = inr (inr (inr (inr (inr (inr (inl h))))))
turned-line P White (inr (inr (inr (inr (inr (inr (inl h))))))) = inr (inr (inr (inr (inr (inl h)))))
turned-line P White (inr (inr (inr (inr (inr (inr (inr (inl h)))))))) = inr (inr (inr (inr (inl h))))
turned-line P White (inr (inr (inr (inr (inr (inr (inr (inr h)))))))) = elim h [ ]

-- 3. Attackers
-- one step away nothing lies between
next-to : (cells : Cells) (a s : Square) (d : Direction) → IsAway s d 1 a → InSight cells s d a
next-to cells a s d away = record { distance = 1; some = omega arith; away = away; clear = λ k t low high there. absurd (omega arith) }

stepped : (cells : Cells) (color : Color) (a s : Square) → Attack cells color a s → (kind : Kind) → at cells a ≡ piece (opponent color) kind → Any (λ d. IsAway a (turned_for (opponent color) d) 1 s) (steps kind)
    → IsAttackedInLine cells color s ⊎ IsAttackedByJump cells color s
stepped cells color a s attack kind stands step =
    let away : Any (λ d. IsAway s (turned_for color d) 1 a) (steps kind) =
    (step.0, step.1, step.2, step.3, back a s color step.1 1 (near-step kind step.0 step.1 step.2 step.3) step.4) in
    elim (step-line (λ d. IsAway s (turned_for color d) 1 a) kind (one-of (λ d. IsAway s (turned_for color d) 1 a) (steps kind) away)) [
      | inl h ↦
          let found = any-of (λ d. IsAway s d 1 a) (steps King) (turned-line (λ d. IsAway s d 1 a) color h) in
          inl (found.0, found.1, found.2, found.3, (a, next-to cells a s found.1 found.4, attack))
      | inr h ↦
          let found = any-of (λ d. IsAway s (turned_for color d) 1 a) (steps Knight) h.1 in
          inr (found.0, found.1, found.2, found.3, (a, found.4, stands ∙ ap (λ k. piece (opponent color) k) h.0))
    ]

slid : (cells : Cells) (color : Color) (a s : Square) → Attack cells color a s → (kind : Kind) → Any (λ d. InSight cells a (turned_for (opponent color) d) s) (rays kind)
    → IsAttackedInLine cells color s
slid cells color a s attack kind slide =
    let sight : Any (λ d. InSight cells s (turned_for color d) a) (rays kind) =
    (slide.0, slide.1, slide.2, slide.3, sight-back cells a s color slide.1 (near-ray kind slide.0 slide.1 slide.2 slide.3) slide.4) in
    let found = any-of (λ d. InSight cells s d a) (steps King)
    (turned-line (λ d. InSight cells s d a) color (ray-line (λ d. InSight cells s (turned_for color d) a) kind (one-of (λ d. InSight cells s (turned_for color d) a) (rays kind) sight))) in
    (found.0, found.1, found.2, found.3, (a, found.4, attack))

pub attackers : (cells : Cells) (color : Color) (s : Square) → Attacked cells color s → IsAttackedInLine cells color s ⊎ IsAttackedByJump cells color s
attackers cells color s attacked =
    let a = attacked.0 in
    let attack = attacked.1 in
    let mover = attack.reach.mover in
    elim attack.reach.moves [
      | inl step ↦ stepped cells color a s attack mover.kind (attack.reach.stands ∙ ap (λ c. piece c mover.kind) attack.enemy) (subst (λ x. Any (λ d. IsAway a (turned_for x d) 1 s) (steps mover.kind)) attack.enemy step)
      | inr slide ↦ inl (slid cells color a s attack mover.kind (subst (λ x. Any (λ d. InSight cells a (turned_for x d) s) (rays mover.kind)) attack.enemy slide))
    ]

-- a knight jumps back
pub knight-attacks : (cells : Cells) (color : Color) (a s : Square) (d : Direction) → Contains (steps Knight) d → IsAway s (turned_for color d) 1 a → at cells a ≡ piece (opponent color) Knight → Attack cells color a s
knight-attacks cells color a s d jump away stands =
    let ways = both-ways color d (near-step Knight jump.0 d jump.1 jump.2) in
    record {
      reach = record {
        mover = record { color = opponent color; kind = Knight };
        stands = stands;
        moves = inl (
          jump.0,
          d,
          jump.1,
          jump.2,
          (
            back-one s.file a.file 1 (turned_for color d).files (turned_for (opponent color) d).files (omega (arith, ways.0)) away.0,
            back-one s.rank a.rank 1 (turned_for color d).ranks (turned_for (opponent color) d).ranks (omega (arith, ways.1)) away.1,
          ),
        );
      };
      enemy = refl;
    }

-- 4. Loops
pub clear-more : (cells : Cells) (a : Square) (d : Direction) (n : ℕ) → IsClear cells a d n → ((s : Square) → IsAway a d n s → at cells s ≡ None) → IsClear cells a d (n + 1)
clear-more cells a d n clear empty k s low high away =
    elim (cases_lt k n) [
      | inl lt ↦ clear k s low lt away
      | inr ge ↦ let e : k ≡ n = omega arith in let there : IsAway a d n s = rw e at away in empty s there
    ]

-- what is in sight behind clear squares is the piece that stands there
pub first-one : (cells : Cells) (color : Color) (s a b : Square) (d : Direction) (n : ℕ) → 1 ≤ n → IsClear cells s d n → IsAway s d n b → (at cells b ≡ None → ⊥)
    → InSight cells s d a → Attack cells color a s → a ≡ b
first-one cells color s a b d n some clear here taken sight attack =
    elim (cases_lt sight.distance n) [
      | inl lt ↦ let none = clear sight.distance a sight.some lt sight.away in let stands = attack.reach.stands in cc
      | inr ge ↦ elim (cases_lt n sight.distance) [
        | inl lt ↦ absurd (taken (sight.clear n b some lt here))
        | inr le ↦
            let e : sight.distance ≡ n = omega arith in
            let there : IsAway s d n a = subst (λ k. IsAway s d k a) e sight.away in
            away-same s a b d n there here
      ]
    ]

-- where the squares are clear none is in sight
pub none-within : (cells : Cells) (color : Color) (s a : Square) (d : Direction) (n : ℕ) → IsClear cells s d n → (sight : InSight cells s d a) → Attack cells color a s → sight.distance < n → ⊥
none-within cells color s a d n clear sight attack low =
    let none = clear sight.distance a sight.some low sight.away in let stands = attack.reach.stands in cc

-- the way to a square, turned back by the side that does not see it so
turned-back : (cells : Cells) (s a : Square) (color : Color) (d : Direction) (n : ℕ) → IsNear d → IsAway s d n a → IsClear cells s d n
    → IsAway a (turned_for (opponent color) (turned_for color d)) n s × IsClear cells a (turned_for (opponent color) (turned_for color d)) n
turned-back cells s a Black d n near away clear = (back s a White d n near away, back-clear cells s a White d n near away clear)
turned-back cells s a White d n near away clear =
    let files : d.files ≤ 4 = near.0 in
    let ranks : d.ranks ≤ 4 = near.1 in
    let e = turned_for White d in
    let twice : d ≡ turned_for White e = sym (turned-twice White d near) in
    let away2 : IsAway s (turned_for White e) n a = subst (λ x. IsAway s x n a) twice away in
    let clear2 : IsClear cells s (turned_for White e) n = subst (λ x. IsClear cells s x n) twice clear in
    (back s a Black e n (omega arith, omega arith) away2, back-clear cells s a Black e n (omega arith, omega arith) away2 clear2)

lies-back : (cells : Cells) (s a : Square) (color : Color) (d : Direction) (n : ℕ) → IsRay d → 1 ≤ n → IsAway s d n a → IsClear cells s d n
    → Lies a s (turned_for (opponent color) (turned_for color d)) n × IsClear cells a (turned_for (opponent color) (turned_for color d)) n
lies-back cells s a color d n ray some away clear =
    let w = turned-back cells s a color d n (ray-near d ray) away clear in
    ((turned-ray (opponent color) (turned_for color d) (turned-ray color d ray), some, w.0), w.1)

-- the attacker sees the direction turned for the one that it attacks
seen-as : (color side : Color) (d : Direction) → IsRay d → side ≡ opponent color → turned_for side (turned_for (opponent color) (turned_for color d)) ≡ turned_for color d
seen-as color side d ray e =
    ap (λ (c : Color). turned_for c (turned_for (opponent color) (turned_for color d))) e
    ∙ turned-twice (opponent color) (turned_for color d) (ray-near (turned_for color d) (turned-ray color d ray))

-- what is in sight attacks where it is an enemy whose kind goes so far
pub goes-attacks : (cells : Cells) (color : Color) (s a : Square) (d : Direction) (n : ℕ) (p : Piece) → IsRay d → 1 ≤ n → IsAway s d n a → IsClear cells s d n → at cells a ≡ Some p
    → p.color ≡ opponent color → Goes p.kind (turned_for color d) n → Attack cells color a s
goes-attacks cells color s a d n p ray some away clear stands enemy goes =
    let w = lies-back cells s a color d n ray some away clear in
    let e = turned_for (opponent color) (turned_for color d) in
    let own : Goes p.kind (turned_for p.color e) n = subst (λ x. Goes p.kind x n) (sym (seen-as color p.color d ray enemy)) goes in
    record { reach = record { mover = p; stands = stands; moves = goes-moves cells p a s e n w.0 w.1 own }; enemy = enemy }

pub attacks-goes : (cells : Cells) (color : Color) (s a : Square) (d : Direction) (n : ℕ) (p : Piece) → IsRay d → 1 ≤ n → IsAway s d n a → IsClear cells s d n → at cells a ≡ Some p
    → Attack cells color a s → (p.color ≡ opponent color) × Goes p.kind (turned_for color d) n
attacks-goes cells color s a d n p ray some away clear stands attack =
    let w = lies-back cells s a color d n ray some away clear in
    let e = turned_for (opponent color) (turned_for color d) in
    let same : attack.reach.mover ≡ p = mover-is cells a s p stands attack.reach in
    let enemy : p.color ≡ opponent color = subst (λ (q : Piece). q.color ≡ opponent color) same attack.enemy in
    let moves : Steps p a s ⊎ Slides cells p a s = subst (λ q. Steps q a s ⊎ Slides cells q a s) same attack.reach.moves in
    let own = moves-goes cells p a s e n w.0 moves in
    (enemy, subst (λ x. Goes p.kind x n) (seen-as color p.color d ray enemy) own.0)

-- 5. Answers
-- an answer to one question is one to another that implies it
pub weaker : (found : Option Square) (P Q : Type 0) (R S : Square → Type 0) → (P → Q) → ((a : Square) → S a → R a) → MatchOption found (Q → ⊥) S → MatchOption found (P → ⊥) R
weaker None P Q R S f g h = λ x. h (f x)
weaker (Some a) P Q R S f g h = g a h

-- what is found by the one search or else by the next
pub or-else : (first found : Option Square) (Else P Q : Type 0) (R : Square → Type 0) → MatchOption first (P → ⊥) R → MatchOption first Else (λ x. found ≡ Some x) → (Else → MatchOption found (Q → ⊥) R) → MatchOption found (P ⊎ Q → ⊥) R
or-else None found Else P Q R none h next =
    weaker found (P ⊎ Q) Q R R (λ x. elim x [ inl p ↦ absurd (none p) | inr q ↦ q ]) (λ a r. r) (next h)
or-else (Some a) found Else P Q R first h next = subst (λ o. MatchOption o (P ⊎ Q → ⊥) R) (sym h) first

pub some-attacker : (cells : Cells) (color : Color) (s : Square) (found : Option Square) (b : Bool) → b ≡ is_some found → MatchOption found (Attacked cells color s → ⊥) (λ a. Attack cells color a s) → IsTrue b ↔ Attacked cells color s
some-attacker cells color s None b e h = (λ t. cc, λ x. absurd (h x))
some-attacker cells color s (Some a) b e h = (λ t. (a, h), λ x. e)

-- where attackers are in sight towards another square, the one in that direction is sought
pub some-towards : (cells : Cells) (color : Color) (s t : Square) (d : Direction) (n : ℕ) (found : Option Square) → ((a : Square) → Attack cells color a s → SeenTowards cells s t a)
    → Lies s t d n → MatchOption found (AttackInSight cells color s d → ⊥) (λ a. Attack cells color a s) → MatchOption found (Attacked cells color s → ⊥) (λ a. Attack cells color a s)
some-towards cells color s t d n found from lies answer =
    weaker found (Attacked cells color s) (AttackInSight cells color s d) (λ a. Attack cells color a s) (λ a. Attack cells color a s)
    (λ attacked.
    let seen = from attacked.0 attacked.1 in
    let same = lies-once s t seen.direction d seen.distance n seen.ray lies.0 seen.some lies.1 seen.lies lies.2 in
    (attacked.0, subst (λ e. InSight cells s e attacked.0) same.0 seen.sight, attacked.1))
    (λ a h. h)
    answer
