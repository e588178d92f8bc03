-- One move more.
use Rattle.std.proofs.Common.{◌≡◌, ◌∙◌, ◌↔◌, IsTrue, Bool, true, false, ℕ, ◌≤◌, inl, inr, ◌<◌, ◌+◌, ◌++◌, List, [], ◌∷◌, Option, None, Some, length, length-append, arith, refl, ap, sym, subst}
use Rattle.std.specs.Prelude.{MatchOption, IsSomeAnd}
use Rattle.std.proofs.lemmas.Bool.{cases_lt}
use Rattle.shogi_board.specs.Placed.{Placed}
use Rattle.shogi_board.specs.Sound.{IsSound}
use Rattle.shogi_board.specs.declared.color.Color.{Color}
use Rattle.shogi_board.specs.After.{after}
use Rattle.shogi_board.specs.Legal.{Legal}
use Rattle.shogi_rules.specs.Play.{Answers, Breaks}
use Rattle.shogi_rules.specs.Lines.{IsOpen, IsLine}
use Rattle.shogi_rules.specs.Positions.{Played, Over, line_of, max_moves, now_of, position_after, positions_of, played, begun, IsGame}
use Rattle.shogi_rules.specs.Repetition.{times, IsNth}
use Rattle.shogi_rules.specs.Rules.{Kept}
use Rattle.shogi_board.specs.Rules.{KeepsRule, move_rules, all_rules, IsFirstBroken}
use Rattle.shogi_rules.specs.declared.line.PlayFault.{PlayFault}
use Rattle.shogi_rules.specs.declared.line.PlayFault.TheVariants.{Broken}
use Rattle.shogi_board.specs.declared.moves.Move.{Move}
use Rattle.shogi_board.specs.declared.rule.Rule.{Rule}
use Rattle.shogi_board.proofs.Broken.{AllKept}
use Rattle.shogi_board.proofs.Kept.{leads-to-sound}
use Rattle.shogi_rules.proofs.Counted.{times-low, times-last, times-kept, times-whole, get-following}
use Rattle.shogi_rules.proofs.Counting.{times-apart}
use Rattle.shogi_board.specs.Same.{same_position}
use Rattle.shogi_board.proofs.Same.{position-same}

pub all-of-none : (kept : Rule → Type 0) (xs : List Rule) → IsFirstBroken kept xs None → AllKept kept xs
all-of-none kept [] h = tt
all-of-none kept (x ∷ xs) (inl h) = let e = h.1 in cc
all-of-none kept (x ∷ xs) (inr h) = (h.0, all-of-none kept xs h.1)

legal-of-moves : (p : Placed) (m : Move) → AllKept (KeepsRule p m) move_rules → Legal p m
legal-of-moves p m all =
    let r3 = all.1 in
    let r4 = r3.1 in
    let r5 = r4.1 in
    let r6 = r5.1 in
    let r7 = r6.1 in
    let r8 = r7.1 in
    let r9 = r8.1 in
    let r10 = r9.1 in
    record {
      keeps = record {
        fits = record {
          has_piece = all.0;
          kind_fits = r3.0;
          target_free = r4.0;
          reaches = r5.0;
          may_promote = r6.0;
          further_move = r7.0;
          lone_pawn = r8.0;
        };
        king_safe = r9.0;
      };
      no_drop_mate = r10.0;
    }

-- a move that breaks no rule is not refused by the first broken one
none-of-all : (kept : Rule → Type 0) (xs : List Rule) (answer : Option Rule) → AllKept kept xs → IsFirstBroken kept xs answer → answer ≡ None
none-of-all kept [] answer all h = h
none-of-all kept (x ∷ xs) answer all (inl h) = absurd (h.0 all.0)
none-of-all kept (x ∷ xs) answer all (inr h) = none-of-all kept xs answer all.1 h.1

moves-of-legal : (p : Placed) (m : Move) → Legal p m → AllKept (KeepsRule p m) move_rules
moves-of-legal p m l =
    let f = l.keeps.fits in
    (f.has_piece, (f.kind_fits, (f.target_free, (f.reaches, (f.may_promote, (f.further_move, (f.lone_pawn, (l.keeps.king_safe, (l.no_drop_mate, tt)))))))))

-- of the side to move, no rule is broken exactly where the move is legal
pub none-legal : (p : Placed) (c : Color) (m : Move) (answer : Option Rule) → c ≡ p.side → IsFirstBroken (KeepsRule p m) move_rules answer → (answer ≡ None) ↔ ((c ≡ p.side) × Legal p m)
none-legal p c m answer same h = (
  λ e. (same, let none : IsFirstBroken (KeepsRule p m) move_rules None = rw e at h in legal-of-moves p m (all-of-none (KeepsRule p m) move_rules none)),
  λ l. none-of-all (KeepsRule p m) move_rules answer (moves-of-legal p m l.1) h,
)

pub legal-of-none : (line : Played) (c : Color) (m : Move) → IsFirstBroken (Kept line c m) all_rules None → Legal (now_of line) m
legal-of-none line c m h = let all = all-of-none (Kept line c m) all_rules h in let rest = all.1 in legal-of-moves (now_of line) m rest.1

pub position-more : (s : Placed) (ms : List Move) (m : Move) → position_after s (ms ++ m ∷ []) ≡ after (position_after s ms) m
position-more s [] m = refl
position-more s (x ∷ xs) m = position-more (after s x) xs m

pub positions-more : (s : Placed) (ms : List Move) (m : Move) → positions_of s (ms ++ m ∷ []) ≡ positions_of s ms ++ after (position_after s ms) m ∷ []
positions-more s [] m = refl
positions-more s (x ∷ xs) m = ap (λ ps. s ∷ ps) (positions-more (after s x) xs m)

pub positions-long : (s : Placed) (ms : List Move) → length (positions_of s ms) ≡ length ms + 1
positions-long s [] = refl
positions-long s (m ∷ ms) = let h = positions-long (after s m) ms in omega (arith, h)

-- there is room for one position more
pub line-room : (start : Placed) (moves : List Move) → length moves < 10000 → length (positions_of start moves) ≤ 10000
line-room start moves few = let h = positions-long start moves in omega (arith, h, few)

pub line-more : (start : Placed) (moves : List Move) (c : Color) (m : Move) → IsLine start moves → length moves < 10000 → IsFirstBroken (Kept (line_of start moves) c m) all_rules None → IsLine start (moves ++ m ∷ [])
line-more start moves c m line few none = record {
  game =
      let kept = all-of-none (Kept (line_of start moves) c m) all_rules none in
      let rest = kept.1 in
      played moves m line.game (record { legal = legal-of-none (line_of start moves) c m none; not_over = rest.0 });
  few = omega (arith, length-append moves (m ∷ []));
}

-- what a test says is not so
pub denied : {A : Type 0} (b : Bool) → IsTrue b ↔ A → b ≡ false → A → ⊥
denied b says off holds = let yes = says.1 holds in cc

-- what a test of a limit says is below it
pub below : (b : Bool) (n m : ℕ) → IsTrue b ↔ (m ≤ n) → b ≡ false → n < m
below b n m says off = elim (cases_lt n m) [ inl low ↦ low | inr full ↦ absurd (denied b says off full) ]

few-by : (ps : List Placed) (p q : Placed) (b : Bool) → same_position p q ≡ b → times ps q ≤ 3 → ((4 ≤ times (ps ++ p ∷ []) p) → ⊥) → times (ps ++ p ∷ []) q ≤ 3
few-by ps p q false e low going = let same = times-apart ps p q (λ is. let yes = (position-same p q).1 is in cc) in omega (arith, same, low)
few-by ps p q true e low going =
    let is : p ≡ q = (position-same p q).0 e in
    let last : times (ps ++ p ∷ []) p ≤ 3 = elim (cases_lt (times (ps ++ p ∷ []) p) 4) [ inl few ↦ omega (arith, few) | inr over ↦ absurd (going over) ] in
    subst (λ (x : Placed). times (ps ++ p ∷ []) x ≤ 3) is last

-- while a game goes on no position occurs for the fourth time
game-few : (start : Placed) (ms : List Move) → IsGame start ms → (Over (line_of start ms) → ⊥) → (q : Placed) → times (positions_of start ms) q ≤ 3
game-few start _ begun going q = let low = times-low (start ∷ []) q in omega (arith, low)
game-few start _ (played before m game may) going q =
    let ps = positions_of start before in
    let p = after (position_after start before) m in
    let all = positions-more start before m in
    let last = position-more start before m in
    let still : (4 ≤ times (ps ++ p ∷ []) p) → ⊥ = rw (all, last) at going in
    rw all (few-by ps p q (same_position p q) refl (game-few start before game may.not_over q) still)

-- a position that occurs for the fourth time does so at the last place
pub game-fourth : (start : Placed) (ms : List Move) → IsGame start ms → Over (line_of start ms) → IsNth (positions_of start ms) (position_after start ms) 4 (length ms)
game-fourth start _ begun over = let low = times-low (start ∷ []) start in absurd (omega (arith, low, over))
game-fourth start _ (played before m game may) over =
    let ps = positions_of start before in
    let p = after (position_after start before) m in
    let all = positions-more start before m in
    let last = position-more start before m in
    let stands : 4 ≤ times (ps ++ p ∷ []) p = rw (all, last) at over in
    let few = game-few start before game may.not_over p in
    let more = times-last ps p in
    let long = positions-long start before in
    let count = length-append before (m ∷ []) in
    let place : length (before ++ m ∷ []) ≡ length ps = omega (arith, long, count) in
    let kept = times-kept ps p (length ps) p (omega arith) in
    let whole = times-whole ps (length ps) p (omega arith) in
    rw (all, last, place) (record { stands = get-following ps p (length ps) refl; before = omega (arith, kept, whole, more, few, stands) })

last-by : (ps : List Placed) (p q : Placed) (b : Bool) → same_position p q ≡ b → times ps q ≤ 3 → 4 ≤ times (ps ++ p ∷ []) q → q ≡ p
last-by ps p q true e low over = sym ((position-same p q).0 e)
last-by ps p q false e low over = let same = times-apart ps p q (λ is. let yes = (position-same p q).1 is in cc) in absurd (omega (arith, same, low, over))

-- and it is the last one
pub game-last : (start : Placed) (ms : List Move) → IsGame start ms → (q : Placed) → 4 ≤ times (positions_of start ms) q → q ≡ position_after start ms
game-last start _ begun q over = let low = times-low (start ∷ []) q in absurd (omega (arith, low, over))
game-last start _ (played before m game may) q over =
    let ps = positions_of start before in
    let p = after (position_after start before) m in
    let stands : 4 ≤ times (ps ++ p ∷ []) q = rw (positions-more start before m) at over in
    last-by ps p q (same_position p q) refl (game-few start before game may.not_over q) stands ∙ sym (position-more start before m)

-- the answer that a first broken rule gives, where no limit is met
pub broken-answer : (line : Played) (color : Color) (m : Move) (rule : Option Rule) (fault : Option PlayFault) (Is : Rule → PlayFault → Type 0) → length line.moves < max_moves → Breaks line color m rule
    → MatchOption rule (fault ≡ None) (λ r. IsSomeAnd fault (Is r)) → ((r : Rule) (f : PlayFault) → Is r f → f ≡ Broken r) → Answers line color m fault
broken-answer line color m None fault Is few breaks h broken = subst (Answers line color m) (sym h) (few, breaks)
broken-answer line color m (Some r) None Is few breaks h broken = absurd h
broken-answer line color m (Some r) (Some f) Is few breaks h broken = subst (λ (g : PlayFault). Answers line color m (Some g)) (sym (broken r f h)) (few, breaks)

-- the first broken rule of all, where the side may play
pub breaks-of : (line : Played) (last : Placed) (color : Color) (m : Move) (answer : Option Rule) → last ≡ now_of line → IsOpen line color → IsFirstBroken (KeepsRule last m) move_rules answer → Breaks line color m answer
breaks-of line last color m answer e may broken =
    let moved : IsFirstBroken (KeepsRule (now_of line) m) move_rules answer = subst (λ (p : Placed). IsFirstBroken (KeepsRule p m) move_rules answer) e broken in
    inr (may.turn, inr (may.not_over, moved))

-- a game leads from a sound position to a sound one
pub game-sound : (start : Placed) (moves : List Move) → IsSound start → IsGame start moves → IsSound (position_after start moves)
game-sound start _ sound begun = sound
game-sound start _ sound (played before m game follows) =
    let now = game-sound start before sound game in
    rw (position-more start before m) (leads-to-sound (position_after start before) m now follows.legal.keeps)
