-- Each line has a verdict.
use Rattle.std.proofs.Common.{◌≡◌, ℕ, zero, suc, ◌+◌, ◌<◌, ◌≤◌, inl, inr, Bool, true, false, cond, List, [], ◌∷◌, Option, Some, None, length, take, slice_get, arith, refl, ap, sym, ◌∙◌}
use Rattle.std.proofs.lemmas.Bool.{cases_lt}
use Rattle.std.proofs.lemmas.Option.{same_Some}
use Rattle.shogi_board.specs.Pieces.{opponent}
use Rattle.shogi_board.specs.Placed.{Placed}
use Rattle.shogi_board.specs.Reach.{InCheck}
use Rattle.shogi_board.specs.Same.{same_position}
use Rattle.shogi_board.specs.declared.color.Color.{Color}
use Rattle.shogi_board.specs.declared.color.Color.TheVariants.{Black, White}
use Rattle.shogi_board.proofs.Decided.{Decision, Below, decide-as, decide-both, decide-implies, decide-not, decide-below, decide-color, decide-in_check}
use Rattle.shogi_board.proofs.Same.{position-same}
use Rattle.shogi_board.specs.Legal.{Legal}
use Rattle.shogi_rules.specs.Play.{Answers}
use Rattle.shogi_rules.specs.Positions.{Played, Over, now_of, all_of}
use Rattle.shogi_rules.specs.Repetition.{times, IsNth, PressedAt, Pressed}
use Rattle.shogi_rules.specs.Rules.{Kept}
use Rattle.shogi_board.specs.Rules.{all_rules, IsFirstBroken}
use Rattle.shogi_rules.specs.Verdicts.{IsStretch, PressedAlone, StandsByMoves, StandsByStretch, Stands}
use Rattle.shogi_rules.specs.declared.line.PlayFault.{PlayFault}
use Rattle.shogi_rules.specs.declared.line.PlayFault.TheVariants.{TooManyMoves, Broken}
use Rattle.shogi_rules.specs.declared.line.Verdict.{Verdict}
use Rattle.shogi_rules.specs.declared.line.Verdict.TheVariants.{Ongoing, Mate, NoMove, Repetition, Perpetual}
use Rattle.shogi_board.specs.declared.moves.Move.{Move}
use Rattle.shogi_board.specs.declared.rule.Rule.{Rule}
use Rattle.shogi_rules.proofs.Counts.{first}
use Rattle.shogi_rules.proofs.Decided.{decide-kept, decide-le, decide-legal, decide-lt, decide-move, decide-over, some-broken}

full-of : (n : ℕ) → (n < 10000 → ⊥) → 10000 ≤ n
full-of n full = elim (cases_lt n 10000) [ inl few ↦ absurd (full few) | inr le ↦ le ]

answer-of : (line : Played) (color : Color) (m : Move) → length line.moves < 10000 → (rule : Option Rule) × IsFirstBroken (Kept line color m) all_rules rule → (answer : Option PlayFault) × Answers line color m answer
answer-of line color m few (None, none) = (None, (few, none))
answer-of line color m few (Some rule, broken) = (Some (Broken rule), (few, broken))

pub some-answer : (line : Played) (color : Color) (m : Move) → (answer : Option PlayFault) × Answers line color m answer
some-answer line color m =
    elim (decide-lt (length line.moves) 10000) [
      | inl few ↦ answer-of line color m few (some-broken (Kept line color m) all_rules (decide-kept line color m))
      | inr full ↦ (Some TooManyMoves, full-of (length line.moves) full)
    ]

-- the place where a position occurs for the time after n others
place-from : (ps : List Placed) (x p : Placed) (n : ℕ) (b : Bool) → same_position x p ≡ b → n < cond b 1 0 + times ps p → ((m : ℕ) → m < times ps p → (place : ℕ) × IsNth ps p (m + 1) place) → (place : ℕ) × IsNth (x ∷ ps) p (n + 1) place
place-from ps x p zero true e low rest = (zero, record { stands = ap Some ((position-same x p).0 e); before = refl })
place-from ps x p (suc m) true e low rest =
    let r = rest m (omega (arith, low)) in
    let more : times (x ∷ take r.0 ps) p ≡ 1 + times (take r.0 ps) p = rw e at (first (take r.0 ps) x p) in
    (suc r.0, record { stands = r.1.stands; before = omega (arith, more, r.1.before) })
place-from ps x p n false e low rest =
    let r = rest n (omega (arith, low)) in
    let same : times (x ∷ take r.0 ps) p ≡ 0 + times (take r.0 ps) p = rw e at (first (take r.0 ps) x p) in
    (suc r.0, record { stands = r.1.stands; before = omega (arith, same, r.1.before) })

pub some-place : (ps : List Placed) (p : Placed) (n : ℕ) → n < times ps p → (place : ℕ) × IsNth ps p (n + 1) place
some-place [] p n low = absurd (omega (arith, low))
some-place (x ∷ ps) p n low =
    let f = first ps x p in
    place-from ps x p n (same_position x p) refl (omega (arith, low, f)) (λ m less. some-place ps p m less)

pressed-at : (ps : List Placed) (color : Color) (place : ℕ) (a b : Option Placed) → slice_get ps place ≡ a → slice_get ps (place + 1) ≡ b → Decision (PressedAt ps color place)
pressed-at ps color place None b e f = inl (λ p q hp hq side. let g : None ≡ Some p = sym e ∙ hp in cc)
pressed-at ps color place (Some x) None e f = inl (λ p q hp hq side. let g : None ≡ Some q = sym f ∙ hq in cc)
pressed-at ps color place (Some x) (Some y) e f =
    decide-as (x.side ≡ color → InCheck y.material.board y.side) (PressedAt ps color place)
    (λ h p q hp hq side.
    let same : x ≡ p = same_Some x p (sym e ∙ hp) in
    let next : y ≡ q = same_Some y q (sym f ∙ hq) in
    let own : x.side ≡ color = rw same side in
    let check : InCheck y.material.board y.side = h own in
    let there : InCheck q.material.board q.side = rw next at check in
    there)
    (λ h. h x y e f)
    (decide-implies _ _ (decide-color x.side color) (decide-in_check y.material.board y.side))

decide-pressed_at : (ps : List Placed) (color : Color) (place : ℕ) → Decision (PressedAt ps color place)
decide-pressed_at ps color place = pressed-at ps color place (slice_get ps place) (slice_get ps (place + 1)) refl refl

-- whether each move of a side in the stretch gave check
pub decide-pressed : (ps : List Placed) (start fourth : ℕ) (color : Color) → Decision (Pressed ps start fourth color)
decide-pressed ps start fourth color =
    let Not : ℕ → Type 0 = λ k. (start ≤ k) × (PressedAt ps color k → ⊥) in
    decide-as (Below Not fourth → ⊥) (Pressed ps start fourth color)
    (λ h k low high. elim (decide-pressed_at ps color k) [
      | inl gave ↦ gave
      | inr lacks ↦ absurd (h (k, high, (low, lacks)))
    ])
    (λ h b. b.2.1 (h b.0 b.2.0 b.1))
    (decide-not _ (decide-below Not fourth (λ k. decide-both _ _ (decide-le start k) (decide-not _ (decide-pressed_at ps color k)))))

decide-alone : (ps : List Placed) (start fourth : ℕ) (color : Color) → Decision (PressedAlone ps start fourth color)
decide-alone ps start fourth color =
    decide-both _ _ (decide-pressed ps start fourth color) (decide-not _ (decide-pressed ps start fourth (opponent color)))

nobody : (ps : List Placed) (start fourth : ℕ) → (PressedAlone ps start fourth Black → ⊥) → (PressedAlone ps start fourth White → ⊥) → (color : Color) → PressedAlone ps start fourth color → ⊥
nobody ps start fourth b w Black = b
nobody ps start fourth b w White = w

by-stretch : (line : Played) (start fourth : ℕ) → IsStretch line start fourth → Decision (PressedAlone (all_of line) start fourth Black) → Decision (PressedAlone (all_of line) start fourth White) → (verdict : Verdict) × StandsByStretch line verdict
by-stretch line start fourth stretch (inl alone) d = (Perpetual Black, record { first = start; fourth = fourth; stretch = stretch; alone = alone })
by-stretch line start fourth stretch (inr nor) (inl alone) = (Perpetual White, record { first = start; fourth = fourth; stretch = stretch; alone = alone })
by-stretch line start fourth stretch (inr nor) (inr none) =
    (Repetition, record { first = start; fourth = fourth; stretch = stretch; nobody_alone = nobody (all_of line) start fourth nor none })

stretch-of : (line : Played) → Over line → (verdict : Verdict) × StandsByStretch line verdict
stretch-of line over =
    let ps = all_of line in
    let a = some-place ps (now_of line) 0 (omega (arith, over)) in
    let b = some-place ps (now_of line) 3 (omega (arith, over)) in
    by-stretch line a.0 b.0 (record { begins = a.1; ends = b.1 }) (decide-alone ps a.0 b.0 Black) (decide-alone ps a.0 b.0 White)

by-moves : (p : Placed) → Decision ((m : Move) × Legal p m) → Decision (InCheck p.material.board p.side) → (verdict : Verdict) × StandsByMoves p verdict
by-moves p (inl some) d = (Ongoing, some)
by-moves p (inr none) (inl check) = (Mate, (check, λ m legal. none (m, legal)))
by-moves p (inr none) (inr safe) = (NoMove, (safe, λ m legal. none (m, legal)))

verdict-of : (line : Played) → Decision (Over line) → (verdict : Verdict) × Stands line verdict
verdict-of line (inl over) = let v = stretch-of line over in (v.0, inl (over, v.1))
verdict-of line (inr not_over) =
    let p = now_of line in
    let v = by-moves p (decide-move (Legal p) (decide-legal p)) (decide-in_check p.material.board p.side) in
    (v.0, inr (not_over, v.1))

pub some-verdict : (line : Played) → (verdict : Verdict) × Stands line verdict
some-verdict line = verdict-of line (decide-over line)
