-- A position occurs for the n-th time at one place, and a line has one verdict.
use Rattle.std.proofs.Common.{◌≡◌, ℕ, ◌+◌, ◌<◌, ◌≤◌, true, cond, List, Some, take, get_or, slice_get, arith, refl, ap, inl, inr}
use Rattle.std.proofs.lemmas.Bool.{cases_order}
use Rattle.std.proofs.lemmas.List.{take-take}
use Rattle.std.proofs.lemmas.List.Sums.{count_by_more_yes, sum_by-take-le}
use Rattle.std.proofs.lemmas.Option.{slice_get_within, get_or_from_slice_get}
use Rattle.shogi_board.specs.Placed.{Placed}
use Rattle.shogi_board.specs.Same.{same_position}
use Rattle.shogi_board.specs.declared.color.Color.{Color}
use Rattle.shogi_board.specs.declared.color.Color.TheVariants.{Black, White}
use Rattle.shogi_board.proofs.Same.{position-same}
use Rattle.shogi_rules.specs.Positions.{Played, all_of, now_of}
use Rattle.shogi_rules.specs.Repetition.{times, IsNth}
use Rattle.shogi_rules.specs.Verdicts.{IsStretch, PressedAlone, IsPerpetual, IsRepetition, StandsByMoves, StandsByStretch, Stands}
use Rattle.shogi_rules.specs.declared.line.Verdict.{Verdict}
use Rattle.shogi_rules.specs.declared.line.Verdict.TheVariants.{Ongoing, Mate, NoMove, Repetition, Perpetual}

-- a later place has the earlier one before it
later : (ps : List Placed) (p : Placed) (i j : ℕ) → slice_get ps i ≡ Some p → i < j → times (take i ps) p + 1 ≤ times (take j ps) p
later ps p i j there low =
    let here : get_or ps i p ≡ p = get_or_from_slice_get ps i p p there in
    let self : same_position (get_or ps i p) p ≡ true = rw here ((position-same p p).1 refl) in
    let one = count_by_more_yes (λ (q : Placed). same_position q p) ps i p (slice_get_within ps i p there) self in
    let le = sum_by-take-le (λ (q : Placed). cond (same_position q p) 1 0) (take j ps) (i + 1) in
    let same : take (i + 1) (take j ps) ≡ take (i + 1) ps = take-take (i + 1) j ps (omega arith) in
    let fewer : times (take (i + 1) ps) p ≤ times (take j ps) p = rw same at le in
    omega (arith, one, fewer)

pub nth-once : (ps : List Placed) (p : Placed) (n i j : ℕ) → IsNth ps p n i → IsNth ps p n j → i ≡ j
nth-once ps p n i j a b =
    elim (cases_order i j) [
      | inl same ↦ same
      | inr (inl low) ↦ let l = later ps p i j a.stands low in absurd (omega (arith, l, a.before, b.before))
      | inr (inr high) ↦ let l = later ps p j i b.stands high in absurd (omega (arith, l, a.before, b.before))
    ]

pub stretch-once : (line : Played) (f l f2 l2 : ℕ) → IsStretch line f l → IsStretch line f2 l2 → (f ≡ f2) × (l ≡ l2)
stretch-once line f l f2 l2 a b = (nth-once (all_of line) (now_of line) 1 f f2 a.begins b.begins, nth-once (all_of line) (now_of line) 4 l l2 a.ends b.ends)

alone-once : (ps : List Placed) (first fourth : ℕ) (c d : Color) → PressedAlone ps first fourth c → PressedAlone ps first fourth d → c ≡ d
alone-once ps first fourth Black White a b = absurd (a.1 b.0)
alone-once ps first fourth White Black a b = absurd (a.1 b.0)
alone-once ps first fourth _ _ a b = refl

perpetual-once : (line : Played) (c d : Color) → IsPerpetual line c → IsPerpetual line d → c ≡ d
perpetual-once line c d a b =
    let same = stretch-once line a.first a.fourth b.first b.fourth a.stretch b.stretch in
    let there : PressedAlone (all_of line) b.first b.fourth c = rw (same.0, same.1) at a.alone in
    alone-once (all_of line) b.first b.fourth c d there b.alone

perpetual-or-not : (line : Played) (c : Color) → IsPerpetual line c → IsRepetition line → ⊥
perpetual-or-not line c a b =
    let same = stretch-once line a.first a.fourth b.first b.fourth a.stretch b.stretch in
    let there : PressedAlone (all_of line) b.first b.fourth c = rw (same.0, same.1) at a.alone in
    b.nobody_alone c there

one-by-moves : (p : Placed) (u v : Verdict) → StandsByMoves p u → StandsByMoves p v → u ≡ v
one-by-moves p Ongoing Ongoing a b = refl
one-by-moves p Ongoing Mate a b = absurd (b.1 a.0 a.1)
one-by-moves p Ongoing NoMove a b = absurd (b.1 a.0 a.1)
one-by-moves p Mate Ongoing a b = absurd (a.1 b.0 b.1)
one-by-moves p Mate Mate a b = refl
one-by-moves p Mate NoMove a b = absurd (b.0 a.0)
one-by-moves p NoMove Ongoing a b = absurd (a.1 b.0 b.1)
one-by-moves p NoMove Mate a b = absurd (a.0 b.0)
one-by-moves p NoMove NoMove a b = refl
one-by-moves p Repetition v a b = absurd a
one-by-moves p (Perpetual c) v a b = absurd a
one-by-moves p _ Repetition a b = absurd b
one-by-moves p _ (Perpetual c) a b = absurd b

one-by-stretch : (line : Played) (u v : Verdict) → StandsByStretch line u → StandsByStretch line v → u ≡ v
one-by-stretch line Repetition Repetition a b = refl
one-by-stretch line Repetition (Perpetual c) a b = absurd (perpetual-or-not line c b a)
one-by-stretch line (Perpetual c) Repetition a b = absurd (perpetual-or-not line c a b)
one-by-stretch line (Perpetual c) (Perpetual d) a b = ap Perpetual (perpetual-once line c d a b)
one-by-stretch line Repetition v a b = absurd b
one-by-stretch line (Perpetual c) v a b = absurd b
one-by-stretch line _ v a b = absurd a

pub one-verdict : (line : Played) (u v : Verdict) → Stands line u → Stands line v → u ≡ v
one-verdict line u v (inl a) (inl b) = one-by-stretch line u v a.1 b.1
one-verdict line u v (inl a) (inr b) = absurd (b.0 a.0)
one-verdict line u v (inr a) (inl b) = absurd (a.0 b.0)
one-verdict line u v (inr a) (inr b) = one-by-moves (now_of line) u v a.1 b.1
