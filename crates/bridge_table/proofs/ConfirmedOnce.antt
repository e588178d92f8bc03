-- A log confirms one game.
use Rattle.std.proofs.Common.{◌≡◌, ℕ, ◌++◌, inl, inr, List, [], ◌∷◌, refl, sym, ap, subst, ◌∙◌}
use Rattle.std.specs.List.{AllByRecursion, AllZip, filter}
use Rattle.shogi_board.specs.declared.color.Color.{Color}
use Rattle.record_game.specs.Game.{Timed}
use Rattle.bridge_table.specs.Logs.{Step, Moved, IsMoved, IsWithinPlay, EndsPlay, Confirmed, summary_lines}
use Rattle.session_lines.specs.MoveLines.{is_move_line}
use Rattle.bridge_table.specs.Summary.{Offer, TellsOffer, TellsSummary}
use Rattle.bridge_table.proofs.Counting.{counts_is}
use Rattle.session_lines.proofs.LinesRead.{timed_once}
use Rattle.bridge_table.proofs.RowOnce.{offer_once}

abbrev Lines : Type 0
Lines = List (List ℕ)

stops : (x : List ℕ) (xs : Lines) → IsWithinPlay x → EndsPlay (x ∷ xs) → ⊥
stops x xs on (inl e) = on.no_ending e
stops x xs on (inr h) = let f = on.no_hash in cc

same_split : (t r u v : Lines) → t ++ r ≡ u ++ v → AllByRecursion IsWithinPlay t → EndsPlay r → AllByRecursion IsWithinPlay u → EndsPlay v → (t ≡ u) × (r ≡ v)
same_split [] r [] v e a b c d = (refl, e)
same_split [] r (y ∷ u) v e a b c d = absurd (stops y (u ++ v) c.0 (subst EndsPlay e b))
same_split (x ∷ t) r [] v e a b c d = absurd (stops x (t ++ r) a.0 (subst EndsPlay (sym e) d))
same_split (x ∷ t) r (y ∷ u) v e a b c d =
    let head : x ≡ y = cc in
    let tail : t ++ r ≡ u ++ v = cc in
    let more = same_split t r u v tail a.1 b c.1 d in
    (ap (λ z. z ∷ t) head ∙ ap (λ zs. y ∷ zs) more.0, more.1)

same_moved : (m n : Moved) → m.color ≡ n.color → m.played ≡ n.played → m ≡ n
same_moved m n e f = ap (λ (c : Color). record m { color = c }) e ∙ ap (λ (t : Timed). record n { played = t }) f

moved_once : (ls : Lines) (ms ns : List Moved) → AllZip IsMoved ls ms → AllZip IsMoved ls ns → ms ≡ ns
moved_once [] [] [] a b = refl
moved_once [] [] (n ∷ ns) a b = absurd b
moved_once [] (m ∷ ms) ns a b = absurd a
moved_once (l ∷ ls) [] ns a b = absurd a
moved_once (l ∷ ls) (m ∷ ms) [] a b = absurd b
moved_once (l ∷ ls) (m ∷ ms) (n ∷ ns) a b =
    let one = timed_once l m.color n.color m.played n.played a.0 b.0 in
    ap (λ x. x ∷ ms) (same_moved m n one.0 one.1) ∙ ap (λ xs. n ∷ xs) (moved_once ls ms ns a.1 b.1)

summary_once : (ls : Lines) (o p : Offer) → TellsSummary ls o → TellsSummary ls p → o ≡ p
summary_once ls o p a b =
    let same : a.0 ≡ b.0 = counts_is ls a.0 a.1 ∙ sym (counts_is ls b.0 b.1) in
    offer_once b.0 o p (subst (λ h. TellsOffer h o) same a.2) b.2

splits_once : (log : List Step) (o p : Offer) (ms ns : List Moved) (a : Confirmed log o ms) (b : Confirmed log p ns) → (a.taken ≡ b.taken) × (a.rest ≡ b.rest)
splits_once log o p ms ns a b =
    same_split a.taken a.rest b.taken b.rest (sym a.lines_are.whole ∙ b.lines_are.whole) a.lines_are.goes_on a.lines_are.ends b.lines_are.goes_on b.lines_are.ends

pub confirmed_once : (log : List Step) (o p : Offer) (ms ns : List Moved) → Confirmed log o ms → Confirmed log p ns → (o ≡ p) × (ms ≡ ns)
confirmed_once log o p ms ns a b = (
  summary_once (summary_lines log) o p a.stated b.stated,
  moved_once (filter is_move_line b.taken) ms ns (subst (λ ls. AllZip IsMoved (filter is_move_line ls) ms) (splits_once log o p ms ns a b).0 a.spelt) b.spelt,
)

pub rest_once : (log : List Step) (o p : Offer) (ms ns : List Moved) (a : Confirmed log o ms) (b : Confirmed log p ns) → a.rest ≡ b.rest
rest_once log o p ms ns a b = (splits_once log o p ms ns a b).1
