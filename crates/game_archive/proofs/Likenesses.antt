-- A key is that of one game, or of one start and its moves.
use Rattle.std.proofs.Common.{◌≡◌, ℕ, List, ap, map, subst, sym, ◌∙◌}
use Rattle.game_archive.specs.Keying.{IsKeyOf}
use Rattle.game_archive.specs.Knowing.{HasKey}
use Rattle.game_archive.specs.Alike.{AreAlike}
use Rattle.record_game.specs.declared.likeness.Likeness.{Likeness}
use Rattle.record_game.specs.declared.likeness.Likeness.TheVariants as likeness
use Rattle.record_game.proofs.SaysOnce.{tells_once}
use Rattle.record_game.specs.Canon.{canon}
use Rattle.record_game.specs.Game.{Game, move_of}
use Rattle.record_game.specs.Tells.{Tells}
use Rattle.shogi_board.specs.Placed.{Placed}
use Rattle.shogi_board.specs.declared.moves.Move.{Move}
use Rattle.usi_text.proofs.LineOnce.{line_once}
use Rattle.usi_text.proofs.OneText.{one_line_text}
use Rattle.usi_text.specs.LineText.{LineText}
use Rattle.usi_text.specs.Words.{words}

-- games with one start and the same moves have one position line
line_of_both : (start other : Placed) (moves others : List Move) (s t : List ℕ) → start ≡ other → moves ≡ others → LineText start moves s → LineText other others t → s ≡ t
line_of_both start other moves others s t e f p q =
    one_line_text start moves s t p (subst (λ x. LineText x moves t) (sym e) (subst (λ ms. LineText other ms t) (sym f) q))

-- a game has one key
key_of_game : (l : Likeness) (g : Game) (s t : List ℕ) → IsKeyOf l g s → IsKeyOf l g t → s ≡ t
key_of_game likeness.Game g s t p q = p.0 ∙ sym q.0
key_of_game likeness.Moves g s t p q = one_line_text g.start (map move_of g.moves) s t p.0 q.0

pub key_once : (l : Likeness) (bytes s t : List ℕ) → HasKey l bytes s → HasKey l bytes t → s ≡ t
key_once l bytes s t p q =
    let same = tells_once bytes q.0 p.0 q.1 p.1 in
    key_of_game l p.0 s t p.2 (subst (λ g. IsKeyOf l g t) same q.2)

pub alike_by_key : (l : Likeness) (a b key : List ℕ) → HasKey l a key → HasKey l b key → AreAlike l a b
alike_by_key likeness.Game a b key p q = (p.0, p.1, subst (Tells b) (tells_once key q.0 p.0 q.2.1 p.2.1) q.1)
alike_by_key likeness.Moves a b key p q =
    let once = line_once (words key) p.0.start q.0.start (map move_of p.0.moves) (map move_of q.0.moves) p.2.1 q.2.1 in
    (p.0, q.0, p.1, q.1, once.0, once.1)

pub key_of_alike : (l : Likeness) (a b s t : List ℕ) → AreAlike l a b → HasKey l a s → HasKey l b t → s ≡ t
key_of_alike likeness.Game a b s t alike p q =
    let one = tells_once a p.0 alike.0 p.1 alike.1 in
    let other = tells_once b q.0 alike.0 q.1 alike.2 in
    p.2.0 ∙ (ap canon (one ∙ sym other) ∙ sym q.2.0)
key_of_alike likeness.Moves a b s t alike p q =
    let one = tells_once a p.0 alike.0 p.1 alike.2 in
    let other = tells_once b alike.1 q.0 alike.3 q.1 in
    line_of_both p.0.start q.0.start (map move_of p.0.moves) (map move_of q.0.moves) s t
    (ap (λ g. g.start) one ∙ (alike.4 ∙ ap (λ g. g.start) other))
    (ap (λ g. map move_of g.moves) one ∙ (alike.5 ∙ ap (λ g. map move_of g.moves) other)) p.2.0 q.2.0
