-- Words are at most one position line, or they have one first fault.
use Rattle.std.proofs.Common.{◌≡◌, ◌≢◌, ℕ, inl, inr, List, [], ◌∷◌, ◌++◌, Option, Some, None, Result, Ok, Err, arith, refl, sym, ap, ◌∙◌, subst, codes}
use Rattle.std.specs.List.{AllByRecursion}
use Rattle.shogi_board.specs.Placed.{Placed}
use Rattle.shogi_rules.specs.Play.{Breaks}
use Rattle.shogi_rules.specs.Positions.{line_of}
use Rattle.shogi_rules.specs.Rules.{Kept}
use Rattle.shogi_board.specs.Rules.{all_rules, IsFirstBroken}
use Rattle.shogi_rules.specs.declared.line.PlayFault.TheVariants as play
use Rattle.shogi_board.specs.declared.moves.Move.{Move}
use Rattle.shogi_board.specs.declared.rule.Rule.{Rule}
use Rattle.usi_text.specs.declared.fault.SfenFault.{SfenFault}
use Rattle.usi_text.specs.declared.fault.UsiFault.{UsiFault}
use Rattle.usi_text.specs.declared.fault.UsiFault.TheVariants.{BadLine, BadMoveText, Broken, TooManyMoves, OutOfMemory}
use Rattle.usi_text.specs.declared.fault.UsiFault.TheVariants as usi
use Rattle.usi_text.specs.Lines.{HasMoves, EvenLine, SfenLine, Starts, Judged, IsPlayed, WordFault, Plays, UsiLine, MovesFault, LineFault, position_now}
use Rattle.usi_text.specs.Moves.{UsiMove}
use Rattle.usi_text.specs.Sfen.{Sfen, FirstFault}
use Rattle.usi_text.proofs.Heads.{same_tail, second_of, sizes}
use Rattle.usi_text.proofs.OneMove.{one_move}
use Rattle.usi_text.proofs.SfenOnce.{sfen_once, sfen_no_fault, fault_once}

abbrev Words : Type 0
Words = List (List ℕ)

has_once : (tail a b : Words) → HasMoves tail a → HasMoves tail b → a ≡ b
has_once [] a b h k = h ∙ sym k
has_once (w ∷ ws) a b h k = h.1 ∙ sym k.1

abbrev Plain : Words → Type 0
Plain ws = AllByRecursion (λ w. w ≢ codes "moves") ws

-- what a tail begins with is moves
first_moves : (v : List ℕ) (vs tail rest moves : Words) → tail ≡ v ∷ (vs ++ rest) → HasMoves tail moves → v ≡ codes "moves"
first_moves v vs [] rest moves e h = cc
first_moves v vs (w ∷ ws) rest moves e h = let same : w ≡ v = cc in sym same ∙ h.0

split_once : (a b s t x y : Words) → a ++ s ≡ b ++ t → Plain a → Plain b → HasMoves s x → HasMoves t y → (a ≡ b) × (s ≡ t)
split_once [] [] s t x y e p q h k = (refl, e)
split_once [] (v ∷ vs) s t x y e p q h k = absurd (q.0 (first_moves v vs s t x e h))
split_once (v ∷ vs) [] s t x y e p q h k = absurd (p.0 (first_moves v vs t s y (sym e) k))
split_once (v ∷ vs) (w ∷ ws) s t x y e p q h k =
    let head : v ≡ w = cc in
    let tail : vs ++ s ≡ ws ++ t = cc in
    let r = split_once vs ws s t x y tail p.1 q.1 h k in
    (ap (λ z. z ∷ vs) head ∙ ap (λ z. w ∷ z) r.0, r.1)

both_heads : (ws : Words) (moves sfen others : Words) → EvenLine ws moves → SfenLine ws sfen others → ⊥
both_heads ws moves sfen others l s =
    sizes (codes "startpos") (codes "sfen") (second_of ws l.0 (sfen ++ s.tail) (codes "position") (codes "startpos") (codes "sfen") l.1 s.whole) (omega arith)

record Same (a b s t : Words) : Type 0 where
  sfen : a ≡ b
  moves : s ≡ t

lines_once : (ws a b s t : Words) → SfenLine ws a s → SfenLine ws b t → Same a b s t
lines_once ws a b s t l m =
    let e : a ++ l.tail ≡ b ++ m.tail = same_tail ws (a ++ l.tail) (b ++ m.tail) (codes "position") (codes "sfen") l.whole m.whole in
    let r = split_once a b l.tail m.tail s t e l.before m.before l.following m.following in
    record { sfen = r.0; moves = has_once m.tail s t (subst (λ z. HasMoves z s) r.1 l.following) m.following }

starts_once : (ws : Words) (p q : Placed) (s t : Words) → Starts ws p s → Starts ws q t → (p ≡ q) × (s ≡ t)
starts_once ws p q s t (inl h) (inl k) =
    let e : h.0.0 ≡ k.0.0 = same_tail ws h.0.0 k.0.0 (codes "position") (codes "startpos") h.0.1 k.0.1 in
    (h.1 ∙ sym k.1, has_once k.0.0 s t (subst (λ z. HasMoves z s) e h.0.2) k.0.2)
starts_once ws p q s t (inl h) (inr k) = absurd (both_heads ws s k.0 t h.0 k.1)
starts_once ws p q s t (inr h) (inl k) = absurd (both_heads ws t h.0 s k.0 h.1)
starts_once ws p q s t (inr h) (inr k) =
    let r = lines_once ws h.0 k.0 s t h.1 k.1 in
    (sfen_once k.0 p q (subst (λ z. Sfen z p) r.sfen h.2) k.2, r.moves)

broken_once : (kept : Rule → Type 0) (rules : List Rule) (a b : Option Rule) → IsFirstBroken kept rules a → IsFirstBroken kept rules b → a ≡ b
broken_once kept [] a b h k = h ∙ sym k
broken_once kept (r ∷ rs) a b (inl h) (inl k) = h.1 ∙ sym k.1
broken_once kept (r ∷ rs) a b (inl h) (inr k) = absurd (h.0 k.0)
broken_once kept (r ∷ rs) a b (inr h) (inl k) = absurd (k.0 h.0)
broken_once kept (r ∷ rs) a b (inr h) (inr k) = broken_once kept rs a b h.1 k.1

abbrev pub Breaking : Placed → List Move → Move → Option Rule → Type 0
Breaking start before m rule = Breaks (line_of start before) (position_now start before).side m rule

breaks_once : (start : Placed) (before : List Move) (m : Move) (a b : Option Rule) → Breaking start before m a → Breaking start before m b → a ≡ b
breaks_once start before m a b h k =
    let line = line_of start before in
    broken_once (Kept line (position_now start before).side m) all_rules a b h k

played_not_broken : (start : Placed) (before : List Move) (m : Move) (rule : Rule) → Judged start before m None → Judged start before m (Some (play.Broken rule)) → ⊥
played_not_broken start before m rule h k = let e : None ≡ Some rule = breaks_once start before m None (Some rule) h.1 k.1 in cc

same_move : (start : Placed) (before : List Move) (w : List ℕ) (m n : Move) → UsiMove (position_now start before) w m → UsiMove (position_now start before) w n → m ≡ n
same_move start before w m n h k = one_move (position_now start before) w m n h k

no_fault : (start : Placed) (before : List Move) (w : List ℕ) (m : Move) (f : UsiFault) → IsPlayed start before w m → WordFault start before w f → ⊥
no_fault start before w m BadLine p h = h
no_fault start before w m (usi.Sfen f) p h = h
no_fault start before w m OutOfMemory p h = h
no_fault start before w m TooManyMoves p h = let few = p.1.0 in omega arith
no_fault start before w m (BadMoveText n) p h = h.2 m p.0
no_fault start before w m (Broken n rule) p h =
    let e = same_move start before w h.1 m h.2 p.0 in
    played_not_broken start before m rule p.1 (subst (λ x. Judged start before x (Some (play.Broken rule))) e h.3)

word_fault_once : (start : Placed) (before : List Move) (w : List ℕ) (f g : UsiFault) → WordFault start before w f → WordFault start before w g → f ≡ g
word_fault_once start before w BadLine g h k = absurd h
word_fault_once start before w (usi.Sfen x) g h k = absurd h
word_fault_once start before w OutOfMemory g h k = absurd h
word_fault_once start before w TooManyMoves BadLine h k = absurd k
word_fault_once start before w TooManyMoves (usi.Sfen y) h k = absurd k
word_fault_once start before w TooManyMoves OutOfMemory h k = absurd k
word_fault_once start before w TooManyMoves TooManyMoves h k = refl
word_fault_once start before w TooManyMoves (BadMoveText y) h k = let few = k.1 in absurd (omega arith)
word_fault_once start before w TooManyMoves (Broken y yr) h k = let few = k.3.0 in absurd (omega arith)
word_fault_once start before w (BadMoveText x) BadLine h k = absurd k
word_fault_once start before w (BadMoveText x) (usi.Sfen y) h k = absurd k
word_fault_once start before w (BadMoveText x) OutOfMemory h k = absurd k
word_fault_once start before w (BadMoveText x) TooManyMoves h k = let few = h.1 in absurd (omega arith)
word_fault_once start before w (BadMoveText x) (BadMoveText y) h k = ap BadMoveText (h.0 ∙ sym k.0)
word_fault_once start before w (BadMoveText x) (Broken y yr) h k = absurd (h.2 k.1 k.2)
word_fault_once start before w (Broken x xr) BadLine h k = absurd k
word_fault_once start before w (Broken x xr) (usi.Sfen y) h k = absurd k
word_fault_once start before w (Broken x xr) OutOfMemory h k = absurd k
word_fault_once start before w (Broken x xr) TooManyMoves h k = let few = h.3.0 in absurd (omega arith)
word_fault_once start before w (Broken x xr) (BadMoveText y) h k = absurd (k.2 h.1 h.2)
word_fault_once start before w (Broken x xr) (Broken y yr) h k =
    let e = same_move start before w h.1 k.1 h.2 k.2 in
    let j = subst (λ m. Judged start before m (Some (play.Broken xr))) e h.3 in
    let s : Some xr ≡ Some yr = breaks_once start before k.1 (Some xr) (Some yr) j.1 k.3.1 in
    let r : xr ≡ yr = cc in
    ap (λ n. Broken n xr) (h.0 ∙ sym k.0) ∙ ap (λ z. Broken y z) r

plays_once : (start : Placed) (before : List Move) (ws : Words) (x y : Result (List Move) UsiFault) → Plays start before ws x → Plays start before ws y → x ≡ y
plays_once start before [] x y h k = h ∙ sym k
plays_once start before (w ∷ ws) x y (inl h) (inl k) = h.2 ∙ (ap Err (word_fault_once start before w h.0 k.0 h.1 k.1) ∙ sym k.2)
plays_once start before (w ∷ ws) x y (inl h) (inr k) = absurd (no_fault start before w k.0 h.0 k.1 h.1)
plays_once start before (w ∷ ws) x y (inr h) (inl k) = absurd (no_fault start before w h.0 k.0 h.1 k.1)
plays_once start before (w ∷ ws) x y (inr h) (inr k) =
    let e = same_move start before w h.0 k.0 h.1.0 k.1.0 in
    plays_once start (before ++ k.0 ∷ []) ws x y (subst (λ m. Plays start (before ++ m ∷ []) ws x) e h.2) k.2

-- one start and one answer
abbrev EndReport : Words → Placed → Result (List Move) UsiFault → Type 0
EndReport ws start answer = (words : Words) × Starts ws start words × Plays start [] words answer

told_once : (ws : Words) (p q : Placed) (x y : Result (List Move) UsiFault) → EndReport ws p x → EndReport ws q y → (p ≡ q) × (x ≡ y)
told_once ws p q x y h k =
    let s = starts_once ws p q h.0 k.0 h.1 k.1 in
    let a = subst (λ z. Plays p [] z x) s.1 h.2 in
    let b = subst (λ z. Plays z [] k.0 x) s.0 a in
    (s.0, plays_once q [] k.0 x y b k.2)

pub line_once : (ws : Words) (p q : Placed) (a b : List Move) → UsiLine ws p a → UsiLine ws q b → (p ≡ q) × (a ≡ b)
line_once ws p q a b h k =
    let r = told_once ws p q (Ok a) (Ok b) h k in
    let e : Ok a ≡ Ok b = r.1 in
    (r.0, let same : a ≡ b = cc in same)

no_line : (ws : Words) (p : Placed) (a : List Move) (f : UsiFault) → UsiLine ws p a → MovesFault ws f → ⊥
no_line ws p a f h (q, words, s, k) = let e : Ok a ≡ Err f = (told_once ws p q (Ok a) (Err f) h (words, s, k)).1 in cc

moves_fault_once : (ws : Words) (f g : UsiFault) → MovesFault ws f → MovesFault ws g → f ≡ g
moves_fault_once ws f g (p, words, s, h) (q, others, t, k) =
    let e : Err f ≡ Err g = (told_once ws p q (Err f) (Err g) (words, s, h) (others, t, k)).1 in cc

bad_line : (ws : Words) (p : Placed) (moves : Words) → Starts ws p moves → LineFault ws BadLine → ⊥
bad_line ws p moves (inl h) f = f.0 moves h.0
bad_line ws p moves (inr h) f = f.1 h.0 moves h.1

bad_sfen : (ws : Words) (p : Placed) (moves : Words) (fault : SfenFault) → Starts ws p moves → LineFault ws (usi.Sfen fault) → ⊥
bad_sfen ws p moves fault (inl h) f = both_heads ws moves f.0 f.1 h.0 f.2
bad_sfen ws p moves fault (inr h) f =
    let r = lines_once ws h.0 f.0 moves f.1 h.1 f.2 in
    sfen_no_fault f.0 p fault (subst (λ z. Sfen z p) r.sfen h.2) f.3

pub line_no_fault : (ws : Words) (p : Placed) (a : List Move) (fault : UsiFault) → UsiLine ws p a → LineFault ws fault → ⊥
line_no_fault ws p a BadLine h f = bad_line ws p h.0 h.1 f
line_no_fault ws p a (usi.Sfen x) h f = bad_sfen ws p h.0 x h.1 f
line_no_fault ws p a OutOfMemory h f = f
line_no_fault ws p a TooManyMoves h f = no_line ws p a TooManyMoves h f
line_no_fault ws p a (BadMoveText n) h f = no_line ws p a (BadMoveText n) h f
line_no_fault ws p a (Broken n r) h f = no_line ws p a (Broken n r) h f

sfens_agree : (ws : Words) (x y : SfenFault) → LineFault ws (usi.Sfen x) → LineFault ws (usi.Sfen y) → x ≡ y
sfens_agree ws x y h k =
    let r = lines_once ws h.0 k.0 h.1 k.1 h.2 k.2 in
    fault_once k.0 x y (subst (λ z. FirstFault z x) r.sfen h.3) k.3

pub line_fault_once : (ws : Words) (f g : UsiFault) → LineFault ws f → LineFault ws g → f ≡ g
line_fault_once ws OutOfMemory g h k = absurd h
line_fault_once ws BadLine OutOfMemory h k = absurd k
line_fault_once ws BadLine BadLine h k = refl
line_fault_once ws BadLine (usi.Sfen y) h k = absurd (h.1 k.0 k.1 k.2)
line_fault_once ws BadLine TooManyMoves h k = absurd (bad_line ws k.0 k.1 k.2 h)
line_fault_once ws BadLine (BadMoveText i) h k = absurd (bad_line ws k.0 k.1 k.2 h)
line_fault_once ws BadLine (Broken i q) h k = absurd (bad_line ws k.0 k.1 k.2 h)
line_fault_once ws (usi.Sfen x) OutOfMemory h k = absurd k
line_fault_once ws (usi.Sfen x) BadLine h k = absurd (k.1 h.0 h.1 h.2)
line_fault_once ws (usi.Sfen x) (usi.Sfen y) h k = ap usi.Sfen (sfens_agree ws x y h k)
line_fault_once ws (usi.Sfen x) TooManyMoves h k = absurd (bad_sfen ws k.0 k.1 x k.2 h)
line_fault_once ws (usi.Sfen x) (BadMoveText i) h k = absurd (bad_sfen ws k.0 k.1 x k.2 h)
line_fault_once ws (usi.Sfen x) (Broken i q) h k = absurd (bad_sfen ws k.0 k.1 x k.2 h)
line_fault_once ws TooManyMoves OutOfMemory h k = absurd k
line_fault_once ws TooManyMoves BadLine h k = absurd (bad_line ws h.0 h.1 h.2 k)
line_fault_once ws TooManyMoves (usi.Sfen y) h k = absurd (bad_sfen ws h.0 h.1 y h.2 k)
line_fault_once ws TooManyMoves TooManyMoves h k = moves_fault_once ws TooManyMoves TooManyMoves h k
line_fault_once ws TooManyMoves (BadMoveText i) h k = moves_fault_once ws TooManyMoves (BadMoveText i) h k
line_fault_once ws TooManyMoves (Broken i q) h k = moves_fault_once ws TooManyMoves (Broken i q) h k
line_fault_once ws (BadMoveText n) OutOfMemory h k = absurd k
line_fault_once ws (BadMoveText n) BadLine h k = absurd (bad_line ws h.0 h.1 h.2 k)
line_fault_once ws (BadMoveText n) (usi.Sfen y) h k = absurd (bad_sfen ws h.0 h.1 y h.2 k)
line_fault_once ws (BadMoveText n) TooManyMoves h k = moves_fault_once ws (BadMoveText n) TooManyMoves h k
line_fault_once ws (BadMoveText n) (BadMoveText i) h k = moves_fault_once ws (BadMoveText n) (BadMoveText i) h k
line_fault_once ws (BadMoveText n) (Broken i q) h k = moves_fault_once ws (BadMoveText n) (Broken i q) h k
line_fault_once ws (Broken n r) OutOfMemory h k = absurd k
line_fault_once ws (Broken n r) BadLine h k = absurd (bad_line ws h.0 h.1 h.2 k)
line_fault_once ws (Broken n r) (usi.Sfen y) h k = absurd (bad_sfen ws h.0 h.1 y h.2 k)
line_fault_once ws (Broken n r) TooManyMoves h k = moves_fault_once ws (Broken n r) TooManyMoves h k
line_fault_once ws (Broken n r) (BadMoveText i) h k = moves_fault_once ws (Broken n r) (BadMoveText i) h k
line_fault_once ws (Broken n r) (Broken i q) h k = moves_fault_once ws (Broken n r) (Broken i q) h k
