-- Words played as moves, one after another.
use Rattle.std.proofs.Common.{◌≡◌, ℕ, ◌⊎◌, ◌+◌, inl, inr, List, [], ◌∷◌, ◌++◌, Some, None, Result, Ok, Err, length, append_assoc, refl, sym, ap, ◌∙◌, subst}
use Rattle.std.specs.Prelude.{MatchResult, OnOk}
use Rattle.std.specs.Result.{IsErrAnd}
use Rattle.shogi_board.specs.declared.color.Color.{Color}
use Rattle.shogi_board.specs.Placed.{Placed}
use Rattle.shogi_rules.specs.Play.{Answers}
use Rattle.shogi_rules.specs.Positions.{Played, now_of, line_of}
use Rattle.shogi_rules.specs.declared.line.PlayFault.{PlayFault}
use Rattle.shogi_rules.specs.declared.line.PlayFault.TheVariants as play
use Rattle.shogi_board.specs.declared.moves.Move.{Move}
use Rattle.shogi_board.specs.declared.rule.Rule.{Rule}
use Rattle.usi_text.specs.declared.fault.SfenFault.{SfenFault}
use Rattle.usi_text.specs.declared.fault.UsiFault.{UsiFault}
use Rattle.usi_text.specs.declared.fault.UsiFault.TheVariants.{BadLine, BadMoveText, Broken, TooManyMoves, OutOfMemory}
use Rattle.usi_text.specs.declared.fault.UsiFault.TheVariants as usi
use Rattle.usi_text.specs.Lines.{Judged, IsPlayed, WordFault, Plays, LineFault, LineNeedsMemory, UsiLine, SfenLine, Starts, position_now}
use Rattle.usi_text.specs.Moves.{UsiMove}
use Rattle.usi_text.specs.Sfen.{Sfen, FirstFault}
use Rattle.usi_text.specs.Scanning.{word_fault, Stops, WordStops}

pub broken_stated : (line : Played) (c : Color) (m : Move) (rule : Rule) → ((play.Broken rule ≡ play.OutOfMemory) × Answers line c m None) ⊎ Answers line c m (Some (play.Broken rule)) → Answers line c m (Some (play.Broken rule))
broken_stated line c m rule (inl h) = let e = h.0 in cc
broken_stated line c m rule (inr h) = h

pub memory_stated : (line : Played) (c : Color) (m : Move) → ((play.OutOfMemory ≡ play.OutOfMemory) × Answers line c m None) ⊎ Answers line c m (Some play.OutOfMemory) → Answers line c m None
memory_stated line c m (inl h) = h.1
memory_stated line c m (inr h) = absurd h

-- why a word is not played for which play refused its move
fault_stated : (start : Placed) (before : List Move) (w : List ℕ) (m : Move) (n : ℕ) (fault : PlayFault)
    → n ≡ length before + 1 → UsiMove (position_now start before) w m
    → ((fault ≡ play.OutOfMemory) × Judged start before m None) ⊎ Judged start before m (Some fault) → WordStops start before w (word_fault n fault)
fault_stated start before w m n play.TooManyMoves size spelt (inl h) = let e = h.0 in cc
fault_stated start before w m n play.TooManyMoves size spelt (inr h) = inr h
fault_stated start before w m n (play.Broken rule) size spelt h =
    inr (size, m, spelt, broken_stated (line_of start before) (position_now start before).side m rule h)
fault_stated start before w m n play.OutOfMemory size spelt h =
    inl (refl, m, (spelt, memory_stated (line_of start before) (position_now start before).side m h))

-- why a word is not played, if each fault of its play is made the word's
pub word_stated : (line new : Played) (w : List ℕ) (m : Move) (c : Color) (n : ℕ) (played : Result (Unit {0}) PlayFault) (stated : Result (Unit {0}) UsiFault) (P : PlayFault → UsiFault → Type 0)
    → n ≡ length line.moves + 1 → UsiMove (now_of line) w m → c ≡ (now_of line).side
    → MatchResult played (λ _. Answers line c m None) (λ fault. ((fault ≡ play.OutOfMemory) × Answers line c m None) ⊎ Answers line c m (Some fault))
    → OnOk played (new ≡ record line { moves = line.moves ++ m ∷ [] })
    → MatchResult played (λ x. stated ≡ Ok x) (λ e. IsErrAnd stated (P e))
    → ((e : PlayFault) (f : UsiFault) → P e f → f ≡ word_fault n e)
    → MatchResult stated (λ _. (m : Move) × IsPlayed line.start line.moves w m × (new ≡ line_of line.start (line.moves ++ m ∷ []))) (λ f. WordStops line.start line.moves w f)
word_stated line new w m c n (Ok x) stated P size spelt side answer now same turns =
    rw same (m, (spelt, subst (λ (s : Color). Answers line s m None) side answer), now)
word_stated line new w m c n (Err e) (Err f) P size spelt side answer now turned turns =
    rw (turns e f turned)
    (fault_stated line.start line.moves w m n e size spelt
    (subst (λ (s : Color). ((e ≡ play.OutOfMemory) × Answers line s m None) ⊎ Answers line s m (Some e)) side answer))
word_stated line new w m c n (Err e) (Ok y) P size spelt side answer now turned turns = absurd turned

plays_on : (start : Placed) (before : List Move) (front rest : List (List ℕ)) (moves : List Move) (answer : Result (List Move) UsiFault) → Plays start before front (Ok moves) → Plays start moves rest answer → Plays start before (front ++ rest) answer
plays_on start before [] rest moves answer h k =
    let e : moves ≡ before = cc in subst (λ (ms : List Move). Plays start ms rest answer) e k
plays_on start before (w ∷ ws) rest moves answer (inl h) k = let e = h.2 in cc
plays_on start before (w ∷ ws) rest moves answer (inr h) k =
    inr (h.0, h.1, plays_on start (before ++ h.0 ∷ []) ws rest moves answer h.2 k)

-- the words before a rest are played as these moves
pub record Playing (start : Placed) (words rest : List (List ℕ)) (moves : List Move) : Type 0 where
  pub front : List (List ℕ)
  pub whole : words ≡ front ++ rest
  pub played : Plays start [] front (Ok moves)

answered : (start : Placed) (words rest : List (List ℕ)) (moves : List Move) (answer : Result (List Move) UsiFault) → Playing start words rest moves → Plays start moves rest answer → Plays start [] words answer
answered start words rest moves answer p h = rw p.whole (plays_on start [] p.front rest moves answer p.played h)

pub playing_start : (start : Placed) (words : List (List ℕ)) → Playing start words words []
playing_start start words = record { front = []; whole = refl; played = refl }

pub playing_more : (start : Placed) (words rest following : List (List ℕ)) (moves : List Move) (w : List ℕ) (m : Move) → Playing start words rest moves → rest ≡ w ∷ following → IsPlayed start moves w m → Playing start words following (moves ++ m ∷ [])
playing_more start words rest following moves w m p e h = record {
  front = p.front ++ w ∷ [];
  whole = p.whole ∙ (ap (λ r. p.front ++ r) e ∙ sym (append_assoc p.front (w ∷ []) following));
  played = plays_on start [] p.front (w ∷ []) moves (Ok (moves ++ m ∷ [])) p.played (inr (m, h, refl));
}

pub playing_end : (start : Placed) (words rest : List (List ℕ)) (moves : List Move) → Playing start words rest moves → rest ≡ [] → Plays start [] words (Ok moves)
playing_end start words rest moves p none = answered start words rest moves (Ok moves) p (rw none refl)

pub playing_stops : (start : Placed) (words rest following : List (List ℕ)) (moves : List Move) (w : List ℕ) (fault : UsiFault) → Playing start words rest moves → rest ≡ w ∷ following → WordStops start moves w fault → Stops start words fault
playing_stops start words rest following moves w fault p e (inl h) =
    inl (
      h.0,
      inr (record {
        front = p.front;
        word = w;
        rest = following;
        whole = p.whole ∙ ap (λ r. p.front ++ r) e;
        before = moves;
        played = p.played;
        mv = h.1;
        allowed = h.2;
      }),
    )
playing_stops start words rest following moves w fault p e (inr h) =
    inr (answered start words rest moves (Err fault) p (rw e (inl (fault, h, refl))))

-- the fault of some word
abbrev pub OfWord : Placed → UsiFault → Type 0
OfWord start fault = (before : List Move) × (w : List ℕ) × WordFault start before w fault

of_word : (start : Placed) (before : List Move) (ws : List (List ℕ)) (fault : UsiFault) → Plays start before ws (Err fault) → OfWord start fault
of_word start before [] fault h = cc
of_word start before (w ∷ ws) fault (inl h) =
    let e : h.0 ≡ fault = let d = h.2 in cc in
    (before, w, subst (λ f. WordFault start before w f) e h.1)
of_word start before (w ∷ ws) fault (inr h) = of_word start (before ++ h.0 ∷ []) ws fault h.2

pub fault_of_line : (ws : List (List ℕ)) (start : Placed) (words : List (List ℕ)) (fault : UsiFault) → Starts ws start words → OfWord start fault → Plays start [] words (Err fault) → LineFault ws fault
fault_of_line ws start words BadLine s of h = absurd of.2
fault_of_line ws start words (usi.Sfen fault) s of h = absurd of.2
fault_of_line ws start words OutOfMemory s of h = absurd of.2
fault_of_line ws start words TooManyMoves s of h = (start, words, s, h)
fault_of_line ws start words (BadMoveText n) s of h = (start, words, s, h)
fault_of_line ws start words (Broken n rule) s of h = (start, words, s, h)

pub sfen_answered : (ws sfen moves : List (List ℕ)) (answer : Result Placed SfenFault) → SfenLine ws sfen moves → MatchResult answer (λ p. Sfen sfen p) (λ fault. FirstFault sfen fault) → MatchResult answer (λ p. Starts ws p moves) (λ fault. LineFault ws (usi.Sfen fault))
sfen_answered ws sfen moves (Ok p) line h = inr (sfen, line, h)
sfen_answered ws sfen moves (Err fault) line h = (sfen, moves, line, h)

pub usi_line : (ws : List (List ℕ)) (start found : Placed) (words : List (List ℕ)) (moves : List Move) → Starts ws start words → found ≡ start → Plays start [] words (Ok moves) → UsiLine ws found moves
usi_line ws start found words moves s same h =
    let e = sym same in
    (words, subst (λ (p : Placed). Starts ws p words) e s, subst (λ (p : Placed). Plays p [] words (Ok moves)) e h)

pub line_answered : (ws : List (List ℕ)) (start : Placed) (words : List (List ℕ)) (answer : Result Played UsiFault) → Starts ws start words → MatchResult answer (λ line. (line.start ≡ start) × Plays start [] words (Ok line.moves)) (λ fault. Stops start words fault) → MatchResult answer (λ line. UsiLine ws line.start line.moves) (λ fault. ((fault ≡ OutOfMemory) × LineNeedsMemory ws) ⊎ LineFault ws fault)
line_answered ws start words (Ok line) s h = usi_line ws start line.start words line.moves s h.0 h.1
line_answered ws start words (Err fault) s (inl h) = inl (h.0, (start, words, s, h.1))
line_answered ws start words (Err fault) s (inr h) =
    inr (fault_of_line ws start words fault s (of_word start [] words fault h) h)
