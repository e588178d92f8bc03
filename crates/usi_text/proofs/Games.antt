-- The moves of a game, one after another.
use Rattle.std.proofs.Common.{◌≡◌, ℕ, ◌+◌, ◌<◌, ◌≤◌, List, [], ◌∷◌, ◌++◌, length, length-append, get_or, take, arith, refl, sym, ap, ◌∙◌, subst, append_assoc, inl, inr, codes, Bool, true, false, ◌==◌}
use Rattle.std.proofs.lemmas.Bool.{cases_lt}
use Rattle.std.proofs.lemmas.List.{append-nil, take_more, take-append-le, get_or_append_left, get_or_at, take_at, take_all}
use Rattle.shogi_board.specs.Placed.{Placed}
use Rattle.shogi_board.specs.After.{after}
use Rattle.shogi_board.specs.Legal.{Legal}
use Rattle.shogi_rules.specs.Positions.{position_after, MayFollow, IsGame, begun, played}
use Rattle.shogi_board.specs.declared.moves.Move.{Move}
use Rattle.usi_text.specs.LineText.{MovesText, AfterStart}
use Rattle.usi_text.specs.Moves.{UsiMove}

abbrev LegalAt : Placed → List Move → ℕ → Move → Type 0
LegalAt start moves i d = Legal (position_after start (take i moves)) (get_or moves i d)

last_at : (start : Placed) (before : List Move) (m : Move) (i : ℕ) (d : Move) → MayFollow start before m → i ≡ length before → LegalAt start (before ++ m ∷ []) i d
last_at start before m i d follow e =
    rw (take_at before (m ∷ []) i (sym e), get_or_at before m [] d i (sym e)) follow.legal

early_at : (start : Placed) (before : List Move) (m : Move) (i : ℕ) (d : Move) → LegalAt start before i d → i < length before → LegalAt start (before ++ m ∷ []) i d
early_at start before m i d legal low =
    let within : i ≤ length before = omega arith in
    rw (take-append-le i before (m ∷ []) within, get_or_append_left before (m ∷ []) d i low) legal

-- each move of a game is legal after those before it
pub legal_at : (start : Placed) (moves : List Move) → IsGame start moves → (i : ℕ) (d : Move) → i < length moves → LegalAt start moves i d
legal_at start moves begun i d low = absurd (omega arith)
legal_at start moves (played before m game follow) i d low =
    elim (cases_lt i (length before)) [
      | inl h ↦ early_at start before m i d (legal_at start before game i d h) h
      | inr h ↦ last_at start before m i d follow (omega (arith, length-append before (m ∷ [])))
    ]

pub after_more : (p : Placed) (ms : List Move) (m : Move) → position_after p (ms ++ m ∷ []) ≡ after (position_after p ms) m
after_more p [] m = refl
after_more p (x ∷ xs) m = after_more (after p x) xs m

regroup : (a b c : List ℕ) → (32 ∷ (a ++ b)) ++ c ≡ 32 ∷ (a ++ (b ++ c))
regroup a b c = ap (λ t. 32 ∷ t) (append_assoc a b c)

-- one more move's text
pub text_more : (p : Placed) (ms : List Move) (m : Move) (text word : List ℕ) → MovesText p ms text → UsiMove (position_after p ms) word m → MovesText p (ms ++ m ∷ []) (text ++ 32 ∷ word)
text_more p [] m text word h u = (word, [], ap (λ t. t ++ 32 ∷ word) h ∙ ap (λ t. 32 ∷ t) (sym (append-nil word)), u, refl)
text_more p (x ∷ xs) m text word h u =
    (h.0, h.1 ++ 32 ∷ word, ap (λ t. t ++ 32 ∷ word) h.2 ∙ regroup h.0 h.1 (32 ∷ word), h.3, text_more (after p x) xs m h.1 word h.4 u)

pub now_legal : (start now : Placed) (moves : List Move) (i : ℕ) (m : Move) → IsGame start moves → now ≡ position_after start (take i moves) → i < length moves → m ≡ get_or moves i m → Legal now m
now_legal start now moves i m game at low e =
    let legal = legal_at start moves game i m low in
    subst (λ p. Legal p m) (sym at) (subst (λ x. Legal (position_after start (take i moves)) x) (sym e) legal)

pub taken_more : (moves : List Move) (i : ℕ) (m : Move) → i < length moves → m ≡ get_or moves i m → take (i + 1) moves ≡ take i moves ++ m ∷ []
taken_more moves i m low e = take_more moves i m low ∙ ap (λ x. take i moves ++ x ∷ []) (sym e)

pub now_more : (start now next : Placed) (moves : List Move) (i : ℕ) (m : Move) → now ≡ position_after start (take i moves) → i < length moves → m ≡ get_or moves i m → next ≡ after now m → next ≡ position_after start (take (i + 1) moves)
now_more start now next moves i m at low e step =
    step ∙ (ap (λ p. after p m) at ∙ (sym (after_more start (take i moves) m) ∙ ap (position_after start) (sym (taken_more moves i m low e))))

abbrev pub EndReport : Placed → List Move → List ℕ → List ℕ → Type 0
EndReport start moves old text = (rest : List ℕ) × MovesText start moves rest × (text ≡ old ++ rest)

pub stated_more : (start now : Placed) (moves : List Move) (i : ℕ) (m : Move) (old text spaced next word : List ℕ) → now ≡ position_after start (take i moves) → i < length moves → m ≡ get_or moves i m → EndReport start (take i moves) old text → UsiMove now word m → spaced ≡ text ++ 32 ∷ [] → next ≡ spaced ++ word → EndReport start (take (i + 1) moves) old next
stated_more start now moves i m old text spaced next word at low e stated u a b =
    let more = text_more start (take i moves) m stated.0 word stated.1 (subst (λ p. UsiMove p word m) at u) in
    let whole : next ≡ old ++ (stated.0 ++ 32 ∷ word) =
    b ∙ (ap (λ t. t ++ word) (a ∙ ap (λ t. t ++ 32 ∷ []) stated.2) ∙ (append_assoc (old ++ stated.0) (32 ∷ []) word ∙ append_assoc old stated.0 (32 ∷ word))) in
    (stated.0 ++ 32 ∷ word, subst (λ ms. MovesText start ms (stated.0 ++ 32 ∷ word)) (sym (taken_more moves i m low e)) more, whole)

pub after_stated : (start : Placed) (moves : List Move) (rest : List ℕ) → (length moves ≡ 0 → ⊥) → MovesText start moves rest → AfterStart start moves (codes " moves" ++ rest)
after_stated start [] rest some h = absurd (some refl)
after_stated start (m ∷ ms) rest some h = (rest, refl, h)

pub all_stated : (start : Placed) (moves : List Move) (i : ℕ) (old text : List ℕ) → length moves ≤ i → EndReport start (take i moves) old text → EndReport start moves old text
all_stated start moves i old text past stated = subst (λ ms. EndReport start ms old text) (take_all i moves past) stated

pub none_left : (b : Bool) (n : ℕ) → b ≡ (n == 0) → b ≡ false → n ≡ 0 → ⊥
none_left b n e f z = let t : (n == 0) ≡ true = rw z refl in cc
