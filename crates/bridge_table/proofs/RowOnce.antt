-- A state and an event have one answer and one next state.
use Rattle.std.proofs.Common.{◌≡◌, ℕ, ◌+◌, ◌<◌, ◌⊎◌, inl, inr, Bool, true, false, List, [], ◌∷◌, Option, Some, None, codes, arith, refl, sym, ap, subst, ◌∙◌}
use Rattle.std.specs.Prelude.{◌≢◌, bytes_eq, if◌then◌else◌}
use Rattle.std.specs.List.{AllByRecursion}
use Rattle.std.proofs.lemmas.Slice.Eq.{bytes_eq-Decides}
use Rattle.shogi_board.specs.declared.color.Color.{Color}
use Rattle.shogi_board.specs.declared.color.Color.TheVariants.{Black, White}
use Rattle.shogi_board.specs.declared.kind.Kind.{Kind}
use Rattle.shogi_board.specs.declared.kind.Kind.TheVariants.{Pawn, Lance, Knight, Silver, Gold, Bishop, Rook, King, ProPawn, ProLance, ProKnight, ProSilver, Horse, Dragon}
use Rattle.shogi_rules.proofs.Once.{one-answer}
use Rattle.shogi_rules.specs.declared.line.PlayFault.{PlayFault}
use Rattle.shogi_rules.specs.declared.line.PlayFault.TheVariants as play
use Rattle.shogi_board.specs.declared.moves.Move.{Move}
use Rattle.shogi_board.specs.declared.moves.Move.TheVariants.{Walk, Put}
use Rattle.shogi_board.specs.declared.rule.Rule.{Rule}
use Rattle.shogi_rules.specs.Play.{Answers}
use Rattle.csa_text.specs.Codes.{sign}
use Rattle.record_game.proofs.SaysOnce.{tells_once}
use Rattle.record_game.specs.declared.fault.Why.{Why}
use Rattle.record_game.specs.declared.fault.Why.TheVariants as causes
use Rattle.record_game.specs.Game.{Game, Timed, Ended}
use Rattle.record_game.specs.Tells.{Tells}
use Rattle.usi_text.proofs.OneMove.{one_move}
use Rattle.usi_text.proofs.OneText.{one_line_text}
use Rattle.usi_text.specs.declared.engine.EngineWord.TheVariants.{UsiOk, ReadyOk}
use Rattle.usi_text.specs.Engine.{LineSays}
use Rattle.usi_text.specs.Letters.{letter}
use Rattle.usi_text.specs.Moves.{UsiMove}
use Rattle.usi_text.specs.Words.{words}
use Rattle.bridge_table.specs.declared.config.Config.{Config}
use Rattle.bridge_table.specs.declared.event.Status.TheVariants.{Done}
use Rattle.bridge_table.specs.declared.fault.MoveCause.TheVariants.{Refused, Unsent}
use Rattle.bridge_table.specs.declared.fault.SessionFault.TheVariants.{LoginRefused, Rejected, BadSummary, BadServerMove, EngineGone, ServerGone, LineTooLong}
use Rattle.bridge_table.specs.declared.state.ClientState.TheVariants as clients
use Rattle.bridge_table.specs.declared.state.EngineState.{EngineState}
use Rattle.bridge_table.specs.declared.state.EngineState.TheVariants.{New, Greeting, Readying, Ready, Thinking, Ended as EngineEnded}
use Rattle.bridge_table.specs.Asking.{Asks, asked, not_asked, go_line}
use Rattle.bridge_table.specs.Events.{Event, begin, engine_line, server_line, engine_end, server_end, engine_long, server_long, Out, no_lines, engine, server}
use Rattle.bridge_table.specs.Hearing.{content_after}
use Rattle.session_lines.specs.MoveLines.{is_move_line}
use Rattle.bridge_table.specs.Row.{TableRow, IsInTable, Row, in_table, unnamed, Play, in_play, before_result, client_to, failed, login_line, answer_line, slipped, gameover_line, with_reason, IsBestMove, IsLegalWord, IsNoAnswer, Judged, IsRefused, IsExpected}
use Rattle.bridge_table.specs.Row as row
use Rattle.session_lines.specs.declared.server_words.GameResult.{GameResult}
use Rattle.session_lines.specs.ServerLines.{is_login_ok, is_start_line, is_reject_line, is_ending_line, is_hash_line, TellsEnding, look_up, outcomes, outcome_of, reason_of}
use Rattle.bridge_table.specs.declared.state.Answer.{Answer}
use Rattle.bridge_table.specs.declared.state.Answer.TheVariants.{Move as move, Toryo as toryo, Kachi as kachi}
use Rattle.bridge_table.specs.State.{Match, Finish, Client, idle, logging_in, before_summary, summary, agreeing, playing, sent, reason, closing, ended, State, client_state, match_of, match_line, position_now, with_move}
use Rattle.bridge_table.specs.Summary.{SummaryContent, no_content, Offer, one, TellsOffer, TellsPosition, nameless}
use Rattle.bridge_table.proofs.Counting.{counts_next}
use Rattle.session_lines.proofs.LinesRead.{start_or_reject, move_or_ending, move_or_hash, ending_or_hash, timed_once, ending_once, fault_once, fault_or_move}

abbrev pub Lines : Type 0
Lines = List (List ℕ)

abbrev pub Gives : Out → State → Out → State → Type 0
Gives o v out t = (out ≡ o) × (t ≡ v)

abbrev Same : Out → State → Out → State → Type 0
Same out t other u = (out ≡ other) × (t ≡ u)

both : (o out other : Out) (v t u : State) → Gives o v out t → Gives o v other u → Same out t other u
both o out other v t u h k = (h.0 ∙ sym k.0, h.1 ∙ sym k.1)

alike : (o p out other : Out) (v w t u : State) → o ≡ p → v ≡ w → Gives o v out t → Gives p w other u → Same out t other u
alike o p out other v w t u e f h k = (h.0 ∙ (e ∙ sym k.0), h.1 ∙ (f ∙ sym k.1))

back : (out other : Out) (t u : State) → Same out t other u → Same other u out t
back out other t u h = (sym h.0, sym h.1)

-- 1. words of the engine
head_of : List ℕ → ℕ
head_of [] = 0
head_of (b ∷ bs) = b

capital : (k : Kind) → letter k < 100
capital Pawn = omega arith
capital Lance = omega arith
capital Knight = omega arith
capital Silver = omega arith
capital Gold = omega arith
capital Bishop = omega arith
capital Rook = omega arith
capital King = omega arith
capital ProPawn = omega arith
capital ProLance = omega arith
capital ProKnight = omega arith
capital ProSilver = omega arith
capital Horse = omega arith
capital Dragon = omega arith

-- a move begins with a digit or a capital letter
move_head : (g : Match) (word : List ℕ) (m : Move) → UsiMove (position_now g) word m → head_of word < 100
unfolding head_of
move_head g word (Walk from to k) h =
    elim h.2 [
      | inl e ↦ let f : head_of word ≡ 48 + from.file = ap head_of e.0 in let on = from.on_board in omega (arith, f, on)
      | inr e ↦ let f : head_of word ≡ 48 + from.file = ap head_of e.0 in let on = from.on_board in omega (arith, f, on)
    ]
move_head g word (Put to k) h = let f : head_of word ≡ letter k = ap head_of h.1 in let c = capital k in omega (arith, f, c)

no_resign : (g : Match) (word : List ℕ) (m : Move) → IsLegalWord g word m → word ≡ codes "resign" → ⊥
unfolding head_of
no_resign g word m h e = let a = move_head g word m h.word_is in let b : head_of word ≡ 114 = ap head_of e in omega (arith, a, b)

no_win : (g : Match) (word : List ℕ) (m : Move) → IsLegalWord g word m → word ≡ codes "win" → ⊥
unfolding head_of
no_win g word m h e = let a = move_head g word m h.word_is in let b : head_of word ≡ 119 = ap head_of e in omega (arith, a, b)

resign_or_win : (word : List ℕ) → word ≡ codes "resign" → word ≡ codes "win" → ⊥
unfolding head_of
resign_or_win word e f = let a : head_of word ≡ 114 = ap head_of e in let b : head_of word ≡ 119 = ap head_of f in omega (arith, a, b)

abbrev pub IsAnswer : Match → List ℕ → Answer → Match → Type 0
IsAnswer g word (move m) new = IsLegalWord g word m × (new ≡ g)
IsAnswer g word toryo new = ((word ≡ codes "resign") × (new ≡ g)) ⊎ (IsNoAnswer g word × (new ≡ slipped g))
IsAnswer g word kachi new = (word ≡ codes "win") × (new ≡ g)

answer_once : (g : Match) (word : List ℕ) (a b : Answer) (new old : Match) → IsAnswer g word a new → IsAnswer g word b old → (a ≡ b) × (new ≡ old)
answer_once g word (move m) (move n) new old h k = (ap move (one_move (position_now g) word m n h.0.word_is k.0.word_is), h.1 ∙ sym k.1)
answer_once g word (move m) toryo new old h (inl k) = absurd (no_resign g word m h.0 k.0)
answer_once g word (move m) toryo new old h (inr k) = absurd (k.0.no_move m h.0)
answer_once g word (move m) kachi new old h k = absurd (no_win g word m h.0 k.0)
answer_once g word toryo (move n) new old (inl h) k = absurd (no_resign g word n k.0 h.0)
answer_once g word toryo (move n) new old (inr h) k = absurd (h.0.no_move n k.0)
answer_once g word toryo toryo new old (inl h) (inl k) = (refl, h.1 ∙ sym k.1)
answer_once g word toryo toryo new old (inl h) (inr k) = absurd (k.0.not_resign h.0)
answer_once g word toryo toryo new old (inr h) (inl k) = absurd (h.0.not_resign k.0)
answer_once g word toryo toryo new old (inr h) (inr k) = (refl, h.1 ∙ sym k.1)
answer_once g word toryo kachi new old (inl h) k = absurd (resign_or_win word h.0 k.0)
answer_once g word toryo kachi new old (inr h) k = absurd (h.0.not_win k.0)
answer_once g word kachi (move n) new old h k = absurd (no_win g word n k.0 h.0)
answer_once g word kachi toryo new old h (inl k) = absurd (resign_or_win word k.0 h.0)
answer_once g word kachi toryo new old h (inr k) = absurd (k.0.not_win h.0)
answer_once g word kachi kachi new old h k = (refl, h.1 ∙ sym k.1)

pub record EngineAnswers (s : State) (g : Match) (l : List ℕ) (out : Out) (t : State) : Type 0 where
  pub word : List ℕ
  pub answer : Answer
  pub new : Match
  pub best : IsBestMove l word
  pub is : IsAnswer g word answer new
  pub gives : Gives (server (answer_line g answer)) (record s { engine = Ready; client = sent new answer }) out t

answers_once : (s : State) (g : Match) (l : List ℕ) (out other : Out) (t u : State) → EngineAnswers s g l out t → EngineAnswers s g l other u → Same out t other u
answers_once s g l out other t u a b =
    let word : a.word ≡ b.word = sym a.best.second ∙ b.best.second in
    let one_answer = answer_once g b.word a.answer b.answer a.new b.new (subst (λ w. IsAnswer g w a.answer a.new) word a.is) b.is in
    alike _ _ out other _ _ t u (ap (λ x. server (answer_line g x)) one_answer.0)
    (ap (λ x. record s { engine = Ready; client = sent a.new x }) one_answer.0 ∙ ap (λ x. record s { engine = Ready; client = sent x b.answer }) one_answer.1)
    a.gives b.gives

-- 2. asking
asks_once : (c : Config) (g : Match) (old now later : EngineState) (lines others : Lines) → Asks c g old lines now → Asks c g old others later → (lines ≡ others) × (now ≡ later)
asks_once c g old now later lines others a b =
    elim a [
      | asked may ls e ↦ elim b [
        | asked might ms f ↦
            let text = one_line_text g.game.start _ ls.position ms.position ls.of_game ms.of_game in
            (ls.whole ∙ (ap (λ x. x ∷ go_line c g ∷ []) text ∙ sym ms.whole), e ∙ sym f)
        | not_asked never ms f ↦ absurd (never may)
      ]
      | not_asked never ls e ↦ elim b [
        | asked may ms f ↦ absurd (never may)
        | not_asked neither ms f ↦ (ls ∙ sym ms, e ∙ sym f)
      ]
    ]

-- 3. the summary
sign_once : (a b : Color) → sign a ∷ [] ≡ sign b ∷ [] → a ≡ b
unfolding head_of
sign_once Black Black e = refl
sign_once Black White e = let f = ap head_of e in absurd (omega (arith, f))
sign_once White Black e = let f = ap head_of e in absurd (omega (arith, f))
sign_once White White e = refl

named_once : (g k : Game) → nameless g ≡ nameless k → g.black ≡ k.black → g.white ≡ k.white → g ≡ k
named_once g k e b w =
    let first : g ≡ record k { black = g.black; white = g.white } = ap (λ (x : Game). record x { black = g.black; white = g.white }) e in
    let next : record k { black = g.black; white = g.white } ≡ record k { white = g.white } = ap (λ (x : Option (List ℕ)). record k { black = x; white = g.white }) b in
    first ∙ (next ∙ ap (λ (x : Option (List ℕ)). record k { white = x }) w)

tells : (text : List ℕ) (g : Game) → TellsPosition text g → Tells text (nameless g)
tells text g p = record { statements = p.statements; sayings = p.sayings; cut = p.cut; spelt = p.spelt; says = p.says }

same_one : (a b : List ℕ) → one a ≡ one b → a ≡ b
same_one a b e = cc

same_offer : (o p : Offer) → o.client ≡ p.client → o.game ≡ p.game → o ≡ p
same_offer o p e f = ap (λ (x : Color). record o { client = x }) e ∙ ap (λ (x : Game). record p { game = x }) f

pub offer_once : (h : SummaryContent) (o p : Offer) → TellsOffer h o → TellsOffer h p → o ≡ p
offer_once h o p a b =
    let text : a.text ≡ b.text = same_one a.text b.text (sym a.one_position ∙ b.one_position) in
    let first : Tells b.text (nameless o.game) = subst (λ x. Tells x (nameless o.game)) text (tells a.text o.game a.position) in
    let game = tells_once b.text (nameless o.game) (nameless p.game) first (tells b.text p.game b.position) in
    same_offer o p (sign_once o.client p.client (sym a.client ∙ b.client))
    (named_once o.game p.game game (a.black ∙ sym b.black) (a.white ∙ sym b.white))

pub data SummaryRow (s : State) (h : SummaryContent) (l : List ℕ) (out : Out) (t : State) : Type 0 where
  adds : l ≢ codes "END Game_Summary" → Gives no_lines (client_to s (summary (content_after h l))) out t → SummaryRow s h l out t
  ends : (o : Offer) → l ≡ codes "END Game_Summary" → TellsOffer h o → Gives (server (codes "AGREE")) (client_to s (agreeing o)) out t → SummaryRow s h l out t
  faults : l ≡ codes "END Game_Summary" → ((o : Offer) → TellsOffer h o → ⊥) → Gives no_lines (failed s BadSummary) out t → SummaryRow s h l out t

summary_once : (s : State) (h : SummaryContent) (l : List ℕ) (out other : Out) (t u : State) → SummaryRow s h l out t → SummaryRow s h l other u → Same out t other u
summary_once s h l out other t u a b =
    elim a [
      | adds n x ↦ elim b [
        | adds m y ↦ both _ out other _ t u x y
        | ends o e k y ↦ absurd (n e)
        | faults e k y ↦ absurd (n e)
      ]
      | ends o e k x ↦ elim b [
        | adds m y ↦ absurd (m e)
        | ends p f j y ↦ alike _ _ out other _ _ t u refl (ap (λ z. client_to s (agreeing z)) (offer_once h o p k j)) x y
        | faults f j y ↦ absurd (j o k)
      ]
      | faults e k x ↦ elim b [
        | adds m y ↦ absurd (m e)
        | ends p f j y ↦ absurd (k p j)
        | faults f j y ↦ both _ out other _ t u x y
      ]
    ]

-- 4. after the summary
pub data AgreedRow (c : Config) (s : State) (o : Offer) (l : List ℕ) (out : Out) (t : State) : Type 0 where
  starts : (lines : Lines) (now : EngineState) → is_start_line l ≡ true → Asks c (match_of o) s.engine lines now
      → Gives (engine (codes "usinewgame" ∷ lines)) (record s { engine = now; client = playing (match_of o) }) out t → AgreedRow c s o l out t
  rejects : is_reject_line l ≡ true → Gives no_lines (failed s Rejected) out t → AgreedRow c s o l out t

agreed_once : (c : Config) (s : State) (o : Offer) (l : List ℕ) (out other : Out) (t u : State) → AgreedRow c s o l out t → AgreedRow c s o l other u → Same out t other u
agreed_once c s o l out other t u a b =
    elim a [
      | starts ls now h k x ↦ elim b [
        | starts ms later i j y ↦
            let one_asking = asks_once c (match_of o) s.engine now later ls ms k j in
            alike _ _ out other _ _ t u (ap (λ z. engine (codes "usinewgame" ∷ z)) one_asking.0)
            (ap (λ z. record s { engine = z; client = playing (match_of o) }) one_asking.1) x y
        | rejects i y ↦ absurd (start_or_reject l h i)
      ]
      | rejects h x ↦ elim b [
        | starts ms later i j y ↦ absurd (start_or_reject l i h)
        | rejects i y ↦ both _ out other _ t u x y
      ]
    ]

-- 5. moves of the server
judged_once : (g : Match) (l : List ℕ) (c d : Color) (m n : Timed) (a b : Option PlayFault) → Judged g l c m a → Judged g l d n b → (c ≡ d) × (m ≡ n) × (a ≡ b)
judged_once g l c d m n a b h k =
    let e = timed_once l c d m n h.stated k.stated in
    let first : Answers (match_line g) d m.move a = subst (λ x. Answers (match_line g) x m.move a) e.0 h.answers in
    let next : Answers (match_line g) d n.move a = subst (λ (x : Timed). Answers (match_line g) d x.move a) e.1 first in
    (e.0, e.1, one-answer (match_line g) d n.move a b next k.answers)

same_rule : (a b : Rule) → Some (play.Broken a) ≡ Some (play.Broken b) → a ≡ b
same_rule a b e = let f : play.Broken a ≡ play.Broken b = cc in cc

many_or_rule : (a : Rule) → Some play.TooManyMoves ≡ Some (play.Broken a) → ⊥
many_or_rule a e = let f : play.TooManyMoves ≡ play.Broken a = cc in cc

some_or_none : (a : PlayFault) → Some a ≡ None → ⊥
some_or_none a e = cc

refused_once : (g : Match) (l : List ℕ) (v w : Why) → IsRefused g l v → IsRefused g l w → v ≡ w
refused_once g l v w a b =
    elim a [
      | row.text_fault f h e ↦ elim b [
        | row.text_fault x k d ↦ e ∙ (ap causes.Text (fault_once l f x h k) ∙ sym d)
        | row.too_many c m k d ↦ absurd (fault_or_move l f c m h k.stated)
        | row.breaks c m r k d ↦ absurd (fault_or_move l f c m h k.stated)
      ]
      | row.too_many c m h e ↦ elim b [
        | row.text_fault x k d ↦ absurd (fault_or_move l x c m k h.stated)
        | row.too_many z n k d ↦ e ∙ sym d
        | row.breaks z n r k d ↦ absurd (many_or_rule r (judged_once g l c z m n _ _ h k).2)
      ]
      | row.breaks c m r h e ↦ elim b [
        | row.text_fault x k d ↦ absurd (fault_or_move l x c m k h.stated)
        | row.too_many z n k d ↦ absurd (many_or_rule r (judged_once g l z c n m _ _ k h).2)
        | row.breaks z n q k d ↦ e ∙ (ap causes.Rule (same_rule r q (judged_once g l c z m n _ _ h k).2) ∙ sym d)
      ]
    ]

taken_or_refused : (g : Match) (l : List ℕ) (v : Why) (c : Color) (m : Timed) → IsRefused g l v → Judged g l c m None → ⊥
taken_or_refused g l v c m a h =
    elim a [
      | row.text_fault x k d ↦ fault_or_move l x c m k h.stated
      | row.too_many z n k d ↦ some_or_none _ (judged_once g l z c n m _ _ k h).2
      | row.breaks z n r k d ↦ some_or_none _ (judged_once g l z c n m _ _ k h).2
    ]

pub data PlayRow (c : Config) (s : State) (p : Play) (l : List ℕ) (out : Out) (t : State) : Type 0 where
  refuses : (cause : Why) → is_move_line l ≡ true → IsRefused p.game l cause → Gives no_lines (failed s (BadServerMove (Refused cause))) out t → PlayRow c s p l out t
  unsent : (color : Color) (m : Timed) → is_move_line l ≡ true → Judged p.game l color m None → (IsExpected p color m → ⊥)
      → Gives no_lines (failed s (BadServerMove Unsent)) out t → PlayRow c s p l out t
  confirms : (color : Color) (m : Timed) (lines : Lines) (now : EngineState) → is_move_line l ≡ true → Judged p.game l color m None → IsExpected p color m
      → Asks c (with_move p.game m) s.engine lines now
      → Gives (engine lines) (record s { engine = now; client = playing (with_move p.game m) }) out t → PlayRow c s p l out t
  tells_end : (kept : Ended) → is_ending_line l ≡ true → TellsEnding l kept
      → Gives no_lines (client_to s (reason p.game (record { kept = Some kept; reason = None }))) out t → PlayRow c s p l out t

expected_once : (p : Play) (l : List ℕ) (c d : Color) (m n : Timed) → Judged p.game l c m None → Judged p.game l d n None → IsExpected p c m → IsExpected p d n
expected_once p l c d m n h k x =
    let e = judged_once p.game l c d m n None None h k in
    λ own. x (e.0 ∙ own) ∙ ap (λ (z : Timed). Some z.move) e.1

play_once : (c : Config) (s : State) (p : Play) (l : List ℕ) (out other : Out) (t u : State) → PlayRow c s p l out t → PlayRow c s p l other u → Same out t other u
play_once c s p l out other t u a b =
    elim a [
      | refuses v i h x ↦ elim b [
        | refuses w j k y ↦ alike _ _ out other _ _ t u refl (ap (λ z. failed s (BadServerMove (Refused z))) (refused_once p.game l v w h k)) x y
        | unsent d n j k nope y ↦ absurd (taken_or_refused p.game l v d n h k)
        | confirms d n ls now j k w r y ↦ absurd (taken_or_refused p.game l v d n h k)
        | tells_end kept j k y ↦ absurd (move_or_ending l i j)
      ]
      | unsent d m i h nope x ↦ elim b [
        | refuses w j k y ↦ absurd (taken_or_refused p.game l w d m k h)
        | unsent e n j k never y ↦ both _ out other _ t u x y
        | confirms e n ls now j k w r y ↦ absurd (nope (expected_once p l e d n m k h w))
        | tells_end kept j k y ↦ absurd (move_or_ending l i j)
      ]
      | confirms d m ls now i h w r x ↦ elim b [
        | refuses v j k y ↦ absurd (taken_or_refused p.game l v d m k h)
        | unsent e n j k never y ↦ absurd (never (expected_once p l d e m n h k w))
        | confirms e n ms later j k v q y ↦
            let same_move = (judged_once p.game l d e m n None None h k).1 in
            let one_asking = asks_once c (with_move p.game n) s.engine now later ls ms (subst (λ z. Asks c (with_move p.game z) s.engine ls now) same_move r) q in
            alike _ _ out other _ _ t u (ap engine one_asking.0)
            (ap (λ z. record s { engine = now; client = playing (with_move p.game z) }) same_move
            ∙ ap (λ z. record s { engine = z; client = playing (with_move p.game n) }) one_asking.1) x y
        | tells_end kept j k y ↦ absurd (move_or_ending l i j)
      ]
      | tells_end kept i h x ↦ elim b [
        | refuses v j k y ↦ absurd (move_or_ending l j i)
        | unsent e n j k never y ↦ absurd (move_or_ending l j i)
        | confirms e n ms later j k v q y ↦ absurd (move_or_ending l j i)
        | tells_end other_kept j k y ↦
            alike _ _ out other _ _ t u refl (ap (λ z. client_to s (reason p.game (record { kept = Some z; reason = None }))) (ending_once l kept other_kept h k)) x y
      ]
    ]

-- 6. lines that begin with `#`
pub data HashRow (s : State) (g : Match) (f : Finish) (l : List ℕ) (out : Out) (t : State) : Type 0 where
  gives_reason : is_hash_line l ≡ true → outcome_of l ≡ None → Gives no_lines (client_to s (reason g (with_reason f (reason_of l)))) out t → HashRow s g f l out t
  gives_result : (o : GameResult) → outcome_of l ≡ Some o
      → Gives (record { to_engine = gameover_line o ∷ codes "quit" ∷ []; to_server = codes "LOGOUT" ∷ [] }) (record s { engine = EngineEnded; client = closing g f o }) out t
      → HashRow s g f l out t

same_outcome : (a b : GameResult) → Some a ≡ Some b → a ≡ b
same_outcome a b e = cc

pub no_outcome : (a : GameResult) → Some a ≡ None → ⊥
no_outcome a e = cc

hash_once : (s : State) (g : Match) (f : Finish) (l : List ℕ) (out other : Out) (t u : State) → HashRow s g f l out t → HashRow s g f l other u → Same out t other u
hash_once s g f l out other t u a b =
    elim a [
      | gives_reason h e x ↦ elim b [
        | gives_reason k d y ↦ both _ out other _ t u x y
        | gives_result o d y ↦ absurd (no_outcome o (sym d ∙ e))
      ]
      | gives_result o e x ↦ elim b [
        | gives_reason k d y ↦ absurd (no_outcome o (sym e ∙ d))
        | gives_result q d y ↦
            let same_result = same_outcome o q (sym e ∙ d) in
            alike _ _ out other _ _ t u (ap (λ (z : GameResult). record { to_engine = gameover_line z ∷ codes "quit" ∷ []; to_server = codes "LOGOUT" ∷ [] }) same_result)
            (ap (λ z. record s { engine = EngineEnded; client = closing g f z }) same_result) x y
      ]
    ]

by_row : (v : Bool) (row : List ℕ × GameResult) (rows : List (List ℕ × GameResult)) (l : List ℕ) (o : GameResult) → bytes_eq l row.0 ≡ v
    → is_hash_line row.0 ≡ true → (look_up rows l ≡ Some o → is_hash_line l ≡ true) → (if v then Some row.1 else look_up rows l) ≡ Some o → is_hash_line l ≡ true
by_row true row rows l o e h next k = ap is_hash_line ((bytes_eq-Decides l row.0).0 e) ∙ h
by_row false row rows l o e h next k = next k

look_hash : (rows : List (List ℕ × GameResult)) → AllByRecursion (λ (r : List ℕ × GameResult). is_hash_line r.0 ≡ true) rows → (l : List ℕ) (o : GameResult)
    → look_up rows l ≡ Some o → is_hash_line l ≡ true
look_hash [] f l o e = absurd (no_outcome o (sym e))
look_hash (r ∷ rs) f l o e = by_row (bytes_eq l r.0) r rs l o refl f.0 (look_hash rs f.1 l o) e

-- a result begins with `#`
pub result_hash : (l : List ℕ) (o : GameResult) → outcome_of l ≡ Some o → is_hash_line l ≡ true
result_hash l o e = look_hash outcomes (refl, (refl, (refl, (refl, (refl, tt))))) l o e

pub hash_line : (s : State) (g : Match) (f : Finish) (l : List ℕ) (out : Out) (t : State) → HashRow s g f l out t → is_hash_line l ≡ true
hash_line s g f l out t r = elim r [ gives_reason h e x ↦ h | gives_result o e x ↦ result_hash l o e ]

play_or_hash : (c : Config) (s : State) (p : Play) (l : List ℕ) (out : Out) (t : State) → PlayRow c s p l out t → is_hash_line l ≡ true → ⊥
play_or_hash c s p l out t r h =
    elim r [
      | refuses v i k x ↦ move_or_hash l i h
      | unsent d m i k nope x ↦ move_or_hash l i h
      | confirms d m ls now i k w q x ↦ move_or_hash l i h
      | tells_end kept i k x ↦ ending_or_hash l i h
    ]

-- 7. lines of the server
abbrev pub LoginRow : State → List ℕ → Out → State → Type 0
LoginRow s l out t =
    ((is_login_ok l ≡ true) × Gives no_lines (client_to s before_summary) out t)
    ⊎ ((l ≡ codes "LOGIN:incorrect") × Gives no_lines (failed s LoginRefused) out t)

login_once : (s : State) (l : List ℕ) (out other : Out) (t u : State) → LoginRow s l out t → LoginRow s l other u → Same out t other u
login_once s l out other t u (inl h) (inl k) = both _ out other _ t u h.1 k.1
login_once s l out other t u (inl h) (inr k) = absurd (let e : is_login_ok l ≡ false = ap is_login_ok k.0 in let f = h.0 in cc)
login_once s l out other t u (inr h) (inl k) = absurd (let e : is_login_ok l ≡ false = ap is_login_ok h.0 in let f = k.0 in cc)
login_once s l out other t u (inr h) (inr k) = both _ out other _ t u h.1 k.1

-- by the client's state alone
abbrev pub StateRow : Config → State → Client → List ℕ → Out → State → Type 0
StateRow c s idle l out t = ⊥
StateRow c s logging_in l out t = LoginRow s l out t
StateRow c s before_summary l out t = (l ≡ codes "BEGIN Game_Summary") × Gives no_lines (client_to s (summary no_content)) out t
StateRow c s (summary h) l out t = SummaryRow s h l out t
StateRow c s (agreeing o) l out t = AgreedRow c s o l out t
StateRow c s (playing g) l out t = ⊥
StateRow c s (sent g a) l out t = ⊥
StateRow c s (reason g f) l out t = ⊥
StateRow c s (closing g f o) l out t = (l ≡ codes "LOGOUT:completed") × Gives no_lines (record s { client = ended g f o; status = Done }) out t
StateRow c s (ended g f o) l out t = ⊥

state_once : (c : Config) (s : State) (k : Client) (l : List ℕ) (out other : Out) (t u : State) → StateRow c s k l out t → StateRow c s k l other u → Same out t other u
state_once c s idle l out other t u a b = absurd a
state_once c s logging_in l out other t u a b = login_once s l out other t u a b
state_once c s before_summary l out other t u a b = both _ out other _ t u a.1 b.1
state_once c s (summary h) l out other t u a b = summary_once s h l out other t u a b
state_once c s (agreeing o) l out other t u a b = agreed_once c s o l out other t u a b
state_once c s (playing g) l out other t u a b = absurd a
state_once c s (sent g x) l out other t u a b = absurd a
state_once c s (reason g f) l out other t u a b = absurd a
state_once c s (closing g f o) l out other t u a b = both _ out other _ t u a.1 b.1
state_once c s (ended g f o) l out other t u a b = absurd a

pub no_play : (p : Play) → None ≡ Some p → ⊥
no_play p e = cc

pub no_result : (x : Match × Finish) → None ≡ Some x → ⊥
no_result x e = cc

pub state_or_play : (c : Config) (s : State) (k : Client) (l : List ℕ) (out : Out) (t : State) (p : Play) → StateRow c s k l out t → in_play k ≡ Some p → ⊥
state_or_play c s idle l out t p a e = a
state_or_play c s logging_in l out t p a e = no_play p e
state_or_play c s before_summary l out t p a e = no_play p e
state_or_play c s (summary h) l out t p a e = no_play p e
state_or_play c s (agreeing o) l out t p a e = no_play p e
state_or_play c s (playing g) l out t p a e = a
state_or_play c s (sent g x) l out t p a e = a
state_or_play c s (reason g f) l out t p a e = a
state_or_play c s (closing g f o) l out t p a e = no_play p e
state_or_play c s (ended g f o) l out t p a e = a

state_or_result : (c : Config) (s : State) (k : Client) (l : List ℕ) (out : Out) (t : State) (x : Match × Finish) → StateRow c s k l out t → before_result k ≡ Some x → ⊥
state_or_result c s idle l out t x a e = a
state_or_result c s logging_in l out t x a e = no_result x e
state_or_result c s before_summary l out t x a e = no_result x e
state_or_result c s (summary h) l out t x a e = no_result x e
state_or_result c s (agreeing o) l out t x a e = no_result x e
state_or_result c s (playing g) l out t x a e = a
state_or_result c s (sent g y) l out t x a e = a
state_or_result c s (reason g f) l out t x a e = a
state_or_result c s (closing g f o) l out t x a e = no_result x e
state_or_result c s (ended g f o) l out t x a e = a

pub data ServerRow (c : Config) (s : State) (l : List ℕ) (out : Out) (t : State) : Type 0 where
  by_state : StateRow c s s.client l out t → ServerRow c s l out t
  by_play : (p : Play) → in_play s.client ≡ Some p → PlayRow c s p l out t → ServerRow c s l out t
  by_hash : (g : Match) (f : Finish) → before_result s.client ≡ Some (g, f) → HashRow s g f l out t → ServerRow c s l out t

same_play : (p q : Play) → Some p ≡ Some q → p ≡ q
same_play p q e = cc

same_result : (x y : Match × Finish) → Some x ≡ Some y → x ≡ y
same_result x y e = cc

server_once : (c : Config) (s : State) (l : List ℕ) (out other : Out) (t u : State) → ServerRow c s l out t → ServerRow c s l other u → Same out t other u
server_once c s l out other t u a b =
    elim a [
      | by_state h ↦ elim b [
        | by_state k ↦ state_once c s s.client l out other t u h k
        | by_play q e k ↦ absurd (state_or_play c s s.client l out t q h e)
        | by_hash g f e k ↦ absurd (state_or_result c s s.client l out t (g, f) h e)
      ]
      | by_play p d h ↦ elim b [
        | by_state k ↦ absurd (state_or_play c s s.client l other u p k d)
        | by_play q e k ↦
            play_once c s q l out other t u (subst (λ x. PlayRow c s x l out t) (same_play p q (sym d ∙ e)) h) k
        | by_hash g f e k ↦ absurd (play_or_hash c s p l out t h (hash_line s g f l other u k))
      ]
      | by_hash g f d h ↦ elim b [
        | by_state k ↦ absurd (state_or_result c s s.client l other u (g, f) k d)
        | by_play q e k ↦ absurd (play_or_hash c s q l other u k (hash_line s g f l out t h))
        | by_hash i j e k ↦
            let x = same_result (g, f) (i, j) (sym d ∙ e) in
            hash_once s i j l out other t u (subst (λ (y : Match × Finish). HashRow s y.0 y.1 l out t) x h) k
      ]
    ]

-- 8. all rows
abbrev pub Late : State → List ℕ → Out → State → Type 0
Late s l out t = (word : List ℕ) × IsBestMove l word × Gives no_lines (record s { engine = Ready }) out t

abbrev pub Thinks : State → Client → List ℕ → Out → State → Type 0
Thinks s idle l out t = Late s l out t
Thinks s logging_in l out t = Late s l out t
Thinks s before_summary l out t = Late s l out t
Thinks s (summary h) l out t = Late s l out t
Thinks s (agreeing o) l out t = Late s l out t
Thinks s (playing g) l out t = EngineAnswers s g l out t
Thinks s (sent g a) l out t = Late s l out t
Thinks s (reason g f) l out t = Late s l out t
Thinks s (closing g f o) l out t = Late s l out t
Thinks s (ended g f o) l out t = Late s l out t

thinks_late : (s : State) (k : Client) (l : List ℕ) (out : Out) (t : State) → client_state k ≢ clients.Playing → Late s l out t → Thinks s k l out t
thinks_late s idle l out t n x = x
thinks_late s logging_in l out t n x = x
thinks_late s before_summary l out t n x = x
thinks_late s (summary h) l out t n x = x
thinks_late s (agreeing o) l out t n x = x
thinks_late s (playing g) l out t n x = absurd (n refl)
thinks_late s (sent g a) l out t n x = x
thinks_late s (reason g f) l out t n x = x
thinks_late s (closing g f o) l out t n x = x
thinks_late s (ended g f o) l out t n x = x

thinks_once : (s : State) (k : Client) (l : List ℕ) (out other : Out) (t u : State) → Thinks s k l out t → Thinks s k l other u → Same out t other u
thinks_once s idle l out other t u a b = both _ out other _ t u a.2 b.2
thinks_once s logging_in l out other t u a b = both _ out other _ t u a.2 b.2
thinks_once s before_summary l out other t u a b = both _ out other _ t u a.2 b.2
thinks_once s (summary h) l out other t u a b = both _ out other _ t u a.2 b.2
thinks_once s (agreeing o) l out other t u a b = both _ out other _ t u a.2 b.2
thinks_once s (playing g) l out other t u a b = answers_once s g l out other t u a b
thinks_once s (sent g x) l out other t u a b = both _ out other _ t u a.2 b.2
thinks_once s (reason g f) l out other t u a b = both _ out other _ t u a.2 b.2
thinks_once s (closing g f o) l out other t u a b = both _ out other _ t u a.2 b.2
thinks_once s (ended g f o) l out other t u a b = both _ out other _ t u a.2 b.2

abbrev pub EngineRow : Config → State → EngineState → List ℕ → Out → State → Type 0
EngineRow c s New l out t = ⊥
EngineRow c s Greeting l out t = LineSays (words l) UsiOk × Gives (engine (codes "isready" ∷ [])) (record s { engine = Readying }) out t
EngineRow c s Readying l out t = LineSays (words l) ReadyOk × Gives (server (login_line c)) (record s { engine = Ready; client = logging_in }) out t
EngineRow c s Ready l out t = ⊥
EngineRow c s Thinking l out t = Thinks s s.client l out t
EngineRow c s EngineEnded l out t = ⊥

engine_once : (c : Config) (s : State) (e : EngineState) (l : List ℕ) (out other : Out) (t u : State) → EngineRow c s e l out t → EngineRow c s e l other u → Same out t other u
engine_once c s New l out other t u a b = absurd a
engine_once c s Greeting l out other t u a b = both _ out other _ t u a.1 b.1
engine_once c s Readying l out other t u a b = both _ out other _ t u a.1 b.1
engine_once c s Ready l out other t u a b = absurd a
engine_once c s Thinking l out other t u a b = thinks_once s s.client l out other t u a b
engine_once c s EngineEnded l out other t u a b = absurd a

-- the server's end: the session closes, or the server is gone
abbrev pub EndRow : State → Client → Out → State → Type 0
EndRow s idle out t = Gives no_lines (failed s ServerGone) out t
EndRow s logging_in out t = Gives no_lines (failed s ServerGone) out t
EndRow s before_summary out t = Gives no_lines (failed s ServerGone) out t
EndRow s (summary h) out t = Gives no_lines (failed s ServerGone) out t
EndRow s (agreeing o) out t = Gives no_lines (failed s ServerGone) out t
EndRow s (playing g) out t = Gives no_lines (failed s ServerGone) out t
EndRow s (sent g a) out t = Gives no_lines (failed s ServerGone) out t
EndRow s (reason g f) out t = Gives no_lines (failed s ServerGone) out t
EndRow s (closing g f o) out t = Gives no_lines (record s { client = ended g f o; status = Done }) out t
EndRow s (ended g f o) out t = ⊥

end_gone : (s : State) (k : Client) (out : Out) (t : State) → client_state k ≢ clients.Closing → client_state k ≢ clients.Ended → Gives no_lines (failed s ServerGone) out t → EndRow s k out t
end_gone s idle out t n m x = x
end_gone s logging_in out t n m x = x
end_gone s before_summary out t n m x = x
end_gone s (summary h) out t n m x = x
end_gone s (agreeing o) out t n m x = x
end_gone s (playing g) out t n m x = x
end_gone s (sent g a) out t n m x = x
end_gone s (reason g f) out t n m x = x
end_gone s (closing g f o) out t n m x = absurd (n refl)
end_gone s (ended g f o) out t n m x = absurd (m refl)

end_once : (s : State) (k : Client) (out other : Out) (t u : State) → EndRow s k out t → EndRow s k other u → Same out t other u
end_once s idle out other t u a b = both _ out other _ t u a b
end_once s logging_in out other t u a b = both _ out other _ t u a b
end_once s before_summary out other t u a b = both _ out other _ t u a b
end_once s (summary h) out other t u a b = both _ out other _ t u a b
end_once s (agreeing o) out other t u a b = both _ out other _ t u a b
end_once s (playing g) out other t u a b = both _ out other _ t u a b
end_once s (sent g x) out other t u a b = both _ out other _ t u a b
end_once s (reason g f) out other t u a b = both _ out other _ t u a b
end_once s (closing g f o) out other t u a b = both _ out other _ t u a b
end_once s (ended g f o) out other t u a b = absurd a

-- what the rows for an event say
abbrev pub Means : Config → State → Event → Out → State → Type 0
Means c s begin out t = (s.engine ≡ New) × Gives (engine (codes "usi" ∷ [])) (record s { engine = Greeting }) out t
Means c s (engine_line l) out t = EngineRow c s s.engine l out t
Means c s (server_line l) out t = ServerRow c s l out t
Means c s engine_end out t = (s.engine ≢ EngineEnded) × Gives no_lines (failed s EngineGone) out t
Means c s server_end out t = EndRow s s.client out t
Means c s engine_long out t = Gives no_lines (failed s LineTooLong) out t
Means c s server_long out t = Gives no_lines (failed s LineTooLong) out t

means_once : (c : Config) (s : State) (e : Event) (out other : Out) (t u : State) → Means c s e out t → Means c s e other u → Same out t other u
means_once c s begin out other t u a b = both _ out other _ t u a.1 b.1
means_once c s (engine_line l) out other t u a b = engine_once c s s.engine l out other t u a b
means_once c s (server_line l) out other t u a b = server_once c s l out other t u a b
means_once c s engine_end out other t u a b = both _ out other _ t u a.1 b.1
means_once c s server_end out other t u a b = end_once s s.client out other t u a b
means_once c s engine_long out other t u a b = both _ out other _ t u a b
means_once c s server_long out other t u a b = both _ out other _ t u a b

by_engine : (c : Config) (s : State) (e : Event) (l : List ℕ) (at : EngineState) (out : Out) (t : State) → s.engine ≡ at → e ≡ engine_line l → EngineRow c s at l out t → Means c s e out t
by_engine c s e l at out t a ev r = subst (λ x. Means c s x out t) (sym ev) (subst (λ x. EngineRow c s x l out t) (sym a) r)

by_thinking : (c : Config) (s : State) (e : Event) (l : List ℕ) (k : Client) (out : Out) (t : State) → s.engine ≡ Thinking → s.client ≡ k → e ≡ engine_line l → Thinks s k l out t → Means c s e out t
by_thinking c s e l k out t a b ev r = by_engine c s e l Thinking out t a ev (subst (λ x. Thinks s x l out t) (sym b) r)

by_server : (c : Config) (s : State) (e : Event) (l : List ℕ) (out : Out) (t : State) → e ≡ server_line l → ServerRow c s l out t → Means c s e out t
by_server c s e l out t ev r = subst (λ x. Means c s x out t) (sym ev) r

by_client : (c : Config) (s : State) (e : Event) (l : List ℕ) (k : Client) (out : Out) (t : State) → s.client ≡ k → e ≡ server_line l → StateRow c s k l out t → Means c s e out t
by_client c s e l k out t a ev r = by_server c s e l out t ev (by_state (subst (λ x. StateRow c s x l out t) (sym a) r))

at_end : (c : Config) (s : State) (e : Event) (k : Client) (out : Out) (t : State) → s.client ≡ k → e ≡ server_end → EndRow s k out t → Means c s e out t
at_end c s e k out t a ev r = subst (λ x. Means c s x out t) (sym ev) (subst (λ x. EndRow s x out t) (sym a) r)

pub means : (c : Config) (s : State) (e : Event) (out : Out) (t : State) → TableRow c s e out t → Means c s e out t
means c s e out t r =
    elim r [
      | row.begins a ev o n ↦ rw ev (a, (o, n))
      | row.greeted l a ev w o n ↦ by_engine c s e l Greeting out t a ev (w, (o, n))
      | row.readied l a ev w o n ↦ by_engine c s e l Readying out t a ev (w, (o, n))
      | row.login_taken l a ev w o n ↦ by_client c s e l logging_in out t a ev (inl (w, (o, n)))
      | row.login_refused a ev o n ↦ by_client c s e _ logging_in out t a ev (inr (refl, (o, n)))
      | row.summary_begins a ev o n ↦ by_client c s e _ before_summary out t a ev (refl, (o, n))
      | row.summary_line ls l h new a ev w x y o n ↦
          let e_new : new ≡ content_after h l = (counts_next ls l h new x).0 y in
          by_client c s e l (summary h) out t a ev (adds w (o, n ∙ ap (λ z. client_to s (summary z)) e_new))
      | row.summary_ends h p a ev w o n ↦ by_client c s e _ (summary h) out t a ev (ends p refl w (o, n))
      | row.summary_fails h a ev w o n ↦ by_client c s e _ (summary h) out t a ev (faults refl w (o, n))
      | row.started p l ls now a ev w q o n ↦ by_client c s e l (agreeing p) out t a ev (starts ls now w q (o, n))
      | row.rejected p l a ev w o n ↦ by_client c s e l (agreeing p) out t a ev (rejects w (o, n))
      | row.engine_moves g l word m a b ev w v o n ↦
          by_thinking c s e l (playing g) out t a b ev (record { word = word; answer = move m; new = g; best = w; is = (v, refl); gives = (o, n) })
      | row.engine_resigns g l a b ev w o n ↦
          by_thinking c s e l (playing g) out t a b ev (record { word = codes "resign"; answer = toryo; new = g; best = w; is = inl (refl, refl); gives = (o, n) })
      | row.engine_wins g l a b ev w o n ↦
          by_thinking c s e l (playing g) out t a b ev (record { word = codes "win"; answer = kachi; new = g; best = w; is = (refl, refl); gives = (o, n) })
      | row.engine_slips g l word a b ev w v o n ↦
          by_thinking c s e l (playing g) out t a b ev (record { word = word; answer = toryo; new = slipped g; best = w; is = inr (v, refl); gives = (o, n) })
      | row.engine_late l word a b ev w o n ↦ by_engine c s e l Thinking out t a ev (thinks_late s s.client l out t b (word, w, (o, n)))
      | row.move_refused p l cause a ev w v o n ↦ by_server c s e l out t ev (by_play p a (refuses cause w v (o, n)))
      | row.move_unsent p l color m a ev w j nope o n ↦ by_server c s e l out t ev (by_play p a (unsent color m w j nope (o, n)))
      | row.move_confirmed p l color m ls now a ev w j x q o n ↦ by_server c s e l out t ev (by_play p a (confirms color m ls now w j x q (o, n)))
      | row.ending_stated p l kept a ev w v o n ↦ by_server c s e l out t ev (by_play p a (tells_end kept w v (o, n)))
      | row.reason_stated g f l a ev w v o n ↦ by_server c s e l out t ev (by_hash g f a (gives_reason w v (o, n)))
      | row.result_stated g f l q a ev w o n ↦ by_server c s e l out t ev (by_hash g f a (gives_result q w (o, n)))
      | row.closes g f q a ev o n ↦ elim ev [
        | inl d ↦ by_client c s e _ (closing g f q) out t a d (refl, (o, n))
        | inr d ↦ at_end c s e (closing g f q) out t a d (o, n)
      ]
      | row.engine_gone a ev o n ↦ rw ev (a, (o, n))
      | row.server_gone a b ev o n ↦ at_end c s e s.client out t refl ev (end_gone s s.client out t a b (o, n))
      | row.line_too_long ev o n ↦ elim ev [
        | inl d ↦ rw d (o, n)
        | inr d ↦ rw d (o, n)
      ]
    ]

pub row_once : (c : Config) (s t u : State) (e : Event) (out other : Out) → Row c s e out t → Row c s e other u → (out ≡ other) × (t ≡ u)
row_once c s t u e out other a b =
    elim a [
      | in_table h ↦ elim b [
        | in_table k ↦ means_once c s e out other t u (means c s e out t h.1) (means c s e other u k.1)
        | unnamed none o n ↦ absurd (none out t h)
      ]
      | unnamed none o n ↦ elim b [
        | in_table k ↦ absurd (none other u k)
        | unnamed also p m ↦ (o ∙ sym p, n ∙ sym m)
      ]
    ]
