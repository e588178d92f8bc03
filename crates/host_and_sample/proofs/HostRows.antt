-- How a host's answers are rows of its table.
use Rattle.std.proofs.Common.{◌≡◌, ℕ, ◌<◌, ◌++◌, ◌⊎◌, inl, inr, true, false, List, [], ◌∷◌, length, Some, None, codes, arith, refl, ap, subst, ◌∙◌, append_assoc}
use Rattle.shogi_board.specs.declared.color.Color.{Color}
use Rattle.shogi_board.specs.declared.color.Color.TheVariants.{Black, White}
use Rattle.shogi_board.specs.Placed.{Placed, even_start}
use Rattle.shogi_rules.proofs.Alone.{not-over-alone}
use Rattle.shogi_rules.proofs.Games.{none-legal}
use Rattle.shogi_rules.proofs.Once.{one-answer}
use Rattle.shogi_rules.specs.declared.line.PlayFault.{PlayFault}
use Rattle.shogi_rules.specs.declared.line.PlayFault.TheVariants as play
use Rattle.shogi_board.specs.declared.moves.Move.{Move}
use Rattle.shogi_board.specs.declared.rule.Rule.{Rule}
use Rattle.shogi_board.specs.Legal.{Legal}
use Rattle.shogi_rules.specs.Order.{IsFirstLegal}
use Rattle.shogi_rules.specs.Play.{Answers}
use Rattle.shogi_rules.specs.Positions.{Played, now_of}
use Rattle.shogi_rules.specs.Positions.{Over}
use Rattle.csa_text.specs.Codes.{move_text}
use Rattle.usi_text.specs.Words.{words, nth_word}
use Rattle.host_and_sample.specs.declared.config.HostConfig.{HostConfig}
use Rattle.host_and_sample.specs.declared.outcome.Outcome.{Outcome}
use Rattle.host_and_sample.specs.Host.{HostState, HostMoves, BeforeLogin, AfterSummary, InPlay, AfterMove, IsLogin, IsWordAndOne, IsGoodMove, HasNoHostRow, with_move, moved_line, outcome_lines, even_game, waiting, offered, playing, decided, ended, in_table, skipped}
use Rattle.host_and_sample.specs.Host as row
use Rattle.host_and_sample.specs.Hosting.{HostRowText}
use Rattle.host_and_sample.specs.HostAnswers.{follows, follows_last, taken, refused, rests, rests_last, MovesAfter, Begins, Follows, Tries, Rests}
use Rattle.session_lines.specs.MoveLines.{is_move_line, TellsMove}
use Rattle.session_lines.specs.Texts.{text_of, ended_line, with_time}
use Rattle.session_lines.proofs.OneLine.{one_text}
use Rattle.shogi_rules.specs.Verdicts.{NoLegalMove}
use Rattle.session_lines.proofs.MoveRead.{move_once}

-- 1. LOGOUT, and lines to which no row applies
pub logged_out : (c : HostConfig) (s t : HostState) (seconds : ℕ) (text : List ℕ)
    → (s ≡ ended → ⊥) → t ≡ ended → text ≡ text_of (codes "LOGOUT:completed" ∷ []) → HostRowText c s (codes "LOGOUT") seconds text t
logged_out c s t seconds text running e h = (codes "LOGOUT:completed" ∷ [], in_table (row.logs_out running refl refl e), h)

pub unnamed_ended : (c : HostConfig) (line : List ℕ) (seconds : ℕ) → HasNoHostRow c ended line seconds
unnamed_ended c line seconds lines t r =
    elim r [
      | row.before_login e b ↦ cc
      | row.after_summary n e b ↦ cc
      | row.in_play g e b ↦ cc
      | row.logs_out e h l k ↦ e refl
    ]

-- no line is sent
pub silent : (c : HostConfig) (s t : HostState) (line : List ℕ) (seconds : ℕ) (text : List ℕ)
    → HasNoHostRow c s line seconds → t ≡ s → text ≡ [] → HostRowText c s line seconds text t
silent c s t line seconds text unnamed e h = ([], skipped unnamed refl e, h)

-- 2. before login
login_word : (line n p : List ℕ) → IsLogin line n p → nth_word (words line) 0 ≡ codes "LOGIN"
login_word line n p h = ap (λ ws. nth_word ws 0) h.words_are

not_login : (c : HostConfig) (line : List ℕ) (lines : List (List ℕ)) (t : HostState)
    → (nth_word (words line) 0 ≡ codes "LOGIN" → ⊥) → BeforeLogin c line lines t → ⊥
not_login c line lines t other b =
    elim b [
      | row.logs_in n p h l e ↦ other (login_word line n p h)
      | row.login_incorrect h none l e ↦ other h
    ]

pub incorrect : (c : HostConfig) (t : HostState) (line : List ℕ) (seconds : ℕ) (text : List ℕ)
    → nth_word (words line) 0 ≡ codes "LOGIN" → ((n p : List ℕ) → IsLogin line n p → ⊥) → t ≡ waiting
    → text ≡ text_of (codes "LOGIN:incorrect" ∷ []) → HostRowText c waiting line seconds text t
incorrect c t line seconds text word none e h =
    (codes "LOGIN:incorrect" ∷ [], in_table (row.before_login refl (row.login_incorrect word none refl e)), h)

pub let_in : (c : HostConfig) (t : HostState) (line : List ℕ) (seconds : ℕ) (text n p : List ℕ) → IsLogin line n p → t ≡ offered n
    → text ≡ text_of ((codes "LOGIN:" ++ (n ++ codes " OK")) ∷ row.summary_lines c n) → HostRowText c waiting line seconds text t
let_in c t line seconds text n p h e same =
    (_, in_table (row.before_login refl (row.logs_in n p h refl e)), same)

-- 3. after the summary
pub agreed : (c : HostConfig) (n line : List ℕ) (seconds : ℕ) (text : List ℕ) (t : HostState)
    → IsWordAndOne line (codes "AGREE") → Begins c text t → HostRowText c (offered n) line seconds text t
agreed c n line seconds text t word b = (b.0, in_table (row.after_summary n refl (b.1 n line word)), b.2)

pub rejected : (c : HostConfig) (n line : List ℕ) (seconds : ℕ) (text : List ℕ) (t : HostState)
    → IsWordAndOne line (codes "REJECT") → t ≡ ended
    → text ≡ text_of ((codes "REJECT:" ++ (c.id.bytes ++ (codes " by " ++ n))) ∷ []) → HostRowText c (offered n) line seconds text t
rejected c n line seconds text t word e h = (_, in_table (row.after_summary n refl (row.rejects word refl e)), h)

not_summary : (c : HostConfig) (n line : List ℕ) (lines : List (List ℕ)) (t : HostState)
    → (IsWordAndOne line (codes "AGREE") → ⊥) → (IsWordAndOne line (codes "REJECT") → ⊥) → AfterSummary c n line lines t → ⊥
not_summary c n line lines t agree reject b =
    elim b [
      | row.agrees h k l e ↦ agree h
      | row.agrees_host_first more h k m l ↦ agree h
      | row.rejects h l e ↦ reject h
    ]

pub unnamed_offer : (c : HostConfig) (n line : List ℕ) (seconds : ℕ) → (line ≡ codes "LOGOUT" → ⊥)
    → (IsWordAndOne line (codes "AGREE") → ⊥) → (IsWordAndOne line (codes "REJECT") → ⊥) → HasNoHostRow c (offered n) line seconds
unnamed_offer c n line seconds stays agree reject lines t r =
    elim r [
      | row.before_login e b ↦ cc
      | row.after_summary m e b ↦ not_summary c m line lines t agree reject b
      | row.in_play g e b ↦ cc
      | row.logs_out e h l k ↦ stays h
    ]

-- 4. moves
pub even_goes_on : Over even_game → ⊥
even_goes_on = not-over-alone even_start

keeps_side : (g : Played) (color : Color) (m : Move) → Answers g color m None → color ≡ (now_of g).side
keeps_side g color m a =
    elim a.1 [
      | inl broken ↦ let e = broken.1 in cc
      | inr kept ↦ kept.0
    ]

abbrev Answered : Played → Color → Move → PlayFault → Type 0
Answered g color m fault = ((fault ≡ play.OutOfMemory) × Answers g color m None) ⊎ Answers g color m (Some fault)

pub not_played : (g : Played) (color : Color) (m : Move) (fault : PlayFault) → (fault ≡ play.OutOfMemory → ⊥)
    → Answered g color m fault → Answers g color m None → ⊥
not_played g color m fault memory a none =
    elim a [
      | inl h ↦ memory h.0
      | inr h ↦ let e = one-answer g color m (Some fault) None h none in cc
    ]

broken : (g : Played) (m : Move) (rule : Rule) → (Over g → ⊥) → Legal (now_of g) m
    → Answers g (now_of g).side m (Some (play.Broken rule)) → ⊥
broken g m rule goes legal a =
    elim a.1 [
      | inl h ↦ h.0 refl
      | inr h ↦
          elim h.1 [
            | inl k ↦ k.0 goes
            | inr k ↦ let e = (none-legal (now_of g) (now_of g).side m (Some rule) refl k.1).1 (refl, legal) in cc
          ]
    ]

legal_fault : (g : Played) (m : Move) (fault : PlayFault) → length g.moves < 10000 → (Over g → ⊥) → Legal (now_of g) m
    → Answers g (now_of g).side m (Some fault) → ⊥
legal_fault g m play.TooManyMoves room goes legal a = absurd (omega (arith, room, a))
legal_fault g m (play.Broken rule) room goes legal a = broken g m rule goes legal a
legal_fault g m play.OutOfMemory room goes legal a = a

pub always_played : (g : Played) (side : Color) (p : Placed) (m : Move) (fault : PlayFault) → p ≡ now_of g → side ≡ p.side
    → length g.moves < 10000 → (Over g → ⊥) → Legal (now_of g) m → (fault ≡ play.OutOfMemory → ⊥) → Answered g side m fault → ⊥
always_played g side p m fault now same room goes legal memory a =
    let e : side ≡ (now_of g).side = same ∙ ap (λ (q : Placed). q.side) now in
    elim a [
      | inl h ↦ memory h.0
      | inr h ↦ legal_fault g m fault room goes legal (subst (λ s. Answers g s m (Some fault)) e h)
    ]

-- the host's move and what follows it
pub host_moved : (c : HostConfig) (g h : Played) (p : Placed) (side : Color) (m : Move) (before with_line text : List ℕ) (t : HostState)
    → p ≡ now_of g → side ≡ p.side → IsFirstLegal (now_of g) m → h ≡ with_move g m
    → with_line ≡ before ++ ended_line (with_time (move_text side m) 0) → Rests c h with_line text t → MovesAfter c g before text t
host_moved c g h p side m before with_line text t now same first one whole r =
    let e : side ≡ (now_of g).side = same ∙ ap (λ (q : Placed). q.side) now in
    let line : with_line ≡ before ++ ended_line (moved_line g m 0) = whole ∙ ap (λ (s : Color). before ++ ended_line (with_time (move_text s m) 0)) e in
    elim r [
      | rests after h2 k ↦ (
        moved_line g m 0 ∷ [],
        row.moves m first (subst (λ x. AfterMove c x None) one after) refl (k ∙ ap playing one),
        h2 ∙ (line ∙ ap (λ x. before ++ x) (one_text (moved_line g m 0))),
      )
      | rests_last outcome after h2 k ↦ (
        moved_line g m 0 ∷ outcome_lines c outcome,
        row.moves_last m outcome first (subst (λ x. AfterMove c x (Some outcome)) one after) refl k,
        h2 ∙ (ap (λ x. x ++ text_of (outcome_lines c outcome)) line ∙ append_assoc before (ended_line (moved_line g m 0)) (text_of (outcome_lines c outcome))),
      )
    ]

pub host_resigned : (c : HostConfig) (g : Played) (p : Placed) (before text : List ℕ) (t : HostState)
    → p ≡ now_of g → NoLegalMove p → t ≡ decided
    → text ≡ before ++ text_of (with_time (codes "%TORYO") 0 ∷ codes "#RESIGN" ∷ codes "#WIN" ∷ []) → MovesAfter c g before text t
host_resigned c g p before text t now none e h = (_, row.resigns (subst NoLegalMove now none) refl e, h)

-- after the client's move
pub follow_last : (c : HostConfig) (g : Played) (line so_far text : List ℕ) (t : HostState) (outcome : Outcome)
    → AfterMove c g (Some outcome) → so_far ≡ ended_line line → t ≡ decided → text ≡ so_far ++ text_of (outcome_lines c outcome)
    → Follows c g line text t
follow_last c g line so_far text t outcome after same e h =
    follows_last outcome after (h ∙ ap (λ x. x ++ text_of (outcome_lines c outcome)) same) e

pub follow_host : (c : HostConfig) (g : Played) (line so_far text : List ℕ) (t : HostState)
    → AfterMove c g None → so_far ≡ ended_line line → MovesAfter c g so_far text t → Follows c g line text t
follow_host c g line so_far text t after same m =
    follows m.0 after m.1 (m.2 ∙ ap (λ x. x ++ text_of m.0) same)

-- the client's line
moved_row : (c : HostConfig) (g : Played) (line : List ℕ) (color : Color) (m : Move) (seconds : ℕ) (text : List ℕ) (t : HostState)
    → is_move_line line ≡ true → TellsMove line color m → Answers g color m None
    → Follows c (with_move g m) (moved_line g m seconds) text t → HostRowText c (playing g) line seconds text t
moved_row c g line color m seconds text t sign tells may f =
    elim f [
      | follows more after host h ↦
          (_, in_table (row.in_play g refl (row.client_moves m more sign (color, tells, may) after host refl)), h)
      | follows_last outcome after h e ↦
          (_, in_table (row.in_play g refl (row.client_moves_last m outcome sign (color, tells, may) after refl e)), h)
    ]

pub tried : (c : HostConfig) (g : Played) (line : List ℕ) (color : Color) (m : Move) (seconds : ℕ) (text : List ℕ) (t : HostState)
    → is_move_line line ≡ true → TellsMove line color m → Tries c g color m seconds text t → HostRowText c (playing g) line seconds text t
tried c g line color m seconds text t sign tells r =
    elim r [
      | taken may f ↦
          let same = keeps_side g color m may in
          moved_row c g line color m seconds text t sign tells may
          (subst (λ s. Follows c (with_move g m) (with_time (move_text s m) seconds) text t) same f)
      | refused may_not h e ↦
          let none : (n : Move) → IsGoodMove g line n → ⊥ = λ n good.
          let one = move_once line good.0 color n m good.1 tells in
          may_not (subst (λ x. Answers g color x None) one.1 (subst (λ s. Answers g s n None) one.0 good.2)) in
          (_, in_table (row.in_play g refl (row.client_errs sign none refl e)), h)
    ]

pub erred : (c : HostConfig) (g : Played) (line : List ℕ) (seconds : ℕ) (text : List ℕ) (t : HostState)
    → is_move_line line ≡ true → ((color : Color) (m : Move) → TellsMove line color m → ⊥)
    → t ≡ decided → text ≡ text_of (codes "#ILLEGAL_MOVE" ∷ codes "#LOSE" ∷ []) → HostRowText c (playing g) line seconds text t
erred c g line seconds text t sign none e h =
    (_, in_table (row.in_play g refl (row.client_errs sign (λ m good. none good.0 m good.1) refl e)), h)

-- the client's word
pub resigned : (c : HostConfig) (g : Played) (line : List ℕ) (seconds : ℕ) (text : List ℕ) (t : HostState)
    → line ≡ codes "%TORYO" → t ≡ decided
    → text ≡ text_of (with_time line seconds ∷ codes "#RESIGN" ∷ codes "#LOSE" ∷ []) → HostRowText c (playing g) line seconds text t
resigned c g line seconds text t word e h = (
  _,
  in_table (row.in_play g refl (row.client_resigns word refl e)),
  h ∙ ap (λ w. text_of (with_time w seconds ∷ codes "#RESIGN" ∷ codes "#LOSE" ∷ [])) word,
)

pub declared : (c : HostConfig) (g : Played) (line : List ℕ) (seconds : ℕ) (text : List ℕ) (t : HostState)
    → line ≡ codes "%KACHI" → t ≡ decided
    → text ≡ text_of (with_time line seconds ∷ codes "#JISHOGI" ∷ codes "#WIN" ∷ []) → HostRowText c (playing g) line seconds text t
declared c g line seconds text t word e h = (
  _,
  in_table (row.in_play g refl (row.client_declares word refl e)),
  h ∙ ap (λ w. text_of (with_time w seconds ∷ codes "#JISHOGI" ∷ codes "#WIN" ∷ [])) word,
)

not_play : (c : HostConfig) (g : Played) (line : List ℕ) (seconds : ℕ) (lines : List (List ℕ)) (t : HostState)
    → is_move_line line ≡ false → (line ≡ codes "%TORYO" → ⊥) → (line ≡ codes "%KACHI" → ⊥) → InPlay c g line seconds lines t → ⊥
not_play c g line seconds lines t sign resigns declares b =
    elim b [
      | row.client_moves m more s good after host l ↦ cc
      | row.client_moves_last m outcome s good after l e ↦ cc
      | row.client_errs s none l e ↦ cc
      | row.client_resigns h l e ↦ resigns h
      | row.client_declares h l e ↦ declares h
    ]

pub unnamed_playing : (c : HostConfig) (g : Played) (line : List ℕ) (seconds : ℕ) → (line ≡ codes "LOGOUT" → ⊥)
    → is_move_line line ≡ false → (line ≡ codes "%TORYO" → ⊥) → (line ≡ codes "%KACHI" → ⊥) → HasNoHostRow c (playing g) line seconds
unnamed_playing c g line seconds stays sign resigns declares lines t r =
    elim r [
      | row.before_login e b ↦ cc
      | row.after_summary n e b ↦ cc
      | row.in_play h e b ↦ not_play c h line seconds lines t sign resigns declares b
      | row.logs_out e h l k ↦ stays h
    ]

-- the game begins
pub client_begins : (c : HostConfig) (g : Played) (start : Placed) (text : List ℕ) → c.client ≡ Black → g ≡ record { start = start; moves = [] }
    → start ≡ even_start → text ≡ ended_line (codes "START:" ++ c.id.bytes) → Begins c text (playing g)
client_begins c g start text side one even h =
    let same : g ≡ even_game = one ∙ ap (λ (p : Placed). record { start = p; moves = [] }) even in
    (_, λ n line word. row.agrees word side refl (ap playing same), h ∙ one_text (codes "START:" ++ c.id.bytes))

pub host_begins : (c : HostConfig) (g : Played) (start : Placed) (so_far text : List ℕ) (t : HostState) → c.client ≡ White → g ≡ record { start = start; moves = [] }
    → start ≡ even_start → so_far ≡ ended_line (codes "START:" ++ c.id.bytes) → MovesAfter c g so_far text t → Begins c text t
host_begins c g start so_far text t side one even h m =
    let same : g ≡ even_game = one ∙ ap (λ (p : Placed). record { start = p; moves = [] }) even in (
      _,
      λ n line word. row.agrees_host_first m.0 word side (subst (λ x. HostMoves c x m.0 t) same m.1) refl,
      m.2 ∙ ap (λ x. x ++ text_of m.0) h,
    )
