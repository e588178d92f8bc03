-- For a host, a state and a line have one answer and one next state.
use Rattle.std.proofs.Common.{◌≡◌, ℕ, ◌++◌, ◌⊎◌, inl, inr, true, false, List, [], ◌∷◌, length, Option, Some, None, codes, arith, refl, sym, ap, subst, ◌∙◌}
use Rattle.shogi_board.specs.declared.color.Color.{Color}
use Rattle.shogi_board.specs.declared.color.Color.TheVariants.{Black, White}
use Rattle.shogi_rules.proofs.Once.{first-once}
use Rattle.shogi_rules.proofs.Stretches.{one-verdict}
use Rattle.shogi_rules.specs.declared.line.Verdict.{Verdict}
use Rattle.shogi_rules.specs.declared.line.Verdict.TheVariants as verdict
use Rattle.shogi_board.specs.declared.moves.Move.{Move}
use Rattle.shogi_rules.specs.Positions.{Played, now_of}
use Rattle.shogi_rules.specs.Positions.{Over}
use Rattle.shogi_rules.specs.Verdicts.{Stands}
use Rattle.usi_text.specs.Words.{words, nth_word}
use Rattle.host_and_sample.specs.declared.config.HostConfig.{HostConfig}
use Rattle.host_and_sample.specs.declared.outcome.Outcome.{Outcome}
use Rattle.host_and_sample.specs.declared.outcome.Outcome.TheVariants.{Repetition, Perpetual, MaxMoves}
use Rattle.host_and_sample.specs.Host.{HostState, HostRow, HostTableRow, HostMoves, BeforeLogin, AfterSummary, InPlay, AfterMove, IsLogin, IsWordAndOne, IsGoodMove, HasNoHostRow, with_move, moved_line, outcome_lines, even_game, waiting, offered, playing, decided, ended, in_table, skipped}
use Rattle.host_and_sample.specs.Host as row
use Rattle.session_lines.specs.MoveLines.{is_move_line}
use Rattle.session_lines.proofs.MoveRead.{move_once}

abbrev Lines : Type 0
Lines = List (List ℕ)

-- lines and a state are those of a row
abbrev Same : Lines → HostState → Lines → HostState → Type 0
Same lines t others u = (lines ≡ others) × (t ≡ u)

both : (lines others : Lines) (t u : HostState) (same : Lines) (v : HostState) → lines ≡ same → t ≡ v → others ≡ same → u ≡ v → Same lines t others u
both lines others t u same v a b c d = (a ∙ sym c, b ∙ sym d)

back : (lines others : Lines) (t u : HostState) → Same lines t others u → Same others u lines t
back lines others t u h = (sym h.0, sym h.1)

-- 1. what ends a game after a move
over_of : (g : Played) (v : Verdict) → (v ≡ verdict.Repetition) ⊎ ((color : Color) × (v ≡ verdict.Perpetual color))
    → Stands g v → Over g
over_of g v (inl e) s = elim (rw e at s) [ inl h ↦ h.0 | inr h ↦ absurd h.1 ]
over_of g v (inr e) s = elim (rw e.1 at s) [ inl h ↦ h.0 | inr h ↦ absurd h.1 ]

repeated : (g : Played) → Stands g verdict.Repetition → Over g
repeated g s = over_of g verdict.Repetition (inl refl) s

pressed : (g : Played) (color : Color) → Stands g (verdict.Perpetual color) → Over g
pressed g color s = over_of g (verdict.Perpetual color) (inr (color, refl)) s

verdict_once : (g : Played) (u v : Verdict) → Stands g u → Stands g v → u ≡ v
verdict_once g u v h k = one-verdict g u v h k

other_verdict : (color : Color) → verdict.Repetition ≡ verdict.Perpetual color → ⊥
other_verdict color e = cc

same_loser : (a b : Color) → verdict.Perpetual a ≡ verdict.Perpetual b → a ≡ b
same_loser a b e = cc

after_once : (c : HostConfig) (g : Played) (a b : Option Outcome) → AfterMove c g a → AfterMove c g b → a ≡ b
after_once c g None None h k = refl
after_once c g None (Some Repetition) h k = absurd (h.0 (repeated g k))
after_once c g None (Some (Perpetual l)) h k = absurd (h.0 (pressed g l k))
after_once c g None (Some MaxMoves) h k = let low = h.1 in let high = k.1 in absurd (omega (arith, low, high))
after_once c g (Some Repetition) None h k = absurd (k.0 (repeated g h))
after_once c g (Some Repetition) (Some Repetition) h k = refl
after_once c g (Some Repetition) (Some (Perpetual l)) h k = absurd (other_verdict l (verdict_once g verdict.Repetition (verdict.Perpetual l) h k))
after_once c g (Some Repetition) (Some MaxMoves) h k = absurd (k.0 (repeated g h))
after_once c g (Some (Perpetual l)) None h k = absurd (k.0 (pressed g l h))
after_once c g (Some (Perpetual l)) (Some Repetition) h k = absurd (other_verdict l (verdict_once g verdict.Repetition (verdict.Perpetual l) k h))
after_once c g (Some (Perpetual l)) (Some (Perpetual m)) h k = ap (λ x. Some (Perpetual x)) (same_loser l m (verdict_once g (verdict.Perpetual l) (verdict.Perpetual m) h k))
after_once c g (Some (Perpetual l)) (Some MaxMoves) h k = absurd (k.0 (pressed g l h))
after_once c g (Some MaxMoves) None h k = let low = k.1 in let high = h.1 in absurd (omega (arith, low, high))
after_once c g (Some MaxMoves) (Some Repetition) h k = absurd (h.0 (repeated g k))
after_once c g (Some MaxMoves) (Some (Perpetual l)) h k = absurd (h.0 (pressed g l k))
after_once c g (Some MaxMoves) (Some MaxMoves) h k = refl

goes_or_ends : (o : Outcome) → None ≡ Some o → ⊥
goes_or_ends o e = cc

same_outcome : (a b : Outcome) → Some a ≡ Some b → a ≡ b
same_outcome a b e = cc

-- 2. the host's move
host_once : (c : HostConfig) (g : Played) (lines others : Lines) (t u : HostState) → HostMoves c g lines t → HostMoves c g others u → Same lines t others u
host_once c g lines others t u r q =
    elim r [
      | row.moves m first after l e ↦
          elim q [
            | row.moves n second rest k d ↦
                let one = first-once (now_of g) n m second first in
                both lines others t u _ _ l e (k ∙ ap (λ x. moved_line g x 0 ∷ []) one) (d ∙ ap (λ x. playing (with_move g x)) one)
            | row.moves_last n outcome second rest k d ↦
                let one = first-once (now_of g) n m second first in
                absurd (goes_or_ends outcome (after_once c (with_move g m) None (Some outcome) after (subst (λ x. AfterMove c (with_move g x) (Some outcome)) one rest)))
            | row.resigns none k d ↦ absurd (none m first.legal)
          ]
      | row.moves_last m outcome first after l e ↦
          elim q [
            | row.moves n second rest k d ↦
                let one = first-once (now_of g) n m second first in
                absurd (goes_or_ends outcome (after_once c (with_move g m) None (Some outcome) (subst (λ x. AfterMove c (with_move g x) None) one rest) after))
            | row.moves_last n other second rest k d ↦
                let one = first-once (now_of g) n m second first in
                let end = same_outcome other outcome (after_once c (with_move g m) (Some other) (Some outcome) (subst (λ x. AfterMove c (with_move g x) (Some other)) one rest) after) in
                both lines others t u _ _ l e (k ∙ (ap (λ x. moved_line g x 0 ∷ outcome_lines c other) one ∙ ap (λ x. moved_line g m 0 ∷ outcome_lines c x) end)) d
            | row.resigns none k d ↦ absurd (none m first.legal)
          ]
      | row.resigns none l e ↦
          elim q [
            | row.moves n second rest k d ↦ absurd (none n second.legal)
            | row.moves_last n other second rest k d ↦ absurd (none n second.legal)
            | row.resigns no_legal k d ↦ both lines others t u _ _ l e k d
          ]
    ]

-- 3. before login and after the summary
login_once : (line n p m q : List ℕ) → IsLogin line n p → IsLogin line m q → m ≡ n
login_once line n p m q h k = ap (λ ws. nth_word ws 1) (sym k.words_are ∙ h.words_are)

before_once : (c : HostConfig) (line : List ℕ) (lines others : Lines) (t u : HostState) → BeforeLogin c line lines t → BeforeLogin c line others u → Same lines t others u
before_once c line lines others t u r q =
    elim r [
      | row.logs_in n p h l e ↦
          elim q [
            | row.logs_in m o k j d ↦
                let one = login_once line n p m o h k in
                both lines others t u _ _ l e (j ∙ ap (λ x. (codes "LOGIN:" ++ (x ++ codes " OK")) ∷ row.summary_lines c x) one) (d ∙ ap offered one)
            | row.login_incorrect w none j d ↦ absurd (none n p h)
          ]
      | row.login_incorrect w none l e ↦
          elim q [
            | row.logs_in m o k j d ↦ absurd (none m o k)
            | row.login_incorrect v nothing j d ↦ both lines others t u _ _ l e j d
          ]
    ]

abbrev head_of : List ℕ → ℕ
head_of [] = 0
head_of (b ∷ bs) = b

abbrev initial : List ℕ → ℕ
initial line = head_of (nth_word (words line) 0)

of_word : (line word : List ℕ) → IsWordAndOne line word → initial line ≡ head_of word
of_word line word (inl h) = ap (λ ws. head_of (nth_word ws 0)) h
of_word line word (inr h) = ap (λ ws. head_of (nth_word ws 0)) h.1

two_sides : (color : Color) → color ≡ Black → color ≡ White → ⊥
two_sides color h k = cc

summary_once : (c : HostConfig) (n line : List ℕ) (lines others : Lines) (t u : HostState) → AfterSummary c n line lines t → AfterSummary c n line others u → Same lines t others u
summary_once c n line lines others t u r q =
    elim r [
      | row.agrees h s l e ↦
          elim q [
            | row.agrees k x j d ↦ both lines others t u _ _ l e j d
            | row.agrees_host_first more k x m j ↦ absurd (two_sides c.client s x)
            | row.rejects k j d ↦ let a : initial line ≡ 65 = of_word line _ h in let b : initial line ≡ 82 = of_word line _ k in absurd (omega (arith, a, b))
          ]
      | row.agrees_host_first more h s m l ↦
          elim q [
            | row.agrees k x j d ↦ absurd (two_sides c.client x s)
            | row.agrees_host_first rest k x o j ↦
                let one = host_once c even_game more rest t u m o in
                (l ∙ (ap (λ ls. (codes "START:" ++ c.id.bytes) ∷ ls) one.0 ∙ sym j), one.1)
            | row.rejects k j d ↦ let a : initial line ≡ 65 = of_word line _ h in let b : initial line ≡ 82 = of_word line _ k in absurd (omega (arith, a, b))
          ]
      | row.rejects h l e ↦
          elim q [
            | row.agrees k x j d ↦ let a : initial line ≡ 82 = of_word line _ h in let b : initial line ≡ 65 = of_word line _ k in absurd (omega (arith, a, b))
            | row.agrees_host_first rest k x o j ↦ let a : initial line ≡ 82 = of_word line _ h in let b : initial line ≡ 65 = of_word line _ k in absurd (omega (arith, a, b))
            | row.rejects k j d ↦ both lines others t u _ _ l e j d
          ]
    ]

-- 4. while the client is to move
abbrev second_of : List ℕ → ℕ
second_of [] = 0
second_of (b ∷ bs) = head_of bs

signed_word : (line : List ℕ) → is_move_line line ≡ true → is_move_line line ≡ false → ⊥
signed_word line h k = cc

good_once : (g : Played) (line : List ℕ) (m n : Move) → IsGoodMove g line m → IsGoodMove g line n → n ≡ m
good_once g line m n h k = (move_once line k.0 h.0 n m k.1 h.1).1

-- the rest of a client's move
moved_once : (c : HostConfig) (g : Played) (line : List ℕ) (seconds : ℕ) (lines others : Lines) (t u : HostState) (m : Move) (more : Lines)
    → is_move_line line ≡ true → IsGoodMove g line m → AfterMove c (with_move g m) None → HostMoves c (with_move g m) more t
    → lines ≡ moved_line g m seconds ∷ more → InPlay c g line seconds others u → Same lines t others u
moved_once c g line seconds lines others t u m more sign good after host l q =
    elim q [
      | row.client_moves n rest s fine following answer k ↦
          let one = good_once g line m n good fine in
          let end = host_once c (with_move g m) more rest t u host (subst (λ x. HostMoves c (with_move g x) rest u) one answer) in
          (l ∙ (ap (λ ls. moved_line g m seconds ∷ ls) end.0 ∙ (ap (λ x. moved_line g x seconds ∷ rest) (sym one) ∙ sym k)), end.1)
      | row.client_moves_last n outcome s fine following k d ↦
          let one = good_once g line m n good fine in
          absurd (goes_or_ends outcome (after_once c (with_move g m) None (Some outcome) after (subst (λ x. AfterMove c (with_move g x) (Some outcome)) one following)))
      | row.client_errs s none k d ↦ absurd (none m good)
      | row.client_resigns h k d ↦ let f : is_move_line line ≡ false = ap is_move_line h in absurd (signed_word line sign f)
      | row.client_declares h k d ↦ let f : is_move_line line ≡ false = ap is_move_line h in absurd (signed_word line sign f)
    ]

last_once : (c : HostConfig) (g : Played) (line : List ℕ) (seconds : ℕ) (lines others : Lines) (t u : HostState) (m : Move) (outcome : Outcome)
    → is_move_line line ≡ true → IsGoodMove g line m → AfterMove c (with_move g m) (Some outcome)
    → lines ≡ moved_line g m seconds ∷ outcome_lines c outcome → t ≡ decided → InPlay c g line seconds others u → Same lines t others u
last_once c g line seconds lines others t u m outcome sign good after l e q =
    elim q [
      | row.client_moves n rest s fine following answer k ↦
          let one = good_once g line m n good fine in
          absurd (goes_or_ends outcome (after_once c (with_move g m) None (Some outcome) (subst (λ x. AfterMove c (with_move g x) None) one following) after))
      | row.client_moves_last n other s fine following k d ↦
          let one = good_once g line m n good fine in
          let end = same_outcome other outcome (after_once c (with_move g m) (Some other) (Some outcome) (subst (λ x. AfterMove c (with_move g x) (Some other)) one following) after) in
          both lines others t u _ _ l e (k ∙ (ap (λ x. moved_line g x seconds ∷ outcome_lines c other) one ∙ ap (λ x. moved_line g m seconds ∷ outcome_lines c x) end)) d
      | row.client_errs s none k d ↦ absurd (none m good)
      | row.client_resigns h k d ↦ let f : is_move_line line ≡ false = ap is_move_line h in absurd (signed_word line sign f)
      | row.client_declares h k d ↦ let f : is_move_line line ≡ false = ap is_move_line h in absurd (signed_word line sign f)
    ]

errs_once : (c : HostConfig) (g : Played) (line : List ℕ) (seconds : ℕ) (lines others : Lines) (t u : HostState)
    → is_move_line line ≡ true → ((m : Move) → IsGoodMove g line m → ⊥)
    → lines ≡ codes "#ILLEGAL_MOVE" ∷ codes "#LOSE" ∷ [] → t ≡ decided → InPlay c g line seconds others u → Same lines t others u
errs_once c g line seconds lines others t u sign none l e q =
    elim q [
      | row.client_moves n rest s fine following answer k ↦ absurd (none n fine)
      | row.client_moves_last n other s fine following k d ↦ absurd (none n fine)
      | row.client_errs s nothing k d ↦ both lines others t u _ _ l e k d
      | row.client_resigns h k d ↦ let f : is_move_line line ≡ false = ap is_move_line h in absurd (signed_word line sign f)
      | row.client_declares h k d ↦ let f : is_move_line line ≡ false = ap is_move_line h in absurd (signed_word line sign f)
    ]

two_words : (line : List ℕ) → line ≡ codes "%TORYO" → line ≡ codes "%KACHI" → ⊥
two_words line h k = let a : second_of line ≡ 84 = ap second_of h in let b : second_of line ≡ 75 = ap second_of k in omega (arith, a, b)

play_once : (c : HostConfig) (g : Played) (line : List ℕ) (seconds : ℕ) (lines others : Lines) (t u : HostState)
    → InPlay c g line seconds lines t → InPlay c g line seconds others u → Same lines t others u
play_once c g line seconds lines others t u r q =
    elim r [
      | row.client_moves m more s good after host l ↦ moved_once c g line seconds lines others t u m more s good after host l q
      | row.client_moves_last m outcome s good after l e ↦ last_once c g line seconds lines others t u m outcome s good after l e q
      | row.client_errs s none l e ↦ errs_once c g line seconds lines others t u s none l e q
      | row.client_resigns h l e ↦
          let f : is_move_line line ≡ false = ap is_move_line h in
          elim q [
            | row.client_moves n rest s fine following answer k ↦ absurd (signed_word line s f)
            | row.client_moves_last n other s fine following k d ↦ absurd (signed_word line s f)
            | row.client_errs s nothing k d ↦ absurd (signed_word line s f)
            | row.client_resigns w k d ↦ both lines others t u _ _ l e k d
            | row.client_declares w k d ↦ absurd (two_words line h w)
          ]
      | row.client_declares h l e ↦
          let f : is_move_line line ≡ false = ap is_move_line h in
          elim q [
            | row.client_moves n rest s fine following answer k ↦ absurd (signed_word line s f)
            | row.client_moves_last n other s fine following k d ↦ absurd (signed_word line s f)
            | row.client_errs s nothing k d ↦ absurd (signed_word line s f)
            | row.client_resigns w k d ↦ absurd (two_words line w h)
            | row.client_declares w k d ↦ both lines others t u _ _ l e k d
          ]
    ]

-- 5. `LOGOUT` is no other row's line
logout_word : (line : List ℕ) → line ≡ codes "LOGOUT" → nth_word (words line) 0 ≡ codes "LOGOUT"
logout_word line h = ap (λ l. nth_word (words l) 0) h

not_login : (c : HostConfig) (line : List ℕ) (lines : Lines) (t : HostState) → line ≡ codes "LOGOUT" → BeforeLogin c line lines t → ⊥
not_login c line lines t h r =
    let a : length (nth_word (words line) 0) ≡ 6 = ap length (logout_word line h) in
    elim r [
      | row.logs_in n p k l e ↦ let b : length (nth_word (words line) 0) ≡ 5 = ap (λ ws. length (nth_word ws 0)) k.words_are in omega (arith, a, b)
      | row.login_incorrect k none l e ↦ let b : length (nth_word (words line) 0) ≡ 5 = ap length k in omega (arith, a, b)
    ]

not_summary : (c : HostConfig) (n line : List ℕ) (lines : Lines) (t : HostState) → line ≡ codes "LOGOUT" → AfterSummary c n line lines t → ⊥
not_summary c n line lines t h r =
    let a : initial line ≡ 76 = ap head_of (logout_word line h) in
    elim r [
      | row.agrees k s l e ↦ let b : initial line ≡ 65 = of_word line _ k in omega (arith, a, b)
      | row.agrees_host_first more k s m l ↦ let b : initial line ≡ 65 = of_word line _ k in omega (arith, a, b)
      | row.rejects k l e ↦ let b : initial line ≡ 82 = of_word line _ k in omega (arith, a, b)
    ]

not_play : (c : HostConfig) (g : Played) (line : List ℕ) (seconds : ℕ) (lines : Lines) (t : HostState) → line ≡ codes "LOGOUT" → InPlay c g line seconds lines t → ⊥
not_play c g line seconds lines t h r =
    let f : is_move_line line ≡ false = ap is_move_line h in
    let a : head_of line ≡ 76 = ap head_of h in
    elim r [
      | row.client_moves n rest s fine following answer k ↦ signed_word line s f
      | row.client_moves_last n other s fine following k d ↦ signed_word line s f
      | row.client_errs s nothing k d ↦ signed_word line s f
      | row.client_resigns w k d ↦ let b : head_of line ≡ 37 = ap head_of w in omega (arith, a, b)
      | row.client_declares w k d ↦ let b : head_of line ≡ 37 = ap head_of w in omega (arith, a, b)
    ]

logout_once : (c : HostConfig) (s : HostState) (line : List ℕ) (seconds : ℕ) (lines others : Lines) (t u : HostState)
    → line ≡ codes "LOGOUT" → lines ≡ codes "LOGOUT:completed" ∷ [] → t ≡ ended → HostTableRow c s line seconds others u → Same lines t others u
logout_once c s line seconds lines others t u h l e q =
    elim q [
      | row.before_login d b ↦ absurd (not_login c line others u h b)
      | row.after_summary n d b ↦ absurd (not_summary c n line others u h b)
      | row.in_play g d b ↦ absurd (not_play c g line seconds others u h b)
      | row.logs_out on w k d ↦ both lines others t u _ _ l e k d
    ]

-- 6. rows
same_name : (n m : List ℕ) → offered n ≡ offered m → n ≡ m
same_name n m e = cc

same_play : (g h : Played) → playing g ≡ playing h → g ≡ h
same_play g h e = cc

waiting_offer : (n : List ℕ) → waiting ≡ offered n → ⊥
waiting_offer n e = cc

waiting_playing : (g : Played) → waiting ≡ playing g → ⊥
waiting_playing g e = cc

offer_playing : (n : List ℕ) (g : Played) → offered n ≡ playing g → ⊥
offer_playing n g e = cc

table_once : (c : HostConfig) (s : HostState) (line : List ℕ) (seconds : ℕ) (lines others : Lines) (t u : HostState)
    → HostTableRow c s line seconds lines t → HostTableRow c s line seconds others u → Same lines t others u
table_once c s line seconds lines others t u r q =
    elim r [
      | row.before_login e b ↦
          elim q [
            | row.before_login d k ↦ before_once c line lines others t u b k
            | row.after_summary n d k ↦ absurd (waiting_offer n (sym e ∙ d))
            | row.in_play g d k ↦ absurd (waiting_playing g (sym e ∙ d))
            | row.logs_out on w k d ↦ absurd (not_login c line lines t w b)
          ]
      | row.after_summary n e b ↦
          elim q [
            | row.before_login d k ↦ absurd (waiting_offer n (sym d ∙ e))
            | row.after_summary m d k ↦ summary_once c n line lines others t u b (subst (λ x. AfterSummary c x line others u) (same_name m n (sym d ∙ e)) k)
            | row.in_play g d k ↦ absurd (offer_playing n g (sym e ∙ d))
            | row.logs_out on w k d ↦ absurd (not_summary c n line lines t w b)
          ]
      | row.in_play g e b ↦
          elim q [
            | row.before_login d k ↦ absurd (waiting_playing g (sym d ∙ e))
            | row.after_summary m d k ↦ absurd (offer_playing m g (sym d ∙ e))
            | row.in_play h d k ↦ play_once c g line seconds lines others t u b (subst (λ x. InPlay c x line seconds others u) (same_play h g (sym d ∙ e)) k)
            | row.logs_out on w k d ↦ absurd (not_play c g line seconds lines t w b)
          ]
      | row.logs_out on w l e ↦ logout_once c s line seconds lines others t u w l e q
    ]

pub host_row_once : (c : HostConfig) (s t u : HostState) (line : List ℕ) (seconds : ℕ) (lines others : Lines)
    → HostRow c s line seconds lines t → HostRow c s line seconds others u → Same lines t others u
host_row_once c s t u line seconds lines others r q =
    elim r [
      | in_table b ↦
          elim q [
            | in_table k ↦ table_once c s line seconds lines others t u b k
            | skipped none k d ↦ absurd (none lines t b)
          ]
      | skipped none l e ↦
          elim q [
            | in_table k ↦ absurd (none others u k)
            | skipped nothing k d ↦ both lines others t u _ _ l e k d
          ]
    ]
