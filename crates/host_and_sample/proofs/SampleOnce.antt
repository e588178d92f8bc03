-- For the sample engine, a state and a line have one answer and one next state.
use Rattle.std.proofs.Common.{◌≡◌, ℕ, ◌++◌, inl, inr, List, [], ◌∷◌, Option, Some, None, codes, arith, refl, sym, ap, subst, ◌∙◌}
use Rattle.shogi_board.specs.Placed.{Placed}
use Rattle.shogi_rules.proofs.Once.{first-once}
use Rattle.shogi_board.specs.declared.moves.Move.{Move}
use Rattle.shogi_rules.specs.Positions.{Played, now_of}
use Rattle.usi_text.proofs.LineOnce.{line_once}
use Rattle.usi_text.proofs.OneText.{one_text}
use Rattle.usi_text.specs.Moves.{UsiMove}
use Rattle.usi_text.specs.Words.{words, nth_word}
use Rattle.host_and_sample.specs.Sample.{SampleState, SampleRow, SampleTableRow, IsBest, HasNoMove, IsGameOf, IsWord, BeginsWith, keeps, quit, in_table, skipped, over}
use Rattle.host_and_sample.specs.Sample as row

abbrev Lines : Type 0
Lines = List (List ℕ)

abbrev head_of : List ℕ → ℕ
head_of [] = 0
head_of (b ∷ bs) = b

-- the first letter of the first word: the rows of each are about the same words
abbrev initial : List ℕ → ℕ
initial line = head_of (nth_word (words line) 0)

of_word : (line word : List ℕ) → IsWord line word → initial line ≡ head_of word
of_word line word h = ap (λ ws. head_of (nth_word ws 0)) h

of_first : (line word : List ℕ) → BeginsWith line word → initial line ≡ head_of word
of_first line word h = ap head_of h

-- lines and a state are those of a row
abbrev Same : Lines → SampleState → Lines → SampleState → Type 0
Same lines t others u = (lines ≡ others) × (t ≡ u)

abbrev greeting : Lines
greeting = codes "id name shogi" ∷ codes "id author shogi" ∷ codes "usiok" ∷ []

played_same : (g h : Played) → g.start ≡ h.start → g.moves ≡ h.moves → g ≡ h
played_same g h s m =
    let first : g ≡ record { start = h.start; moves = g.moves } = ap (λ (p : Placed). record g { start = p }) s in
    first ∙ ap (λ (ms : List Move). record h { moves = ms }) m

game_once : (line : List ℕ) (a b : Option Played) → IsGameOf line a → IsGameOf line b → a ≡ b
game_once line None None h k = refl
game_once line None (Some g) h k = absurd (h g k)
game_once line (Some g) None h k = absurd (k g h)
game_once line (Some g) (Some i) h k =
    let e = line_once (words line) g.start i.start g.moves i.moves h k in
    ap Some (played_same g i e.0 e.1)

best_once : (g : Played) (a b : List ℕ) → IsBest g a → IsBest g b → a ≡ b
best_once g a b h k =
    let same = first-once (now_of g) h.best k.best h.first k.first in
    one_text (now_of g) a b k.best (subst (λ m. UsiMove (now_of g) a m) same h.text) k.text

has_move : (g : Played) (word : List ℕ) → IsBest g word → HasNoMove (Some g) → ⊥
has_move g word h none =
    elim none [
      | inl n ↦ n h.best h.first.legal
      | inr o ↦ h.not_over o
    ]

some_once : (g h : Played) → Some g ≡ Some h → g ≡ h
some_once g h e = cc

usi_row : (kept : Option Played) (line : List ℕ) (lines : Lines) (t : SampleState)
    → SampleTableRow kept line lines t → initial line ≡ 117 → Same lines t greeting (keeps kept)
usi_row kept line lines t r i =
    elim r [
      | row.usi h l e ↦ (l, e)
      | row.isready h l e ↦ let j : initial line ≡ 105 = of_word line _ h in absurd (omega (arith, i, j))
      | row.position stated h g l e ↦ let j : initial line ≡ 112 = of_first line _ h in absurd (omega (arith, i, j))
      | row.go g word h k b l e ↦ let j : initial line ≡ 103 = of_first line _ h in absurd (omega (arith, i, j))
      | row.go_resign h n l e ↦ let j : initial line ≡ 103 = of_first line _ h in absurd (omega (arith, i, j))
      | row.quits h l e ↦ let j : initial line ≡ 113 = of_word line _ h in absurd (omega (arith, i, j))
    ]

isready_row : (kept : Option Played) (line : List ℕ) (lines : Lines) (t : SampleState)
    → SampleTableRow kept line lines t → initial line ≡ 105 → Same lines t (codes "readyok" ∷ []) (keeps kept)
isready_row kept line lines t r i =
    elim r [
      | row.usi h l e ↦ let j : initial line ≡ 117 = of_word line _ h in absurd (omega (arith, i, j))
      | row.isready h l e ↦ (l, e)
      | row.position stated h g l e ↦ let j : initial line ≡ 112 = of_first line _ h in absurd (omega (arith, i, j))
      | row.go g word h k b l e ↦ let j : initial line ≡ 103 = of_first line _ h in absurd (omega (arith, i, j))
      | row.go_resign h n l e ↦ let j : initial line ≡ 103 = of_first line _ h in absurd (omega (arith, i, j))
      | row.quits h l e ↦ let j : initial line ≡ 113 = of_word line _ h in absurd (omega (arith, i, j))
    ]

position_row : (kept : Option Played) (line : List ℕ) (lines : Lines) (t : SampleState)
    → SampleTableRow kept line lines t → initial line ≡ 112 → (stated : Option Played) → IsGameOf line stated → Same lines t [] (keeps stated)
position_row kept line lines t r i stated game =
    elim r [
      | row.usi h l e ↦ let j : initial line ≡ 117 = of_word line _ h in absurd (omega (arith, i, j))
      | row.isready h l e ↦ let j : initial line ≡ 105 = of_word line _ h in absurd (omega (arith, i, j))
      | row.position other h g l e ↦ (l, e ∙ ap keeps (game_once line other stated g game))
      | row.go g word h k b l e ↦ let j : initial line ≡ 103 = of_first line _ h in absurd (omega (arith, i, j))
      | row.go_resign h n l e ↦ let j : initial line ≡ 103 = of_first line _ h in absurd (omega (arith, i, j))
      | row.quits h l e ↦ let j : initial line ≡ 113 = of_word line _ h in absurd (omega (arith, i, j))
    ]

go_row : (kept : Option Played) (line : List ℕ) (lines : Lines) (t : SampleState)
    → SampleTableRow kept line lines t → initial line ≡ 103 → (g : Played) (word : List ℕ) → kept ≡ Some g → IsBest g word
    → Same lines t ((codes "bestmove " ++ word) ∷ []) (keeps kept)
go_row kept line lines t r i game best is_kept is_best =
    elim r [
      | row.usi h l e ↦ let j : initial line ≡ 117 = of_word line _ h in absurd (omega (arith, i, j))
      | row.isready h l e ↦ let j : initial line ≡ 105 = of_word line _ h in absurd (omega (arith, i, j))
      | row.position other h g l e ↦ let j : initial line ≡ 112 = of_first line _ h in absurd (omega (arith, i, j))
      | row.go g word h k b l e ↦
          let one = some_once g game (sym k ∙ is_kept) in
          (l ∙ ap (λ w. (codes "bestmove " ++ w) ∷ []) (best_once game word best (subst (λ a. IsBest a word) one b) is_best), e)
      | row.go_resign h n l e ↦ absurd (has_move game best is_best (subst HasNoMove is_kept n))
      | row.quits h l e ↦ let j : initial line ≡ 113 = of_word line _ h in absurd (omega (arith, i, j))
    ]

resign_row : (kept : Option Played) (line : List ℕ) (lines : Lines) (t : SampleState)
    → SampleTableRow kept line lines t → initial line ≡ 103 → HasNoMove kept
    → Same lines t (codes "bestmove resign" ∷ []) (keeps kept)
resign_row kept line lines t r i none =
    elim r [
      | row.usi h l e ↦ let j : initial line ≡ 117 = of_word line _ h in absurd (omega (arith, i, j))
      | row.isready h l e ↦ let j : initial line ≡ 105 = of_word line _ h in absurd (omega (arith, i, j))
      | row.position other h g l e ↦ let j : initial line ≡ 112 = of_first line _ h in absurd (omega (arith, i, j))
      | row.go g word h k b l e ↦ absurd (has_move g word b (subst HasNoMove k none))
      | row.go_resign h n l e ↦ (l, e)
      | row.quits h l e ↦ let j : initial line ≡ 113 = of_word line _ h in absurd (omega (arith, i, j))
    ]

quit_row : (kept : Option Played) (line : List ℕ) (lines : Lines) (t : SampleState)
    → SampleTableRow kept line lines t → initial line ≡ 113 → Same lines t [] quit
quit_row kept line lines t r i =
    elim r [
      | row.usi h l e ↦ let j : initial line ≡ 117 = of_word line _ h in absurd (omega (arith, i, j))
      | row.isready h l e ↦ let j : initial line ≡ 105 = of_word line _ h in absurd (omega (arith, i, j))
      | row.position other h g l e ↦ let j : initial line ≡ 112 = of_first line _ h in absurd (omega (arith, i, j))
      | row.go g word h k b l e ↦ let j : initial line ≡ 103 = of_first line _ h in absurd (omega (arith, i, j))
      | row.go_resign h n l e ↦ let j : initial line ≡ 103 = of_first line _ h in absurd (omega (arith, i, j))
      | row.quits h l e ↦ (l, e)
    ]

both : (lines others those : Lines) (t u v : SampleState) → Same lines t those v → Same others u those v → Same lines t others u
both lines others those t u v h k = (h.0 ∙ sym k.0, h.1 ∙ sym k.1)

table_once : (kept : Option Played) (line : List ℕ) (lines others : Lines) (t u : SampleState)
    → SampleTableRow kept line lines t → SampleTableRow kept line others u → Same lines t others u
table_once kept line lines others t u r s =
    elim r [
      | row.usi h l e ↦ both lines others _ t u _ (l, e) (usi_row kept line others u s (of_word line _ h))
      | row.isready h l e ↦ both lines others _ t u _ (l, e) (isready_row kept line others u s (of_word line _ h))
      | row.position stated h g l e ↦ both lines others _ t u _ (l, e) (position_row kept line others u s (of_first line _ h) stated g)
      | row.go g word h k b l e ↦ both lines others _ t u _ (l, e) (go_row kept line others u s (of_first line _ h) g word k b)
      | row.go_resign h n l e ↦ both lines others _ t u _ (l, e) (resign_row kept line others u s (of_first line _ h) n)
      | row.quits h l e ↦ both lines others _ t u _ (l, e) (quit_row kept line others u s (of_word line _ h))
    ]

keeps_once : (a b : Option Played) → keeps a ≡ keeps b → a ≡ b
keeps_once a b e = cc

pub keeps_quit : (s : SampleState) (kept : Option Played) → s ≡ keeps kept → s ≡ quit → ⊥
keeps_quit s kept h k = cc

table_row : (s u : SampleState) (kept : Option Played) (line : List ℕ) (lines others : Lines) (t : SampleState)
    → s ≡ keeps kept → SampleTableRow kept line lines t → SampleRow s line others u → Same lines t others u
table_row s u kept line lines others t e r other =
    elim other [
      | in_table k d q ↦
          let one = keeps_once k kept (sym d ∙ e) in
          table_once kept line lines others t u r (subst (λ a. SampleTableRow a line others u) one q)
      | skipped k d unnamed l h ↦
          let one = keeps_once kept k (sym e ∙ d) in
          absurd (unnamed lines t (subst (λ a. SampleTableRow a line lines t) one r))
      | over d l h ↦ absurd (keeps_quit s kept e d)
    ]

pub sample_once : (s t u : SampleState) (line : List ℕ) (lines others : Lines)
    → SampleRow s line lines t → SampleRow s line others u → Same lines t others u
sample_once s t u line lines others r other =
    elim r [
      | in_table kept e row ↦ table_row s u kept line lines others t e row other
      | skipped kept e unnamed l h ↦
          elim other [
            | in_table k d q ↦
                let back = table_row s t k line others lines u d q (skipped kept e unnamed l h) in
                (sym back.0, sym back.1)
            | skipped k d un l2 h2 ↦ (l ∙ sym l2, h ∙ sym h2)
            | over d l2 h2 ↦ (l ∙ sym l2, h ∙ sym h2)
          ]
      | over e l h ↦
          elim other [
            | in_table k d q ↦ absurd (keeps_quit s k d e)
            | skipped k d un l2 h2 ↦ (l ∙ sym l2, h ∙ sym h2)
            | over d l2 h2 ↦ (l ∙ sym l2, h ∙ sym h2)
          ]
    ]
