-- How the sample engine's answers are rows of its table.
use Rattle.std.proofs.Common.{◌≡◌, ℕ, ◌++◌, ◌⊎◌, inl, inr, List, [], ◌∷◌, Option, Some, None, Result, Ok, Err, IfOk, MatchOption, refl, sym, subst, ◌∙◌, append_assoc}
use Rattle.shogi_board.specs.Placed.{Placed}
use Rattle.shogi_rules.specs.Positions.{Played, now_of}
use Rattle.shogi_rules.specs.Positions.{Over}
use Rattle.shogi_rules.specs.Verdicts.{NoLegalMove}
use Rattle.arrayvec.specs.ArrayString.{ArrayString}
use Rattle.shogi_board.specs.declared.moves.Move.{Move}
use Rattle.shogi_rules.specs.Order.{IsFirstLegal}
use Rattle.usi_text.proofs.LineOnce.{line_no_fault}
use Rattle.usi_text.specs.declared.fault.UsiFault.{UsiFault}
use Rattle.usi_text.specs.declared.fault.UsiFault.TheVariants.{OutOfMemory}
use Rattle.usi_text.specs.Lines.{UsiLine, LineFault, LineNeedsMemory}
use Rattle.usi_text.specs.Moves.{UsiMove}
use Rattle.usi_text.specs.Words.{words}
use Rattle.session_lines.proofs.OneLine.{one_text}
use Rattle.host_and_sample.specs.declared.sample.Request.TheVariants.{Go, Other}
use Rattle.host_and_sample.specs.Requests.{Asks, IsGoText, moves, resigns}
use Rattle.host_and_sample.specs.Sample.{SampleRowText, SampleState, SampleRow, SampleTableRow, IsBest, HasNoSampleRow, keeps, quit, in_table, skipped, over}
use Rattle.host_and_sample.specs.Sample as row
use Rattle.session_lines.specs.Texts.{text_of, ended_line}

abbrev pub FirstMove : Placed → ArrayString → Type 0
FirstMove p word = (best : Move) × IsFirstLegal p best × UsiMove p word.bytes best

pub best_of : (answer : Option ArrayString) (g : Played) (p : Placed)
    → p ≡ now_of g → (Over g → ⊥) → MatchOption answer (NoLegalMove p) (FirstMove p)
    → MatchOption answer (NoLegalMove (now_of g) ⊎ Over g) (λ word. IsBest g word.bytes)
best_of None g p e not_over none = inl (subst NoLegalMove e none)
best_of (Some word) g p e not_over found =
    let there = subst (λ q. FirstMove q word) e found in
    record { best = there.0; first = there.1; not_over = not_over; text = there.2 }

-- a line that is refused, and not for lack of memory, spells no game
pub tells_none : (line : List ℕ) (fault : UsiFault) → ((fault ≡ OutOfMemory) × LineNeedsMemory (words line)) ⊎ LineFault (words line) fault
    → (fault ≡ OutOfMemory → ⊥) → (g : Played) → UsiLine (words line) g.start g.moves → ⊥
tells_none line fault (inl out_of_memory) memory g stated = memory out_of_memory.0
tells_none line fault (inr refused) memory g stated = line_no_fault (words line) g.start g.moves fault stated refused

pub two_parts : (front back : List ℕ) → front ++ ended_line back ≡ text_of ((front ++ back) ∷ [])
two_parts front back = sym (append_assoc front back (10 ∷ [])) ∙ one_text (front ++ back)

pub with_text : {E : Type 0} (r : Result (List ℕ) E) (text : List ℕ) (P : List ℕ → Type 0)
    → IfOk r (λ t. t ≡ text) → P text → IfOk r P
with_text (Ok t) text P h p = rw h p
with_text (Err e) text P h p = tt

pub go_rows : {E : Type 0} (r : Result (List ℕ) E) (kept : Option Played) (P : List ℕ → Type 0)
    → IfOk r (λ t. IsGoText kept t) → ((t : List ℕ) → IsGoText kept t → P t) → IfOk r P
go_rows (Ok t) kept P h f = f t h
go_rows (Err e) kept P h f = tt

pub named : (s : SampleState) (line text : List ℕ) (t : SampleState) (kept : Option Played) (lines : List (List ℕ))
    → s ≡ keeps kept → SampleTableRow kept line lines t → text ≡ text_of lines → SampleRowText s line text t
named s line text t kept lines e r h = (lines, in_table kept e r, h)

pub go_row : (s : SampleState) (line text : List ℕ) (kept : Option Played)
    → s ≡ keeps kept → Asks line Go → IsGoText kept text → SampleRowText s line text s
go_row s line text kept e asks h =
    elim h [
      | moves g word k best same ↦ named s line text s kept _ e (row.go g word asks k best refl e) same
      | resigns none same ↦ named s line text s kept _ e (row.go_resign asks none refl e) same
    ]

-- the requests that a table's row is about
unnamed : (kept : Option Played) (line : List ℕ) → Asks line Other → HasNoSampleRow kept line
unnamed kept line asks lines t r =
    elim r [
      | row.usi h l e ↦ asks.0 h
      | row.isready h l e ↦ asks.1 h
      | row.position stated h g l e ↦ asks.2 h
      | row.go g word h k b l e ↦ asks.3 h
      | row.go_resign h n l e ↦ asks.3 h
      | row.quits h l e ↦ asks.4 h
    ]

pub other_row : (s : SampleState) (line text : List ℕ) (kept : Option Played)
    → s ≡ keeps kept → Asks line Other → text ≡ [] → SampleRowText s line text s
other_row s line text kept e asks h = ([], skipped kept e (unnamed kept line asks) refl refl, h)
