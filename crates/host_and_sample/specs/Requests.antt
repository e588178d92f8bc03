-- For private functions of `Sample`: what a line asks of it, and the bytes of its answer to `go`.
-- A reader of the public contracts may skip this file.
use Rattle.std.specs.Prelude.{◌≡◌, ℕ, ◌++◌, ◌∷◌, [], List, Option, Some}
use Rattle.shogi_rules.specs.Positions.{Played}
use Rattle.host_and_sample.specs.declared.sample.Request.{Request}
use Rattle.host_and_sample.specs.declared.sample.Request.TheVariants.{Usi, IsReady, Position, Go, Quit, Other}
use Rattle.usi_text.specs.EngineTexts as usi_texts
use Rattle.host_and_sample.specs.Sample.{IsWord, BeginsWith, HasNoMove, IsBest}
use Rattle.session_lines.specs.Texts.{text_of}

abbrev pub Asks : List ℕ → Request → Type 0
Asks line Usi = IsWord line usi_texts.usi
Asks line IsReady = IsWord line usi_texts.is_ready
Asks line Position = BeginsWith line usi_texts.position
Asks line Go = BeginsWith line usi_texts.go
Asks line Quit = IsWord line usi_texts.quit
Asks line Other =
    (IsWord line usi_texts.usi → ⊥) × (IsWord line usi_texts.is_ready → ⊥)
    × (BeginsWith line usi_texts.position → ⊥)
    × (BeginsWith line usi_texts.go → ⊥) × (IsWord line usi_texts.quit → ⊥)

-- the bytes of the answer to `go`
pub data IsGoText (kept : Option Played) (text : List ℕ) : Type 0 where
  moves : (g : Played) (word : List ℕ)
      → kept ≡ Some g → IsBest g word → text ≡ text_of ((usi_texts.best_move ++ word) ∷ [])
      → IsGoText kept text
  resigns : HasNoMove kept → text ≡ text_of (usi_texts.no_best_move ∷ []) → IsGoText kept text
